use Rattle.std.proofs.Common.{◌∷◌, ◌++◌, List, Option, [], get_or, take, sym, ap, ◌∙◌, append_assoc, arith}
use Rattle.std.proofs.lemmas.List.{append-nil}
use Rattle.air_model.specs.declared.reports.LookLine.{LookLine}
use Rattle.live_replay.specs.Audits.{found_in}
use Rattle.live_replay.specs.Findings.{look_cause}
use Rattle.live_replay.specs.declared.findings.Cause.{Cause}
use Rattle.live_replay.specs.declared.findings.Finding.{Finding}
use Rattle.live_replay.proofs.FoundLemmas.{found_next, found_none}
use Rattle.live_replay.proofs.audits.add_looks.Goals as goal

pub loop-place-init : goal.loop-place-init
loop-place-init c =
    let found = c.args.found.now.items in
    sym (append-nil found) ∙ ap (λ fs. found ++ fs) (sym (found_none (look_cause c.args.replay.now.deck c.args.replay.now.history) c.args.rows.now))

pub loop-place-preserved : goal.loop-place-preserved
loop-place-preserved c =
    let cause : LookLine → Option Cause = look_cause c.args.replay.now.deck c.args.replay.now.history in
    let lines = c.args.lines.now in
    let rows = c.args.rows.now in
    let k = c.loop-place.place in
    let d : LookLine = record { monitor = 0; cycle = 0; total = 0 } in
    let before : List Finding = found_in cause rows (take k lines) in
    let finding : Option Cause → Finding = λ o. record { row = get_or rows k 0; differs = o } in
    c.in_ok-push.ensures.items ∙ ap (λ fs. fs ++ finding c.look_cause.result ∷ []) c.loop-place.invariant ∙ append_assoc c.args.found.now.items before (finding c.look_cause.result ∷ [])
    ∙ ap (λ fs. c.args.found.now.items ++ fs) (ap (λ o. before ++ finding o ∷ []) c.look_cause.ensures ∙ sym (found_next cause rows k lines d (omega (arith, c.loop-place-test.true, c.requires)) c.loop-place-test.true))

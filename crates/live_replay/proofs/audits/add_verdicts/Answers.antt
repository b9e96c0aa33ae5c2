use Rattle.std.proofs.Common.{◌≡◌, ◌∷◌, ◌++◌, List, Option, [], get_or, take, sym, ap, ◌∙◌, append_assoc, arith}
use Rattle.std.proofs.lemmas.List.{append-nil}
use Rattle.air_model.specs.declared.reports.VerdictLine.{VerdictLine}
use Rattle.live_replay.specs.Audits.{found_in}
use Rattle.live_replay.specs.Findings.{verdict_cause}
use Rattle.live_replay.specs.declared.findings.Cause.{Cause}
use Rattle.live_replay.specs.declared.findings.Finding.{Finding}
use Rattle.live_replay.proofs.FoundLemmas.{found_next, found_none}
use Rattle.live_replay.proofs.audits.add_verdicts.Goals as goal

pub loop-place-init : goal.loop-place-init
loop-place-init c =
    let found = c.args.found.now.items in
    sym (append-nil found) ∙ ap (λ fs. found ++ fs) (sym (found_none (verdict_cause c.args.replay.now.deck c.args.replay.now.history) c.args.rows.now))

pub loop-place-preserved : goal.loop-place-preserved
loop-place-preserved c =
    let cause : VerdictLine → Option Cause = verdict_cause c.args.replay.now.deck c.args.replay.now.history in
    let lines = c.args.lines.now in
    let rows = c.args.rows.now in
    let k = c.loop-place.place in
    let line : VerdictLine = c.index-lines-place.result in
    let before : List Finding = found_in cause rows (take k lines) in
    let finding : Option Cause → Finding = λ o. record { row = get_or rows k 0; differs = o } in
    let told : c.in_ok-verdict_cause.field-0 ≡ cause (get_or lines k line) = c.in_ok-verdict_cause.ensures ∙ ap cause c.index-lines-place.is in
    c.in_ok-push.ensures.items ∙ ap (λ fs. fs ++ finding c.in_ok-verdict_cause.field-0 ∷ []) c.loop-place.invariant ∙ append_assoc c.args.found.now.items before (finding c.in_ok-verdict_cause.field-0 ∷ [])
    ∙ ap (λ fs. c.args.found.now.items ++ fs) (ap (λ o. before ++ finding o ∷ []) told ∙ sym (found_next cause rows k lines line (omega (arith, c.loop-place-test.true, c.requires.sized)) c.loop-place-test.true))

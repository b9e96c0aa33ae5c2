use Rattle.std.proofs.Common.{◌≡◌, Bool, length, sym, subst, ◌∙◌}
use Rattle.std.specs.Prelude.{IfOk}
use Rattle.air_model.specs.Aired.{scheme_in}
use Rattle.live_replay.specs.Findings.{places_read}
use Rattle.live_replay.proofs.PassLemmas.{bare_consistent}
use Rattle.live_replay.proofs.passing.all_pass.Goals as goal

pub returns-in-FMatrix : goal.returns-in-FMatrix
returns-in-FMatrix c =
    let H = c.args.replay.now.history in
    let R = places_read c.args.reads.now in
    let deck = c.args.replay.now.deck in
    let bare = bare_consistent (scheme_in deck) (length deck.items) H R (sym c.policy.ensures ∙ c.in-FMatrix.is) (sym c.has_groups.ensures ∙ c.if-has_groups.false) c.requires.begun in
    subst (λ (b : Bool). IfOk c.is_consistent.result (λ told. told ≡ b)) (sym bare) c.is_consistent.ensures

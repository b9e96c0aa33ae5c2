use Rattle.std.proofs.Common.{[], ◌∷◌, ◌++◌, ◌&&◌, map, ◌∙◌, ap, sym}
use Rattle.std.proofs.lemmas.Bool.{le-leb}
use Rattle.air_history.specs.Ages.{spans_too_far}
use Rattle.air_history.specs.Clashes.{read_at}
use Rattle.air_history.specs.Reads.{ReadAt}
use Rattle.receiver_core.proofs.AttemptLemmas.{far_after}
use Rattle.receiver_core.proofs.attempts.Attempt.is_far.Goals as goal

pub returns-then-version-ge2 : goal.returns-then-version-ge2
returns-then-version-ge2 c = λ item.
    let x : ReadAt = record { item = item; cycle = c.args.cycle } in
    c.spans.ensures item ∙ ap (λ b. b && spans_too_far (map read_at c.self.inside.held.reads ++ x ∷ [])) (sym (le-leb 2 c.args.version c.if-version-ge2.true))
    ∙ far_after c.self.inside c.args.self.now c.args.version x c.self.invariant c.self.view_is

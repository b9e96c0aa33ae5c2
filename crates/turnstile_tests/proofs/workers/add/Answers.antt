use Rattle.std.proofs.Common.{ap, ◌∙◌, [], ◌∷◌, ◌++◌, subst}
use Rattle.turnstile.specs.PassEntries.{Foreign}
use Rattle.turnstile_tests.proofs.workers.add.Goals as goal

pub returns-clause-added : goal.returns-clause-added
returns-clause-added g c =
    let l = c.enter-pairs.ensures.list in
    (l.0, ap (λ p. p.seen) c.leave.ensures.pass ∙ (c.in_ok-pushed.ensures.items ∙ ap (λ xs. xs ++ (c.args.by, c.args.value) ∷ []) l.1), subst (λ ns. Foreign ns l.0) c.requires.number l.2)

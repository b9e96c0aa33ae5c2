use Rattle.std.proofs.Common.{ap, subst, arith, length, List}
use mathlib.Core.List.{IsPrefix}
use Rattle.cycle_snapshot.specs.declared.batches.Batch.{Batch}
use Rattle.cycle_snapshot.proofs.PrefixLemmas.{prefix_shorter}
use Rattle.cycle_snapshot.proofs.told.Told.shows_prefix.Goals as goal

pub returns : goal.returns
returns c =
    let both = c.learn.new.self.log in
    let this : IsPrefix c.self.inside.seen.log both = subst (λ (l : List Batch). IsPrefix l both) (ap (λ s. s.log) c.again-both.ensures) c.learn.ensures.2 in
    let a = ap (λ f. f.batches) c.self.view_is in let b = ap (λ f. f.batches) c.longer.view_is in let la = ap length a in let lb = ap length b in let less = c.requires.shorter in
    rw (← c.self.view_is, ← c.longer.view_is) (prefix_shorter c.self.inside.seen.log c.longer.inside.seen.log both this c.learn.ensures.3 (omega arith))

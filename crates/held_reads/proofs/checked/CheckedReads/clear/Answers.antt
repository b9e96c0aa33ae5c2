use Rattle.std.proofs.Common.{map, sym, subst}
use Rattle.air_history.specs.Clashes.{read_at}
use Rattle.air_history.specs.ClashLaws.{IsAllowed}
use Rattle.air_history.specs.HeldReads.{HeldReads}
use Rattle.held_reads.proofs.PolicyLemmas.{allowed_none}
use Rattle.held_reads.proofs.checked.CheckedReads.clear.Goals as goal

pub invariant_of-self : goal.invariant_of-self
invariant_of-self g c =
    let p = g.C.PolicyCheck.policy in
    subst (λ (h : HeldReads). IsAllowed p (map read_at h.reads)) (sym c.clear.ensures) (allowed_none p)

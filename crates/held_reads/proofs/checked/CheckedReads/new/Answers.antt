use Rattle.std.proofs.Common.{map, sym, subst}
use Rattle.air_history.specs.Clashes.{read_at}
use Rattle.air_history.specs.ClashLaws.{IsAllowed}
use Rattle.air_history.specs.HeldReads.{HeldReads}
use Rattle.held_reads.proofs.PolicyLemmas.{allowed_none}
use Rattle.held_reads.proofs.checked.CheckedReads.new.Goals as goal

pub invariant_of-result : goal.invariant_of-result
invariant_of-result g c =
    let p = g.C.PolicyCheck.policy in
    subst (λ (h : HeldReads). IsAllowed p (map read_at h.reads)) (sym c.in_ok-new.ensures) (allowed_none p)

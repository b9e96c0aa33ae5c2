use Rattle.std.proofs.Common.{◌∙◌, map, ap, subst}
use Rattle.air_history.specs.Clashes.{clash_by_entries, read_at}
use Rattle.air_history.specs.ClashLaws.{IsAllowed}
use Rattle.air_history.specs.HeldReads.{HeldReads}
use Rattle.held_reads.specs.HeardReads.{heard_read}
use Rattle.held_reads.proofs.PolicyLemmas.{none_if_taken, told_by_history}
use Rattle.held_reads.proofs.checked.CheckedReads.clashes.Goals as goal

pub returns-clause-history : goal.returns-clause-history
returns-clause-history g c =
    let p = g.C.PolicyCheck.policy in
    let x = heard_read c.args.item c.args.cycle c.args.entries.now in
    let allowed : IsAllowed p (map read_at c.args.self.now.reads) = subst (λ (h : HeldReads). IsAllowed p (map read_at h.reads)) c.self.view_is c.self.invariant in
    told_by_history p c.args.self.now x c.clash.result allowed c.requires.order (c.clash.ensures ∙ ap (λ (h : HeldReads). clash_by_entries p h.reads x) c.self.view_is)

pub returns-clause-taken : goal.returns-clause-taken
returns-clause-taken g c =
    let p = g.C.PolicyCheck.policy in
    let x = heard_read c.args.item c.args.cycle c.args.entries.now in
    let allowed : IsAllowed p (map read_at c.args.self.now.reads) = subst (λ (h : HeldReads). IsAllowed p (map read_at h.reads)) c.self.view_is c.self.invariant in
    none_if_taken p c.args.self.now x c.clash.result allowed c.requires.order (c.clash.ensures ∙ ap (λ (h : HeldReads). clash_by_entries p h.reads x) c.self.view_is)

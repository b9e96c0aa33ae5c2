use Rattle.std.proofs.Common.{◌≡◌, ◌∙◌, ◌++◌, ◌∷◌, [], map, sym, ap, subst}
use Rattle.std.proofs.lemmas.List.{map-append}
use Rattle.air_history.specs.Clashes.{read_at}
use Rattle.air_history.specs.ClashLaws.{IsAllowed}
use Rattle.air_history.specs.HeldReads.{HeldReads}
use Rattle.held_reads.specs.HeardReads.{heard_read}
use Rattle.held_reads.specs.Policies.{MayFollow}
use Rattle.held_reads.proofs.PolicyLemmas.{allowed_with}
use Rattle.held_reads.proofs.checked.CheckedReads.hold.Goals as goal

pub invariant_of-self : goal.invariant_of-self
invariant_of-self g c =
    let p = g.C.PolicyCheck.policy in
    let held = c.self.inside.held in
    let x = heard_read c.args.item c.args.cycle c.args.entries.now in
    let follows = subst (λ (h : HeldReads). MayFollow p h x) (sym c.self.view_is) c.requires.order in
    let more : map read_at c.hold.new.self.reads ≡ map read_at held.reads ++ read_at x ∷ [] =
    ap (λ (h : HeldReads). map read_at h.reads) c.hold.ensures ∙ map-append read_at held.reads (x ∷ []) in
    subst (IsAllowed p) (sym more) (allowed_with p held x c.self.invariant follows)

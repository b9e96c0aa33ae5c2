-- The clause, for the given values.
use Rattle.std.proofs.Common.{◌≡◌, ◌↔◌, ℕ, List, [], ◌∷◌, ◌++◌, map, None, subst, inl}
use Rattle.air_base.specs.declared.verdicts.Policy.TheVariants.{Datacycle}
use Rattle.air_history.specs.declared.histories.Event.{Event}
use Rattle.air_history.specs.Clashes.{IsCurrent, read_at}
use Rattle.air_history.specs.ClashLaws.{HaveAiredEntries}
use Rattle.air_history.specs.Columns.{scheme_of}
use Rattle.air_history.specs.HeldReads.{HeldReads}
use Rattle.held_reads.specs.HeardReads.{heard_read}
use Rattle.core_pins.proofs.vector_pins.taken_though_a_read_is_stale.Goals as goal

pub returns : goal.returns
returns c =
    let P : HeldReads → List ℕ → Type 0 = λ h v. (H : List Event) → HaveAiredEntries (scheme_of Datacycle) h.n H h.reads (heard_read 2 5 v) →
    IsCurrent H (map read_at h.reads) → (c.clashes.result ≡ None) ↔ IsCurrent H (map read_at h.reads ++ read_at (heard_read 2 5 v) ∷ []) in
    let told = subst (λ h. P h (3 ∷ 0 ∷ 0 ∷ [])) c.requires.held (subst (P c.args.held.now) c.requires.vector c.clashes.ensures.taken) in
    λ H held new current. told H (inl (held, new)) current

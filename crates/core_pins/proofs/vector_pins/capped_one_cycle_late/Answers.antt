-- The clause, for the given values. The vector of cycle 256 has the write of cycle 1 as an age gives it.
use Rattle.std.proofs.Common.{◌≡◌, ◌⊎◌, ℕ, zero, suc, ◌<◌, false, List, [], ◌∷◌, get_or, map, refl, sym, ap, subst, inl, inr, arith}
use Rattle.std.proofs.lemmas.List.Elements.{All-from_recursion}
use Rattle.air_base.specs.declared.verdicts.Policy.TheVariants.{Datacycle}
use Rattle.air_history.specs.declared.histories.Event.{Event}
use Rattle.air_history.specs.Ages.{capped, span, spans_too_far}
use Rattle.air_history.specs.Clashes.{clash_by_history, read_at}
use Rattle.air_history.specs.ClashLaws.{HasCappedEntries, HaveAiredEntries}
use Rattle.air_history.specs.Columns.{aired_entries, scheme_of}
use Rattle.air_history.specs.HeldReads.{HeldReads}
use Rattle.held_reads.specs.HeardReads.{heard_read}
use Rattle.core_pins.specs.SmallReads.{read_with_entries}
use Rattle.core_pins.proofs.vector_pins.capped_one_cycle_late.Goals as goal

each_of_three : (P : ℕ → Type 0) → P 0 → P 1 → P 2 → (k : ℕ) → k < 3 → P k
each_of_three P p q r zero l = p
each_of_three P p q r (suc zero) l = q
each_of_three P p q r (suc (suc zero)) l = r
each_of_three P p q r (suc (suc (suc k))) l = absurd (omega arith)

-- An entry is the aired one, or the aired one as an age gives it.
abbrev IsTold : List ℕ → List ℕ → ℕ → ℕ → Type 0
IsTold entries aired c i = (get_or entries i 0 ≡ get_or aired i 0) ⊎ (get_or entries i 0 ≡ capped (get_or aired i 0) c)

old : IsTold (0 ∷ 0 ∷ 2 ∷ []) (0 ∷ 1 ∷ 2 ∷ []) 256 1
unfolding capped
old = inr refl

close : spans_too_far (read_at (read_with_entries 0 2 0 1 0) ∷ read_at (read_with_entries 2 256 0 0 2) ∷ []) ≡ false
unfolding spans_too_far span
close = refl

are : (H : List Event) → aired_entries (scheme_of Datacycle) 3 H 2 0 ≡ 0 ∷ 1 ∷ 0 ∷ [] → aired_entries (scheme_of Datacycle) 3 H 256 2 ≡ 0 ∷ 1 ∷ 2 ∷ [] →
    HaveAiredEntries (scheme_of Datacycle) 3 H (read_with_entries 0 2 0 1 0 ∷ []) (read_with_entries 2 256 0 0 2)
are H at_two at_last = inr (
  All-from_recursion (HasCappedEntries (scheme_of Datacycle) 3 H) (read_with_entries 0 2 0 1 0 ∷ []) (
    record {
      cycle = omega arith;
      within = omega arith;
      sized = refl;
      entries = λ i l. inl (ap (λ es. get_or es i 0) (sym at_two));
    },
    tt,
  ),
  record {
    cycle = omega arith;
    within = omega arith;
    sized = refl;
    entries = subst (λ aired. (i : ℕ) → i < 3 → IsTold (0 ∷ 0 ∷ 2 ∷ []) aired 256 i) (sym at_last)
        (each_of_three (IsTold (0 ∷ 0 ∷ 2 ∷ []) (0 ∷ 1 ∷ 2 ∷ []) 256) (inl refl) old (inl refl));
  },
  close,
)

pub returns : goal.returns
returns c =
    let P : HeldReads → List ℕ → Type 0 = λ h v. (H : List Event) → HaveAiredEntries (scheme_of Datacycle) h.n H h.reads (heard_read 2 256 v) →
    c.clashes.result ≡ clash_by_history Datacycle H (map read_at h.reads) (read_at (heard_read 2 256 v)) in
    let told = subst (λ h. P h (0 ∷ 0 ∷ 2 ∷ [])) c.requires.held (subst (P c.args.held.now) c.requires.vector c.clashes.ensures.history) in
    λ H at_two at_last. told H (are H at_two at_last)

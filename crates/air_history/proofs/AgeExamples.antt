-- Ages, computed: which entries an age gives, how far apart reads are, and which heard entries are those of a history.
use Rattle.std.proofs.Common.{◌≡◌, ◌⊎◌, ℕ, zero, suc, ◌<◌, ◌≤◌, true, false, List, [], ◌∷◌, Some, None, replicate, refl, inl, inr, arith}
use Rattle.std.proofs.lemmas.List.Elements.{All-from_recursion}
use Rattle.air_base.specs.declared.verdicts.Policy.TheVariants.{Datacycle}
use Rattle.air_history.specs.declared.histories.Event.{Event}
use Rattle.air_history.specs.declared.histories.Event.TheVariants.{Start}
use Rattle.air_history.specs.Places.{last_place}
use Rattle.air_history.specs.Histories.{is_start, writes, cycle_at, front, writer_before, writer}
use Rattle.air_history.specs.Columns.{vector_entry, scheme_of}
use Rattle.air_history.specs.Reads.{oldest_cycle, stale}
use Rattle.air_history.specs.Ages.{capped, span, spans_too_far}
use Rattle.air_history.specs.Clashes.{HeardRead, entry_of, least, clash_by_history, clash_by_entries}
use Rattle.air_history.specs.ClashLaws.{HasCappedEntries, HaveAiredEntries, aired_entry}
use Rattle.air_history.proofs.HistoryExamples.{commit, set_to}
use Rattle.air_history.proofs.ClashExamples.{at}

pub record Ages : Type 0 where
  -- an entry that is 254 cycles old has an age, and one that is 255 cycles old has none
  young : capped 1 255 ≡ 1
  old : capped 1 256 ≡ 0
  -- the same holds of later entries
  young_later : capped 46 300 ≡ 46
  old_later : capped 45 300 ≡ 0
  -- without a writer the entry is 0
  never : capped 0 9 ≡ 0
  -- the span of no read and of one read is 0
  none : span [] ≡ 0
  one : span (at 0 5 ∷ []) ≡ 0
  -- the order of reading doesn't count
  falling : span (at 0 300 ∷ at 1 46 ∷ []) ≡ 254
  oldest_between : span (at 0 3 ∷ at 1 1 ∷ at 2 2 ∷ []) ≡ 2
  oldest : oldest_cycle (at 0 3 ∷ at 1 1 ∷ at 2 2 ∷ []) ≡ 1
  -- 254 cycles aren't too far, and 255 are, in either order
  close : spans_too_far (at 0 300 ∷ at 1 46 ∷ []) ≡ false
  far : spans_too_far (at 0 300 ∷ at 1 45 ∷ []) ≡ true
  far_rising : spans_too_far (at 0 1 ∷ at 1 256 ∷ []) ≡ true

pub ages : Ages
unfolding capped span spans_too_far
ages = record {
  young = refl;
  old = refl;
  young_later = refl;
  old_later = refl;
  never = refl;
  none = refl;
  one = refl;
  falling = refl;
  oldest_between = refl;
  oldest = refl;
  close = refl;
  far = refl;
  far_rising = refl;
}

-- ---- a write that becomes too old for an age

-- Item 0 of two is written in cycle 1, and nothing else up to cycle 256. So from cycle 2 on the write vector is 1 0.
abbrev written_once : List Event
written_once = Start ∷ commit 0 [] (set_to 0 11) ∷ replicate 255 Start

-- A read of an item in a cycle, with the entries of both items.
abbrev of_two : ℕ → ℕ → ℕ → ℕ → HeardRead
of_two i c a b = record { item = i; cycle = c; entries = a ∷ b ∷ [] }

-- The read may be heard so under Datacycle.
abbrev MayBeHeard : HeardRead → Type 0
MayBeHeard r = HasCappedEntries (scheme_of Datacycle) 2 written_once r

-- Item 0 is held, and item 1 is new.
abbrev AreAired : HeardRead → HeardRead → Type 0
AreAired r x = HaveAiredEntries (scheme_of Datacycle) 2 written_once (r ∷ []) x

pub record Old : Type 0 where
  -- in cycle 256 the entry of item 0 may be heard as 1, which it is, or as 0
  in_full : MayBeHeard (of_two 1 256 1 0)
  by_age : MayBeHeard (of_two 1 256 0 0)
  -- it may be heard as no other number; in cycle 255 it may not be heard as 0
  other : MayBeHeard (of_two 1 256 2 0) → ⊥
  too_young : MayBeHeard (of_two 1 255 0 0) → ⊥
  -- there are two entries
  too_few : MayBeHeard (record { item = 1; cycle = 256; entries = 0 ∷ [] }) → ⊥
  -- item 0 of cycle 2 with item 1 of cycle 256: their cycles are 254 apart
  together : AreAired (of_two 0 2 1 0) (of_two 1 256 0 0)
  -- with item 0 of cycle 1 they are 255 apart
  apart : AreAired (of_two 0 1 0 0) (of_two 1 256 0 0) → ⊥
  -- with item 0 of cycle 1, the capped entry doesn't show that item 0 was written since
  by_history : clash_by_history Datacycle written_once (at 0 1 ∷ []) (at 1 256) ≡ Some (record { item = 0; cycle = 1 })
  by_entries : clash_by_entries Datacycle (of_two 0 1 0 0 ∷ []) (of_two 1 256 0 0) ≡ None

each_of_two : (P : ℕ → Type 0) → P 0 → P 1 → (k : ℕ) → k < 2 → P k
each_of_two P p q zero l = p
each_of_two P p q (suc zero) l = q
each_of_two P p q (suc (suc k)) l = absurd (omega arith)

-- The entry of an item is the aired one, or the aired one capped by its age.
abbrev IsTold : HeardRead → ℕ → Type 0
IsTold r i = (entry_of r i ≡ aired_entry (scheme_of Datacycle) 2 written_once r i) ⊎ (entry_of r i ≡ capped (aired_entry (scheme_of Datacycle) 2 written_once r i) r.cycle)

may_be : (i c a b : ℕ) → 1 ≤ c → i < 2 → IsTold (of_two i c a b) 0 → IsTold (of_two i c a b) 1 → MayBeHeard (of_two i c a b)
may_be i c a b pos within zeroth first = record { cycle = pos; within = within; sized = refl; entries = each_of_two (IsTold (of_two i c a b)) zeroth first }

pub old : Old
unfolding capped span spans_too_far clash_by_history clash_by_entries least stale writer writer_before last_place writes front vector_entry cycle_at is_start
old =
    let aged : MayBeHeard (of_two 1 256 0 0) = may_be 1 256 0 0 (omega arith) (omega arith) (inr refl) (inl refl) in
    record {
      in_full = may_be 1 256 1 0 (omega arith) (omega arith) (inl refl) (inl refl);
      by_age = aged;
      other = λ h. elim (h.entries 0 (omega arith)) as (λ _. ⊥) [
        | inl e ↦ (let f : 2 ≡ 1 = e in omega arith)
        | inr e ↦ (let f : 2 ≡ 0 = e in omega arith)
      ];
      too_young = λ h. elim (h.entries 0 (omega arith)) as (λ _. ⊥) [
        | inl e ↦ (let f : 0 ≡ 1 = e in omega arith)
        | inr e ↦ (let f : 0 ≡ 1 = e in omega arith)
      ];
      too_few = λ h. let f : 1 ≡ 2 = h.sized in omega arith;
      together = inr (
        All-from_recursion MayBeHeard (of_two 0 2 1 0 ∷ []) (may_be 0 2 1 0 (omega arith) (omega arith) (inl refl) (inl refl), tt),
        aged,
        refl,
      );
      apart = λ h. elim h as (λ _. ⊥) [
        | inl full ↦ (let es : 0 ∷ 0 ∷ [] ≡ 1 ∷ 0 ∷ [] = full.1.entries in cc)
        | inr near ↦ (let f : true ≡ false = near.2 in cc)
      ];
      by_history = refl;
      by_entries = refl;
    }

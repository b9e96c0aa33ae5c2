-- Small buckets are in range with capped entries and have few bytes, and what is written of them is known.
use Rattle.std.proofs.Common.{◌≡◌, ◌≤◌, ◌<◌, ◌++◌, ◌∷◌, ◌∙◌, ℕ, List, [], length, drop, inl, inr, refl, sym, subst, arith}
use Rattle.std.proofs.lemmas.List.Elements.{All-from_recursion}
use Rattle.air_history.specs.Ages.{capped}
use Rattle.air_model.specs.Buckets.{Bucket, IsInRange, capped_body, capped_bucket, capped_entries, spelling, kind_of, count_of, item_of, value_of, entries_of, entry_bytes}
use Rattle.text_pins.specs.SmallBuckets.{aged, bytes_with_ages, idle_bucket, idle_bytes, varied}

-- ---- the idle slot has 24 bytes, and what is written to the front of 25 leaves the last

idle_in_range : IsInRange (capped_bucket idle_bucket)
unfolding capped_body kind_of count_of item_of value_of entries_of
idle_in_range = record {
  version = inl refl;
  edition = omega arith;
  some = omega arith;
  count = omega arith;
  started = omega arith;
  cycle = omega arith;
  slot = omega arith;
  placed = inl refl;
  value = omega arith;
  entries = λ k d below. absurd (omega arith);
  told = λ _ k d below. absurd (omega arith);
}

pub slot_in_range : (b : Bucket) → b ≡ idle_bucket → IsInRange (capped_bucket b)
slot_in_range b is = subst (λ v. IsInRange (capped_bucket v)) (sym is) idle_in_range

pub slot_has_room : (b : Bucket) (out : List ℕ) → b ≡ idle_bucket → out ≡ idle_bytes ++ 9 ∷ [] → length (spelling b) ≤ length out
unfolding spelling kind_of count_of item_of value_of entries_of
slot_has_room b out is given = rw is (rw given (omega arith))

pub slot_written : (b : Bucket) (out new : List ℕ) (n : ℕ) → b ≡ idle_bucket → out ≡ idle_bytes ++ 9 ∷ [] → n ≡ length (spelling b)
    → new ≡ spelling (capped_bucket b) ++ drop n out → new ≡ idle_bytes ++ 9 ∷ []
unfolding spelling capped_body kind_of count_of item_of value_of entries_of
slot_written b out new n is given =
    let P : Bucket → Type 0 = λ v. n ≡ length (spelling v) → new ≡ spelling (capped_bucket v) ++ drop n out → new ≡ idle_bytes ++ 9 ∷ []
    in subst P (sym is) (λ len written. written ∙ rw len (rw given refl))

-- ---- a vector of three entries

pub varied_size : (b : Bucket) → b ≡ varied → length (spelling b) ≡ 36
unfolding spelling entry_bytes kind_of count_of item_of value_of entries_of
varied_size b is = subst (λ v. length (spelling v) ≡ 36) (sym is) refl

-- ---- two entries in cycle 300, the second too old for an age

abbrev too_old : Bucket
too_old = aged (46 ∷ 45 ∷ [])

aged_is_told : IsInRange (capped_bucket too_old)
unfolding capped_body capped_entries capped kind_of count_of item_of value_of entries_of
aged_is_told = record {
  version = inr refl;
  edition = omega arith;
  some = omega arith;
  count = omega arith;
  started = omega arith;
  cycle = omega arith;
  slot = omega arith;
  placed = inr (omega arith);
  value = omega arith;
  entries = All-from_recursion (λ e. e < 300) (46 ∷ 0 ∷ []) (omega arith, (omega arith, tt));
  told = λ _. All-from_recursion (λ e. capped e 300 ≡ e) (46 ∷ 0 ∷ []) (refl, (refl, tt));
}

pub aged_in_range : (b : Bucket) → b ≡ too_old → IsInRange (capped_bucket b)
aged_in_range b is = subst (λ v. IsInRange (capped_bucket v)) (sym is) aged_is_told

pub aged_size : (b : Bucket) → b ≡ too_old → length (spelling b) ≡ 26
unfolding spelling entry_bytes kind_of count_of item_of value_of entries_of
aged_size b is = subst (λ v. length (spelling v) ≡ 26) (sym is) refl

pub aged_has_room : (b : Bucket) (out : List ℕ) → b ≡ too_old → out ≡ idle_bytes ++ 9 ∷ 9 ∷ [] → length (spelling b) ≤ length out
aged_has_room b out is given = rw (aged_size b is) (rw given (omega arith))

pub aged_written : (b : Bucket) (out new : List ℕ) (n : ℕ) → b ≡ too_old → out ≡ idle_bytes ++ 9 ∷ 9 ∷ [] → n ≡ length (spelling b)
    → new ≡ spelling (capped_bucket b) ++ drop n out → new ≡ bytes_with_ages 1 44 (254 ∷ 255 ∷ [])
unfolding spelling entry_bytes capped_body capped_entries capped kind_of count_of item_of value_of entries_of
aged_written b out new n is given =
    let P : Bucket → Type 0 = λ v. n ≡ length (spelling v) → new ≡ spelling (capped_bucket v) ++ drop n out → new ≡ bytes_with_ages 1 44 (254 ∷ 255 ∷ [])
    in subst P (sym is) (λ len written. written ∙ rw len (rw given refl))

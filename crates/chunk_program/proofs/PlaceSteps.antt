-- The table of places as it is filled: one more item of a disk, one more disk.
-- `place_is` says that item q of disk n has just this place.
use Rattle.std.proofs.Common.{◌≡◌, ◌≤◌, ◌<◌, ◌⊎◌, inl, inr, ◌+◌, ◌++◌, ℕ, zero, suc, true, false, Some, List, [], ◌∷◌, append_assoc, length, length-append, get_or, take, set, slice_get, refl, sym, subst, ap, ◌∙◌, arith}
use Rattle.std.specs.Prelude.{eqb, ◌≢◌}
use Rattle.std.specs.List.{All, Contains, flat_map, position_or_len}
use Rattle.std.proofs.lemmas.Bool.{cases_lt}
use Rattle.std.proofs.lemmas.Bool.Decides.{eqb_tells, nat_tests}
use Rattle.std.proofs.lemmas.List.{flat_map_more, get_or-set_other, get_or-set_same, length-set, take_more}
use Rattle.std.proofs.lemmas.List.Elements.{Contains-push_cases}
use Rattle.std.proofs.lemmas.List.Sums.{position_or_len_is}
use Rattle.std.proofs.lemmas.Option.{get_or_from_slice_get, same_Some, slice_get-get_or, slice_get_read, slice_get_within}
use Rattle.air_model.specs.Disks.{Disk, all_items}
use Rattle.air_model.specs.ProgramLaws.{IsAirable}
use Rattle.air_model.proofs.ProgramLemmas.{disk_is}
use Rattle.air_model.proofs.Elements.{Distinct, all_at, at_all, Distinct-left, Distinct-right, has_contains, pairs_at}
use Rattle.air_model.proofs.SlotPlaces.{item_of_disk}
use Rattle.chunk_program.specs.declared.cuts.DiskPlace.{DiskPlace}
use Rattle.chunk_program.specs.CutConditions.{AreDeckDisks}
use Rattle.chunk_program.specs.PlaceTables.{HasPlaces, IsPlace}
use Rattle.chunk_program.specs.Places.{place_number}

-- One more item is put at its number.
pub put_step : (disks : List Disk) (done items : List ℕ) (k item disk : ℕ) (places : List DiskPlace) → k < length items → item ≡ get_or items k 0 → item < length places
    → HasPlaces disks (done ++ take k items) places → IsPlace disks item (record { disk = disk; place = k })
    → HasPlaces disks (done ++ take (k + 1) items) (set places item (record { disk = disk; place = k }))
put_step disks done items k item disk places below is within before own i p held at = by (eqb_tells i item)
  where
    new : DiskPlace
    new = record { disk = disk; place = k }

    read : (q : ℕ) → slice_get (set places item (record { disk = disk; place = k })) q ≡ Some p → get_or (set places item (record { disk = disk; place = k })) q p ≡ p
    read q at = get_or_from_slice_get _ q p p at

    by : ((eqb i item ≡ true) × (i ≡ item)) ⊎ ((eqb i item ≡ false) × (i ≢ item)) → IsPlace disks i p
    by (inl same) =
        let put = get_or-set_same places item (record { disk = disk; place = k }) p within in
        let e : p ≡ record { disk = disk; place = k } = sym (read i at) ∙ ap (λ n. get_or (set places item (record { disk = disk; place = k })) n p) same.1 ∙ put in
        subst (λ (x : DiskPlace). IsPlace disks i x) (sym e) (subst (λ n. IsPlace disks n (record { disk = disk; place = k })) (sym same.1) own)
    by (inr other) =
        let unmoved = get_or-set_other places item i new p other.1 in
        let inside = slice_get_within _ i p at in
        let there : i < length places = omega (arith, length-set places item new) in
        let entry : slice_get places i ≡ Some p = slice_get-get_or places i p there ∙ ap Some (sym unmoved ∙ read i at) in
        let more : done ++ take (k + 1) items ≡ (done ++ take k items) ++ item ∷ [] =
        ap (λ l. done ++ l) (take_more items k 0 below) ∙ sym (append_assoc done (take k items) (get_or items k 0 ∷ [])) ∙ ap (λ x. (done ++ take k items) ++ x ∷ []) (sym is) in
        elim (Contains-push_cases (done ++ take k items) item i (subst (λ l. Contains l i) more held)) [ inl earlier ↦ before i p earlier entry | inr same ↦ absurd (other.1 (sym same)) ]

-- ---- an item of a disk
pub airable_apart : (disks : List Disk) → IsAirable disks → Distinct (all_items disks)
airable_apart disks a j k i at to = by (cases_lt j k) (cases_lt k j)
  where
    by : ((j < k) ⊎ (k ≤ j)) → ((k < j) ⊎ (j ≤ k)) → j ≡ k
    by (inl less) o = absurd (pairs_at (λ x y. x ≢ y) (all_items disks) j k i i a.apart less at to refl)
    by (inr over) (inl less) = absurd (pairs_at (λ x y. x ≢ y) (all_items disks) k j i i a.apart less to at refl)
    by (inr over) (inr under) = omega arith

-- Where the items of the disks stand apart, so do those of each.
pub disk_distinct : (disks : List Disk) (n : ℕ) (d : Disk) → Distinct (all_items disks) → slice_get disks n ≡ Some d → Distinct d.items
unfolding all_items
disk_distinct [] n d apart at = absurd (cc at)
disk_distinct (e ∷ ds) zero d apart at = subst (λ (x : Disk). Distinct x.items) (same_Some e d at) (Distinct-left e.items (all_items ds) apart)
disk_distinct (e ∷ ds) (suc n) d apart at = disk_distinct ds n d (Distinct-right e.items (all_items ds) apart) at

-- The number of an element that stands at no other place.
position_is : (items : List ℕ) (q i : ℕ) → Distinct items → slice_get items q ≡ Some i → position_or_len (λ j. eqb j i) items ≡ q
position_is items q i apart at =
    position_or_len_is (λ j. eqb j i) items q 0 (let within = slice_get_within items q i at in omega arith)
    (λ k less. by k less (eqb_tells (get_or items k 0) i)) (λ below. let e = get_or_from_slice_get items q i 0 at in grind (arith, nat_tests))
  where
    by : (k : ℕ) → k < q → ((eqb (get_or items k 0) i ≡ true) × (get_or items k 0 ≡ i)) ⊎ ((eqb (get_or items k 0) i ≡ false) × (get_or items k 0 ≢ i)) → eqb (get_or items k 0) i ≡ false
    by k less (inr other) = other.0
    by k less (inl same) =
        let within = slice_get_within items q i at in
        let k_is = apart k q i (slice_get-get_or items k 0 (omega arith) ∙ ap Some same.1) at in absurd (omega arith)

pub place_is : (disks : List Disk) (n : ℕ) (d : Disk) (q i : ℕ) → IsAirable disks → slice_get disks n ≡ Some d → slice_get d.items q ≡ Some i
    → IsPlace disks i (record { disk = n; place = q })
unfolding place_number
place_is disks n d q i airable at item =
    let number = disk_is disks n d i airable at (has_contains d.items i (q, item)) in
    record {
      disk = sym number;
      place = sym (rw (number, at) (position_is d.items q i (disk_distinct disks n d (airable_apart disks airable) at) item));
    }

-- What a table has at an item's number is its place.
pub own_place : (disks : List Disk) (places : List DiskPlace) (i : ℕ) (p : DiskPlace) → AreDeckDisks disks → HasPlaces disks (all_items disks) places → length places ≡ length (all_items disks)
    → i < length (all_items disks) → p ≡ get_or places i p → IsPlace disks i p
own_place disks places i p limits has long below is = has i p ((limits.numbers i).1 below) (slice_get_read places (length places) i p refl (omega arith) is)

-- ---- one more disk
pub items_none : (disks : List Disk) (places : List DiskPlace) → HasPlaces disks (all_items []) places
unfolding all_items
items_none disks places i p held at = absurd (let within = held.1 in omega arith)

pub items_more : (disks : List Disk) (n : ℕ) (d : Disk) → n < length disks → d ≡ get_or disks n d → all_items (take n disks) ++ d.items ≡ all_items (take (n + 1) disks)
unfolding all_items
items_more disks n d below is =
    flat_map_more (λ (x : Disk). x.items) [] (take n disks) d ∙ ap (λ (l : List Disk). flat_map (λ x. x.items) l) (ap (λ (x : Disk). take n disks ++ x ∷ []) is ∙ sym (take_more disks n d below))

-- What holds of all items holds of a disk's.
pub all_of_disk : (P : ℕ → Type 0) (disks : List Disk) (n : ℕ) (d : Disk) → All P (all_items disks) → slice_get disks n ≡ Some d → All P d.items
all_of_disk P disks n d all at = at_all P d.items (λ q i item. let t = item_of_disk disks n d q i at item in all_at P (all_items disks) t.0 i all t.1)

pub below_count : (disks : List Disk) (n : ℕ) → AreDeckDisks disks → n ≡ length (all_items disks) → All (λ i. i < n) (all_items disks)
below_count disks n limits count = at_all (λ i. i < n) (all_items disks) (λ k i at. let under = (limits.numbers i).0 (has_contains (all_items disks) i (k, at)) in omega arith)

pub fewer_items : (disks : List Disk) (n : ℕ) (d : Disk) → slice_get disks n ≡ Some d → length d.items ≤ length (all_items disks)
unfolding all_items
fewer_items [] n d at = absurd (cc at)
fewer_items (e ∷ ds) zero d at = let same = ap (λ (x : Disk). length x.items) (same_Some e d at) in omega (arith, length-append e.items (all_items ds))
fewer_items (e ∷ ds) (suc n) d at = let more = fewer_items ds n d at in omega (arith, length-append e.items (all_items ds))

-- The numbers of an item's home: `home_numbers` says all that is known of them, where the program isn't too long.
-- `held_item` finds the disk and the place of each item below the number of items.
use Rattle.std.proofs.Common.{◌≡◌, ◌≤◌, ◌<◌, ◌⊎◌, inl, inr, ◌+◌, ◌*◌, ◌%◌, ℕ, zero, suc, zero-add, Some, List, [], ◌∷◌, ◌++◌, length, get_or, slice_get, take, refl, sym, subst, ap, ◌∙◌, arith}
use Rattle.std.specs.List.{Contains}
use Rattle.std.proofs.lemmas.List.Elements.{Contains-append_cases}
use Rattle.std.proofs.lemmas.Option.{none-some, same_Some, slice_get_read, slice_get_within}
use Rattle.std.proofs.Math.Nat.{mod-eq_of_lt}
use Rattle.air_base.specs.declared.limits.TheConstants.{MOST_SLOTS}
use Rattle.air_model.specs.Disks.{Disk, all_items}
use Rattle.air_model.specs.Programs.{minor_len, num_chunks, num_minors, program}
use Rattle.air_model.specs.Airings.{IsNextWake, airings, chunks_of, disk_number, gap_of, next_wake, slot_item}
use Rattle.air_model.proofs.ProgramLemmas.{chunks_are, item_airings, item_next_wake, item_times_gap}
use Rattle.air_model.proofs.Elements.{contains_has, has_contains}
use Rattle.air_model.proofs.Periods.{ComesAt}
use Rattle.air_model.proofs.SlotPlaces.{chunk_some, comes_at, disk_gap, first_below, place_slot, slots_of}
use Rattle.chunk_program.specs.declared.homes.Home.{Home}
use Rattle.chunk_program.specs.Homes.{FitsHome, IsHome, first_slot}
use Rattle.chunk_program.specs.CutConditions.{AreDeckDisks}
use Rattle.chunk_program.specs.Places.{place_number}
use Rattle.chunk_program.proofs.ChunkLemmas.{chunks_some, freq_some}
use Rattle.chunk_program.proofs.PlaceSteps.{airable_apart, place_is}

-- The item stands on this disk at this place.
pub record IsHeld (disks : List Disk) (i n q : ℕ) (d : Disk) : Type 0 where
  pub at : slice_get disks n ≡ Some d
  pub item : slice_get d.items q ≡ Some i

some_place : (disks : List Disk) (i : ℕ) → Contains (all_items disks) i → (n : ℕ) × (q : ℕ) × (d : Disk) × IsHeld disks i n q d
unfolding all_items
some_place [] i c = absurd (let within = c.1 in omega arith)
some_place (e ∷ ds) i c = by (Contains-append_cases e.items (all_items ds) i c) (some_place ds i)
  where
    by : Contains e.items i ⊎ Contains (all_items ds) i → (Contains (all_items ds) i → (n : ℕ) × (q : ℕ) × (d : Disk) × IsHeld ds i n q d)
        → (n : ℕ) × (q : ℕ) × (d : Disk) × IsHeld (e ∷ ds) i n q d
    by (inl here) later = let h = contains_has e.items i here in (0, h.0, e, record { at = refl; item = h.1 })
    by (inr there) later = let m = later there in (suc m.0, m.1, m.2, record { at = m.3.at; item = m.3.item })

-- The disk with the item's number holds it at its place.
pub held_item : (disks : List Disk) (i : ℕ) → AreDeckDisks disks → i < length (all_items disks) → (d : Disk) × IsHeld disks i (disk_number disks i) (place_number disks i) d
held_item disks i limits below =
    let found = some_place disks i ((limits.numbers i).1 below) in
    let place = place_is disks found.0 found.2 found.1 i limits.airable found.3.at found.3.item in
    (found.2, subst (λ n. IsHeld disks i n (place_number disks i) found.2) place.disk (subst (λ q. IsHeld disks i found.0 q found.2) place.place found.3))

-- ---- the numbers of the home
module _ (disks : List Disk) (i n q : ℕ) (d : Disk) (limits : AreDeckDisks disks) (held : IsHeld disks i n q d) where
  has : Contains d.items i
  has = has_contains d.items i (q, held.item)

  some : 0 < num_chunks (num_minors disks) d
  some = chunks_some disks limits n d held.at

  gap_is : gap_of disks i ≡ disk_gap (num_minors disks) disks d
  unfolding gap_of disk_gap
  gap_is = ap (λ k. k * minor_len (num_minors disks) disks) (chunks_are disks n d i limits.airable held.at has)

  comes : ComesAt (program disks) i (disk_gap (num_minors disks) disks d) (place_slot (num_minors disks) disks n d q)
  unfolding program slots_of
  comes = comes_at (num_minors disks) q i disks n d (airable_apart disks limits.airable) held.at held.item some

  first_is_below : place_slot (num_minors disks) disks n d q < disk_gap (num_minors disks) disks d
  first_is_below = first_below (num_minors disks) q i disks n d (airable_apart disks limits.airable) held.at held.item some

  gap_whole : d.freq * disk_gap (num_minors disks) disks d ≡ length (program disks)
  gap_whole =
      ap (λ g. d.freq * g) (sym gap_is) ∙ ap (λ t. t * gap_of disks i) (sym (item_airings disks n d i limits.airable held.at has))
      ∙ item_times_gap disks n d i limits.airable held.at has

  gap_within : disk_gap (num_minors disks) disks d ≤ length (program disks)
  gap_within = by d.freq (freq_some disks limits n d held.at) gap_whole
    where
      by : (f : ℕ) → 0 < f → f * disk_gap (num_minors disks) disks d ≡ length (program disks) → disk_gap (num_minors disks) disks d ≤ length (program disks)
      by zero some whole = absurd (omega arith)
      by (suc f) some whole = omega arith

  -- from the cycle's start the item comes first at its place
  first_wake : IsNextWake (program disks) 0 i (place_slot (num_minors disks) disks n d q)
  first_wake =
      let below = first_is_below in let within = gap_within in
      record {
        aired = ap (slot_item (program disks)) (around (place_slot (num_minors disks) disks n d q) (omega arith)) ∙ (comes (place_slot (num_minors disks) disks n d q) (omega arith)).1 (mod-eq_of_lt below);
        first = λ j less here.
            let rest = (comes j (omega arith)).0 (ap (slot_item (program disks)) (sym (around j (omega arith))) ∙ here) in
            let low : j < disk_gap (num_minors disks) disks d = omega arith in
            let same = mod-eq_of_lt low in omega arith;
      }
    where
      around : (s : ℕ) → s < length (program disks) → (0 + s) % length (program disks) ≡ s
      around s less = ap (λ n. n % length (program disks)) (zero-add s) ∙ mod-eq_of_lt less

  first_is : place_slot (num_minors disks) disks n d q ≡ next_wake (program disks) 0 i
  first_is =
      ((item_next_wake disks n d i limits.airable held.at has 0 (let below = first_is_below in let within = gap_within in omega arith)).0 (place_slot (num_minors disks) disks n d q)).0 first_wake

  chunks_short : length (program disks) ≤ MOST_SLOTS → num_chunks (num_minors disks) d ≤ MOST_SLOTS
  unfolding disk_gap
  chunks_short short = by (minor_len (num_minors disks) disks) first_is_below gap_within
    where
      by : (row : ℕ) → place_slot (num_minors disks) disks n d q < num_chunks (num_minors disks) d * row → num_chunks (num_minors disks) d * row ≤ length (program disks) → num_chunks (num_minors disks) d ≤ MOST_SLOTS
      by zero below within = absurd (omega arith)
      by (suc row) below within = omega arith

-- All that is known of the numbers of an item's home: m minor cycles of so many slots, and the slots before its disk.
pub record HomeNumbers (disks : List Disk) (i q m row slots_before : ℕ) (d : Disk) : Type 0 where
  pub fits : FitsHome m row slots_before q d
  pub times : d.freq ≡ airings (program disks) i
  pub gap : num_chunks m d * row ≡ gap_of disks i
  pub first : first_slot m row slots_before q d ≡ next_wake (program disks) 0 i
  pub chunks : num_chunks m d ≡ chunks_of disks i

home_own : (disks : List Disk) (i n q : ℕ) (d : Disk) → AreDeckDisks disks → IsHeld disks i n q d → length (program disks) ≤ MOST_SLOTS
    → HomeNumbers disks i q (num_minors disks) (minor_len (num_minors disks) disks) (minor_len (num_minors disks) (take n disks)) d
unfolding disk_gap place_slot
home_own disks i n q d limits held short = record {
  fits = record {
    aired = freq_some disks limits n d held.at;
    some = some disks i n q d limits held;
    filled = chunk_some (num_minors disks) d q i held.item (some disks i n q d limits held);
    few = chunks_short disks i n q d limits held short;
    short = (let within = gap_within disks i n q d limits held in omega arith);
    first = first_is_below disks i n q d limits held;
  };
  times = sym (item_airings disks n d i limits.airable held.at (has disks i n q d limits held));
  gap = sym (gap_is disks i n q d limits held);
  first = first_is disks i n q d limits held;
  chunks = sym (chunks_are disks n d i limits.airable held.at (has disks i n q d limits held));
}

pub home_numbers : (disks : List Disk) (i n q m row slots_before : ℕ) (d : Disk) → AreDeckDisks disks → IsHeld disks i n q d → length (program disks) ≤ MOST_SLOTS
    → m ≡ num_minors disks → row ≡ minor_len m disks → slots_before ≡ minor_len m (take n disks) → HomeNumbers disks i q m row slots_before d
home_numbers disks i n q m row slots_before d limits held short is rows counted =
    let rows_are : row ≡ minor_len (num_minors disks) disks = rows ∙ ap (λ m. minor_len m disks) is in
    let slots_are : slots_before ≡ minor_len (num_minors disks) (take n disks) = counted ∙ ap (λ m. minor_len m (take n disks)) is in
    rw (is, rows_are, slots_are) (home_own disks i n q d limits held short)

-- The number of an item's disk is that of a disk.
pub number_within : (disks : List Disk) (i n : ℕ) → AreDeckDisks disks → i < length (all_items disks) → n ≡ disk_number disks i → n < length disks
number_within disks i n limits below is = let held = held_item disks i limits below in let within = slice_get_within disks (disk_number disks i) held.0 held.1.at in omega arith

-- The same of the disk that is read at the item's number.
pub home_known : (disks : List Disk) (i n q m row slots_before : ℕ) (d : Disk) → AreDeckDisks disks → i < length (all_items disks) → n ≡ disk_number disks i → q ≡ place_number disks i
    → d ≡ get_or disks n d → length (program disks) ≤ MOST_SLOTS → m ≡ num_minors disks → row ≡ minor_len m disks → slots_before ≡ minor_len m (take n disks)
    → HomeNumbers disks i q m row slots_before d
home_known disks i n q m row slots_before d limits below number place is short minors rows counted =
    let found = held_item disks i limits below in
    let at : slice_get disks (disk_number disks i) ≡ Some d =
    slice_get_read disks (length disks) (disk_number disks i) d refl (number_within disks i (disk_number disks i) limits below refl) (is ∙ ap (λ n. get_or disks n d) number) in
    let same : found.0 ≡ d = same_Some found.0 d (sym found.1.at ∙ at) in
    let held = subst (λ q. IsHeld disks i n q d) (sym place) (subst (λ n. IsHeld disks i n (place_number disks i) d) (sym number) (subst (λ (x : Disk). IsHeld disks i (disk_number disks i) (place_number disks i) x) same found.1)) in
    home_numbers disks i n q m row slots_before d limits held short minors rows counted

-- ---- the homes of all items

each_one : {A : Type 0} (P : ℕ → A → Type 0) (xs : List A) (y : A) → ((k : ℕ) (x : A) → slice_get xs k ≡ Some x → P k x) → P (length xs) y
    → (k : ℕ) (x : A) → slice_get (xs ++ y ∷ []) k ≡ Some x → P k x
each_one P [] y old new zero x at = subst (P 0) (same_Some y x at) new
each_one P [] y old new (suc k) x at = absurd (none-some x at)
each_one P (first ∷ xs) y old new zero x at = old 0 x at
each_one P (first ∷ xs) y old new (suc k) x at = each_one (λ i. P (suc i)) xs y (λ i z h. old (suc i) z h) new k x at

-- With the home of the next item each is its item's.
pub each_home : (disks : List Disk) (homes more : List Home) (item : ℕ) (h : Home) → more ≡ homes ++ h ∷ [] → length homes ≡ item
    → ((i : ℕ) (k : Home) → slice_get homes i ≡ Some k → IsHome disks i k) → IsHome disks item h
    → (i : ℕ) (k : Home) → slice_get more i ≡ Some k → IsHome disks i k
each_home disks homes more item h is len old new i k at =
    each_one (IsHome disks) homes h old (subst (λ n. IsHome disks n h) (sym len) new) i k (sym (ap (λ hs. slice_get hs i) is) ∙ at)

-- The marks of a cycle: how far the next slot of an item and the next index are.
use Rattle.std.proofs.Common.{◌≡◌, ◌≤◌, ◌<◌, ◌⊎◌, inl, inr, ◌+◌, ◌-◌, ◌*◌, ◌/◌, ◌%◌, ◌++◌, ℕ, zero, suc, Bool, true, false, not, cond, Option, Some, None, List, [], ◌∷◌, drop, get_or, length, length-append, append_assoc, map, refl, sym, ◌∙◌, ap, arith}
use Rattle.std.specs.List.{flat_map, position_or_len, range_with_len}
use Rattle.std.proofs.Math.Nat.{add-div_left, add-mul, mul-suc, suc-mul}
use Rattle.std.proofs.lemmas.Bool.{cases_lt}
use Rattle.std.proofs.lemmas.List.{drop-append-le, drop-drop, drop-map, get_or_past, length-drop}
use Rattle.std.proofs.lemmas.Nat.{div_below}
use Rattle.air_model.specs.Airings.{IsNextWake, carries, next_wake, slot_item}
use Rattle.air_model.specs.Disks.{Disk}
use Rattle.air_model.specs.Programs.{minor_cycle, minor_len, num_minors, program}
use Rattle.air_model.proofs.SlotPlaces.{length_even, length_minor}
use Rattle.air_model.proofs.ProgramLemmas.{length_program}
use Rattle.air_index.specs.OnAir.{IsIndex, IsSlot, Mark, marks_index, marks_item, marks_of}
use Rattle.air_index.proofs.PositionLemmas.{drop_even, first_either, first_later, first_left, first_right, first_skipped, first_up_to, left_from, positive, right_from}
use Rattle.air_index.specs.Private.Beaming.{entry_between, index_place}

-- ---- minor cycles of one length, each with its index

unfoldable pub with_index : (ℕ → List (Option ℕ)) → ℕ → List Mark
with_index minor m = IsIndex m ∷ map IsSlot (minor m)

pub length_slots : (os : List (Option ℕ)) → length (map IsSlot os) ≡ length os
length_slots [] = refl
length_slots (o ∷ os) = ap suc (length_slots os)

item_in_slots : (i : ℕ) (os : List (Option ℕ)) → position_or_len (marks_item i) (map IsSlot os) ≡ position_or_len (carries i) os
unfolding marks_item
item_in_slots i [] = refl
item_in_slots i (o ∷ os) = ap (λ k. cond (not (carries i o)) (1 + k) 0) (item_in_slots i os)

pub no_item : (i m : ℕ) → marks_item i (IsIndex m) ≡ false
unfolding marks_item
no_item i m = refl

div_zero : (p l : ℕ) → p < l → p / l ≡ 0
div_zero p l below = let few : p / l < 1 = div_below p l 1 (omega arith) (omega arith) in omega arith

div_more : (p l : ℕ) → 0 < l → (l + p) / l ≡ 1 + p / l
div_more p l some = add-div_left p some ∙ omega arith

pub long_with_index : (minor : ℕ → List (Option ℕ)) (l : ℕ) → ((k : ℕ) → length (minor k) ≡ l) → (k : ℕ) → length (with_index minor k) ≡ l + 1
unfolding with_index
long_with_index minor l even k = let slots = length_slots (minor k) in let is = even k in omega arith

-- The mark of slot w of k minor cycles is one of theirs.
pub marked_within : (w l k : ℕ) → 0 < l → w < k * l → w + w / l + 1 < k * (l + 1)
marked_within w l k some below =
    let row : w / l < k = div_below w l k some below in
    let up = mul-suc k l in
    omega arith

module _ (minor : ℕ → List (Option ℕ)) (l : ℕ) (even : (k : ℕ) → length (minor k) ≡ l) (some : 0 < l) where
  pub item_found : (i a n : ℕ) → position_or_len (carries i) (flat_map minor (range_with_len a n)) < length (flat_map minor (range_with_len a n))
      → position_or_len (marks_item i) (flat_map (with_index minor) (range_with_len a n))
      ≡ position_or_len (carries i) (flat_map minor (range_with_len a n)) + position_or_len (carries i) (flat_map minor (range_with_len a n)) / l + 1
  unfolding with_index
  item_found i a zero h = absurd (omega arith)
  item_found i a (suc n) h =
      first_later (marks_item i) (IsIndex a) (map IsSlot os ++ marks) (no_item i a) ∙ by (first_either (carries i) os) (λ less. item_found i (a + 1) n less)
    where
      os : List (Option ℕ)
      os = minor a

      rest : List (Option ℕ)
      rest = flat_map minor (range_with_len (a + 1) n)

      marks : List Mark
      marks = flat_map (with_index minor) (range_with_len (a + 1) n)

      by : ((position_or_len (carries i) os < length os) ⊎ (position_or_len (carries i) os ≡ length os))
          → (position_or_len (carries i) rest < length rest → position_or_len (marks_item i) marks ≡ position_or_len (carries i) rest + position_or_len (carries i) rest / l + 1)
          → 1 + position_or_len (marks_item i) (map IsSlot os ++ marks) ≡ position_or_len (carries i) (os ++ rest) + position_or_len (carries i) (os ++ rest) / l + 1
      by (inl less) more =
          let p = position_or_len (carries i) os in
          let same = item_in_slots i os in
          let long = length_slots os in
          let is = even a in
          let here : position_or_len (carries i) (os ++ rest) ≡ p = first_left (carries i) os rest less in
          let there = first_left (marks_item i) (map IsSlot os) marks (omega arith) in
          let none = div_zero p l (omega arith) in
          rw here (omega arith)
      by (inr all) more =
          let q = position_or_len (carries i) rest in
          let same = item_in_slots i os in
          let long = length_slots os in
          let is = even a in
          let whole = length-append os rest in
          let here : position_or_len (carries i) (os ++ rest) ≡ l + q = first_right (carries i) os rest all ∙ ap (λ k. k + q) is in
          let there = first_right (marks_item i) (map IsSlot os) marks (same ∙ all ∙ sym long) in
          let later = more (let under = first_right (carries i) os rest all in omega arith) in
          let part = div_more q l some in
          rw here (omega arith)

  item_missing : (i a n : ℕ) → position_or_len (carries i) (flat_map minor (range_with_len a n)) ≡ length (flat_map minor (range_with_len a n))
      → position_or_len (marks_item i) (flat_map (with_index minor) (range_with_len a n)) ≡ n * (l + 1)
  unfolding with_index
  item_missing i a zero h = omega arith
  item_missing i a (suc n) h =
      first_later (marks_item i) (IsIndex a) (map IsSlot os ++ marks) (no_item i a) ∙ by (first_either (carries i) os) (λ none. item_missing i (a + 1) n none)
    where
      os : List (Option ℕ)
      os = minor a

      rest : List (Option ℕ)
      rest = flat_map minor (range_with_len (a + 1) n)

      marks : List Mark
      marks = flat_map (with_index minor) (range_with_len (a + 1) n)

      by : ((position_or_len (carries i) os < length os) ⊎ (position_or_len (carries i) os ≡ length os))
          → (position_or_len (carries i) rest ≡ length rest → position_or_len (marks_item i) marks ≡ n * (l + 1)) → 1 + position_or_len (marks_item i) (map IsSlot os ++ marks) ≡ suc n * (l + 1)
      by (inl less) more = absurd (let here = first_left (carries i) os rest less in let whole = length-append os rest in omega arith)
      by (inr all) more =
          let same = item_in_slots i os in
          let long = length_slots os in
          let is = even a in
          let whole = length-append os rest in
          let here = first_right (carries i) os rest all in
          let later = more (omega arith) in
          let there = first_right (marks_item i) (map IsSlot os) marks (same ∙ all ∙ sym long) in
          let up = suc-mul n (l + 1) in
          omega arith

-- An item that a slot carries comes in the list.
pub carried_within : (i : ℕ) (slots : List (Option ℕ)) (s : ℕ) → slot_item slots s ≡ Some i → position_or_len (carries i) slots < length slots
carried_within i slots s e = by (cases_lt s (length slots))
  where
    is_carried : (o : Option ℕ) → o ≡ Some i → carries i o ≡ true
    is_carried None e = cc e
    is_carried (Some j) e = grind arith

    by : ((s < length slots) ⊎ (length slots ≤ s)) → position_or_len (carries i) slots < length slots
    by (inl under) = first_up_to (carries i) slots s None under (is_carried (get_or slots s None) e)
    by (inr over) = absurd (no_some i (sym (get_or_past slots s None over) ∙ e))
      where
        no_some : (i : ℕ) → ◌≡◌ {A = Option ℕ} None (Some i) → ⊥
        no_some i e = cc e

-- The first index ahead of some slots.
index_in_slots : (os : List (Option ℕ)) → position_or_len marks_index (map IsSlot os) ≡ length os
unfolding marks_index
index_in_slots [] = refl
index_in_slots (o ∷ os) = ap (λ k. 1 + k) (index_in_slots os) ∙ omega arith

index_after_slots : (os : List (Option ℕ)) (ys : List Mark) → position_or_len marks_index ys ≡ 0 → position_or_len marks_index (map IsSlot os ++ ys) ≡ length os
index_after_slots os ys next =
    let slots = length_slots os in
    first_right marks_index (map IsSlot os) ys (index_in_slots os ∙ sym slots) ∙ omega arith

index_first : (minor : ℕ → List (Option ℕ)) (a n : ℕ) (ys : List Mark) → position_or_len marks_index ys ≡ 0 → position_or_len marks_index (flat_map (with_index minor) (range_with_len a n) ++ ys) ≡ 0
unfolding marks_index with_index
index_first minor a zero ys next = next
index_first minor a (suc n) ys next = refl

index_next : (m : ℕ) (xs : List (Option ℕ)) (rest : List Mark) (n : ℕ) → n < length xs → drop (n + 2) (IsIndex m ∷ (map IsSlot xs ++ rest)) ≡ map IsSlot (drop (n + 1) xs) ++ rest
index_next m xs rest n within =
    let long = length_slots xs in
    let next : n + 2 ≡ suc (n + 1) = omega arith in
    ap (λ k. drop k (IsIndex m ∷ (map IsSlot xs ++ rest))) next ∙ drop-append-le (n + 1) (map IsSlot xs) rest (omega arith) ∙ ap (λ l. l ++ rest) (drop-map IsSlot (n + 1) xs)

module _ (minor : ℕ → List (Option ℕ)) (l : ℕ) (even : (k : ℕ) → length (minor k) ≡ l) (some : 0 < l) (total m : ℕ) (within : m < total) where
  -- the marks and the slots from minor cycle m on
  suffix : List Mark
  suffix = flat_map (with_index minor) (range_with_len m (total - m))

  slots : List (Option ℕ)
  slots = flat_map minor (range_with_len m (total - m))

  more : List Mark
  more = flat_map (with_index minor) (range_with_len (m + 1) (total - m - 1))

  from_place : drop (m * (l + 1)) (flat_map (with_index minor) (range_with_len 0 total)) ≡ suffix
  unfolding suffix
  from_place =
      let at : 0 + m ≡ m = omega arith in
      drop_even (with_index minor) (l + 1) 0 total m (long_with_index minor l even) (omega arith) ∙ ap (λ k. flat_map (with_index minor) (range_with_len k (total - m))) at

  from_slot : drop (m * l) (flat_map minor (range_with_len 0 total)) ≡ slots
  unfolding slots
  from_slot =
      let at : 0 + m ≡ m = omega arith in
      drop_even minor l 0 total m even (omega arith) ∙ ap (λ k. flat_map minor (range_with_len k (total - m))) at

  suffix_is : suffix ≡ IsIndex m ∷ (map IsSlot (minor m) ++ more)
  unfolding suffix more with_index
  suffix_is = let next : total - m ≡ suc (total - m - 1) = omega arith in ap (λ k. flat_map (with_index minor) (range_with_len m k)) next

  pub index_there : (rest : List Mark) × (drop (m * (l + 1)) (flat_map (with_index minor) (range_with_len 0 total)) ≡ IsIndex m ∷ rest)
  index_there = (map IsSlot (minor m) ++ more, from_place ∙ suffix_is)

  long_slots : length slots ≡ (total - m) * l
  unfolding slots
  long_slots = length_even minor l m (total - m) even

  long_suffix : length suffix ≡ (total - m) * (l + 1)
  unfolding suffix
  long_suffix = length_even (with_index minor) (l + 1) m (total - m) (long_with_index minor l even)

  skipped : (p : Mark → Bool) (next : List Mark) → p (IsIndex m) ≡ false
      → position_or_len p (drop (m * (l + 1) + 1) (flat_map (with_index minor) (range_with_len 0 total)) ++ next) + 1 ≡ position_or_len p (suffix ++ next)
  skipped p next e =
      let all = flat_map (with_index minor) (range_with_len 0 total) in
      let front : drop (m * (l + 1) + 1) all ≡ drop 1 (IsIndex m ∷ (map IsSlot (minor m) ++ more)) =
      sym (drop-drop 1 (m * (l + 1)) all) ∙ ap (drop 1) (from_place ∙ suffix_is) in
      ap (λ f. position_or_len p (f ++ next) + 1) front ∙ first_skipped p (IsIndex m) (map IsSlot (minor m) ++ more) next e ∙ ap (λ f. position_or_len p (f ++ next)) (sym suffix_is)

  split_left : total * l ≡ m * l + (total - m) * l
  split_left = let sum : m + (total - m) ≡ total = omega arith in ap (λ k. k * l) (sym sum) ∙ add-mul m (total - m) l

  -- the item comes in this cycle
  entry_here : (i w : ℕ) (other : List (Option ℕ)) (next : List Mark) → w ≡ position_or_len (carries i) (drop (m * l) (flat_map minor (range_with_len 0 total)) ++ other) → m * l + w < total * l
      → w + w / l + 1 ≡ position_or_len (marks_item i) (drop (m * (l + 1) + 1) (flat_map (with_index minor) (range_with_len 0 total)) ++ next) + 1
  unfolding suffix slots
  entry_here i w other next is below =
      let there : w ≡ position_or_len (carries i) (slots ++ other) = is ∙ ap (λ f. position_or_len (carries i) (f ++ other)) from_slot in
      let under : w < length slots = (let whole = split_left in let long = long_slots in omega arith) in
      let found : position_or_len (carries i) slots ≡ w = left_from (carries i) slots other (omega arith) ∙ sym there in
      let mark = item_found minor l even some i m (total - m) (omega arith) in
      let place : position_or_len (marks_item i) suffix ≡ w + w / l + 1 = mark ∙ ap (λ k. k + k / l + 1) found in
      let long = long_suffix in
      let slots_long = long_slots in
      let inside = marked_within w l (total - m) some (omega arith) in
      sym (skipped (marks_item i) next (no_item i m) ∙ first_left (marks_item i) suffix next (omega arith) ∙ place)

  -- the item comes in the next cycle
  entry_next : (i w : ℕ) (other : List (Option ℕ)) (next : List Mark) → w ≡ position_or_len (carries i) (drop (m * l) (flat_map minor (range_with_len 0 total)) ++ other) → total * l ≤ m * l + w
      → (total - m) * (l + 1) + position_or_len (marks_item i) next ≡ position_or_len (marks_item i) (drop (m * (l + 1) + 1) (flat_map (with_index minor) (range_with_len 0 total)) ++ next) + 1
  unfolding suffix slots
  entry_next i w other next is above =
      let there : w ≡ position_or_len (carries i) (slots ++ other) = is ∙ ap (λ f. position_or_len (carries i) (f ++ other)) from_slot in
      let over : length slots ≤ w = (let whole = split_left in let long = long_slots in omega arith) in
      let none : position_or_len (carries i) slots ≡ length slots = right_from (carries i) slots other (omega arith) in
      let all : position_or_len (marks_item i) suffix ≡ (total - m) * (l + 1) = item_missing minor l even some i m (total - m) none in
      sym (skipped (marks_item i) next (no_item i m) ∙ first_right (marks_item i) suffix next (all ∙ sym long_suffix) ∙ ap (λ k. k + position_or_len (marks_item i) next) long_suffix)

  -- the next index, from slot r of the minor cycle
  wait_is : (r : ℕ) (next : List Mark) → r < l → position_or_len marks_index next ≡ 0
      → position_or_len marks_index (drop (m * (l + 1) + (r + 2)) (flat_map (with_index minor) (range_with_len 0 total)) ++ next) + 1 ≡ l - r
  unfolding more
  wait_is r next within_slots first =
      let all = flat_map (with_index minor) (range_with_len 0 total) in
      let here = even m in
      let front : drop (m * (l + 1) + (r + 2)) all ≡ map IsSlot (drop (r + 1) (minor m)) ++ more =
      sym (drop-drop (r + 2) (m * (l + 1)) all) ∙ ap (drop (r + 2)) (from_place ∙ suffix_is) ∙ index_next m (minor m) more r (omega arith) in
      let behind = index_first minor (m + 1) (total - m - 1) next first in
      let left = length-drop (r + 1) (minor m) in
      ap (λ f. position_or_len marks_index (f ++ next) + 1) front
      ∙ ap (λ f. position_or_len marks_index f + 1) (append_assoc (map IsSlot (drop (r + 1) (minor m))) more next)
      ∙ ap (λ k. k + 1) (index_after_slots (drop (r + 1) (minor m)) (more ++ next) behind) ∙ omega arith

-- ---- the marks of disks

-- Where there is a slot, there is a minor cycle, and it has a slot.
pub some_parts : (disks : List Disk) → 1 ≤ length (program disks) → (0 < num_minors disks) × (0 < minor_len (num_minors disks) disks)
some_parts disks some = let long = length_program disks in positive (num_minors disks) (minor_len (num_minors disks) disks) 0 (omega arith)

-- A cycle begins with an index.
pub begins_with_index : (disks : List Disk) → 1 ≤ num_minors disks → position_or_len marks_index (marks_of disks) ≡ 0
unfolding marks_of marks_index
begins_with_index disks some = by (num_minors disks) some
  where
    by : (n : ℕ) → 1 ≤ n → position_or_len marks_index (flat_map (λ m. IsIndex m ∷ map IsSlot (minor_cycle (num_minors disks) disks m)) (range_with_len 0 n)) ≡ 0
    by zero some = absurd (omega arith)
    by (suc n) some = refl

-- The entry where the item comes in this cycle, w slots from the beginning of minor cycle m on.
pub entry_in_cycle : (disks next : List Disk) (m i w : ℕ) → m < num_minors disks → 0 < minor_len (num_minors disks) disks → w ≡ next_wake (program disks) (m * minor_len (num_minors disks) disks) i
    → m * minor_len (num_minors disks) disks + w < length (program disks) → w + w / minor_len (num_minors disks) disks + 1 ≡ entry_between disks next m i
unfolding marks_of with_index program next_wake entry_between
entry_in_cycle disks next m i w within some is below =
    let long = length_program disks in
    entry_here (minor_cycle (num_minors disks) disks) (minor_len (num_minors disks) disks) (length_minor (num_minors disks) disks) some (num_minors disks) m within i w (program disks) (marks_of next) is (omega arith)

-- The entry where it doesn't: the rest of the cycle, and the place of the item's first slot in the next one.
pub entry_in_next : (disks next : List Disk) (m i w first : ℕ) → m < num_minors disks → 0 < minor_len (num_minors disks) disks → w ≡ next_wake (program disks) (m * minor_len (num_minors disks) disks) i
    → length (program disks) ≤ m * minor_len (num_minors disks) disks + w → 0 < minor_len (num_minors next) next → first ≡ next_wake (program next) 0 i → IsNextWake (program next) 0 i first
    → (num_minors disks - m) * (minor_len (num_minors disks) disks + 1) + (first + first / minor_len (num_minors next) next + 1) ≡ entry_between disks next m i
unfolding marks_of with_index program next_wake entry_between
entry_in_next disks next m i w first within some is above other_some first_is wake =
    let long = length_program disks in
    let others = program next in
    let present : position_or_len (carries i) others < length others =
    carried_within i others ((0 + first) % length others) wake.aired in
    let place : first ≡ position_or_len (carries i) others = first_is ∙ first_left (carries i) others others present in
    let found = item_found (minor_cycle (num_minors next) next) (minor_len (num_minors next) next) (length_minor (num_minors next) next) other_some i 0 (num_minors next) present in
    ap (λ k. (num_minors disks - m) * (minor_len (num_minors disks) disks + 1) + (k + k / minor_len (num_minors next) next + 1)) place
    ∙ ap (λ k. (num_minors disks - m) * (minor_len (num_minors disks) disks + 1) + k) (sym found)
    ∙ entry_next (minor_cycle (num_minors disks) disks) (minor_len (num_minors disks) disks) (length_minor (num_minors disks) disks) some (num_minors disks) m within i w (program disks) (marks_of next) is (omega arith)

-- The next index is as many places on as slots are left of the minor cycle.
pub wait_in_minor : (disks : List Disk) (next : List Mark) (m r : ℕ) → m < num_minors disks → r < minor_len (num_minors disks) disks → position_or_len marks_index next ≡ 0
    → position_or_len marks_index (drop (index_place disks m + 1 + r + 1) (marks_of disks) ++ next) + 1 ≡ minor_len (num_minors disks) disks - r
unfolding marks_of with_index
wait_in_minor disks next m r within slot first =
    let place : index_place disks m + 1 + r + 1 ≡ m * (minor_len (num_minors disks) disks + 1) + (r + 2) = omega arith in
    ap (λ k. position_or_len marks_index (drop k (marks_of disks) ++ next) + 1) place
    ∙ wait_is (minor_cycle (num_minors disks) disks) (minor_len (num_minors disks) disks) (length_minor (num_minors disks) disks) (omega arith) (num_minors disks) m within r next slot first

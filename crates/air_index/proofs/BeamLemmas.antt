-- The records of an indexed tape, written minor cycle by minor cycle and cycle by cycle.
use Rattle.std.proofs.Common.{◌≡◌, ◌≤◌, ◌<◌, ◌+◌, ◌-◌, ◌*◌, ◌++◌, ℕ, zero, suc, zero-add, Option, Some, List, [], ◌∷◌, drop, get_or, length, length-append, append_assoc, map, slice_get, take, refl, sym, ◌∙◌, ap, arith}
use Rattle.std.specs.List.{flat_map, position_or_len, range_with_len, sum_by}
use Rattle.std.proofs.Math.Nat.{suc-mul}
use Rattle.std.proofs.Math.Seq.{take-append_seam}
use Rattle.std.proofs.lemmas.Grind.{flat_map-append}
use Rattle.std.proofs.lemmas.List.{append-nil, drop-drop, take-take}
use Rattle.std.proofs.lemmas.List.Sums.{sum_by-append, sum_by-cons}
use Rattle.std.proofs.lemmas.Option.{get_or_from_slice_get}
use Rattle.air_model.specs.Disks.{Disk}
use Rattle.air_model.specs.Programs.{minor_cycle, minor_len, num_minors, program}
use Rattle.air_model.specs.Tapes.{record_bytes, tape_of}
use Rattle.air_model.proofs.SlotPlaces.{length_even, length_minor}
use Rattle.chunk_program.specs.Editions.{EditionDisks, Plans, no_disks, planned_edition, planned_slots}
use Rattle.air_index.specs.Indexes.{index_bytes}
use Rattle.air_index.specs.IndexedTapes.{entries_for, records_at_marks, records_from}
use Rattle.air_index.specs.OnAir.{IsIndex, IsSlot, Mark, ahead, entry_for, marks_at, marks_index, marks_item, marks_of, wait_for}
use Rattle.air_index.specs.Records.{data_bytes}
use Rattle.air_index.specs.Private.Beaming.{entries_between, entry_between, index_place, slot_records}
use Rattle.air_index.proofs.MarkLemmas.{begins_with_index, long_with_index, wait_in_minor, with_index}
use Rattle.air_index.proofs.SizeLemmas.{range_more}

-- ---- tapes

pub tape_append : (xs ys : List (List ℕ)) → tape_of (xs ++ ys) ≡ tape_of xs ++ tape_of ys
unfolding tape_of
tape_append xs ys = flat_map-append record_bytes xs ys

pub tape_more : (r : List ℕ) (rs : List (List ℕ)) → tape_of (r ∷ rs) ≡ record_bytes r ++ tape_of rs
unfolding tape_of
tape_more r rs = refl

pub tape_none : tape_of [] ≡ []
unfolding tape_of
tape_none = refl

-- ---- records of marks

-- How many of the marks are slots.
unfoldable pub slot_count : List Mark → ℕ
slot_count [] = 0
slot_count (IsIndex m ∷ marks) = slot_count marks
slot_count (IsSlot o ∷ marks) = suc (slot_count marks)

pub count_slots : (os : List (Option ℕ)) → slot_count (map IsSlot os) ≡ length os
unfolding slot_count
count_slots [] = refl
count_slots (o ∷ os) = ap suc (count_slots os)

pub count_append : (xs ys : List Mark) → slot_count (xs ++ ys) ≡ slot_count xs + slot_count ys
unfolding slot_count
count_append [] ys = sym (zero-add (slot_count ys))
count_append (IsIndex m ∷ xs) ys = count_append xs ys
count_append (IsSlot o ∷ xs) ys = let rest = count_append xs ys in omega arith

pub records_append : (plans : Plans) (n c q : ℕ) (xs ys : List Mark) (bs : List (List ℕ))
    → records_at_marks plans n c q (xs ++ ys) bs ≡ records_at_marks plans n c q xs bs ++ records_at_marks plans n c (q + length xs) ys (drop (slot_count xs) bs)
unfolding records_at_marks slot_count
records_append plans n c q [] ys bs = let none : q ≡ q + 0 = omega arith in ap (λ k. records_at_marks plans n c k ys bs) none
records_append plans n c q (IsIndex m ∷ xs) ys bs =
    let on : q + 1 + length xs ≡ q + suc (length xs) = omega arith in
    ap (λ l. index_bytes c m (entries_for plans n c q) ∷ l)
    (records_append plans n c (q + 1) xs ys bs ∙ ap (λ k. records_at_marks plans n c (q + 1) xs bs ++ records_at_marks plans n c k ys (drop (slot_count xs) bs)) on)
records_append plans n c q (IsSlot o ∷ xs) ys bs =
    let on : q + 1 + length xs ≡ q + suc (length xs) = omega arith in
    let later : slot_count xs + 1 ≡ suc (slot_count xs) = omega arith in
    ap (λ l. data_bytes (wait_for plans c q) (get_or bs 0 []) ∷ l)
    (records_append plans n c (q + 1) xs ys (drop 1 bs)
    ∙ ap (λ k. records_at_marks plans n c (q + 1) xs (drop 1 bs) ++ records_at_marks plans n c k ys (drop (slot_count xs) (drop 1 bs))) on
    ∙ ap (λ l. records_at_marks plans n c (q + 1) xs (drop 1 bs) ++ records_at_marks plans n c (q + suc (length xs)) ys l) (drop-drop (slot_count xs) 1 bs)
    ∙ ap (λ k. records_at_marks plans n c (q + 1) xs (drop 1 bs) ++ records_at_marks plans n c (q + suc (length xs)) ys (drop k bs)) (drop_order (slot_count xs)))
  where
    drop_order : (k : ℕ) → 1 + k ≡ suc k
    drop_order k = omega arith

-- ---- the marks of the program in force

pub marks_in_force : (plans : Plans) (c : ℕ) (p : EditionDisks) → slice_get plans.programs (planned_edition plans c) ≡ Some p → marks_at plans c ≡ marks_of p.disks
marks_in_force plans c p at = ap (λ (q : EditionDisks). marks_of q.disks) (get_or_from_slice_get plans.programs (planned_edition plans c) p no_disks at)

pub slots_in_force : (plans : Plans) (c : ℕ) (p : EditionDisks) → slice_get plans.programs (planned_edition plans c) ≡ Some p → planned_slots plans c ≡ program p.disks
slots_in_force plans c p at = ap (λ (q : EditionDisks). program q.disks) (get_or_from_slice_get plans.programs (planned_edition plans c) p no_disks at)

-- The marks of the first minor cycles.
unfoldable pub first_minors : List Disk → ℕ → List Mark
first_minors disks k = flat_map (with_index (minor_cycle (num_minors disks) disks)) (range_with_len 0 k)

first_more : (disks : List Disk) (k : ℕ) → first_minors disks (k + 1) ≡ first_minors disks k ++ with_index (minor_cycle (num_minors disks) disks) k
unfolding first_minors
first_more disks k =
    let f = with_index (minor_cycle (num_minors disks) disks) in
    let next : k + 1 ≡ suc k = omega arith in
    ap (λ j. flat_map f (range_with_len 0 j)) next ∙ ap (flat_map f) (range_more 0 k) ∙ flat_map-append f (range_with_len 0 k) ((0 + k) ∷ [])
    ∙ ap (λ l. flat_map f (range_with_len 0 k) ++ l) (append-nil (f (0 + k)) ∙ ap f (zero-add k))

long_first : (disks : List Disk) (k : ℕ) → length (first_minors disks k) ≡ index_place disks k
unfolding first_minors
long_first disks k =
    length_even (with_index (minor_cycle (num_minors disks) disks)) (minor_len (num_minors disks) disks + 1) 0 k
    (λ j. long_with_index (minor_cycle (num_minors disks) disks) (minor_len (num_minors disks) disks) (length_minor (num_minors disks) disks) j)

pub count_first : (disks : List Disk) (k : ℕ) → slot_count (first_minors disks k) ≡ k * minor_len (num_minors disks) disks
unfolding first_minors slot_count with_index
count_first disks k = by 0 k
  where
    by : (a k : ℕ) → slot_count (flat_map (with_index (minor_cycle (num_minors disks) disks)) (range_with_len a k)) ≡ k * minor_len (num_minors disks) disks
    by a zero = omega arith
    by a (suc k) =
        let os = minor_cycle (num_minors disks) disks a in
        let long = length_minor (num_minors disks) disks a in
        let here = count_slots os in
        let rest = by (a + 1) k in
        let both = count_append (map IsSlot os) (flat_map (with_index (minor_cycle (num_minors disks) disks)) (range_with_len (a + 1) k)) in
        let up = suc-mul k (minor_len (num_minors disks) disks) in
        omega arith

-- ---- a minor cycle

module _ (plans : Plans) (n c : ℕ) (disks next : List Disk) (here : marks_at plans c ≡ marks_of disks) (later : marks_at plans (c + 1) ≡ marks_of next) (next_some : 1 ≤ num_minors next) where
  entries_are : (m : ℕ) → entries_for plans n c (index_place disks m) ≡ entries_between disks next n m
  unfolding entries_for entry_for ahead entry_between
  entries_are m =
      let of : List Mark → List Mark → List ℕ = λ marks others. map (λ i. position_or_len (marks_item i) (drop (index_place disks m + 1) marks ++ others) + 1) (range_with_len 0 n) in
      ap (λ l. of l (marks_at plans (c + 1))) here ∙ ap (of (marks_of disks)) later

  wait_at : (m r : ℕ) → m < num_minors disks → r < minor_len (num_minors disks) disks → wait_for plans c (index_place disks m + 1 + r) ≡ minor_len (num_minors disks) disks - r
  unfolding wait_for ahead
  wait_at m r within slot =
      ap (λ l. position_or_len marks_index (drop (index_place disks m + 1 + r + 1) l ++ marks_at plans (c + 1)) + 1) here
      ∙ ap (λ l. position_or_len marks_index (drop (index_place disks m + 1 + r + 1) (marks_of disks) ++ l) + 1) later
      ∙ wait_in_minor disks (marks_of next) m r within slot (begins_with_index next next_some)

  slots_are : (m r : ℕ) (os : List (Option ℕ)) (bs : List (List ℕ)) → m < num_minors disks → r + length os ≡ minor_len (num_minors disks) disks
      → records_at_marks plans n c (index_place disks m + 1 + r) (map IsSlot os) bs ≡ slot_records (length os) bs
  unfolding records_at_marks slot_records
  slots_are m r [] bs within all = refl
  slots_are m r (o ∷ os) bs within all =
      let wait : wait_for plans c (index_place disks m + 1 + r) ≡ suc (length os) = wait_at m r within (omega arith) ∙ omega arith in
      let on : index_place disks m + 1 + r + 1 ≡ index_place disks m + 1 + (r + 1) = omega arith in
      ap (λ w. data_bytes w (get_or bs 0 []) ∷ records_at_marks plans n c (index_place disks m + 1 + r + 1) (map IsSlot os) (drop 1 bs)) wait
      ∙ ap (λ k. data_bytes (suc (length os)) (get_or bs 0 []) ∷ records_at_marks plans n c k (map IsSlot os) (drop 1 bs)) on
      ∙ ap (λ l. data_bytes (suc (length os)) (get_or bs 0 []) ∷ l) (slots_are m (r + 1) os (drop 1 bs) within (omega arith))

  -- the records of minor cycle m
  minor_records : (m : ℕ) (bs : List (List ℕ)) → m < num_minors disks
      → records_at_marks plans n c (index_place disks m) (with_index (minor_cycle (num_minors disks) disks) m) bs
      ≡ index_bytes c m (entries_between disks next n m) ∷ slot_records (minor_len (num_minors disks) disks) bs
  unfolding records_at_marks with_index
  minor_records m bs within =
      let os = minor_cycle (num_minors disks) disks m in
      let long = length_minor (num_minors disks) disks m in
      let none : index_place disks m + 1 ≡ index_place disks m + 1 + 0 = omega arith in
      ap (λ es. index_bytes c m es ∷ records_at_marks plans n c (index_place disks m + 1) (map IsSlot os) bs) (entries_are m)
      ∙ ap (λ k. index_bytes c m (entries_between disks next n m) ∷ records_at_marks plans n c k (map IsSlot os) bs) none
      ∙ ap (λ l. index_bytes c m (entries_between disks next n m) ∷ l) (slots_are m 0 os bs within (omega arith))
      ∙ ap (λ k. index_bytes c m (entries_between disks next n m) ∷ slot_records k bs) long

  -- the records of one minor cycle more
  pub minor_more : (m : ℕ) (bs : List (List ℕ)) → m < num_minors disks
      → records_at_marks plans n c 0 (first_minors disks (m + 1)) bs
      ≡ records_at_marks plans n c 0 (first_minors disks m) bs ++ (index_bytes c m (entries_between disks next n m) ∷ slot_records (minor_len (num_minors disks) disks) (drop (m * minor_len (num_minors disks) disks) bs))
  minor_more m bs within =
      let mine = with_index (minor_cycle (num_minors disks) disks) m in
      let before = first_minors disks m in
      ap (λ l. records_at_marks plans n c 0 l bs) (first_more disks m) ∙ records_append plans n c 0 before mine bs
      ∙ ap (λ k. records_at_marks plans n c 0 before bs ++ records_at_marks plans n c k mine (drop (slot_count before) bs)) (zero-add (length before) ∙ long_first disks m)
      ∙ ap (λ k. records_at_marks plans n c 0 before bs ++ records_at_marks plans n c (index_place disks m) mine (drop k bs)) (count_first disks m)
      ∙ ap (λ l. records_at_marks plans n c 0 before bs ++ l) (minor_records m (drop (m * minor_len (num_minors disks) disks) bs) within)

  -- what was written of a cycle, with the records of one minor cycle more
  pub minor_written : (m : ℕ) (bs left : List (List ℕ)) (old out one two : List ℕ) → m < num_minors disks → out ≡ old ++ tape_of (records_at_marks plans n c 0 (first_minors disks m) bs)
      → left ≡ drop (m * minor_len (num_minors disks) disks) bs → one ≡ out ++ record_bytes (index_bytes c m (entries_between disks next n m))
      → two ≡ one ++ tape_of (slot_records (minor_len (num_minors disks) disks) left) → two ≡ old ++ tape_of (records_at_marks plans n c 0 (first_minors disks (m + 1)) bs)
  minor_written m bs left old out one two within so_far rest first slots =
      let before = records_at_marks plans n c 0 (first_minors disks m) bs in
      let index = index_bytes c m (entries_between disks next n m) in
      let len = minor_len (num_minors disks) disks in
      slots ∙ ap (λ l. one ++ tape_of (slot_records len l)) rest ∙ ap (λ l. l ++ tape_of (slot_records len (drop (m * len) bs))) (first ∙ ap (λ l. l ++ record_bytes index) so_far)
      ∙ ap (λ l. l ++ tape_of (slot_records len (drop (m * len) bs))) (append_assoc old (tape_of before) (record_bytes index))
      ∙ append_assoc old (tape_of before ++ record_bytes index) (tape_of (slot_records len (drop (m * len) bs)))
      ∙ ap (λ l. old ++ l)
      (append_assoc (tape_of before) (record_bytes index) (tape_of (slot_records len (drop (m * len) bs)))
      ∙ ap (λ l. tape_of before ++ l) (sym (tape_more index (slot_records len (drop (m * len) bs))))
      ∙ sym (tape_append before (index ∷ slot_records len (drop (m * len) bs))) ∙ ap tape_of (sym (minor_more m bs within)))

-- Nothing is written of a cycle yet, or all of it.
pub none_written : (plans : Plans) (n c : ℕ) (disks : List Disk) (bs : List (List ℕ)) (old : List ℕ) → old ≡ old ++ tape_of (records_at_marks plans n c 0 (first_minors disks 0) bs)
unfolding records_at_marks tape_of first_minors
none_written plans n c disks bs old = sym (append-nil old)

pub all_written : (plans : Plans) (n c : ℕ) (disks : List Disk) (bs : List (List ℕ)) (old out : List ℕ) → marks_at plans c ≡ marks_of disks
    → out ≡ old ++ tape_of (records_at_marks plans n c 0 (first_minors disks (num_minors disks)) bs) → out ≡ old ++ tape_of (records_at_marks plans n c 0 (marks_at plans c) bs)
unfolding first_minors marks_of with_index
all_written plans n c disks bs old out here is = is ∙ ap (λ l. old ++ tape_of (records_at_marks plans n c 0 l bs)) (sym here)

-- ---- cycles

-- The slots of k cycles from cycle c on.
abbrev pub slots_from : Plans → ℕ → ℕ → ℕ
slots_from plans c k = sum_by (λ c. length (planned_slots plans c)) (range_with_len c k)

pub cycles_append : (plans : Plans) (n c a b : ℕ) (bs : List (List ℕ))
    → records_from plans n c (a + b) bs ≡ records_from plans n c a bs ++ records_from plans n (c + a) b (drop (slots_from plans c a) bs)
unfolding records_from
cycles_append plans n c zero b bs = let none : c ≡ c + 0 = omega arith in ap (λ k. records_from plans n c k bs) (zero-add b) ∙ ap (λ k. records_from plans n k b bs) none
cycles_append plans n c (suc a) b bs =
    let here = length (planned_slots plans c) in
    let marks = records_at_marks plans n c 0 (marks_at plans c) bs in
    let whole : suc a + b ≡ suc (a + b) = omega arith in
    let on : c + 1 + a ≡ c + suc a = omega arith in
    let sum : slots_from plans (c + 1) a + here ≡ slots_from plans c (suc a) = (let e = sum_by-cons (λ c. length (planned_slots plans c)) c (range_with_len (c + 1) a) in omega arith) in
    let turned : here + slots_from plans (c + 1) a ≡ slots_from plans c (suc a) = omega arith in
    ap (λ k. records_from plans n c k bs) whole ∙ ap (λ l. marks ++ l) (cycles_append plans n (c + 1) a b (drop here bs))
    ∙ sym (append_assoc marks (records_from plans n (c + 1) a (drop here bs)) (records_from plans n (c + 1 + a) b (drop (slots_from plans (c + 1) a) (drop here bs))))
    ∙ ap (λ k. (marks ++ records_from plans n (c + 1) a (drop here bs)) ++ records_from plans n k b (drop (slots_from plans (c + 1) a) (drop here bs))) on
    ∙ ap (λ l. (marks ++ records_from plans n (c + 1) a (drop here bs)) ++ records_from plans n (c + suc a) b l) (drop-drop (slots_from plans (c + 1) a) here bs ∙ ap (λ k. drop k bs) turned)

pub cycle_more : (plans : Plans) (n c k : ℕ) (bs : List (List ℕ))
    → records_from plans n c (k + 1) bs ≡ records_from plans n c k bs ++ records_at_marks plans n (c + k) 0 (marks_at plans (c + k)) (drop (slots_from plans c k) bs)
unfolding records_from
cycle_more plans n c k bs = cycles_append plans n c k 1 bs ∙ ap (λ l. records_from plans n c k bs ++ l) (append-nil (records_at_marks plans n (c + k) 0 (marks_at plans (c + k)) (drop (slots_from plans c k) bs)))

pub cycle_written : (plans : Plans) (n c k : ℕ) (bs left : List (List ℕ)) (old out one : List ℕ) → out ≡ old ++ tape_of (records_from plans n c k bs) → left ≡ drop (slots_from plans c k) bs
    → one ≡ out ++ tape_of (records_at_marks plans n (c + k) 0 (marks_at plans (c + k)) left) → one ≡ old ++ tape_of (records_from plans n c (k + 1) bs)
cycle_written plans n c k bs left old out one so_far rest more =
    let before = records_from plans n c k bs in
    let mine = records_at_marks plans n (c + k) 0 (marks_at plans (c + k)) (drop (slots_from plans c k) bs) in
    more ∙ ap (λ l. out ++ tape_of (records_at_marks plans n (c + k) 0 (marks_at plans (c + k)) l)) rest ∙ ap (λ l. l ++ tape_of mine) so_far ∙ append_assoc old (tape_of before) (tape_of mine)
    ∙ ap (λ l. old ++ l) (sym (tape_append before mine) ∙ ap tape_of (sym (cycle_more plans n c k bs)))

pub slots_more : (plans : Plans) (c k : ℕ) → slots_from plans c (k + 1) ≡ slots_from plans c k + length (planned_slots plans (c + k))
slots_more plans c k =
    let f : ℕ → ℕ = λ c. length (planned_slots plans c) in
    let next : k + 1 ≡ suc k = omega arith in
    ap (λ j. sum_by f (range_with_len c j)) next ∙ ap (sum_by f) (range_more c k) ∙ sum_by-append f (range_with_len c k) ((c + k) ∷ []) ∙ ap (λ j. sum_by f (range_with_len c k) + j) (sum_by-cons f (c + k) [])
    ∙ omega arith

-- ---- what was there first is there still

pub begins : {X : Type 0} (old new rest : List X) → new ≡ old ++ rest → take (length old) new ≡ old
begins old new rest is = ap (take (length old)) is ∙ take-append_seam old rest

pub begins_more : {X : Type 0} (old out new rest : List X) → out ≡ old ++ rest → take (length out) new ≡ out → take (length old) new ≡ old
begins_more old out new rest is kept =
    let room : length old ≤ length out = (let long = ap length is ∙ length-append old rest in omega arith) in
    sym (take-take (length old) (length out) new room) ∙ ap (take (length old)) kept ∙ begins old out rest is

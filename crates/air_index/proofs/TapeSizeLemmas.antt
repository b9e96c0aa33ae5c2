-- How much longer an indexed tape is than the plain one: by five bytes a slot, and by its indexes.
use Rattle.std.proofs.Common.{◌≡◌, ◌≤◌, ◌+◌, ◌*◌, ◌++◌, ℕ, zero, suc, Option, List, [], ◌∷◌, drop, get_or, length, length-append, map, refl, sym, take, ◌∙◌, ap, arith}
use Rattle.std.specs.List.{flat_map, range_with_len, sum_by}
use Rattle.std.proofs.Math.Nat.{add-mul, suc-mul}
use Rattle.std.proofs.lemmas.List.{length-drop, take-append-drop}
use Rattle.std.proofs.lemmas.List.FromFn.{length-map-range_with_len}
use Rattle.std.proofs.lemmas.List.Sums.{sum_by-cons}
use Rattle.air_model.specs.Disks.{Disk}
use Rattle.air_model.specs.Programs.{minor_cycle, num_minors}
use Rattle.air_model.specs.Tapes.{record_bytes, tape_of}
use Rattle.chunk_program.specs.Editions.{Plans, no_disks, planned_edition, planned_slots}
use Rattle.air_index.specs.Indexes.{index_bytes}
use Rattle.air_index.specs.IndexedTapes.{entries_for, indexed_piece, minors_after, records_at_marks, records_from, slots_after}
use Rattle.air_index.specs.OnAir.{IsIndex, IsSlot, Mark, entry_for, marks_at, marks_of, wait_for}
use Rattle.air_index.specs.Records.{data_bytes}
use Rattle.air_index.proofs.BeamLemmas.{slot_count, slots_from, tape_append}
use Rattle.air_index.proofs.PieceLemmas.{count_cycle}
use Rattle.air_index.proofs.WriteLemmas.{long_data, long_index}

-- How many of the marks are indexes.
unfoldable pub index_count : List Mark → ℕ
index_count [] = 0
index_count (IsIndex m ∷ marks) = suc (index_count marks)
index_count (IsSlot o ∷ marks) = index_count marks

index_append : (xs ys : List Mark) → index_count (xs ++ ys) ≡ index_count xs + index_count ys
unfolding index_count
index_append [] ys = omega arith
index_append (IsIndex m ∷ xs) ys = let rest = index_append xs ys in omega arith
index_append (IsSlot o ∷ xs) ys = index_append xs ys

no_index : (os : List (Option ℕ)) → index_count (map IsSlot os) ≡ 0
unfolding index_count
no_index [] = refl
no_index (o ∷ os) = no_index os

index_minors : (minor : ℕ → List (Option ℕ)) (a k : ℕ) → index_count (flat_map (λ m. IsIndex m ∷ map IsSlot (minor m)) (range_with_len a k)) ≡ k
unfolding index_count
index_minors minor a zero = refl
index_minors minor a (suc k) =
    let rest = index_minors minor (a + 1) k in
    let none = no_index (minor a) in
    let both = index_append (map IsSlot (minor a)) (flat_map (λ m. IsIndex m ∷ map IsSlot (minor m)) (range_with_len (a + 1) k)) in
    omega arith

pub index_marks : (disks : List Disk) → index_count (marks_of disks) ≡ num_minors disks
unfolding marks_of
index_marks disks = index_minors (minor_cycle (num_minors disks) disks) 0 (num_minors disks)

-- ---- lengths

pub tape_len : (r : List ℕ) (rs : List (List ℕ)) → length (tape_of (r ∷ rs)) ≡ 4 + length r + length (tape_of rs)
unfolding tape_of record_bytes
tape_len r rs = let whole = length-append r (tape_rest rs) in omega arith
  where
    tape_rest : List (List ℕ) → List ℕ
    tape_rest rs = flat_map record_bytes rs

pub index_len : (plans : Plans) (n c q m : ℕ) → length (index_bytes c m (entries_for plans n c q)) ≡ 13 + 4 * n
unfolding entries_for
index_len plans n c q m =
    let long = long_index c m (map (entry_for plans c q) (range_with_len 0 n)) in
    let many = length-map-range_with_len (entry_for plans c q) 0 n in
    omega arith

marks_len : (plans : Plans) (n c q : ℕ) (marks : List Mark) (xs : List (List ℕ)) → slot_count marks ≤ length xs
    → length (tape_of (records_at_marks plans n c q marks xs)) ≡ length (tape_of (take (slot_count marks) xs)) + 5 * slot_count marks + index_count marks * (17 + 4 * n)
unfolding index_count records_at_marks slot_count
marks_len plans n c q [] xs enough = let none : 0 * (17 + 4 * n) ≡ 0 = omega arith in omega arith
marks_len plans n c q (IsIndex m ∷ marks) xs enough =
    let first = tape_len (index_bytes c m (entries_for plans n c q)) (records_at_marks plans n c (q + 1) marks xs) in
    let index = index_len plans n c q m in
    let rest = marks_len plans n c (q + 1) marks xs enough in
    let up = suc-mul (index_count marks) (17 + 4 * n) in
    omega arith
marks_len plans n c q (IsSlot o ∷ marks) [] enough = absurd (omega arith)
marks_len plans n c q (IsSlot o ∷ marks) (x ∷ xs) enough =
    let first = tape_len (data_bytes (wait_for plans c q) x) (records_at_marks plans n c (q + 1) marks xs) in
    let five = long_data (wait_for plans c q) x in
    let plain = tape_len x (take (slot_count marks) xs) in
    let rest = marks_len plans n c (q + 1) marks xs (omega arith) in
    omega arith

abbrev pub minors_from : Plans → ℕ → ℕ → ℕ
minors_from plans c k = sum_by (λ c. num_minors (get_or plans.programs (planned_edition plans c) no_disks).disks) (range_with_len c k)

cycles_len : (plans : Plans) (n c k : ℕ) (xs : List (List ℕ)) → slots_from plans c k ≡ length xs
    → length (tape_of (records_from plans n c k xs)) ≡ length (tape_of xs) + 5 * length xs + minors_from plans c k * (17 + 4 * n)
unfolding records_from
cycles_len plans n c zero [] counted = let none : 0 * (17 + 4 * n) ≡ 0 = omega arith in omega arith
cycles_len plans n c zero (x ∷ xs) counted = absurd (omega arith)
cycles_len plans n c (suc k) xs counted =
    let disks = (get_or plans.programs (planned_edition plans c) no_disks).disks in
    let here = length (planned_slots plans c) in
    let slots = sum_by-cons (λ c. length (planned_slots plans c)) c (range_with_len (c + 1) k) in
    let minors = sum_by-cons (λ c. num_minors (get_or plans.programs (planned_edition plans c) no_disks).disks) c (range_with_len (c + 1) k) in
    let count = count_cycle plans c in
    let indexes = index_marks disks in
    let left = length-drop here xs in
    let first = records_at_marks plans n c 0 (marks_at plans c) xs in
    let later = records_from plans n (c + 1) k (drop here xs) in
    let joined : length (tape_of (first ++ later)) ≡ length (tape_of first) + length (tape_of later) = ap length (tape_append first later) ∙ length-append (tape_of first) (tape_of later) in
    let here_len : length (tape_of first) ≡ length (tape_of (take here xs)) + 5 * here + num_minors disks * (17 + 4 * n) =
    marks_len plans n c 0 (marks_at plans c) xs (omega arith)
    ∙ ap (λ j. length (tape_of (take j xs)) + 5 * j + index_count (marks_at plans c) * (17 + 4 * n)) count ∙ ap (λ j. length (tape_of (take here xs)) + 5 * here + j * (17 + 4 * n)) indexes in
    let rest = cycles_len plans n (c + 1) k (drop here xs) (omega arith) in
    let whole : length (tape_of xs) ≡ length (tape_of (take here xs)) + length (tape_of (drop here xs)) =
    ap (λ l. length (tape_of l)) (sym (take-append-drop here xs)) ∙ ap length (tape_append (take here xs) (drop here xs)) ∙ length-append (tape_of (take here xs)) (tape_of (drop here xs)) in
    let sum : minors_from plans c (suc k) * (17 + 4 * n) ≡ num_minors disks * (17 + 4 * n) + minors_from plans (c + 1) k * (17 + 4 * n) =
    ap (λ j. j * (17 + 4 * n)) minors ∙ add-mul (num_minors disks) (minors_from plans (c + 1) k) (17 + 4 * n) in
    joined ∙ omega arith

pub piece_len : (plans : Plans) (n first cycles : ℕ) (xs : List (List ℕ)) → length xs ≡ slots_after plans first cycles
    → length (indexed_piece plans n first cycles xs) ≡ length (tape_of xs) + 5 * slots_after plans first cycles + minors_after plans first cycles * (17 + 4 * n)
piece_len plans n first cycles xs counted = cycles_len plans n (first + 1) cycles xs (sym counted) ∙ ap (λ k. length (tape_of xs) + 5 * k + minors_after plans first cycles * (17 + 4 * n)) counted

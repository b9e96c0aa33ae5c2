-- Pieces of an indexed tape: each asks for the buckets of its own cycles alone.
use Rattle.std.proofs.Common.{◌≡◌, ◌≤◌, ◌+◌, ◌++◌, ℕ, zero, suc, List, [], ◌∷◌, drop, get_or, length, refl, sym, ◌∙◌, ap, arith}
use Rattle.std.specs.List.{range_with_len}
use Rattle.std.proofs.lemmas.List.{drop-append-le, drop_at, length-drop}
use Rattle.std.proofs.lemmas.List.Sums.{sum_by-cons}
use Rattle.air_model.specs.Disks.{Disk}
use Rattle.air_model.specs.Programs.{num_minors, program}
use Rattle.air_model.specs.Tapes.{tape_of}
use Rattle.air_model.proofs.ProgramLemmas.{length_program}
use Rattle.chunk_program.specs.Editions.{Plans, no_disks, planned_edition, planned_slots}
use Rattle.air_index.specs.Indexes.{index_bytes}
use Rattle.air_index.specs.IndexedTapes.{entries_for, indexed_piece, records_at_marks, records_from, slots_after}
use Rattle.air_index.specs.OnAir.{IsIndex, IsSlot, Mark, marks_at, marks_of, wait_for}
use Rattle.air_index.specs.Records.{data_bytes}
use Rattle.air_index.proofs.BeamLemmas.{count_first, cycles_append, first_minors, slot_count, slots_from, tape_append}
use Rattle.air_index.proofs.MarkLemmas.{with_index}

-- A cycle has a mark of a slot for each of its slots.
count_marks : (disks : List Disk) → slot_count (marks_of disks) ≡ length (program disks)
unfolding marks_of first_minors with_index
count_marks disks = count_first disks (num_minors disks) ∙ sym (length_program disks)

pub count_cycle : (plans : Plans) (c : ℕ) → slot_count (marks_at plans c) ≡ length (planned_slots plans c)
count_cycle plans c = count_marks (get_or_disks plans c)
  where
    get_or_disks : Plans → ℕ → List Disk
    get_or_disks plans c = (get_or plans.programs (planned_edition plans c) no_disks).disks

-- Buckets after those of the slots aren't asked for.
marks_need : (plans : Plans) (n c q : ℕ) (marks : List Mark) (xs ys : List (List ℕ)) → slot_count marks ≤ length xs → records_at_marks plans n c q marks (xs ++ ys) ≡ records_at_marks plans n c q marks xs
unfolding records_at_marks slot_count
marks_need plans n c q [] xs ys enough = refl
marks_need plans n c q (IsIndex m ∷ marks) xs ys enough = ap (λ l. index_bytes c m (entries_for plans n c q) ∷ l) (marks_need plans n c (q + 1) marks xs ys enough)
marks_need plans n c q (IsSlot o ∷ marks) [] ys enough = absurd (omega arith)
marks_need plans n c q (IsSlot o ∷ marks) (x ∷ xs) ys enough = ap (λ l. data_bytes (wait_for plans c q) x ∷ l) (marks_need plans n c (q + 1) marks xs ys (omega arith))

cycles_need : (plans : Plans) (n c k : ℕ) (xs ys : List (List ℕ)) → slots_from plans c k ≤ length xs → records_from plans n c k (xs ++ ys) ≡ records_from plans n c k xs
unfolding records_from
cycles_need plans n c zero xs ys enough = refl
cycles_need plans n c (suc k) xs ys enough =
    let here = length (planned_slots plans c) in
    let rest = slots_from plans (c + 1) k in
    let sum : here + rest ≤ length xs = (let e = sum_by-cons (λ c. length (planned_slots plans c)) c (range_with_len (c + 1) k) in omega arith) in
    let left = length-drop here xs in
    let count = count_cycle plans c in
    ap (λ l. l ++ records_from plans n (c + 1) k (drop here (xs ++ ys))) (marks_need plans n c 0 (marks_at plans c) xs ys (omega arith))
    ∙ ap (λ l. records_at_marks plans n c 0 (marks_at plans c) xs ++ records_from plans n (c + 1) k l) (drop-append-le here xs ys (omega arith))
    ∙ ap (λ l. records_at_marks plans n c 0 (marks_at plans c) xs ++ l) (cycles_need plans n (c + 1) k (drop here xs) ys (omega arith))

pub pieces_are : (plans : Plans) (n first a b : ℕ) (xs ys : List (List ℕ)) → length xs ≡ slots_after plans first a
    → indexed_piece plans n first (a + b) (xs ++ ys) ≡ indexed_piece plans n first a xs ++ indexed_piece plans n (first + a) b ys
pieces_are plans n first a b xs ys counted =
    let on : first + 1 + a ≡ first + a + 1 = omega arith in
    ap tape_of
    (cycles_append plans n (first + 1) a b (xs ++ ys)
    ∙ ap (λ l. l ++ records_from plans n (first + 1 + a) b (drop (slots_after plans first a) (xs ++ ys))) (cycles_need plans n (first + 1) a xs ys (omega arith))
    ∙ ap (λ l. records_from plans n (first + 1) a xs ++ records_from plans n (first + 1 + a) b l) (drop_at xs ys (slots_after plans first a) counted)
    ∙ ap (λ c. records_from plans n (first + 1) a xs ++ records_from plans n c b ys) on)
    ∙ tape_append (records_from plans n (first + 1) a xs) (records_from plans n (first + a + 1) b ys)

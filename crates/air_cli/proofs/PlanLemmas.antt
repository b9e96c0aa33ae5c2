-- The disks of a deck's programs compared with those of the deck, the slots of a minor cycle compared with those of the program, and the rows of a
-- plan one after another.
use Rattle.std.proofs.Common.{◌≡◌, ℕ, zero, suc, ◌+◌, ◌*◌, ◌<◌, ◌≤◌, Option, Some, None, List, [], ◌∷◌, ◌++◌, length, map, take, drop, get_or, refl, sym, ap, ◌∙◌, append_assoc, zero-add, codes, subst, arith}
use Rattle.std.specs.Prelude.{IfSome}
use Rattle.std.specs.List.{enumerate_from, flat_map, range_with_len, slice_get}
use Rattle.std.proofs.lemmas.List.{append-nil, get_or-map, get_or_default, length-map, take_all, take_more}
use Rattle.std.proofs.lemmas.List.FromFn.{get_or-enumerate_from, get_or-range_with_len, length-enumerate_from, length-range_with_len}
use Rattle.std.proofs.lemmas.Grind.{flat_map-append}
use Rattle.std.proofs.lemmas.Option.{slice_get-get_or}
use Rattle.csv.specs.Writing.{row_text}
use Rattle.air_base.specs.Numbers.{number_text}
use Rattle.air_model.specs.Decks.{Deck, Item, Replan, disks_in, no_replan, rates_in, specs_in}
use Rattle.air_model.specs.Disks.{Disk, DiskSpec, all_items, cut, order}
use Rattle.air_model.specs.Programs.{chunk_len, minor_cycle, minor_len, num_chunks, num_minors, program}
use Rattle.air_model.specs.Airings.{slot_item}
use Rattle.air_model.specs.PlanTexts.{disk_row, edition_rows, item_row, minor_row, plan_rows, plan_text, program_row, replan_row, replan_rows}
use Rattle.air_model.specs.Outputs.{plan_output}
use Rattle.air_model.specs.Rows.{row_writer, rows_text}
use Rattle.air_model.proofs.SlotPlaces.{get_or_even, length_minor}
use Rattle.air_report.proofs.RowLemmas.{rows_more}
use Rattle.chunk_program.proofs.EditionSteps.{replan_specs_are}

-- ---- disks

-- A disk of an edition's program has the frequency that the deck says.
cut_freq : (items : List ℕ) (specs : List DiskSpec) (n f : ℕ) → IfSome (slice_get specs n) (λ spec. f ≡ spec.freq) → IfSome (slice_get (cut items specs) n) (λ disk. f ≡ disk.freq)
unfolding cut
cut_freq items [] n f h = h
cut_freq items (spec ∷ specs) zero f h = h
cut_freq items (spec ∷ specs) (suc n) f h = cut_freq (drop spec.size items) specs n f h

pub freq_of_disk : (d : Deck) (e n f : ℕ) → IfSome (slice_get (specs_in d e) n) (λ spec. f ≡ spec.freq) → IfSome (slice_get (disks_in d e) n) (λ disk. f ≡ disk.freq)
freq_of_disk d e n f h = cut_freq (order (rates_in d)) (specs_in d e) n f h

-- ---- slots

-- Slot j of minor cycle k.
pub minor_slot : (disks : List Disk) (k j : ℕ) → k < num_minors disks → j < minor_len (num_minors disks) disks
    → slot_item (program disks) (k * minor_len (num_minors disks) disks + j) ≡ get_or (minor_cycle (num_minors disks) disks k) j None
unfolding program
minor_slot disks k j minor slot =
    let m = num_minors disks in
    get_or_even (minor_cycle m disks) (minor_len m disks) 0 m k j None (length_minor m disks) minor slot ∙ ap (λ n. get_or (minor_cycle m disks n) j None) (zero-add k)

-- ---- rows

-- The row of a disk, from its numbers.
pub disk_text : (o : Option Disk) (m n f c l : ℕ) (before after : List ℕ) → IfSome o (λ disk. f ≡ disk.freq) → IfSome o (λ disk. c ≡ num_chunks m disk) → IfSome o (λ disk. l ≡ chunk_len m disk)
    → after ≡ before ++ row_text row_writer (codes "disk" ∷ map number_text (n ∷ f ∷ c ∷ l ∷ [])) → IfSome o (λ disk. after ≡ before ++ row_text row_writer (disk_row m (n, disk)))
disk_text None m n f c l before after freq chunks len told = tt
disk_text (Some disk) m n f c l before after freq chunks len told =
    told ∙ ap (λ f. before ++ row_text row_writer (codes "disk" ∷ map number_text (n ∷ f ∷ c ∷ l ∷ []))) freq
    ∙ ap (λ c. before ++ row_text row_writer (codes "disk" ∷ map number_text (n ∷ disk.freq ∷ c ∷ l ∷ []))) chunks
    ∙ ap (λ l. before ++ row_text row_writer (codes "disk" ∷ map number_text (n ∷ disk.freq ∷ num_chunks m disk ∷ l ∷ []))) len

-- An item of the deck is one of those of each edition's program.
pub held_item : (d : Deck) (e : ℕ) (disks : List Disk) (i : ℕ) → length (all_items (disks_in d e)) ≡ length d.items → disks ≡ disks_in d e → i < length d.items → i < length (all_items disks)
held_item d e disks i all same below = rw same (omega arith)

-- ---- rows one after another

-- What holds of the element at a place, if there is one.
some_at : {X : Type 0} (xs : List X) (i : ℕ) (e : X) (Q : X → Type 0) → i < length xs → IfSome (slice_get xs i) Q → Q (get_or xs i e)
some_at xs i e Q below h = subst (λ o. IfSome o Q) (slice_get-get_or xs i e below) h

-- One more row of an element with its place.
numbered_more : {X : Type 0} (row : ℕ × X → List (List ℕ)) (xs : List X) (i : ℕ) (e : X) (before now after : List ℕ) → i < length xs
    → now ≡ before ++ rows_text (map row (take i (enumerate_from 0 xs))) → after ≡ now ++ row_text row_writer (row (i, get_or xs i e))
    → after ≡ before ++ rows_text (map row (take (i + 1) (enumerate_from 0 xs)))
numbered_more {X} row xs i e before now after below told grew =
    let line : ℕ × X = (i, get_or xs i e) in
    let long = length-enumerate_from 0 xs in
    let here : get_or (enumerate_from 0 xs) i (i, e) ≡ line = get_or-enumerate_from 0 xs i (i, e) below ∙ ap (λ n. (n, get_or xs i e)) (zero-add i) in
    let inside : i < length (enumerate_from 0 xs) = omega arith in
    rows_more row (enumerate_from 0 xs) i line before now after inside (sym here ∙ get_or_default (enumerate_from 0 xs) i (i, e) line inside) told grew

-- One more disk.
pub disks_more : (m : ℕ) (disks : List Disk) (i : ℕ) (before now after : List ℕ) → i < length disks → now ≡ before ++ rows_text (map (disk_row m) (take i (enumerate_from 0 disks)))
    → IfSome (slice_get disks i) (λ disk. after ≡ now ++ row_text row_writer (disk_row m (i, disk))) → after ≡ before ++ rows_text (map (disk_row m) (take (i + 1) (enumerate_from 0 disks)))
disks_more m disks i before now after below told grew =
    let e : Disk = record { items = []; freq = 0 } in
    numbered_more (disk_row m) disks i e before now after below told
    (some_at disks i e (λ disk. after ≡ now ++ row_text row_writer (disk_row m (i, disk))) below grew)

-- One more item.
pub items_more : (disks : List Disk) (d : Deck) (i : ℕ) (before now after : List ℕ) → i < length d.items → now ≡ before ++ rows_text (map (item_row disks) (take i (enumerate_from 0 (rates_in d))))
    → IfSome (slice_get d.items i) (λ item. after ≡ now ++ row_text row_writer (item_row disks (i, item.rate)))
    → after ≡ before ++ rows_text (map (item_row disks) (take (i + 1) (enumerate_from 0 (rates_in d))))
items_more disks d i before now after below told grew =
    let e : Item = record { value = 0; rate = 0 } in
    let rate : (get_or d.items i e).rate ≡ get_or (rates_in d) i 0 = sym (get_or-map (λ item. item.rate) d.items i e 0 below) in
    numbered_more (item_row disks) (rates_in d) i 0 before now after (omega (arith, length-map d.items (λ item. item.rate))) told
    (some_at d.items i e (λ item. after ≡ now ++ row_text row_writer (item_row disks (i, item.rate))) below grew ∙ ap (λ r. now ++ row_text row_writer (item_row disks (i, r))) rate)

-- One more minor cycle.
pub minors_more : (disks : List Disk) (m k : ℕ) (before now after : List ℕ) → k < m → now ≡ before ++ rows_text (map (minor_row disks) (take k (range_with_len 0 m)))
    → after ≡ now ++ row_text row_writer (minor_row disks k) → after ≡ before ++ rows_text (map (minor_row disks) (take (k + 1) (range_with_len 0 m)))
minors_more disks m k before now after below told grew =
    rows_more (minor_row disks) (range_with_len 0 m) k k before now after (omega (arith, length-range_with_len 0 m)) (sym (get_or-range_with_len 0 m k k below ∙ zero-add k)) told grew

-- The rows of all elements, after the last is written.
pub all_rows : {L : Type 0} (row : L → List (List ℕ)) (lines : List L) (n : ℕ) (before now : List ℕ) → length lines ≤ n → now ≡ before ++ rows_text (map row (take n lines))
    → now ≡ before ++ rows_text (map row lines)
all_rows row lines n before now done told = told ∙ ap (λ l. before ++ rows_text (map row l)) (take_all n lines done)

rows_both : (xs ys : List (List (List ℕ))) → rows_text (xs ++ ys) ≡ rows_text xs ++ rows_text ys
unfolding rows_text
rows_both xs ys = flat_map-append (row_text row_writer) xs ys

rows_first : (row : List (List ℕ)) (rows : List (List (List ℕ))) → rows_text (row ∷ rows) ≡ row_text row_writer row ++ rows_text rows
unfolding rows_text
rows_first row rows = refl

-- The parts of an edition, written one after another.
pub edition_is : (disks : List Disk) (rates before program disk minor item : List ℕ) → program ≡ before ++ row_text row_writer (program_row disks)
    → disk ≡ program ++ rows_text (map (disk_row (num_minors disks)) (enumerate_from 0 disks))
    → minor ≡ disk ++ rows_text (map (minor_row disks) (range_with_len 0 (num_minors disks)))
    → item ≡ minor ++ rows_text (map (item_row disks) (enumerate_from 0 rates)) → item ≡ before ++ rows_text (plan_rows disks rates)
unfolding plan_rows
edition_is disks rates before program disk minor item is_program is_disk is_minor is_item =
    let A = program_row disks in
    let B = map (disk_row (num_minors disks)) (enumerate_from 0 disks) in
    let C = map (minor_row disks) (range_with_len 0 (num_minors disks)) in
    let D = map (item_row disks) (enumerate_from 0 rates) in
    let first : disk ≡ before ++ rows_text (A ∷ B) =
    is_disk ∙ ap (λ t. t ++ rows_text B) is_program ∙ append_assoc before (row_text row_writer A) (rows_text B) ∙ ap (λ t. before ++ t) (sym (rows_first A B)) in
    let second : minor ≡ before ++ rows_text ((A ∷ B) ++ C) =
    is_minor ∙ ap (λ t. t ++ rows_text C) first ∙ append_assoc before (rows_text (A ∷ B)) (rows_text C) ∙ ap (λ t. before ++ t) (sym (rows_both (A ∷ B) C)) in
    is_item ∙ ap (λ t. t ++ rows_text D) second ∙ append_assoc before (rows_text ((A ∷ B) ++ C)) (rows_text D) ∙ ap (λ t. before ++ t) (sym (rows_both ((A ∷ B) ++ C) D))

-- The row of a replan, and those of its edition.
pub replan_is : (d : Deck) (k cycle : ℕ) (before headed whole : List ℕ) → IfSome (slice_get d.replans k) (λ r. cycle ≡ r.cycle) → k < length d.replans
    → headed ≡ before ++ row_text row_writer (replan_row (k + 1) cycle) → whole ≡ headed ++ rows_text (edition_rows (rates_in d) (specs_in d (k + 1)))
    → IfSome (slice_get d.replans k) (λ r. whole ≡ before ++ rows_text (replan_rows (rates_in d) (k + 1, r)))
replan_is d k cycle before headed whole told below is_row is_rest =
    let r = get_or d.replans k no_replan in
    let at = slice_get-get_or d.replans k no_replan below in
    let A = replan_row (k + 1) r.cycle in
    let B = edition_rows (rates_in d) r.disks in
    let cycle_is : cycle ≡ r.cycle = some_at d.replans k no_replan (λ r. cycle ≡ r.cycle) below told in
    let head : headed ≡ before ++ row_text row_writer A = is_row ∙ ap (λ c. before ++ row_text row_writer (replan_row (k + 1) c)) cycle_is in
    let rest : whole ≡ headed ++ rows_text B = is_rest ∙ ap (λ specs. headed ++ rows_text (edition_rows (rates_in d) specs)) (sym (replan_specs_are d (k + 1) k r refl at)) in
    subst (λ o. IfSome o (λ (r : Replan). whole ≡ before ++ rows_text (replan_rows (rates_in d) (k + 1, r)))) (sym at)
    (rest ∙ ap (λ t. t ++ rows_text B) head ∙ append_assoc before (row_text row_writer A) (rows_text B) ∙ ap (λ t. before ++ t) (sym (rows_first A B)))

-- One more replan.
pub replans_more : (d : Deck) (k : ℕ) (before now after : List ℕ) → k < length d.replans
    → now ≡ before ++ rows_text (flat_map (replan_rows (rates_in d)) (take k (enumerate_from 1 d.replans)))
    → IfSome (slice_get d.replans k) (λ r. after ≡ now ++ rows_text (replan_rows (rates_in d) (k + 1, r)))
    → after ≡ before ++ rows_text (flat_map (replan_rows (rates_in d)) (take (k + 1) (enumerate_from 1 d.replans)))
replans_more d k before now after below told grew =
    let rows = replan_rows (rates_in d) in
    let xs = enumerate_from 1 d.replans in
    let line : ℕ × Replan = (k + 1, get_or d.replans k no_replan) in
    let long = length-enumerate_from 1 d.replans in
    let inside : k < length xs = omega arith in
    let here : get_or xs k (k, no_replan) ≡ line =
    get_or-enumerate_from 1 d.replans k (k, no_replan) below ∙ ap (λ n. (n, get_or d.replans k no_replan)) (let after_one : 1 + k ≡ k + 1 = omega arith in after_one) in
    let last : get_or xs k line ≡ line = sym (get_or_default xs k (k, no_replan) line inside) ∙ here in
    let more : take (k + 1) xs ≡ take k xs ++ line ∷ [] = take_more xs k line inside ∙ ap (λ l. take k xs ++ l ∷ []) last in
    let wrote : flat_map rows (take (k + 1) xs) ≡ flat_map rows (take k xs) ++ rows line =
    ap (flat_map rows) more ∙ flat_map-append rows (take k xs) (line ∷ []) ∙ ap (λ l. flat_map rows (take k xs) ++ l) (append-nil (rows line)) in
    some_at d.replans k no_replan (λ r. after ≡ now ++ rows_text (rows (k + 1, r))) below grew
    ∙ ap (λ t. t ++ rows_text (rows line)) told ∙ append_assoc before (rows_text (flat_map rows (take k xs))) (rows_text (rows line))
    ∙ ap (λ t. before ++ t) (sym (rows_both (flat_map rows (take k xs)) (rows line))) ∙ ap (λ l. before ++ rows_text l) (sym wrote)

-- The rows of all replans, after those of the last are written.
pub all_replans : (d : Deck) (n : ℕ) (before now : List ℕ) → length d.replans ≤ n
    → now ≡ before ++ rows_text (flat_map (replan_rows (rates_in d)) (take n (enumerate_from 1 d.replans)))
    → now ≡ before ++ rows_text (flat_map (replan_rows (rates_in d)) (enumerate_from 1 d.replans))
all_replans d n before now done told =
    let long = length-enumerate_from 1 d.replans in
    told ∙ ap (λ l. before ++ rows_text (flat_map (replan_rows (rates_in d)) l)) (take_all n (enumerate_from 1 d.replans) (omega arith))

-- The text of a deck's plan: the rows of the deck's own disks, then those of the replans.
pub plan_text_is : (d : Deck) (own whole : List ℕ) → own ≡ rows_text (edition_rows (rates_in d) d.disks)
    → whole ≡ own ++ rows_text (flat_map (replan_rows (rates_in d)) (enumerate_from 1 d.replans)) → whole ≡ plan_output d
unfolding plan_text
plan_text_is d own whole is_own is_whole =
    let R = flat_map (replan_rows (rates_in d)) (enumerate_from 1 d.replans) in
    is_whole ∙ ap (λ t. t ++ rows_text R) is_own ∙ sym (rows_both (edition_rows (rates_in d) d.disks) R)

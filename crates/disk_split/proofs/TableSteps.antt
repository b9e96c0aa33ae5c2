-- A row and a table as they are made: one more size, and what is added stays small.
use Rattle.std.proofs.Common.{◌≡◌, ◌≤◌, ◌<◌, ◌⊎◌, inl, inr, ◌+◌, ◌-◌, ◌*◌, ◌^◌, ◌==◌, ◌++◌, ℕ, zero, suc, Bool, true, false, Option, Some, None, List, [], ◌∷◌, length, drop, take, min, slice_index, refl, sym, subst, ap, ◌∙◌, arith}
use Rattle.std.specs.Prelude.{nat_lt, slice_index_or, if◌then◌else◌}
use Rattle.std.specs.List.{All}
use Rattle.std.proofs.Math.Nat.{mul-le-mul_right}
use Rattle.std.proofs.lemmas.Bool.{cases_lt}
use Rattle.std.proofs.lemmas.Bool.Decides.{nat_tests}
use Rattle.std.proofs.lemmas.List.{drop-drop, get_or_append_left, get_or_past, get_or_push, take_rest}
use Rattle.std.proofs.lemmas.Option.{none-some}
use Rattle.air_base.specs.declared.limits.TheConstants.{MOST_SLOTS}
use Rattle.disk_split.specs.Rests.{AreChunks, AreSums, IsSplitRest, chunk_slots, rates_from, weight_from}
use Rattle.disk_split.specs.Private.Tables.{HasCellsUpTo, IsCell, IsCellBelow, IsTableRow, IsTable, improved, lesser_weight_with}
use Rattle.disk_split.proofs.RestLemmas.{slots_few, weight_small}
use Rattle.disk_split.proofs.RowSteps.{all_below, below_one, last_later, last_none, last_zero, skipped, stepped}

-- The cells of a row, of the sizes whose first is below a number.
abbrev pub HaveCellsBelow : List ℕ → List ℕ → ℕ → ℕ → List (Option ℕ) → Type 0
HaveCellsBelow sums chunks from top row = (len : ℕ) → len < length row → IsCellBelow sums chunks from len top (slice_index_or row len None)

pub row_begins : (sums chunks : List ℕ) (from : ℕ) (row : List (Option ℕ)) → 0 < length chunks → ((len : ℕ) → len < length row → slice_index_or row len None ≡ None) → HaveCellsBelow sums chunks from 1 row
row_begins sums [] from row some none = absurd (omega arith)
row_begins sums (c ∷ cs) from row some none = λ len below. subst (IsCellBelow sums (c ∷ cs) from len 1) (sym (none len below)) (below_one sums cs c from len)

pub row_more : (sums chunks : List ℕ) (from width size : ℕ) (next : List (List (Option ℕ))) (old new : List (Option ℕ)) → 0 < length chunks → 1 ≤ size → from + size < length sums
    → IsTable sums (drop 1 chunks) width next → length old ≤ width → length new ≡ length old
    → ((len : ℕ) → len < length old → slice_index_or new len None
    ≡ improved (slice_index_or next (from + size) []) (chunk_slots (slice_index chunks 0) size) (slice_index chunks 0 * rates_from sums from size) len (slice_index_or old len None))
    → HaveCellsBelow sums chunks from size old → HaveCellsBelow sums chunks from (size + 1) new
row_more sums [] from width size next old new some full within table narrow long is before = absurd (omega arith)
row_more sums (c ∷ cs) from width size next old new some full within table narrow long is before = λ len below.
    subst (IsCellBelow sums (c ∷ cs) from len (size + 1)) (sym (is len (omega arith))) (by len (omega arith) (nat_lt len (chunk_slots c size)) refl)
  where
    by : (len : ℕ) → len < length old → (b : Bool) → nat_lt len (chunk_slots c size) ≡ b
        → IsCellBelow sums (c ∷ cs) from len (size + 1) (if b then slice_index_or old len None
        else lesser_weight_with (slice_index_or old len None) (slice_index_or (slice_index_or next (from + size) []) (len - chunk_slots c size) None) (c * rates_from sums from size))
    by len below true e = skipped sums cs c from len size (slice_index_or old len None) (before len below) (grind (arith, nat_tests))
    by len below false e =
        let room : chunk_slots c size ≤ len = grind (arith, nat_tests) in
        stepped sums cs c from len size (slice_index_or old len None) _ (before len below) full room ((table.each (from + size) within).cells (len - chunk_slots c size) (omega arith))

-- No sizes have more slots than items that are left.
past_all : (sums chunks : List ℕ) (from len : ℕ) → All (λ c. 1 ≤ c) chunks → length sums ≤ from + len → IsCell sums chunks from len None
past_all sums chunks from len some over = record {
  reached = λ w e. absurd (none-some w e);
  least = λ sizes rest slots. absurd (let few = slots_few sums chunks from sizes some rest in omega arith);
}

pub row_ends : (sums chunks : List ℕ) (from width top : ℕ) (row : List (Option ℕ)) → AreChunks chunks → 0 < length chunks → length sums ≤ from + top → length row ≡ min width (length sums - from)
    → HaveCellsBelow sums chunks from top row → IsTableRow sums chunks from width row
row_ends sums [] from width top row cut some over wide before = absurd (omega arith)
row_ends sums (c ∷ cs) from width top row cut some over wide before = record { narrow = omega arith; cells = λ len below. by len below (cases_lt len (length row)) }
  where
    by : (len : ℕ) → len < width → ((len < length row) ⊎ (length row ≤ len)) → IsCell sums (c ∷ cs) from len (slice_index_or row len None)
    by len below (inl inside) = all_below sums cs c from len top (slice_index_or row len None) over (before len inside)
    by len below (inr past) = subst (IsCell sums (c ∷ cs) from len) (sym (get_or_past row len None past)) (past_all sums (c ∷ cs) from len cut.some (omega arith))

-- The row of a place for no disk.
pub row_of_none : (sums : List ℕ) (from width : ℕ) (last : Bool) → 0 < width → (from + 1 == length sums) ≡ last → IsTableRow sums [] from width (if last then Some 0 ∷ [] else [])
row_of_none sums from width true some is = record { narrow = omega arith; cells = by }
  where
    by : (len : ℕ) → len < width → IsCell sums [] from len (slice_index_or (Some 0 ∷ []) len None)
    by zero below = last_zero sums from (grind (arith, nat_tests))
    by (suc len) below = last_later sums from (suc len) (omega arith)
row_of_none sums from width false some is = record { narrow = omega arith; cells = λ len below. last_none sums from len (λ e. other e is) }
  where
    other : from + 1 ≡ length sums → (from + 1 == length sums) ≡ false → ⊥
    other e is = grind (arith, nat_tests)

-- ---- small numbers
pub product_small : (c a : ℕ) → c ≤ MOST_SLOTS → a < 2 ^ 32 → c * a < 2 ^ 46
product_small c a few small = let grows : c * a ≤ MOST_SLOTS * a = mul-le-mul_right a few in omega arith

-- What a cell weighs stays small after one disk more.
cell_small : (sums cs : List ℕ) (c from size len weight : ℕ) (row : List (Option ℕ)) (width : ℕ) → AreSums sums → AreChunks (c ∷ cs) → 1 ≤ size → IsTableRow sums cs (from + size) width row
    → slice_index_or row len None ≡ Some weight → weight + c * rates_from sums from size < 2 ^ 46
unfolding IsSplitRest weight_from
cell_small sums cs c from size len weight row width are cut full is at = by (cases_lt len width)
  where
    by : ((len < width) ⊎ (width ≤ len)) → weight + c * rates_from sums from size < 2 ^ 46
    by (inl below) =
        let found = (is.cells len below).reached weight at in
        let all = weight_small sums (c ∷ cs) from (size ∷ found.0) are cut (full, found.1.rest) in let own = found.1.weighs in omega arith
    by (inr over) = absurd (none-some weight (sym (get_or_past row len None (let narrow = is.narrow in omega arith)) ∙ at))

pub row_room : (sums chunks : List ℕ) (from size width : ℕ) (row : List (Option ℕ)) → AreSums sums → AreChunks chunks → 0 < length chunks → 1 ≤ size → IsTableRow sums (drop 1 chunks) (from + size) width row
    → HasCellsUpTo (slice_index chunks 0 * rates_from sums from size) row
row_room sums [] from size width row are cut some full is = absurd (omega arith)
row_room sums (c ∷ cs) from size width row are cut some full is = λ len weight at. let small = cell_small sums cs c from size len weight row width are cut full is at in omega arith

-- ---- lists as they are made
-- What holds of each element at its place still holds after one more is added at the end.
pub each_more : {X : Type 0} (P : ℕ → X → Type 0) (xs new : List X) (x d : X) (n : ℕ) → length xs ≡ n → new ≡ xs ++ x ∷ [] → ((k : ℕ) → k < n → P k (slice_index_or xs k d)) → P n x
    → (k : ℕ) → k < n + 1 → P k (slice_index_or new k d)
each_more P xs new x d n long grew each last k below = by (cases_lt k n)
  where
    by : ((k < n) ⊎ (n ≤ k)) → P k (slice_index_or new k d)
    by (inl less) =
        let e : slice_index_or xs k d ≡ slice_index_or new k d = sym (ap (λ l. slice_index_or l k d) grew ∙ get_or_append_left xs (x ∷ []) d k (omega arith)) in
        subst (P k) e (each k less)
    by (inr more) =
        let same : n ≡ k = omega arith in
        let e : x ≡ slice_index_or new k d = sym (ap (λ l. slice_index_or l k d) grew ∙ get_or_push xs x d k (omega arith)) in
        subst (P k) e (subst (λ m. P m x) same last)

-- The chunks of the disks from one on, and of those after it.
pub tail_chunks : (chunks : List ℕ) (count : ℕ) → count < length chunks
    → drop 1 (take (length chunks - (length chunks - (count + 1))) (drop (length chunks - (count + 1)) chunks)) ≡ drop (length chunks - count) chunks
tail_chunks chunks count below =
    ap (drop 1) (take_rest chunks (length chunks - (count + 1))) ∙ drop-drop 1 (length chunks - (count + 1)) chunks
    ∙ ap (λ n. drop n chunks) (let e : length chunks - (count + 1) + 1 ≡ length chunks - count = omega arith in e)

-- What is left, one disk on: the least size with which the weight can be made up begins the sizes that come first.
use Rattle.std.proofs.Common.{◌≡◌, ◌≤◌, ◌<◌, ◌⊎◌, inl, inr, ◌+◌, ◌-◌, ◌++◌, ℕ, false, Option, Some, None, List, [], ◌∷◌, append_assoc, drop, length, slice_index, refl, sym, subst, ap, ◌∙◌, arith}
use Rattle.std.specs.Prelude.{slice_index_or}
use Rattle.std.proofs.lemmas.Bool.{cases_lt}
use Rattle.std.proofs.lemmas.Option.{same_Some}
use Rattle.disk_split.specs.declared.sizes.RestToPlace.{RestToPlace}
use Rattle.disk_split.specs.Splits.{is_before}
use Rattle.disk_split.specs.Rests.{IsFirst, IsSplitRest, IsRestOf, chunk_slots, minor_from, weight_from}
use Rattle.disk_split.specs.Private.RestsToPlace.{IsAfter, IsFirstSize, IsLeastRest}
use Rattle.disk_split.specs.Private.Tables.{HasCells, IsCell}
use Rattle.disk_split.proofs.Orders.{later_head, same_head}
use Rattle.disk_split.proofs.RestLemmas.{rest_within}
use Rattle.disk_split.proofs.RowSteps.{put_before}

abbrev rest_to_place : ℕ → ℕ → ℕ → RestToPlace
rest_to_place from slots weight = record { from = from; slots = slots; weight = weight }

module _ (sums cs : List ℕ) (c : ℕ) (next : List (List (Option ℕ))) (left : RestToPlace) (has : HasCells sums cs left.slots next) (least : IsLeastRest sums (c ∷ cs) left) where
  -- the first of any sizes that make up the weight is such a size
  pub can_take : (s : ℕ) (ss : List ℕ) → IsRestOf sums (c ∷ cs) left.from left.slots left.weight (s ∷ ss)
      → (1 ≤ s) × (left.from + s < length sums) × ((rest : RestToPlace) × IsAfter sums c next left s rest × (weight_from sums cs (left.from + s) ss ≡ rest.weight))
  unfolding IsSplitRest minor_from weight_from
  can_take s ss of =
      let within = rest_within sums cs (left.from + s) ss of.rest.1 in
      let room : chunk_slots c s ≤ left.slots = (let e = of.slots in omega arith) in
      let behind : minor_from cs ss ≡ left.slots - chunk_slots c s = (let e = of.slots in omega arith) in
      let cell = (has.table.each (left.from + s) within).cells (left.slots - chunk_slots c s) (let below = has.below in omega arith) in
      let found = cell.least ss of.rest.1 behind in
      let back = cell.reached found.0 found.1 in
      let whole = put_before sums cs c left.from left.slots s found.0 back.0 of.rest.0 room back.1 in
      let low = least.cell.least (s ∷ back.0) whole.rest whole.slots in
      let is = same_Some left.weight low.0 low.1 in
      let bound = low.2 in let weighs = whole.weighs in let own = of.weighs in let most = found.2 in
      (of.rest.0, within, (rest_to_place (left.from + s) (left.slots - chunk_slots c s) found.0, record { room = room; from = refl; slots = refl; cell = found.1; total = omega arith }, omega arith))

  -- some size makes up the weight
  pub some_size : (s : ℕ) × (1 ≤ s) × (left.from + s < length sums) × ((rest : RestToPlace) × IsAfter sums c next left s rest)
  unfolding IsSplitRest
  some_size = by (least.cell.reached left.weight refl)
    where
      by : (sizes : List ℕ) × IsRestOf sums (c ∷ cs) left.from left.slots left.weight sizes → (s : ℕ) × (1 ≤ s) × (left.from + s < length sums) × ((rest : RestToPlace) × IsAfter sums c next left s rest)
      by ([], of) = absurd of.rest
      by (s ∷ ss, of) = let t = can_take s ss of in (s, t.0, t.1, (t.2.0, t.2.1))

  module _ (size : ℕ) (rest : RestToPlace) (is : IsFirstSize sums c next left size rest) where
    pub least_after : IsLeastRest sums cs rest
    least_after =
        let a = is.after in
        let within = is.within in
        let below = has.below in
        let from = a.from in
        let at = (has.table.each (left.from + size) within).cells (left.slots - chunk_slots c size) (omega arith) in
        record {
          cell = rw (a.from, a.slots) (subst (IsCell sums cs (left.from + size) (left.slots - chunk_slots c size)) a.cell at);
          within = omega arith;
        }

    pub first_rest : (sizes : List ℕ) → IsFirst sums cs rest.from rest.slots rest.weight sizes → IsFirst sums (c ∷ cs) left.from left.slots left.weight (size ∷ sizes)
    unfolding IsSplitRest minor_from weight_from
    first_rest sizes first =
        let a = is.after in
        let of : IsRestOf sums cs (left.from + size) (left.slots - chunk_slots c size) rest.weight sizes = subst (λ n. IsRestOf sums cs n (left.slots - chunk_slots c size) rest.weight sizes) a.from (subst (λ n. IsRestOf sums cs rest.from n rest.weight sizes) a.slots first.is) in
        record {
          is = subst (λ n. IsRestOf sums (c ∷ cs) left.from left.slots n (size ∷ sizes)) a.total (put_before sums cs c left.from left.slots size rest.weight sizes is.filled a.room of);
          first = by;
        }
      where
        by : (other : List ℕ) → IsRestOf sums (c ∷ cs) left.from left.slots left.weight other → is_before other (size ∷ sizes) ≡ false
        by [] of = absurd of.rest
        by (s ∷ ss) of = cases (cases_lt s size) (cases_lt size s)
          where
            a : IsAfter sums c next left size rest
            a = is.after

            t : (1 ≤ s) × (left.from + s < length sums) × ((rest : RestToPlace) × IsAfter sums c next left s rest × (weight_from sums cs (left.from + s) ss ≡ rest.weight))
            t = can_take s ss of

            cases : ((s < size) ⊎ (size ≤ s)) → ((size < s) ⊎ (s ≤ size)) → is_before (s ∷ ss) (size ∷ sizes) ≡ false
            cases (inl less) o = absurd (is.first s t.0 less t.2.0 t.2.1)
            cases (inr o) (inl more) = later_head size s sizes ss more
            cases (inr o) (inr p) =
                let same : s ≡ size = omega arith in
                let place : left.from + s ≡ rest.from = ap (λ n. left.from + n) same ∙ sym a.from in
                let chunk : chunk_slots c s ≡ chunk_slots c size = ap (chunk_slots c) same in
                let cell = subst (λ n. slice_index_or (slice_index_or next (left.from + n) []) (left.slots - chunk_slots c n) None ≡ Some t.2.0.weight) same t.2.1.cell in
                let weight : t.2.0.weight ≡ rest.weight = same_Some t.2.0.weight rest.weight (sym cell ∙ a.cell) in
                let tail : IsRestOf sums cs rest.from rest.slots rest.weight ss = record {
                  rest = subst (λ n. IsSplitRest sums cs n ss) place of.rest.1;
                  slots = (let e = of.slots in let slots = a.slots in omega arith);
                  weighs = ap (λ n. weight_from sums cs n ss) (sym place) ∙ t.2.2 ∙ weight;
                } in
                subst (λ n. is_before (n ∷ ss) (size ∷ sizes) ≡ false) (sym same) (same_head size sizes ss (first.first ss tail))

-- ---- the sizes so far, before those of what is left
-- Nothing is left of no disk but no sizes.
pub none_rest : (sums : List ℕ) (left : RestToPlace) → IsLeastRest sums [] left → IsFirst sums [] left.from left.slots left.weight []
unfolding IsSplitRest
none_rest sums left least = record { is = by (least.cell.reached left.weight refl); first = λ other of. alone other of }
  where
    by : (sizes : List ℕ) × IsRestOf sums [] left.from left.slots left.weight sizes → IsRestOf sums [] left.from left.slots left.weight []
    by ([], of) = of
    by (s ∷ ss, of) = absurd of.rest

    alone : (other : List ℕ) → IsRestOf sums [] left.from left.slots left.weight other → is_before other [] ≡ false
    alone [] of = refl
    alone (s ∷ ss) of = absurd of.rest

-- ---- by the chunks of all disks from one on
pub some_first : (sums chunks : List ℕ) (next : List (List (Option ℕ))) (left : RestToPlace) → 0 < length chunks → HasCells sums (drop 1 chunks) left.slots next → IsLeastRest sums chunks left
    → (s : ℕ) × (1 ≤ s) × (left.from + s < length sums) × ((rest : RestToPlace) × IsAfter sums (slice_index chunks 0) next left s rest)
some_first sums [] next left some has least = absurd (omega arith)
some_first sums (c ∷ cs) next left some has least = some_size sums cs c next left has least

-- What is left after the first size; that size goes before the sizes that come first there.
pub step_rest : (sums chunks : List ℕ) (next : List (List (Option ℕ))) (left : RestToPlace) (size : ℕ) (rest : RestToPlace) → 0 < length chunks → HasCells sums (drop 1 chunks) left.slots next
    → IsLeastRest sums chunks left → IsFirstSize sums (slice_index chunks 0) next left size rest
    → IsLeastRest sums (drop 1 chunks) rest × ((after : List ℕ) → IsFirst sums (drop 1 chunks) rest.from rest.slots rest.weight after → IsFirst sums chunks left.from left.slots left.weight (size ∷ after))
step_rest sums [] next left size rest some has least is = absurd (omega arith)
step_rest sums (c ∷ cs) next left size rest some has least is = (least_after sums cs c next left has least size rest is, first_rest sums cs c next left has least size rest is)

-- There are no more slots left.
pub fewer_slots : (sums : List ℕ) (chunks : ℕ) (next : List (List (Option ℕ))) (left : RestToPlace) (size : ℕ) (rest : RestToPlace) → IsFirstSize sums chunks next left size rest → rest.slots ≤ left.slots
fewer_slots sums chunks next left size rest is = let slots = is.after.slots in omega arith

-- The size that was found is one more after those so far.
pub sizes_more : (sums cs : List ℕ) (from slots weight : ℕ) (sizes new after : List ℕ) (size : ℕ) → new ≡ sizes ++ size ∷ [] → IsFirst sums cs from slots weight (sizes ++ (size ∷ after)) → IsFirst sums cs from slots weight (new ++ after)
sizes_more sums cs from slots weight sizes new after size grew first =
    subst (IsFirst sums cs from slots weight) (sym (ap (λ l. l ++ after) grew ∙ append_assoc sizes (size ∷ []) after)) first

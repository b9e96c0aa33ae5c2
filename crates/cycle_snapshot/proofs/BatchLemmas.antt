-- Batches: their starts, their events, and how they change the board of a list.
use Rattle.std.proofs.Common.{◌≡◌, ℕ, ◌+◌, ◌<◌, ◌≤◌, ◌==◌, ◌&&◌, nat_lt, Bool, true, false, cond, List, [], ◌∷◌, ◌++◌, length, All, refl, sym, ap, ◌∙◌, arith, append_assoc, inl, inr}
use Rattle.std.proofs.lemmas.Bool.{cases_Bool, cond-true, cond-false, eq-eqb, ne_eqb}
use Rattle.std.proofs.lemmas.Bool.Decides.{leb_tells}
use Rattle.std.proofs.lemmas.List.{append-nil, flat_map_more}
use Rattle.std.proofs.lemmas.List.Sums.{sum_by-append, sum_by-cons}
use Rattle.std.proofs.lemmas.List.Elements.{All-head, All-tail}
use Rattle.std.proofs.lemmas.List.FromFn.{length-map-range_with_len}
use Rattle.air_history.specs.declared.histories.Event.{Event}
use Rattle.air_history.specs.declared.histories.Event.TheVariants.{Start}
use Rattle.air_history.specs.Histories.{is_start, starts, ItemsFit, events_in}
use Rattle.air_history.specs.Tables.{table, values_of, BasesRead}
use Rattle.air_history.specs.Boards.{Board, board_of}
use Rattle.control_matrix.specs.BoardSteps.{step_all, step_board}
use Rattle.control_matrix.proofs.BoardLemmas.{board_push}
use Rattle.cycle_snapshot.specs.Batches.{IsBatch}
use Rattle.cycle_snapshot.specs.Private.BoardRuns.{after_batch}

-- ---- starts

pub starts_append : (F G : List Event) → starts (F ++ G) ≡ starts F + starts G
unfolding starts
starts_append F G = sum_by-append (λ e. cond (is_start e) 1 0) F G

starts_none : starts [] ≡ 0
unfolding starts
starts_none = refl

starts_one : starts (Start ∷ []) ≡ 1
unfolding starts is_start
starts_one = refl

-- A batch has one start.
pub batch_starts : (n : ℕ) (batch : List Event) → IsBatch n batch → starts batch ≡ 1
batch_starts n batch h = ap starts h.ends.1 ∙ (let a = starts_append h.ends.0 (Start ∷ []) in let one = starts_one in let none = h.ends.2 in omega arith)

-- The events of batches have as many starts as there are batches.
pub starts_events : (n : ℕ) (bs : List (List Event)) → All (IsBatch n) bs → starts (events_in bs) ≡ length bs
starts_events n [] all = starts_none
starts_events n (b ∷ bs) all =
    let a = starts_append b (events_in bs) in
    let one = batch_starts n b (All-head (IsBatch n) b bs all) in
    let rest = starts_events n bs (All-tail (IsBatch n) b bs all) in
    omega arith

-- The events of batches and one more batch.
pub events_more : (bs : List (List Event)) (b : List Event) → events_in (bs ++ b ∷ []) ≡ events_in bs ++ b
events_more bs b = sym (flat_map_more (λ b. b) [] bs b)

-- ---- boards

pub board_values : (values : List ℕ) (G : List Event) → length (board_of values G).values ≡ length values
board_values values G = length-map-range_with_len (table (values_of values) G) 0 (length values)

-- The events F change the board of a list to that of the longer list.
pub board_all : (values : List ℕ) (G F : List Event) → All (ItemsFit (length values)) F → All BasesRead F → step_all (board_of values G) F ≡ board_of values (G ++ F)
board_all values G [] fits bases = ap (board_of values) (sym (append-nil G))
board_all values G (e ∷ F) fits bases =
    ap (λ b. step_all b F) (board_push values G e (All-head (ItemsFit (length values)) e F fits) (All-head BasesRead e F bases))
    ∙ board_all values (G ++ e ∷ []) F (All-tail (ItemsFit (length values)) e F fits) (All-tail BasesRead e F bases)
    ∙ ap (board_of values) (append_assoc G (e ∷ []) F)

-- ---- what a board takes

both_true : (a b : Bool) → a ≡ true → b ≡ true → (x y : Board) → cond (a && b) x y ≡ x
both_true true true p q x y = refl
both_true true false p q x y = absurd (cc (q))
both_true false b p q x y = absurd (cc (p))

first_false : (a b : Bool) → a ≡ false → (x y : Board) → cond (a && b) x y ≡ y
first_false true b q x y = absurd (cc (q))
first_false false b q x y = refl

second_false : (a b : Bool) → b ≡ false → (x y : Board) → cond (a && b) x y ≡ y
second_false true true q x y = absurd (cc (q))
second_false true false q x y = refl
second_false false b q x y = refl

lt_is : (m n : ℕ) → m < n → nat_lt m n ≡ true
lt_is m n h = grind (arith, leb_tells)

lt_not : (m n : ℕ) → n ≤ m → nat_lt m n ≡ false
lt_not m n h = grind (arith, leb_tells)

-- A batch for as many items as the board has changes the board, if one more cycle can be numbered.
pub batch_taken : (b : Board) (items : ℕ) (batch : List Event) → items ≡ length b.values → b.cycle < 4294967294 → after_batch b items batch ≡ step_all b batch
unfolding after_batch
batch_taken b items batch n c = both_true (items == length b.values) (nat_lt b.cycle 4294967294) (eq-eqb items (length b.values) n) (lt_is b.cycle 4294967294 c) (step_all b batch) b

-- A batch for another number of items leaves the board unchanged.
pub other_items : (b : Board) (items : ℕ) (batch : List Event) → (items ≡ length b.values → ⊥) → b ≡ after_batch b items batch
unfolding after_batch
other_items b items batch n = sym (first_false (items == length b.values) (nat_lt b.cycle 4294967294) (ne_eqb items (length b.values) n) (step_all b batch) b)

-- If no further cycle can be numbered, any batch leaves the board unchanged.
pub no_cycle : (b : Board) (items : ℕ) (batch : List Event) → 4294967294 ≤ b.cycle → b ≡ after_batch b items batch
unfolding after_batch
no_cycle b items batch n = sym (second_false (items == length b.values) (nat_lt b.cycle 4294967294) (lt_not b.cycle 4294967294 n) (step_all b batch) b)

-- ---- one event

-- An event keeps the number of values.
pub step_sized : (b : Board) (e : Event) → length (step_board b e).values ≡ length b.values
unfolding step_board
step_sized b e = length-map-range_with_len (table (values_of b.values) (e ∷ [])) 0 (length b.values)

-- An event raises the cycle by its starts.
pub step_cycle : (b : Board) (e : Event) → (step_board b e).cycle ≡ b.cycle + starts (e ∷ [])
unfolding step_board starts
step_cycle b e = elim (cases_Bool (is_start e)) as (λ _. cond (is_start e) (b.cycle + 1) b.cycle ≡ b.cycle + starts (e ∷ [])) [
  | inl start ↦ cond-true (is_start e) _ _ start ∙ (let one = cond-true {A = ℕ} (is_start e) 1 0 start in omega (arith, sum_by-cons (λ e. cond (is_start e) 1 0) e [], one))
  | inr commit ↦ cond-false (is_start e) _ _ commit ∙ (let none = cond-false {A = ℕ} (is_start e) 1 0 commit in omega (arith, sum_by-cons (λ e. cond (is_start e) 1 0) e [], none))
]

-- The frame of a beginning of a history that ends with a start shows the values at that cycle's start.
use Rattle.std.proofs.Common.{◌≡◌, ℕ, suc, ◌+◌, ◌%◌, ◌^◌, List, [], ◌∷◌, ◌++◌, length, refl, sym, ◌∙◌, ap, inl, inr, arith, append_assoc}
use Rattle.std.specs.Prelude.{sum}
use Rattle.std.specs.List.{range_with_len}
use Rattle.air_history.specs.declared.histories.Event.{Event}
use Rattle.air_history.specs.declared.histories.Event.TheVariants.{Commit, Start}
use Rattle.air_history.specs.Histories.{front, is_start, starts}
use Rattle.air_history.specs.Tables.{table, table_list, value_after, values_of, write_of}
use Rattle.air_history.specs.Boards.{frame_of}
use Rattle.air_model.specs.Reports.{total_at}
use Rattle.air_model.specs.declared.reports.LookLine.{LookLine}
use Rattle.air_model.proofs.StartLemmas.{starts_append, starts_commit, starts_none, starts_one, starts_start}
use Rattle.air_model.specs.MonitorSights.{EndsAtStart, IsSeen}
use Rattle.air_model.proofs.AiringLemmas.{map_same}

-- The front of the cycle that a start begins is what comes before the start
front_here : (F after : List Event) → front (F ++ Start ∷ after) (suc (starts F)) ≡ F
unfolding front is_start
front_here [] after = ap (λ n. front (Start ∷ after) (suc n)) starts_none
front_here (Start ∷ F) after =
    let more : starts (Start ∷ F) ≡ suc (starts F) = let one = starts_start F in omega arith in
    ap (λ n. front (Start ∷ (F ++ Start ∷ after)) (suc n)) more ∙ ap (λ G. Start ∷ G) (front_here F after)
front_here (Commit by seq u ∷ F) after =
    let same = starts_commit F (Commit by seq u) refl in
    ap (λ n. front (Commit by seq u ∷ (F ++ Start ∷ after)) (suc n)) same ∙ ap (λ G. Commit by seq u ∷ G) (front_here F after)

-- A start changes no value
table_start : (V : ℕ → ℕ) (F : List Event) (i : ℕ) → table V (F ++ Start ∷ []) i ≡ table V F i
unfolding table value_after write_of
table_start V [] i = refl
table_start V (e ∷ F) i = table_start (value_after V e) F i

table_list_start : (values : List ℕ) (F : List Event) → table_list values (F ++ Start ∷ []) ≡ table_list values F
table_list_start values F = map_same (table (values_of values) (F ++ Start ∷ [])) (table (values_of values) F) (range_with_len 0 (length values)) (table_start (values_of values) F)

front_none : (H : List Event) → front H 0 ≡ []
unfolding front
front_none [] = refl
front_none (e ∷ H) = refl

pub frame : (values : List ℕ) (G after : List Event) (line : LookLine) → EndsAtStart G → line.cycle ≡ (frame_of values G).cycle → line.total ≡ (frame_of values G).total → IsSeen values (G ++ after) line
unfolding total_at
frame values G after line (inl none) at same = record {
  cycle = let both = starts_append G after in omega arith;
  total = same ∙ ap (λ F. sum (table_list values F) % 2 ^ 64) (none ∙ sym (front_none (G ++ after)) ∙ ap (front (G ++ after)) (sym (at ∙ ap starts none ∙ starts_none)));
}
frame values G after line (inr (F, is)) at same =
    let long : starts G ≡ suc (starts F) = ap starts is ∙ starts_append F (Start ∷ []) ∙ ap (λ n. starts F + n) starts_one ∙ omega arith in
    let there : front (G ++ after) line.cycle ≡ F =
    ap (front (G ++ after)) (at ∙ long) ∙ ap (λ L. front L (suc (starts F))) (ap (λ L. L ++ after) is ∙ append_assoc F (Start ∷ []) after) ∙ front_here F after in
    record {
      cycle = let both = starts_append G after in omega arith;
      total = same ∙ ap (λ l. sum l % 2 ^ 64) (ap (table_list values) is ∙ table_list_start values F ∙ ap (table_list values) (sym there));
    }

-- How one more event changes the vector.
use Rattle.std.proofs.Common.{◌≡◌, ℕ, Bool, true, false, cond, List, [], ◌∷◌, ◌++◌, length, Option, Some, None, refl, ◌∙◌, ap, arith}
use Rattle.air_history.specs.declared.histories.Event.{Event}
use Rattle.air_history.specs.Histories.{writer, writes, cycle_at}
use Rattle.air_history.specs.Columns.{vector_entry}
use Rattle.air_history.proofs.StaleLemmas.{cycle_of}
use Rattle.air_history.proofs.StepLemmas.{writer_after, old_writer_below, cycle_append}

old_cycle_of : (G : List Event) (e : Event) (i : ℕ) (o : Option ℕ) → writer G i ≡ o → cycle_of (G ++ e ∷ []) o ≡ cycle_of G o
old_cycle_of G e i None h = refl
old_cycle_of G e i (Some w) h = let lt = old_writer_below G e i w h in cycle_append G (e ∷ []) w (omega arith)

new_cycle_of : (G : List Event) (e : Event) (i : ℕ) (b : Bool) → cycle_of (G ++ e ∷ []) (cond b (Some (length G)) (writer G i)) ≡ cond b (cycle_at G (length G)) (cycle_of G (writer G i))
new_cycle_of G e i true = cycle_append G (e ∷ []) (length G) (omega arith)
new_cycle_of G e i false = old_cycle_of G e i (writer G i) refl

pub vector_step : (G : List Event) (e : Event) (i : ℕ) → vector_entry (G ++ e ∷ []) i ≡ cond (writes e i) (cycle_at G (length G)) (vector_entry G i)
unfolding vector_entry
vector_step G e i = ap (cycle_of (G ++ e ∷ [])) (writer_after G e i) ∙ new_cycle_of G e i (writes e i)

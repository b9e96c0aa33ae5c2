-- A history that a deck of two items allows: starts alone.
use Rattle.std.proofs.Common.{◌≡◌, ℕ, zero, suc, [], ◌∷◌, Some}
use Rattle.std.specs.Prelude.{slice_get}
use Rattle.air_history.specs.UpdateLists.{UpdateLists}
use Rattle.air_history.specs.declared.histories.Event.TheVariants.{Commit, Start}
use Rattle.air_model.specs.Decks.{IsLegal}
use Rattle.air_model.proofs.SessionExamples.{pair}

-- Two starts are legal for the deck.
starts_alone : IsLegal pair (Start ∷ Start ∷ [])
starts_alone p by seq update there = absurd (no_commit p by seq update there)
  where
    no_commit : (p by seq : ℕ) (update : UpdateLists) → slice_get (Start ∷ Start ∷ []) p ≡ Some (Commit by seq update) → ⊥
    no_commit zero by seq update e = cc
    no_commit (suc zero) by seq update e = cc
    no_commit (suc (suc p)) by seq update e = cc

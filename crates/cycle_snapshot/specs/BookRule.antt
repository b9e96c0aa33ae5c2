-- The rule of the book of batches, and what its one step tells.
use Rattle.std.specs.Prelude.{ℕ, ◌≡◌, ◌==◌, true, List, [], ◌∷◌, ◌++◌, length, MatchBool}
use Rattle.logbook.specs.Pages.{Cell, Step, View, Book, Named}
use Rattle.cycle_snapshot.specs.declared.batches.Batch.{Batch}

-- The first word is the number of batches.
abbrev pub IsCounted : List Cell → List Batch → Type 0
IsCounted cells log = cells ≡ (length log, true) ∷ (0, true) ∷ []

-- The word that counts the batches of a book.
abbrev pub batch_counter : Book → Named
batch_counter book = record { tracked = true; key = 0; book = book }

-- If the word had the value that was seen before, the batch was added to all that had been seen; otherwise the list is longer.
abbrev pub AddsToBook : Step Batch → View Batch ℕ → ℕ → View Batch ℕ → Type 0
AddsToBook step before found after = MatchBool (found == step.old) (after.0 ≡ before.0 ++ step.ask ∷ []) (Unit {0})

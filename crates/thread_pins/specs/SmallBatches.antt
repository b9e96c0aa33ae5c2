-- Small updates, and two batches of them over two items, for the pins of threads.
use Rattle.std.specs.Prelude.{ℕ, List, [], ◌∷◌, Some, None, false}
use Rattle.air_history.specs.declared.histories.Event.{Event}
use Rattle.air_history.specs.declared.histories.Event.TheVariants.{Commit, Start}
use Rattle.air_history.specs.UpdateLists.{UpdateLists}

-- The first values: their sum is 19 modulo 2^64.
abbrev pub first_values : List ℕ
first_values = 18_446_744_073_709_551_615 ∷ 20 ∷ []

-- An update that reads one item, and makes an item of it by adding this amount.
abbrev pub adds_to : ℕ → ℕ → ℕ → UpdateLists
adds_to item base amount = record { reads = base ∷ []; writes = record { item = item; base = Some base; minus = false; amount = amount } ∷ [] }

-- An update that reads one item, and sets another: no write needs the read.
abbrev pub reads_and_sets : ℕ → ℕ → ℕ → UpdateLists
reads_and_sets read item amount = record { reads = read ∷ []; writes = record { item = item; base = None; minus = false; amount = amount } ∷ [] }

-- Item 1 becomes 25, before cycle 1.
abbrev pub first_batch : List Event
first_batch = Commit 0 0 (adds_to 1 1 5) ∷ Start ∷ []

-- Item 1 becomes item 0 and 3 more, which is 2; then item 0 becomes item 1 and 1 more; both in cycle 1.
abbrev pub second_batch : List Event
second_batch = Commit 1 0 (adds_to 1 0 3) ∷ Commit 0 1 (adds_to 0 1 1) ∷ Start ∷ []

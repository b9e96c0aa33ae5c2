-- Small histories.
use Rattle.std.specs.Prelude.{ℕ, List, [], ◌∷◌}
use Rattle.air_history.specs.declared.histories.Event.{Event}
use Rattle.air_history.specs.declared.histories.Event.TheVariants.{Commit, Start}
use Rattle.core_pins.specs.Commits.{set_to, add_to, commit}

-- Item 0 becomes 11, item 2 becomes item 0 plus 1, and item 1 becomes item 2 plus 1; all in cycle 1.
abbrev pub chain : List Event
chain = Start ∷ commit 0 [] (set_to 0 11) ∷ commit 1 (0 ∷ []) (add_to 2 0 1) ∷ commit 2 (2 ∷ []) (add_to 1 2 1) ∷ Start ∷ []

-- The items 0 and 1 exchange their values.
abbrev pub exchange : Event
exchange = Commit 0 0 (record { reads = 0 ∷ 1 ∷ []; writes = add_to 0 1 0 ∷ add_to 1 0 0 ∷ [] })

-- As many items as an update may read.
abbrev pub sixteen : List ℕ
sixteen = 0 ∷ 1 ∷ 2 ∷ 3 ∷ 4 ∷ 5 ∷ 6 ∷ 7 ∷ 8 ∷ 9 ∷ 10 ∷ 11 ∷ 12 ∷ 13 ∷ 14 ∷ 15 ∷ []

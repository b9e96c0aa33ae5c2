-- Small boards, computed: what the step gives for them.
use Rattle.std.specs.Prelude.{◌≡◌, [], ◌∷◌, refl}
use Rattle.air_history.specs.declared.histories.Event.TheVariants.{Start}
use Rattle.air_history.specs.Places.{greatest_of}
use Rattle.air_history.specs.Histories.{is_start, reads, writes}
use Rattle.air_history.specs.Tables.{value_on_base, write_of, value_after, table}
use Rattle.air_history.specs.Boards.{Board}
use Rattle.air_history.proofs.HistoryExamples.{set_to, add_to, commit}
use Rattle.control_matrix.specs.Columns.{columns_in}
use Rattle.control_matrix.specs.BoardSteps.{step_board}

-- A board of two items in cycle 2, of which item 1 was written in cycle 1 from item 0.
abbrev pair : Board
pair = record {
  cycle = 2;
  values = 11 ∷ 12 ∷ [];
  columns = (1 ∷ 0 ∷ []) ∷ (1 ∷ 1 ∷ []) ∷ [];
  vector = 1 ∷ 1 ∷ [];
}

columns_of_a_flat_list : columns_in 2 (1 ∷ 2 ∷ 3 ∷ 4 ∷ []) ≡ (1 ∷ 2 ∷ []) ∷ (3 ∷ 4 ∷ []) ∷ []
columns_of_a_flat_list = refl

a_start_changes_the_cycle : step_board pair Start ≡ record { cycle = 3; values = pair.values; columns = pair.columns; vector = pair.vector }
unfolding step_board is_start writes table value_after write_of
a_start_changes_the_cycle = refl

a_blind_write_clears_its_column : step_board pair (commit 0 [] (set_to 1 5)) ≡ record {
  cycle = 2;
  values = 11 ∷ 5 ∷ [];
  columns = (1 ∷ 0 ∷ []) ∷ (0 ∷ 2 ∷ []) ∷ [];
  vector = 1 ∷ 2 ∷ [];
}
unfolding step_board is_start reads writes greatest_of table value_after write_of value_on_base
a_blind_write_clears_its_column = refl

an_update_may_read_what_it_writes : step_board pair (commit 0 (1 ∷ []) (add_to 1 1 1)) ≡ record {
  cycle = 2;
  values = 11 ∷ 13 ∷ [];
  columns = (1 ∷ 0 ∷ []) ∷ (1 ∷ 2 ∷ []) ∷ [];
  vector = 1 ∷ 2 ∷ [];
}
unfolding step_board is_start reads writes greatest_of table value_after write_of value_on_base
an_update_may_read_what_it_writes = refl

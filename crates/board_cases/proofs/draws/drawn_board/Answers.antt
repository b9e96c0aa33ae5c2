use Rattle.std.proofs.Common.{◌≡◌, [], ◌∷◌, length, ap, ◌∙◌}
use Rattle.std.proofs.lemmas.List.FromFn.{length-map-range_with_len}
use Rattle.air_history.specs.declared.histories.Event.{Event}
use Rattle.air_history.specs.Boards.{Board}
use Rattle.air_history.specs.Tables.{table, values_of}
use Rattle.control_matrix.specs.BoardSteps.{step_board}
use Rattle.board_cases.proofs.draws.drawn_board.Goals as goal
use Rattle.board_cases.proofs.draws.drawn_board.Goals.{then-fits+then-cycle-lt4294967295, else-fits}

-- An event keeps the number of values.
sized : (b : Board) (e : Event) → length (step_board b e).values ≡ length b.values
unfolding step_board
sized b e = length-map-range_with_len (table (values_of b.values) (e ∷ [])) 0 (length b.values)

pub loop-preserved : goal.loop-preserved
loop-preserved c =
    elim c.if-fits.branch as (λ _. length c.if-fits.board.values ≡ c.args.n) [
      | then-fits+then-cycle-lt4294967295 w ↦
          ap (λ (b : Board). length b.values) w.board-is ∙ ap (λ (b : Board). length b.values) w.apply.ensures.stepped ∙ sized c.loop.board c.in_ok-event.event ∙ c.loop.invariant
      | else-fits w ↦ ap (λ (b : Board). length b.values) w.board-is ∙ c.loop.invariant
    ]

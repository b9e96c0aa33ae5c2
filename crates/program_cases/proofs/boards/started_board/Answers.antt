use Rattle.std.proofs.Common.{rules, sym, subst}
use Rattle.std.specs.Prelude.{IsTrue}
use Rattle.air_sender.specs.BoardBuckets.{EntriesBelow, spread}
use Rattle.group_matrix.specs.GroupBoards.{grouped}
use Rattle.program_cases.proofs.boards.started_board.Goals as goal

pub returns-clause-below : goal.returns-clause-below
returns-clause-below c =
    let applied : IsTrue c.apply-2.result = search rules in
    let i = c.loop-part.invariant in
    subst EntriesBelow (sym (c.apply-2.ensures applied c.in_ok-values.values.items i.0 i.1)) (c.below_law.ensures c.in_ok-values.values.items i.0)

pub returns-clause-groups_below : goal.returns-clause-groups_below
returns-clause-groups_below c =
    let applied : IsTrue c.apply-2.result = search rules in
    let i = c.loop-part.invariant in
    λ g pos. subst (λ b. EntriesBelow (spread (grouped g b))) (sym (c.apply-2.ensures applied c.in_ok-values.values.items i.0 i.1)) (c.groups_below_law.ensures g c.in_ok-values.values.items i.0 pos)

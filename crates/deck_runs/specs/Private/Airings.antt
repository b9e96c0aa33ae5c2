-- For private steps alone. What a cycle is aired from: the board itself, or its groups.
use Rattle.std.specs.Prelude.{◌≡◌, ◌≤◌, ℕ, length}
use Rattle.air_base.specs.declared.verdicts.Form.{Form}
use Rattle.air_base.specs.declared.verdicts.Policy.TheVariants.{FMatrix}
use Rattle.air_history.specs.Boards.{Board}
use Rattle.group_matrix.specs.GroupBoards.{GroupBoard, grouped}
use Rattle.deck_runs.specs.declared.jobs.airings.WithoutGroups.{WithoutGroups}

-- The groups have this number of items, and are aired in this form.
abbrev pub SuitGroups : GroupBoard → ℕ → Form → Type 0
SuitGroups groups n form = (length groups.values ≡ n) × (1 ≤ groups.group) × (form.policy ≡ FMatrix)

-- The groups are those of the board.
abbrev pub AreFilled : GroupBoard → Board → Type 0
AreFilled groups board = groups ≡ grouped groups.group board

-- ---- without groups

-- There is no group.
abbrev pub no_group : WithoutGroups → ℕ
no_group w = 0

-- The board itself has any number of items, and is aired in any form.
abbrev pub AirsAny : WithoutGroups → ℕ → Form → Type 0
AirsAny w n form = Unit {0}

-- The board itself needs no filling.
abbrev pub IsItself : WithoutGroups → Board → Type 0
IsItself w board = Unit {0}

-- What is aired is the board.
abbrev pub itself : WithoutGroups → Board → Board
itself w board = board

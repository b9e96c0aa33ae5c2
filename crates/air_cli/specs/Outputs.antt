-- What a command leaves in its output: all bytes, or the first of them if a write failed. Facts about bytes are stated for what the shelf tells; over
-- real files nothing is told.
use Rattle.std.specs.Prelude.{◌≡◌, ℕ, ◌⊎◌, List, Option, Some, None, take, ⊤}
use Rattle.air_devices.specs.Counts.{Rose}
use Rattle.air_devices.specs.Shelves.{ShelfState}
use Rattle.air_devices.specs.WhatIsTold.{Becomes}

-- The output of this name, if one is named, holds exactly these bytes.
abbrev pub OutputHolds : Option (List ℕ) → List ℕ → ShelfState → ShelfState → Type 0
OutputHolds None bytes before now = ⊤
OutputHolds (Some name) bytes before now = Becomes (before.told.output name) (now.told.output name) bytes

-- The output of this name is as it was, or holds the first of these bytes.
abbrev pub OutputHoldsBeginning : List ℕ → List ℕ → ShelfState → ShelfState → Type 0
OutputHoldsBeginning name bytes before now =
    (now.told.output name ≡ before.told.output name) ⊎ ((n : ℕ) × Becomes (before.told.output name) (now.told.output name) (take n bytes))

-- Writing the named output failed: it is as it was, or holds the first of these bytes.
pub record OutputFails (output : Option (List ℕ)) (bytes : List ℕ) (before now : ShelfState) : Type 0 where
  pub name : List ℕ
  pub named : output ≡ Some name
  pub rose : Rose (before.faults.writing name) (now.faults.writing name)
  pub written : OutputHoldsBeginning name bytes before now

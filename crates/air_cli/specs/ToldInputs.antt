-- What shelves tell of the files that a command reads, and for which commands these files decide the output.
use Rattle.std.specs.Prelude.{◌≡◌, ℕ, List, Option, Some, ⊤}
use Rattle.air_devices.specs.Shelves.{ShelfState}
use Rattle.air_cli.specs.Meanings.{Meaning}
use Rattle.air_cli.specs.Words.{Request, AsksCast, AsksListen, AsksRun}

-- Each named input is told.
abbrev pub TellsInputs : Meaning → ShelfState → Type 0
TellsInputs command shelf = (name : List ℕ) → command.IsInput name → (bytes : List ℕ) × (shelf.told.file name ≡ Some bytes)

-- Both shelves tell each named input, with the same bytes.
abbrev pub TellSameInputs : Meaning → ShelfState → ShelfState → Type 0
TellSameInputs command one other =
    (name : List ℕ) → command.IsInput name → (bytes : List ℕ) × (one.told.file name ≡ Some bytes) × (other.told.file name ≡ Some bytes)

-- Only the inputs decide what is given. They don't if threads make one of many histories, or if an ear is heard.
abbrev pub IsDecided : Option Request → Type 0
IsDecided (Some (AsksRun deck tape)) = ⊥
IsDecided (Some (AsksCast deck port)) = ⊥
IsDecided (Some (AsksListen deck port)) = ⊥
IsDecided other = ⊤

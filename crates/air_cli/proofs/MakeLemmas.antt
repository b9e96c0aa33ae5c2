-- What holds for every command, whether it made something or not.
use Rattle.std.proofs.Common.{◌≡◌, ℕ, List, refl, sym, subst, inl, inr}
use Rattle.std.specs.Prelude.{◌≢◌, ◌⊎◌}
use Rattle.std.specs.Io.KnownBytes.{IsAtEnd}
use Rattle.air_devices.specs.Counts.{KeepsCounts}
use Rattle.air_devices.specs.Shelves.{ShelfState}
use Rattle.air_report.specs.declared.status.Status.{Status}
use Rattle.air_report.specs.declared.status.Status.TheVariants as status
use Rattle.air_cli.specs.Meanings.{Meaning}
use Rattle.air_cli.specs.Private.BeforeDelivery.{IsUnmade}

-- There is a cause, and every count is as it was unless a read failed.
pub is_unmade : (command : Meaning) (before now : ShelfState) (s : Status) → command.Refuses before now s → (s ≢ status.ReadFault → KeepsCounts before.faults now.faults)
    → IsUnmade command before now s
is_unmade command before now s cause kept = record { cause = λ some. cause; kept = kept }

-- There is a cause, and every count is as it was.
pub is_unmade_calm : (command : Meaning) (before now : ShelfState) (s : Status) → command.Refuses before now s → KeepsCounts before.faults now.faults → IsUnmade command before now s
is_unmade_calm command before now s cause calm = record { cause = λ some. cause; kept = λ read. calm }

-- Out of memory needs no cause.
pub wanting : (command : Meaning) (before now : ShelfState) → KeepsCounts before.faults now.faults → IsUnmade command before now status.NoMemory
wanting command before now calm = record { cause = λ some. absurd (some refl); kept = λ read. calm }

-- The one file that it names was read to its end.
pub one_end : (now : ShelfState) (deck name : List ℕ) → IsAtEnd (now.told.left deck) → name ≡ deck → IsAtEnd (now.told.left name)
one_end now deck name end same = subst (λ input. IsAtEnd (now.told.left input)) (sym same) end

-- Both files were.
pub both_ends : (now : ShelfState) (deck other name : List ℕ) → IsAtEnd (now.told.left deck) → IsAtEnd (now.told.left other) → (name ≡ deck) ⊎ (name ≡ other) → IsAtEnd (now.told.left name)
both_ends now deck other name first second (inl same) = one_end now deck name first same
both_ends now deck other name first second (inr same) = one_end now other name second same

-- Reading a named file: what it changes, regardless of its answer, and why the file could not be read.
use Rattle.std.specs.Prelude.{◌≡◌, ◌≢◌, ℕ, List, Result, IfErr, OnOk, ⊤}
use Rattle.std.specs.Io.KnownBytes.{IsAtEnd}
use Rattle.air_devices.specs.Counts.{KeepsCounts, NoCountFalls, Rose}
use Rattle.air_devices.specs.Unchanged.{KeepsButLeft}
use Rattle.air_devices.specs.Reading.{IsTooLarge}
use Rattle.air_devices.specs.WhatIsTold.{ToldIs}
use Rattle.air_devices.specs.Shelves.{ShelfState}
use Rattle.air_report.specs.declared.status.Status.{Status}
use Rattle.air_report.specs.declared.status.Status.TheVariants as status

-- If it isn't refused, the named file was read to its end. Nothing told changes except for what is left of this file. No count of faults goes down,
-- and none goes up unless reading failed.
pub record ReadsInput {T : Type 0} (name : List ℕ) (result : Result T Status) (before now : ShelfState) : Type 0 where
  pub end : OnOk result (IsAtEnd (now.told.left name))
  pub calm : OnOk result (KeepsCounts before.faults now.faults)
  pub kept : IfErr result (λ s. s ≢ status.ReadFault → KeepsCounts before.faults now.faults)
  pub rest : KeepsButLeft name before.told now.told
  pub later : NoCountFalls before.faults now.faults

-- Some bytes have this property. If the named file is told, these are its bytes.
abbrev pub HasBytes : List ℕ → ShelfState → (List ℕ → Type 0) → Type 0
HasBytes name before P = (bytes : List ℕ) × ToldIs (before.told.file name) bytes × P bytes

-- Why the named file could not be read: reading it failed, or it has more bytes than the limit, and was read up to one byte more.
unfoldable pub UnreadCause : List ℕ → ℕ → ShelfState → ShelfState → Status → Type 0
UnreadCause name most before now status.ReadFault = Rose (before.faults.reading name) (now.faults.reading name)
UnreadCause name most before now (status.TooLarge limit) = (limit ≡ most) × IsTooLarge most name before.told now.told
UnreadCause name most before now status.NoMemory = ⊤
UnreadCause name most before now other = ⊥

-- What a shelf over files keeps of its last call that failed.
use Rattle.std.specs.Prelude.{◌≡◌, ◌≤◌, ℕ, List, length, take, Option, Some, IfSome, Result, OnErr, OnOk}
use Rattle.std.specs.Option.{option_map}
use Rattle.air_devices.specs.declared.system.file_failures.FileCall.{FileCall}
use Rattle.air_devices.specs.declared.system.file_failures.FileFailure.{FileFailure}
use Rattle.air_devices.specs.declared.system.file_failures.TheConstants.{NAME_ROOM}

-- The failure that is kept is one of this call, which was given this name. The name is kept whole if there is room, and
-- otherwise its beginning is.
pub record IsLastFailure (call : FileCall) (name : List ℕ) (last : Option FileFailure) : Type 0 where
  pub of_call : option_map (λ failure. failure.call) last ≡ Some call
  pub by_name : length name ≤ NAME_ROOM → option_map (λ failure. failure.name.bytes) last ≡ Some name
  pub beginning : IfSome last (λ failure. failure.name.bytes ≡ take (length failure.name.bytes) name)

-- A call that failed is the one that is kept; a call that was done leaves what was kept.
pub record KeepsLast {T E : Type 0} (call : FileCall) (name : List ℕ) (before now : Option FileFailure) (result : Result T E) : Type 0 where
  pub failed : OnErr result (IsLastFailure call name now)
  pub done : OnOk result (now ≡ before)

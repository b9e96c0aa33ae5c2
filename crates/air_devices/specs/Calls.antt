-- The calls of a device in memory: they are numbered together from 1, and a call whose number is listed fails. All devices in
-- memory use these definitions.
use Rattle.std.specs.Prelude.{◌≡◌, ◌==◌, ◌+◌, ◌-◌, ◌^◌, ℕ, List, Bool, min}
use Rattle.std.specs.List.{list_any}
use Rattle.air_devices.specs.declared.memory.calls.Calls.{Calls}

-- No call was made yet, and these are the numbers of the calls that fail.
pub record AreNewCalls (listed : List ℕ) (c : Calls) : Type 0 where
  pub fail : c.fail.items ≡ listed
  pub made : c.made ≡ 0
  pub faults : c.faults ≡ 0

-- The number of the next call.
abbrev pub next_call : Calls → ℕ
next_call c = min (c.made + 1) (2 ^ 64 - 1)

-- Whether the number of the next call is listed, which makes it fail.
abbrev pub is_next_listed : Calls → Bool
is_next_listed c = list_any (λ number. number == next_call c) c.fail.items

-- One call was numbered; the numbers that fail are unchanged.
pub record IsNextCall (before now : Calls) : Type 0 where
  pub made : now.made ≡ next_call before
  pub fail : now.fail ≡ before.fail

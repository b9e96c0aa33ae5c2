-- What an ear in memory tells: everything that it has still to hear.
use Rattle.std.specs.Prelude.{◌≡◌, ◌≤◌, ℕ, List, length, map, drop, All, Option, Some, None}
use Rattle.air_devices.specs.Calls.{AreNewCalls}
use Rattle.air_devices.specs.Ears.{EarState}
use Rattle.air_devices.specs.declared.memory.calls.Calls.{Calls}
use Rattle.air_devices.specs.declared.memory.ear.MemEar.TheInside.{Inside}

-- An ear in memory: the datagrams that are still to be heard, the port, and the calls.
pub record MemEarState : Type 0 where
  pub waiting : List (List ℕ)
  pub port : Option ℕ
  pub calls : Calls

-- The datagrams that the fields hold and that weren't heard yet.
abbrev pub waiting_in : Inside → List (List ℕ)
waiting_in e = drop e.at (map (λ bytes. bytes.items) e.heard.items)

-- The ear that the fields hold.
abbrev pub listening_in : Inside → MemEarState
listening_in e = record { waiting = waiting_in e; port = e.port; calls = e.calls }

-- Each datagram that is still to be heard has at least one byte.
abbrev pub IsMemEar : Inside → Type 0
IsMemEar e = All (λ bytes. 1 ≤ length bytes) (waiting_in e)

-- An ear in memory, as a call finds or leaves it.
abbrev pub memory_ear_state : MemEarState → EarState
memory_ear_state e = record { told = Some e.waiting; faults = e.calls.faults; port = e.port }

-- An ear has just been made, with these datagrams and these numbers of calls that fail.
pub record IsNewEar (heard : List (List ℕ)) (listed : List ℕ) (e : MemEarState) : Type 0 where
  pub waiting : e.waiting ≡ heard
  pub port : e.port ≡ None
  pub calls : AreNewCalls listed e.calls

-- What a mast in memory tells: everything that it sent.
use Rattle.std.specs.Prelude.{◌≡◌, ◌||◌, ℕ, List, Bool, Some, None}
use Rattle.air_devices.specs.Calls.{AreNewCalls, IsNextCall, is_next_listed}
use Rattle.air_devices.specs.Masts.{MastState, SentBuckets, nothing_sent}
use Rattle.air_devices.specs.Recordings.{overflows_record}
use Rattle.air_devices.specs.declared.memory.mast.MemMast.{MemMast}

-- What a mast in memory tells.
abbrev pub told_by_mast : MemMast → SentBuckets
told_by_mast m = record { buckets = m.tape.records; ended = m.ended }

-- A mast in memory, as a call finds or leaves it.
abbrev pub memory_mast_state : MemMast → MastState
memory_mast_state m = record { told = Some (told_by_mast m); faults = m.calls.faults; port = m.port }

-- A mast has just been made, with this room and these numbers of calls that fail.
pub record IsNewMast (size : ℕ) (listed : List ℕ) (m : MemMast) : Type 0 where
  pub sent : told_by_mast m ≡ nothing_sent
  pub room : m.tape.room ≡ size
  pub calls : AreNewCalls listed m.calls
  pub port : m.port ≡ None

-- Whether a send of this bucket fails: the call is listed, or there is no room for the bucket and its length.
abbrev pub is_send_refused : MemMast → List ℕ → Bool
is_send_refused m bytes = is_next_listed m.calls || overflows_record m.tape bytes

-- One call was made; the room is unchanged.
pub record MadeMastCall (before now : MemMast) : Type 0 where
  pub calls : IsNextCall before.calls now.calls
  pub room : now.tape.room ≡ before.tape.room

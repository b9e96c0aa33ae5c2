-- Records in a room of fixed size, as contracts see them, and what always holds of the fields that hold them.
use Rattle.std.specs.Prelude.{◌≡◌, ◌≤◌, ◌+◌, nat_lt, ℕ, Bool, List, [], length, vec_capacity}
use Rattle.air_model.specs.Tapes.{IsTape, tape_of, tape_read}
use Rattle.air_devices.specs.declared.rooms.tape_room.TapeRoom.TheInside.{Inside}

-- The records, and how many bytes there is room for in all. A record takes its own bytes and the four of its length.
pub record Recording : Type 0 where
  pub records : List (List ℕ)
  pub room : ℕ

-- No records, with room for this many bytes.
abbrev pub no_records : ℕ → Recording
no_records room = record { records = []; room = room }

-- Whether there is no room for one more record after those that there are.
abbrev pub overflows_record : Recording → List ℕ → Bool
overflows_record r bytes = nat_lt r.room (length (tape_of r.records) + (4 + length bytes))

-- The records that the fields hold: those that the tape is read as.
abbrev pub recording_in : Inside → Recording
recording_in t = record { records = (tape_read t.tape.items).records; room = t.room }

-- The tape is whole records, which are counted, and there is memory for the room.
pub record IsTapeRoom (t : Inside) : Type 0 where
  pub whole : IsTape t.tape.items ((tape_read t.tape.items).records)
  pub counted : t.count ≡ length ((tape_read t.tape.items).records)
  pub within : length t.tape.items ≤ t.room
  pub taken : t.room ≤ vec_capacity t.tape

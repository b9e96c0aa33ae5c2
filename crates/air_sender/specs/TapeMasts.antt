-- What a mast that gathers a tape tells: everything that it sent.
use Rattle.std.specs.Prelude.{Some}
use Rattle.air_devices.specs.Masts.{MastState, SentBuckets}
use Rattle.air_sender.specs.declared.tape_mast.TapeMast.{TapeMast}

-- What the mast tells.
abbrev pub told_by_tape : TapeMast → SentBuckets
told_by_tape t = record { buckets = t.tape.records; ended = t.ended }

-- The mast, as a call finds or leaves it.
abbrev pub tape_mast_state : TapeMast → MastState
tape_mast_state t = record { told = Some (told_by_tape t); faults = t.faults; port = t.port }

-- The tape of the code's `ReportAndTape`, as its model has it. Only that model uses this.
use Rattle.std.specs.Prelude.{ℕ, List, [], Option, Some, None}
use Rattle.air_model.specs.Tapes.{tape_of}
use Rattle.air_sender.specs.TapeMasts.{told_by_tape}
use Rattle.air_sender.specs.declared.tape_mast.TapeMast.{TapeMast}

-- The tape of what was sent; empty without a mast.
abbrev pub tape_sent : Option TapeMast → List ℕ
tape_sent None = []
tape_sent (Some mast) = tape_of (told_by_tape mast).buckets

-- What a reader of a tape has still to give if no whole record is left. Otherwise a reader has a first record and what follows
-- it (`with_record`).
use Rattle.std.specs.Prelude.{[], Some, None}
use Rattle.air_model.specs.Tapes.{TapeRead}
use Rattle.bucket_codec.specs.declared.tape.TapeFault.{TapeFault}
use Rattle.bucket_codec.specs.declared.tape.TapeFault.TheVariants.{Cut}

-- No record is left, and nothing is cut.
abbrev pub nothing_left : TapeRead
nothing_left = record { records = []; cut = None }

-- No whole record is left, and the tape ends inside the record that begins at the byte that the fault names.
abbrev pub only_cut_at : TapeFault → TapeRead
only_cut_at (Cut at) = record { records = []; cut = Some at }

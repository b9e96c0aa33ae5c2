use Rattle.std.proofs.Common.{◌∷◌, map, take}
use Rattle.air_base.specs.Numbers.{number_text}
use Rattle.air_report.specs.RowWriters.{written_text}
use Rattle.air_report.specs.Private.BegunRows.{IsBegun}
use Rattle.air_report.proofs.writing.fields.add_numbers.Given as goal

abbrev pub invariant-loop-n : goal.invariant-loop-n
invariant-loop-n l = IsBegun (written_text l.fn.wtr) (l.tag ∷ map number_text (take l.n-index l.ns)) l.wtr

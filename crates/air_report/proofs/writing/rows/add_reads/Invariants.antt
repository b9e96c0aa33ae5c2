use Rattle.std.proofs.Common.{◌≡◌, map, take}
use Rattle.air_base.specs.NumberLists.{list_text}
use Rattle.air_model.specs.Reports.{read_text}
use Rattle.air_report.proofs.writing.rows.add_reads.Given as goal

abbrev pub invariant-loop-i : goal.invariant-loop-i
invariant-loop-i l = l.text.items ≡ list_text (map read_text (take l.i l.reads))

use Rattle.std.proofs.Common.{◌≡◌, length}
use Rattle.air_base.specs.NumberLists.{list_of}
use Rattle.air_base.specs.ReadParts.{part_values, prepend}
use Rattle.air_report.specs.LineTexts.{spelled_read}
use Rattle.air_report.proofs.reading.reads.read_reads.Given as goal

-- The reads so far and those that the rest spells are the ones that the text spells.
abbrev pub invariant-loop-read : goal.invariant-loop-read
invariant-loop-read l = prepend l.reads.items (part_values spelled_read l.rest) ≡ list_of spelled_read l.fn.text

abbrev pub decreases-loop-read : goal.decreases-loop-read
decreases-loop-read l = length l.rest

-- For private steps only. The choice between the answers of two searches.
use Rattle.std.specs.Prelude.{Option, Some, None}
use Rattle.air_base.specs.declared.verdicts.Clash.{Clash}
use Rattle.held_reads.specs.Searches.{lesser_of}

-- Of two clashes, if there are any, the one with the lesser item number.
abbrev pub lesser_of_both : Option Clash → Option Clash → Option Clash
lesser_of_both a None = a
lesser_of_both a (Some c) = Some (lesser_of a c)

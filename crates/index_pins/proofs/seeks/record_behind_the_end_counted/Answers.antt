use Rattle.air_index.specs.declared.sought.Sought.TheVariants.{Lost}
use Rattle.index_pins.specs.ShortTapes.{two_cycles}
use Rattle.index_pins.proofs.PinLemmas.{answer_is, on_two_cycles}
use Rattle.index_pins.proofs.seeks.record_behind_the_end_counted.Goals as goal

pub returns : goal.returns
returns c = answer_is c.seek.result _ two_cycles 0 5 (Lost 1) c.seek.ensures.sought c.requires on_two_cycles.2

use Rattle.air_index.specs.declared.sought.Sought.TheVariants.{Found}
use Rattle.index_pins.specs.ShortTapes.{two_cycles}
use Rattle.index_pins.proofs.PinLemmas.{answer_is, on_two_cycles}
use Rattle.index_pins.proofs.seeks.each_record_opened.Goals as goal

pub returns : goal.returns
returns c = answer_is c.seek.result _ two_cycles 1 1 (Found 3 5 2 20) c.seek.ensures.sought c.requires on_two_cycles.0

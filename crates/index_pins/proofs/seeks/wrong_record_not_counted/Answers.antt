use Rattle.air_index.specs.declared.sought.Sought.TheVariants.{Lost}
use Rattle.index_pins.specs.ShortTapes.{no_index}
use Rattle.index_pins.proofs.PinLemmas.{answer_is, on_odd_tapes}
use Rattle.index_pins.proofs.seeks.wrong_record_not_counted.Goals as goal

pub returns : goal.returns
returns c = answer_is c.seek.result _ no_index 1 0 (Lost 2) c.seek.ensures.sought c.requires on_odd_tapes.0

use Rattle.thread_pins.proofs.PassLemmas.{one_start}
use Rattle.thread_pins.proofs.station_pins.start_added_at_the_close.Goals as goal

pub returns : goal.returns
returns c = one_start _ _ c.close.ensures.conductor c.requires.seen

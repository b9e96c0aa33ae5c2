use Rattle.thread_pins.proofs.PassLemmas.{starts_once, starts_fresh}
use Rattle.thread_pins.proofs.station_pins.fresh_without_its_start.Goals as goal

pub returns-clause-once : goal.returns-clause-once
returns-clause-once g c = let e = c.start_cycle.ensures.seen in starts_once _ _ _ e.0 _ _ c.requires.seen e.1 e.2

pub returns-clause-fresh : goal.returns-clause-fresh
returns-clause-fresh g c = let e = c.start_cycle.ensures.seen in starts_fresh _ _ e.0 _ _ e.2

use Rattle.thread_pins.proofs.BatchLemmas.{on_ok, keeps_two}
use Rattle.thread_pins.proofs.snapshot_pins.frame_of_half_a_batch.Goals as goal

pub returns : goal.returns
returns c = on_ok _ _ _ _ c.look.ensures (keeps_two _ _ c.requires)

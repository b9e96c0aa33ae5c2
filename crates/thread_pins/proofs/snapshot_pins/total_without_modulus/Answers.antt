use Rattle.thread_pins.proofs.BatchLemmas.{on_ok, keeps_total}
use Rattle.thread_pins.proofs.snapshot_pins.total_without_modulus.Goals as goal

pub returns : goal.returns
returns c = on_ok _ _ _ _ c.look.ensures (keeps_total _ _ c.requires)

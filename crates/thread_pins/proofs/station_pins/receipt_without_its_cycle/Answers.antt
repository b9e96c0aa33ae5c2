use Rattle.thread_pins.proofs.ReceiptLemmas.{replies}
use Rattle.thread_pins.proofs.station_pins.receipt_without_its_cycle.Goals as goal

pub returns : goal.returns
returns g c =
    let e = c.commit.ensures.seen in replies _ _ _ _ _ e.0 _ _ c.requires.values c.requires.number c.requires.seen c.requires.update e.1 e.2

use Rattle.thread_pins.proofs.PassLemmas.{commits_once, commits_update}
use Rattle.thread_pins.proofs.station_pins.another_update_committed.Goals as goal

pub returns-clause-once : goal.returns-clause-once
returns-clause-once g c =
    let e = c.commit.ensures.seen in commits_once _ _ _ _ _ e.0 _ _ c.requires.number c.requires.seen c.requires.update e.1 e.2

pub returns-clause-event : goal.returns-clause-event
returns-clause-event g c =
    let e = c.commit.ensures.seen in commits_update _ _ _ _ _ e.0 _ _ c.requires.number c.requires.seen c.requires.update e.2

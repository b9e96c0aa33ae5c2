use Rattle.std.proofs.Common.{arith}
use Rattle.thread_pins.proofs.HotLemmas.{both_sent, hot_air, hot_given, none_started}
use Rattle.thread_pins.proofs.job_pins.newer_frame_in_cycle.Goals as goal

pub conductor_job-requires-clause-room : goal.conductor_job-requires-clause-room
conductor_job-requires-clause-room g c = let none = none_started _ c.requires.new.0 in (omega (arith, none, c.requires.room), omega (arith, none))

pub returns : goal.returns
returns g c =
    both_sent _ _ _ _ _ _ _ c.requires.new.1 c.requires.new.0 c.requires.unsent
    (c.conductor_job.ensures.aired hot_air (hot_given _ _ c.requires.new.1 c.requires.plans))

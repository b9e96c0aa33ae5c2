use Rattle.std.proofs.Common.{arith}
use Rattle.thread_pins.proofs.GroupLemmas.{one_started, pair_air, pair_given, second_sent}
use Rattle.thread_pins.proofs.job_pins.own_columns_for_groups.Goals as goal

pub group_conductor_job-requires-clause-room : goal.group_conductor_job-requires-clause-room
group_conductor_job-requires-clause-room g c = let one = one_started _ c.requires.seen.0 in (omega (arith, one, c.requires.room), omega (arith, one))

pub returns : goal.returns
returns g c =
    second_sent _ _ _ _ _ _ _ c.requires.seen.1 c.requires.seen.0 c.requires.unsent
    (c.group_conductor_job.ensures.aired pair_air (pair_given _ _ _ c.requires.groups.1 c.requires.seen.1 c.requires.plans))

use Rattle.std.proofs.Common.{◌∙◌}
use Rattle.thread_pins.proofs.BatchLemmas.{ends_each}
use Rattle.thread_pins.proofs.job_pins.cycle_left_out.Goals as goal

pub returns-clause-each : goal.returns-clause-each
returns-clause-each g c =
    let p = c.conductor_job.ensures.publisher in
    ends_each _ _ _ _ (c.requires.step.published.count ∙ c.requires.seen) p.batches.1 p.each

use Rattle.std.proofs.Common.{length, subst, sym}
use Rattle.cycle_snapshot.specs.Batches.{IsBatch}
use Rattle.thread_pins.specs.SmallBatches.{first_batch}
use Rattle.thread_pins.proofs.BatchLemmas.{first_is_batch}
use Rattle.thread_pins.proofs.snapshot_pins.published_event_dropped.Goals as goal

pub publish-requires-clause-batch : goal.publish-requires-clause-batch
publish-requires-clause-batch g c =
    subst (λ b. IsBatch (length c.args.publisher.now.values) b) (sym c.requires.batch) (subst (λ v. IsBatch (length v) first_batch) (sym c.requires.values) first_is_batch)

use Rattle.air_history.proofs.UpdateRuleLemmas.{few_reads}
use Rattle.air_history.proofs.updates.Update.of_lists.Goals as goal

pub inline-requires : goal.inline-requires
inline-requires c = few_reads (record { reads = c.args.reads.now; writes = c.args.writes.now }) c.requires

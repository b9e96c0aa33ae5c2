use Rattle.air_index.proofs.WriteLemmas.{data_head_is}
use Rattle.air_index.proofs.writing.data_head.Goals as goal

pub returns : goal.returns
returns c = data_head_is c.to_be_bytes-len.result c.to_be_bytes-wait.result c.args.len c.args.wait c.to_be_bytes-len.ensures c.to_be_bytes-wait.ensures

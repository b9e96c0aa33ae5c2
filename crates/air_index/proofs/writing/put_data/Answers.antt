use Rattle.air_index.proofs.WriteLemmas.{data_put}
use Rattle.air_index.proofs.writing.put_data.Goals as goal

pub returns-clause-written : goal.returns-clause-written
returns-clause-written c =
    data_put c.args.wait c.args.bucket.now c.args.out.now.items c.extend_from_slice.new.self.items c.extend_from_slice-2.new.self.items c.data_head.result c.data_head.ensures
    c.in_ok-extend_from_slice.ensures.items c.in_ok-extend_from_slice-2.ensures.items

use Rattle.std.proofs.Common.{drop, length, replicate}
use Rattle.item_catalog.specs.Writes.{spelled_write}
use Rattle.item_catalog.specs.Private.WriteParts.{write_said}
use Rattle.air_base.proofs.PlainNumbers.{last_plain, spaces_end}
use Rattle.item_catalog.proofs.updates.plain_writes.last_write.Goals as goal

pub returns : goal.returns
returns c =
    let k = length c.args.text.now in
    last_plain (drop k (replicate 12 32)) (spaces_end k 12) spelled_write write_said c.args.text.now c.copy_from_slice.new.self c.copy_from_slice.ensures.after c.plain_write.result c.plain_write.ensures

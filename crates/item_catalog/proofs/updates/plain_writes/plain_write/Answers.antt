use Rattle.std.proofs.Common.{◌<◌, arith, length}
use Rattle.item_catalog.proofs.WritePlaces.{all_plain}
use Rattle.item_catalog.proofs.updates.plain_writes.plain_write.Goals as goal

pub returns : goal.returns
returns c =
    let short = c.in_ok-item.ensures in
    let inside : c.in_ok-item.equals < length c.args.text.now = omega (arith, short.1, short.2.1, c.requires) in
    all_plain c.args.text.now c.args.place c.in_ok-item.equals short.0 c.in_ok-item.item short.1 short.2.2 (omega (arith, inside)) short.2.0 short.2.3
    c.plain_value.result inside c.if-text-equals-ne61.false c.plain_value.ensures

use Rattle.std.proofs.Common.{◌<◌, arith, length}
use Rattle.item_catalog.proofs.WritePlaces.{value_plain}
use Rattle.item_catalog.proofs.updates.plain_writes.plain_value.Goals as goal

pub returns : goal.returns
returns c =
    let short = c.in_ok-base.ensures in
    let inside : c.in_ok-base.sign < length c.args.text.now = omega (arith, short.1, short.2.1, c.requires) in
    value_plain c.args.text.now c.args.place c.in_ok-base.sign short.0 c.in_ok-base.base short.1 short.2.2 (omega (arith, inside)) short.2.0 short.2.3
    c.args.item c.in_ok-minus.minus (c.in_ok-amount.amount, c.in_ok-amount.end) inside c.in_ok-minus.ensures c.in_ok-amount.ensures

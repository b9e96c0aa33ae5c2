use Rattle.bucket_codec.proofs.FaultLemmas.{shape_is}
use Rattle.bucket_codec.proofs.view.has_shape.Goals as goal

pub returns : goal.returns
returns c =
    rw (c.in_limits.ensures, c.has_place.ensures, c.are_entries.ensures)
    (shape_is c.args.bytes.now c.args.version c.args.kind c.args.count c.args.n c.four_at-cycle.result c.two_at-item.result c.eight_at-value.result c.requires.version c.requires.kind c.requires.count c.requires.entries
    c.four_at-cycle.ensures c.two_at-item.ensures c.eight_at-value.ensures)

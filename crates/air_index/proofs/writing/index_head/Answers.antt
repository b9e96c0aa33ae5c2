use Rattle.std.proofs.Common.{◌+◌, ◌*◌, ◌∙◌, ap}
use Rattle.byteorder.specs.Endian.{big_bytes}
use Rattle.air_index.proofs.WriteLemmas.{index_head_is}
use Rattle.air_index.proofs.writing.index_head.Goals as goal

pub returns : goal.returns
returns c =
    index_head_is c.to_be_bytes-len.result c.to_be_bytes-cycle.result c.to_be_bytes-minor.result c.to_be_bytes-count.result c.args.n c.args.cycle c.args.minor
    (c.to_be_bytes-len.ensures ∙ ap (λ k. big_bytes 4 (13 + 4 * k)) c.from.ensures) c.to_be_bytes-cycle.ensures c.to_be_bytes-minor.ensures c.to_be_bytes-count.ensures

use Rattle.std.proofs.Common.{◌∙◌, ap, length}
use Rattle.std.specs.Int.{div_ceil}
use Rattle.chunk_program.proofs.Numbers.{chunk_len_is}
use Rattle.chunk_program.proofs.disks.Disk.chunk_len.Goals as goal

pub returns : goal.returns
returns c =
    let d = c.args.self.now in let chunks = c.chunks.result in
    chunk_len_is c.args.minors c.div_ceil.result d c.requires.some
    (c.div_ceil.ensures ∙ ap (λ l. div_ceil (length l) chunks) c.items.ensures ∙ ap (div_ceil (length d.items)) c.chunks.ensures)

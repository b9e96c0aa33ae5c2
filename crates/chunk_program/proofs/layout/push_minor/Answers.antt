use Rattle.std.proofs.Common.{◌*◌, ◌++◌, slice_get, map, refl, arith, length, ap, ◌∙◌}
use Rattle.std.specs.List.{range_with_len}
use Rattle.std.proofs.lemmas.Option.{slice_get_read}
use Rattle.chunk_program.proofs.ChunkLemmas.{chunk_ends, chunks_some, minor_more, minor_none}
use Rattle.chunk_program.proofs.layout.push_minor.Goals as goal

pub loop-disk-init : goal.loop-disk-init
loop-disk-init c = minor_none c.args.minors c.args.minor c.args.slots.now.items

pub chunk_len-len-requires-clause-some : goal.chunk_len-len-requires-clause-some
chunk_len-len-requires-clause-some c =
    let disks = c.args.disks.now in let k = c.loop-disk.disk-index in let d = c.disk-item.result in
    let at = slice_get_read disks (length disks) k d refl c.loop-disk-test.true c.disk-item.is in
    rw c.requires.minors (chunks_some disks c.requires.limits k d at)

pub aired_chunk-chunk-requires-clause-some : goal.aired_chunk-chunk-requires-clause-some
aired_chunk-chunk-requires-clause-some c =
    let disks = c.args.disks.now in let k = c.loop-disk.disk-index in let d = c.disk-item.result in
    let at = slice_get_read disks (length disks) k d refl c.loop-disk-test.true c.disk-item.is in
    rw c.requires.minors (chunks_some disks c.requires.limits k d at)

pub overflow_mul-chunk : goal.overflow_mul-chunk
overflow_mul-chunk c =
    let disks = c.args.disks.now in let k = c.loop-disk.disk-index in let d = c.disk-item.result in
    let at = slice_get_read disks (length disks) k d refl c.loop-disk-test.true c.disk-item.is in
    let ends = chunk_ends disks k d c.args.minors c.args.minor c.aired_chunk-chunk.result c.chunk_len-len.result c.requires.limits at c.requires.minors c.requires.few c.aired_chunk-chunk.ensures c.chunk_len-len.ensures in omega arith

pub push_chunk-requires : goal.push_chunk-requires
push_chunk-requires c =
    let disks = c.args.disks.now in let k = c.loop-disk.disk-index in let d = c.disk-item.result in
    let at = slice_get_read disks (length disks) k d refl c.loop-disk-test.true c.disk-item.is in
    let ends = chunk_ends disks k d c.args.minors c.args.minor c.aired_chunk-chunk.result c.chunk_len-len.result c.requires.limits at c.requires.minors c.requires.few c.aired_chunk-chunk.ensures c.chunk_len-len.ensures in omega arith

pub loop-disk-preserved : goal.loop-disk-preserved
loop-disk-preserved c =
    let disks = c.args.disks.now in let k = c.loop-disk.disk-index in let d = c.disk-item.result in
    let len = c.chunk_len-len.result in
    minor_more c.args.minors c.args.minor disks k d c.aired_chunk-chunk.result len c.args.slots.now.items c.loop-disk.slots.items c.push_chunk.new.slots.items
    c.loop-disk-test.true c.disk-item.is c.aired_chunk-chunk.ensures c.chunk_len-len.ensures c.loop-disk.invariant
    (c.in_ok-push_chunk.ensures ∙ ap (λ l. c.loop-disk.slots.items ++ map (slice_get l) (range_with_len (c.aired_chunk-chunk.result * len) len)) c.items.ensures)

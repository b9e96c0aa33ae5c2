use Rattle.std.proofs.Common.{◌≡◌, ◌+◌, ◌-◌, [], None, Some, sym, ap, ◌∙◌, arith}
use Rattle.std.specs.Prelude.{slice_index_or}
use Rattle.std.proofs.lemmas.List.{get_or_read}
use Rattle.disk_split.proofs.TableSteps.{row_room}
use Rattle.disk_split.proofs.sizes.after.Goals as goal

pub overflow_add-weight : goal.overflow_add-weight
overflow_add-weight c =
    let sums = c.args.sums.now in let chunks = c.args.chunks.now in let place = c.args.left.from + c.args.size in
    let row : c.index-next-from.result ≡ slice_index_or c.args.next.now place [] =
    get_or_read c.args.next.now place c.index-next-from.result (let long = c.requires.next.table.long in let within = c.requires.within in omega arith) c.index-next-from.is [] in
    let at : slice_index_or (slice_index_or c.args.next.now place []) (c.args.left.slots - c.chunk_slots-chunk.result) None ≡ Some c.in-Some.weight =
    ap (λ l. slice_index_or l (c.args.left.slots - c.chunk_slots-chunk.result) None) (sym row) ∙ sym c.cell.ensures ∙ c.in-Some.is in
    let fits = row_room sums chunks c.args.left.from c.args.size c.requires.next.width (slice_index_or c.args.next.now place []) c.requires.sums c.requires.chunks c.requires.some c.requires.filled
    (c.requires.next.table.each place c.requires.within) (c.args.left.slots - c.chunk_slots-chunk.result) c.in-Some.weight at in
    omega arith

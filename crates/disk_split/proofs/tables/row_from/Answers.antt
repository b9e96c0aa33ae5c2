use Rattle.std.proofs.Common.{rules, ◌≡◌, ◌<◌, ◌+◌, ◌*◌, ◌++◌, ℕ, None, [], drop, take, length, replicate, slice_index, sym, subst, ap, ◌∙◌, arith}
use Rattle.std.specs.Prelude.{slice_index_or}
use Rattle.std.proofs.lemmas.List.{get_or-replicate, get_or_read, length-replicate, take_at}
use Rattle.disk_split.specs.Rests.{chunk_slots, rates_from}
use Rattle.disk_split.specs.Private.Tables.{HasCellsUpTo, improved}
use Rattle.disk_split.proofs.TableSteps.{HaveCellsBelow, row_begins, row_ends, row_more, row_room}
use Rattle.disk_split.proofs.tables.row_from.Goals as goal
use Rattle.disk_split.proofs.tables.row_from.Goals.{After-deref}

pub loop-size-init : goal.loop-size-init
loop-size-init c =
    let n = c.min.result in
    let made : c.in_ok-cells.cells.items ≡ replicate n None = c.in_ok-cells.ensures.items_if_clones_equal (search rules) in
    record {
      wide = ap length made ∙ length-replicate n None ∙ c.min.ensures;
      cells = row_begins c.args.sums.now c.args.chunks.now c.args.from c.in_ok-cells.cells.items c.requires.some
          (λ len below. ap (λ l. slice_index_or l len None) made ∙ get_or-replicate n len None None (let long = ap length made ∙ length-replicate n None in omega arith));
    }

within : (c : After-deref) → c.args.from + c.loop-size.size < length c.args.sums.now
within c = let test = c.loop-size-test.true in omega arith

row_is : (c : After-deref) → c.deref.result.now ≡ slice_index_or c.args.next.now (c.args.from + c.loop-size.size) []
row_is c =
    c.deref.ensures.value ∙ c.row.view_is
    ∙ get_or_read c.args.next.now (c.args.from + c.loop-size.size) c.index-next-from.result (let w = within c in let long = c.requires.next.long in omega arith) c.index-next-from.is []

pub improve-requires-clause-room : goal.improve-requires-clause-room
improve-requires-clause-room c =
    let sums = c.args.sums.now in let chunks = c.args.chunks.now in let from = c.args.from in let size = c.loop-size.size in
    subst (HasCellsUpTo (slice_index chunks 0 * rates_from sums from size)) (sym (row_is c))
    (row_room sums chunks from size c.args.width (slice_index_or c.args.next.now (from + size) []) c.requires.sums c.requires.chunks c.requires.some c.loop-size.auto.size (c.requires.next.each (from + size) (within c)))

pub loop-size-preserved : goal.loop-size-preserved
loop-size-preserved c =
    let a = (goal.at.loop-size-preserved c).After-deref in
    let sums = c.args.sums.now in let chunks = c.args.chunks.now in let from = c.args.from in let size = c.loop-size.size in
    let old = c.loop-size.cells.items in let new = c.improve.new.cells in let i = c.loop-size.invariant in
    let more : ℕ = slice_index chunks 0 * rates_from sums from size in
    let same : length new ≡ length old = c.improve.auto.cells ∙ ap length c.deref_mut.ensures.value in
    let kept : take c.loop-size.cells.len (new ++ drop (length new) old) ≡ new = take_at new (drop (length new) old) c.loop-size.cells.len (let ok = c.loop-size.cells.ok.0 in omega arith) in
    let cells : HaveCellsBelow sums chunks from (size + 1) new =
    row_more sums chunks from c.args.width size c.args.next.now old new c.requires.some c.loop-size.auto.size (within a) c.requires.next (let wide = i.wide in omega arith) same
    (λ len below.
    c.improve.ensures len (let v = ap length c.deref_mut.ensures.value in omega arith)
    ∙ ap (λ l. improved l c.chunk_slots-chunk.result more len (slice_index_or c.deref_mut.result.now len None)) (row_is a)
    ∙ ap (λ n. improved (slice_index_or c.args.next.now (from + size) []) n more len (slice_index_or c.deref_mut.result.now len None)) c.chunk_slots-chunk.ensures
    ∙ ap (λ l. improved (slice_index_or c.args.next.now (from + size) []) (chunk_slots (slice_index chunks 0) size) more len (slice_index_or l len None)) c.deref_mut.ensures.value)
    i.cells in
    record {
      wide = ap length kept ∙ same ∙ i.wide;
      cells = subst (HaveCellsBelow sums chunks from (size + 1)) (sym kept) cells;
    }

pub returns : goal.returns
returns c =
    row_ends c.args.sums.now c.args.chunks.now c.args.from c.args.width c.loop-size.size c.loop-size.cells.items c.requires.chunks c.requires.some (let test = c.loop-size-test.false in omega arith) c.loop-size.invariant.wide c.loop-size.invariant.cells

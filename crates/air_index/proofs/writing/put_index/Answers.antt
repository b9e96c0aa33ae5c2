use Rattle.std.proofs.Common.{◌++◌, ◌≡◌, ◌∙◌, map, ap, arith}
use Rattle.std.specs.List.{flat_map, range_with_len}
use Rattle.std.proofs.lemmas.List.FromFn.{length-map-range_with_len}
use Rattle.byteorder.specs.Endian.{big_bytes}
use Rattle.air_index.specs.Private.Beaming.{entry_between, index_head}
use Rattle.air_index.proofs.SizeLemmas.{minors_within}
use Rattle.air_index.proofs.WriteLemmas.{entry_put, index_put}
use Rattle.air_index.proofs.writing.put_index.Goals as goal

pub overflow_cast-minor : goal.overflow_cast-minor
overflow_cast-minor c =
    let within = minors_within c.args.program.now.disks c.slots-slots.result c.slots-slots.ensures.counted c.slots-slots.ensures.some in
    omega (arith, within, c.slots-slots.ensures.few, c.requires.minor)

pub loop-item-preserved : goal.loop-item-preserved
loop-item-preserved c =
    entry_put (entry_between c.args.program.now.disks c.args.next.now.disks c.args.minor) (c.args.out.now.items ++ index_head c.args.n c.args.cycle c.args.minor) c.loop-item.out.items
    c.extend_from_slice-in-loop-item.new.self.items c.to_be_bytes.result c.loop-item.item c.entry.result c.loop-item.invariant c.in_ok-extend_from_slice-2.ensures.items c.to_be_bytes.ensures c.entry.ensures

pub returns-clause-written : goal.returns-clause-written
returns-clause-written c =
    let f = entry_between c.args.program.now.disks c.args.next.now.disks c.args.minor in
    let end : c.loop-item.item ≡ c.args.n = omega (arith, c.loop-item-test.false, c.loop-item.auto.item-end) in
    index_put c.args.n c.args.cycle c.args.minor (map f (range_with_len 0 c.args.n)) c.args.out.now.items c.loop-item.out.items (length-map-range_with_len f 0 c.args.n)
    (c.loop-item.invariant ∙ ap (λ k. (c.args.out.now.items ++ index_head c.args.n c.args.cycle c.args.minor) ++ flat_map (big_bytes 4) (map f (range_with_len 0 k))) end)

use Rattle.std.proofs.Common.{◌≡◌, ◌+◌, ◌-◌, length, arith, min, rules}
use Rattle.air_devices.proofs.WrittenLemmas.{piece_added, piece_held}
use Rattle.air_devices.proofs.rooms.fixed_bytes.FixedBytes.add.Goals as goal

pub returns-clause-added : goal.returns-clause-added
returns-clause-added c =
    let buffer = c.self.inside.buffer in
    let len = c.self.inside.len in
    let count = c.min-count.result in
    let counted : count ≡ min (length c.args.bytes.now) (length buffer.items - len) = search rules in
    let width : len + count - len ≡ count = omega arith in
    let held = piece_held buffer c.deref_mut.result.now c.copy_from_slice.new.self c.args.bytes.now len count (len + count - len) c.deref_mut.ensures.value c.deref_mut.ensures.len c.self.invariant counted width c.copy_from_slice.ensures.after in
    piece_added c.args.self.now buffer.items _ c.deref_mut.result.now c.copy_from_slice.new.self c.args.bytes.now len count (len + count - len) c.self.view_is held c.deref_mut.ensures.value c.self.invariant counted width c.copy_from_slice.ensures.after

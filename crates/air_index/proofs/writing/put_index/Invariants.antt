use Rattle.std.proofs.Common.{◌≡◌, ◌++◌, map}
use Rattle.std.specs.List.{flat_map, range_with_len}
use Rattle.byteorder.specs.Endian.{big_bytes}
use Rattle.air_index.specs.Private.Beaming.{entry_between, index_head}
use Rattle.air_index.proofs.writing.put_index.Given as goal

-- The head, and the entries of the items before.
abbrev pub invariant-loop-item : goal.invariant-loop-item
invariant-loop-item l =
    l.out.items ≡ (l.fn.out.items ++ index_head l.n l.cycle l.minor) ++ flat_map (big_bytes 4) (map (entry_between l.program.disks l.next.disks l.minor) (range_with_len 0 l.item))

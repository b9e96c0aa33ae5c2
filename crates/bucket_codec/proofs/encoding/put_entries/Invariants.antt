use Rattle.std.proofs.Common.{◌≡◌, ◌++◌, ◌+◌, ◌*◌, take, drop}
use Rattle.std.specs.List.{flat_map}
use Rattle.byteorder.specs.Endian.{big_bytes}
use Rattle.bucket_codec.proofs.encoding.put_entries.Given as goal

abbrev pub invariant-loop-i : goal.invariant-loop-i
invariant-loop-i l = l.out ≡ (take 24 l.fn.out ++ flat_map (big_bytes 4) (take l.i l.entries)) ++ drop (24 + 4 * l.i) l.fn.out

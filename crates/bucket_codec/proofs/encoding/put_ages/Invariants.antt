use Rattle.std.proofs.Common.{◌≡◌, ◌++◌, ◌+◌, take, drop}
use Rattle.std.specs.List.{flat_map}
use Rattle.bucket_codec.specs.Private.Heads.{aged_bytes}
use Rattle.bucket_codec.proofs.encoding.put_ages.Given as goal

abbrev pub invariant-loop-i : goal.invariant-loop-i
invariant-loop-i l = l.out ≡ (take 24 l.fn.out ++ flat_map (aged_bytes l.cycle) (take l.i l.entries)) ++ drop (24 + l.i) l.fn.out

use Rattle.std.proofs.Common.{◌≡◌, false, take}
use Rattle.std.specs.List.{list_any}
use Rattle.live_replay.specs.Private.Groups.{is_marked}
use Rattle.live_replay.proofs.group_clashes.is_overwritten.Given as goal

abbrev pub invariant-loop-write : goal.invariant-loop-write
invariant-loop-write l = list_any (λ w. is_marked l.marks w.place) (take l.write-index l.write-items) ≡ false

use Rattle.std.proofs.Common.{◌≡◌, ◌<◌, ◌++◌, ℕ, [], length, get_or, take}
use Rattle.live_replay.specs.Private.Runs.{added_write}
use Rattle.live_replay.proofs.running.add_writes.Given as goal

abbrev pub invariant-loop-write : goal.invariant-loop-write
invariant-loop-write l = (i : ℕ) → i < length l.writes → get_or l.writes i [] ≡ get_or l.fn.writes i [] ++ added_write l.place l.cycle l.values (take l.write-index l.written) i

use Rattle.std.proofs.Common.{◌≡◌, false, take}
use Rattle.live_replay.specs.Findings.{places_read}
use Rattle.live_replay.specs.Private.Alone.{overwrites_read}
use Rattle.live_replay.proofs.alone.overwrites_read.Given as goal

abbrev pub invariant-loop-k : goal.invariant-loop-k
invariant-loop-k l = overwrites_read l.events (take l.k (places_read l.reads)) l.place ≡ false

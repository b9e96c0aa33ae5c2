use Rattle.std.proofs.Common.{◌≡◌, ◌-◌, length, map}
use Rattle.live_replay.specs.Findings.{places_read, read_in_cycle}
use Rattle.live_replay.proofs.GroupReadLemmas.{first_items}
use Rattle.live_replay.proofs.groups.group_reads.Given as goal

abbrev pub invariant-loop-item : goal.invariant-loop-item
invariant-loop-item l = places_read l.reads.items ≡ map (λ q. read_in_cycle q l.read.cycle) (first_items (length l.replay.deck.items) l.read.item l.first (l.item - l.first))

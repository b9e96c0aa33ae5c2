use Rattle.std.proofs.Common.{◌≡◌, ◌<◌, ℕ, true, length, get_or, take}
use Rattle.air_history.specs.ClashLaws.{passes}
use Rattle.air_model.specs.Aired.{scheme_in}
use Rattle.live_replay.specs.Findings.{places_read, read_in_cycle}
use Rattle.live_replay.proofs.group_clashes.all_pass_by_groups.Given as goal

abbrev pub invariant-loop-k : goal.invariant-loop-k
invariant-loop-k l = (j : ℕ) → j < l.k → passes (scheme_in l.replay.deck) (length l.replay.deck.items) l.replay.history (take j (places_read l.reads)) (get_or (places_read l.reads) j (read_in_cycle 0 0)) ≡ true

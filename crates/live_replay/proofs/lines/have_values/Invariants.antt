use Rattle.std.proofs.Common.{◌≡◌, true, take}
use Rattle.std.specs.List.{list_all}
use Rattle.air_model.specs.Decks.{values_in}
use Rattle.live_replay.specs.Findings.{has_value}
use Rattle.live_replay.proofs.lines.have_values.Given as goal

abbrev pub invariant-loop-read : goal.invariant-loop-read
invariant-loop-read l = list_all (has_value (values_in l.replay.deck) l.replay.history) (take l.read-index l.reads) ≡ true

use Rattle.std.proofs.Common.{◌≡◌, [], take, replicate}
use Rattle.air_model.specs.Decks.{values_in}
use Rattle.live_replay.proofs.running.ReplayState.new.Given as goal

abbrev pub invariant-loop-item : goal.invariant-loop-item
invariant-loop-item l = (l.values.items ≡ take l.item (values_in l.deck)) × (l.writes.items ≡ replicate l.item [])

use Rattle.air_model.specs.Decks.{values_in}
use Rattle.live_replay.specs.Private.Runs.{IsReplayOfFirst}
use Rattle.live_replay.proofs.replay.Replay.new.Given as goal

abbrev pub invariant-loop-place : goal.invariant-loop-place
invariant-loop-place l = IsReplayOfFirst (values_in l.deck) l.events l.place l.running

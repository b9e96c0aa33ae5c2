use Rattle.std.proofs.Common.{◌≡◌, ◌%◌, ◌^◌, take}
use Rattle.std.specs.List.{sum}
use Rattle.air_history.specs.Histories.{front}
use Rattle.air_history.specs.Tables.{table_list}
use Rattle.air_model.specs.Decks.{values_in}
use Rattle.live_replay.proofs.replay.Replay.total.Given as goal

abbrev pub invariant-loop-item : goal.invariant-loop-item
invariant-loop-item l = l.total ≡ sum (take l.item (table_list (values_in l.self.deck) (front l.self.history l.cycle))) % 2 ^ 64

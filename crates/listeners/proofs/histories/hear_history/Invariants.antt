use Rattle.std.proofs.Common.{◌≡◌, ◌+◌, ◌*◌, length, take}
use Rattle.air_history.specs.Boards.{board_of}
use Rattle.air_model.specs.Buckets.{entry_len}
use Rattle.air_model.specs.Decks.{values_in}
use Rattle.air_sender.specs.AiredBytes.{aired_bytes}
use Rattle.air_sender.specs.DeckGroups.{HasGroups}
use Rattle.bucket_codec.specs.declared.offsets.TheConstants.{HEAD_BYTES}
use Rattle.listeners.specs.Hearings.{AreHearing}
use Rattle.listeners.proofs.histories.hear_history.Given as goal

-- The readers were given what the events so far air, and the board is theirs.
abbrev pub invariant-loop-event : goal.invariant-loop-event
invariant-loop-event l = record {
  stepped : l.board ≡ board_of (values_in l.planned) (take l.event-index l.events);
  groups : HasGroups l.planned l.groups;
  room : length l.room.items ≡ HEAD_BYTES + entry_len l.planned.settings.version * length l.planned.items;
  heard : AreHearing l.planned (aired_bytes l.planned (take l.event-index l.events)) l.hearers;
}

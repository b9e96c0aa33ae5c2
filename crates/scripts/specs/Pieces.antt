-- How far a script is that is aired piece by piece.
use Rattle.std.specs.Prelude.{ℕ, ◌≤◌, List}
use Rattle.air_model.specs.Aired.{air_of, history_tape}
use Rattle.air_model.specs.Decks.{Deck, values_in}
use Rattle.air_model.specs.Tapes.{tape_of}
use Rattle.air_sender.specs.TapeMasts.{told_by_tape}
use Rattle.listeners.specs.Hearings.{AreHearing}
use Rattle.air_sender.specs.AiredBytes.{aired_bytes}
use Rattle.scripts.specs.PieceRuns.{IsPieceRun}
use Rattle.scripts.specs.declared.script_airing.ScriptAiring.{ScriptAiring}

-- The run is as far as its events, each reader was given the buckets that these air, and a piece has a cycle at least.
pub record IsAiring (deck : Deck) (a : ScriptAiring) : Type 0 where
  pub run : IsPieceRun deck a.run
  pub hearers : AreHearing deck (aired_bytes deck a.run.events.items) a.hearers
  pub some : 1 ≤ a.cycles

-- The tape of all that was aired so far.
abbrev pub tape_so_far : Deck → ScriptAiring → List ℕ
tape_so_far deck a = history_tape (values_in deck) (air_of deck) a.run.events.items

-- The tape of the piece that was aired last.
abbrev pub piece_in : ScriptAiring → List ℕ
piece_in a = tape_of (told_by_tape a.mast).buckets

-- How far a script is that is beamed piece by piece.
use Rattle.std.specs.Prelude.{◌≤◌, ℕ, List, length}
use Rattle.air_history.specs.Histories.{starts}
use Rattle.air_history.specs.declared.histories.Event.{Event}
use Rattle.air_index.specs.IndexedTapes.{indexed_tape}
use Rattle.air_model.specs.Decks.{Deck}
use Rattle.air_sender.specs.AiredBytes.{aired_bytes}
use Rattle.chunk_program.specs.Editions.{plans_in}
use Rattle.scripts.specs.PieceRuns.{IsPieceRun}
use Rattle.scripts.specs.declared.script_beaming.ScriptBeaming.{ScriptBeaming}

-- The indexed tape of what a history of the deck airs. Of the script's history it is `beam_tape_of`.
abbrev pub beamed_tape : Deck → List Event → List ℕ
beamed_tape deck H = indexed_tape (plans_in deck) (length deck.items) (starts H) (aired_bytes deck H)

-- The run is as far as its events, and a piece has a cycle at least.
pub record IsBeaming (deck : Deck) (b : ScriptBeaming) : Type 0 where
  pub run : IsPieceRun deck b.run
  pub some : 1 ≤ b.cycles

-- The indexed tape of everything that was beamed so far.
abbrev pub beamed_so_far : Deck → ScriptBeaming → List ℕ
beamed_so_far deck b = beamed_tape deck b.run.events.items

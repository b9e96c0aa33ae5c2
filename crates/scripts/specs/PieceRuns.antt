-- How far a run of a deck's script is that continues piece by piece.
use Rattle.std.specs.Prelude.{◌≡◌, ℕ, ◌+◌, ◌*◌, ◌<◌, ◌≤◌, length, get_or, take}
use Rattle.air_history.specs.Boards.{board_of}
use Rattle.air_model.specs.Buckets.{entry_len}
use Rattle.air_model.specs.Decks.{Deck, script_history, scripted_commits, values_in}
use Rattle.air_sender.specs.DeckGroups.{HasGroups}
use Rattle.bucket_codec.specs.declared.offsets.TheConstants.{HEAD_BYTES}
use Rattle.scripts.specs.declared.piece_runs.PieceRun.{PieceRun}

-- Its events begin the script's history, the board is theirs, and so are the parts of each updater that are counted. There is a board by
-- groups if the deck has groups, and room for a bucket's bytes.
pub record IsPieceRun (deck : Deck) (r : PieceRun) : Type 0 where
  pub begun : r.events.items ≡ take (length r.events.items) (script_history deck)
  pub within : length r.events.items ≤ length deck.script
  pub stepped : r.board ≡ board_of (values_in deck) r.events.items
  pub updaters : length r.made.items ≡ length deck.updates
  pub counts : (by : ℕ) → by < length r.made.items → get_or r.made.items by 0 ≡ scripted_commits by (take (length r.events.items) deck.script)
  pub groups : HasGroups deck r.groups
  pub room : length r.room.items ≡ HEAD_BYTES + entry_len deck.settings.version * length deck.items

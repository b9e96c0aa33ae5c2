-- The bytes of a cycle of the longest edition that a deck's script reaches.
use Rattle.std.specs.Prelude.{ℕ, ◌+◌, List, length}
use Rattle.std.specs.List.{range_with_len}
use Rattle.air_history.specs.Places.{greatest_of}
use Rattle.air_model.specs.Decks.{Deck, disks_in, edition}
use Rattle.air_model.specs.Programs.{program}
use Rattle.air_sender.specs.TapeSizes.{cycle_size}
use Rattle.item_catalog.specs.DeckLimits.{script_starts}

-- The bytes of the records of a cycle of an edition.
abbrev pub edition_size : Deck → ℕ → ℕ
edition_size deck e = cycle_size deck.settings.version (length deck.items) (program (disks_in deck e))

-- The editions that the script reaches: those up to the edition of its last cycle.
abbrev pub reached_editions : Deck → List ℕ
reached_editions deck = range_with_len 0 (edition deck (script_starts deck) + 1)

-- The bytes of the records of a cycle of the longest of them.
abbrev pub longest_cycle : Deck → ℕ
longest_cycle deck = greatest_of (edition_size deck) (reached_editions deck)

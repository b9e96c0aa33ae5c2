-- The words of the law that groups of one item are no groups, `one_group_law`.
use Rattle.std.specs.Prelude.{◌≡◌, ℕ, List, length, Option}
use Rattle.air_history.specs.declared.histories.Event.{Event}
use Rattle.air_model.specs.Aired.{air_of, history_tape, scheme_in}
use Rattle.air_model.specs.Buckets.{Bucket}
use Rattle.air_model.specs.Decks.{Deck, values_in}
use Rattle.air_model.specs.Judges.{by_entries, by_history}
use Rattle.air_model.specs.Outputs.{true_sessions}
use Rattle.air_model.specs.ReceiverLaws.{session_of}

-- The deck with groups of g items.
abbrev pub with_group : ℕ → Deck → Deck
with_group g deck = record deck { settings = record deck.settings { group = g } }

-- Two decks tell the same on the air: each history has one tape, each list of heard buckets one session of each reader, by the entries and by
-- the history, and the readers that hear a history through their ethers have one session each.
pub record TellTheSame (a b : Deck) : Type 0 where
  pub tape : (H : List Event) → history_tape (values_in a) (air_of a) H ≡ history_tape (values_in b) (air_of b) H
  pub heard : (r : ℕ) (heard : List (Option Bucket)) → session_of (by_entries (scheme_in a)) a r heard ≡ session_of (by_entries (scheme_in b)) b r heard
  pub judged : (H : List Event) (r : ℕ) (heard : List (Option Bucket)) →
      session_of (by_history (scheme_in a) (length a.items) (values_in a) H) a r heard ≡ session_of (by_history (scheme_in b) (length b.items) (values_in b) H) b r heard
  pub sessions : (H : List Event) → true_sessions a H ≡ true_sessions b H

-- Groups of one item are no groups.
abbrev pub OneIsNone : Deck → Type 0
OneIsNone deck = TellTheSame (with_group 1 deck) (with_group 0 deck)

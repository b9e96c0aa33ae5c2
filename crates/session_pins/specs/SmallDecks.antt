-- Small decks, each with what its pins need: readers, updates, a script, an ether.
use Rattle.std.specs.Prelude.{ℕ, false, List, [], ◌∷◌, Option, None, Some}
use Rattle.air_base.specs.declared.verdicts.Policy.TheVariants.{FMatrix}
use Rattle.air_history.specs.declared.histories.Event.{Event}
use Rattle.air_history.specs.declared.histories.Event.TheVariants.{Commit}
use Rattle.air_history.specs.UpdateLists.{UpdateLists}
use Rattle.air_model.specs.declared.deck.Settings.{Settings}
use Rattle.air_model.specs.Decks.{Deck}

-- Nothing is lost, heard again or delayed.
abbrev pub clear_air : Settings
clear_air = record { policy = FMatrix; version = 1; group = 0; cycles = 10; seed = 0; loss = 0; again = 0; late = 0; monitors = 0; hears = 1000000 }

-- Two items on one disk; one reader asks for both, once; the script starts one cycle.
abbrev pub pair : Deck
pair = record {
  items = record { value = 10; rate = 1 } ∷ record { value = 20; rate = 1 } ∷ [];
  disks = record { size = 2; freq = 1 } ∷ [];
  replans = [];
  updates = [];
  readers = record { room = 0; age = 0; tries = 1 } ∷ [];
  queries = ((0 ∷ 1 ∷ []) ∷ []) ∷ [];
  script = None ∷ [];
  settings = clear_air;
}

-- The pair with another script.
abbrev pub scripted : List (Option ℕ) → Deck
scripted script = record pair { script = script }

-- The hotter item 1 has a disk of its own and is aired twice a cycle, item 0 once.
abbrev pub tiered : Deck
tiered = record pair {
  items = record { value = 10; rate = 2 } ∷ record { value = 20; rate = 3 } ∷ [];
  disks = record { size = 1; freq = 2 } ∷ record { size = 1; freq = 1 } ∷ [];
}

-- One item is aired 64 times a cycle.
abbrev pub frequent : Deck
frequent = record pair {
  items = record { value = 7; rate = 1 } ∷ [];
  disks = record { size = 1; freq = 64 } ∷ [];
  queries = ((0 ∷ []) ∷ []) ∷ [];
}

-- Half of what is aired is lost, half of the rest comes twice, and half of it is delayed; two readers ask for both items.
abbrev pub noisy : Deck
noisy = record pair {
  readers = record { room = 0; age = 0; tries = 1 } ∷ record { room = 0; age = 0; tries = 1 } ∷ [];
  queries = ((0 ∷ 1 ∷ []) ∷ []) ∷ ((0 ∷ 1 ∷ []) ∷ []) ∷ [];
  settings = record clear_air { seed = 7; loss = 50; again = 50; late = 50 };
}

-- An update that sets an item to an amount.
abbrev pub update_to : ℕ → ℕ → UpdateLists
update_to item amount = record { reads = []; writes = record { item = item; base = None; minus = false; amount = amount } ∷ [] }

-- The commit of updater 0 of this number.
abbrev pub first_updater_commit : ℕ → UpdateLists → Event
first_updater_commit seq update = Commit 0 seq update

-- One updater sets item 0 to 11 and then item 1 to 21.
abbrev pub updated : List (Option ℕ) → Deck
updated script = record pair { updates = (update_to 0 11 ∷ update_to 1 21 ∷ []) ∷ []; script = script }

-- The pair with groups of g items, 0 where there are none. Item 0 is written between the two cycles.
abbrev pub grouped_pair : ℕ → Deck
grouped_pair g = record (updated (None ∷ Some 0 ∷ None ∷ [])) { settings = record clear_air { group = g } }

-- Over five cycles of two buckets the first bucket is heard eight pushes later, and the others are lost. Item 0 is written after cycle 1.
abbrev pub late_pair : Deck
late_pair = record (updated (None ∷ Some 0 ∷ None ∷ None ∷ None ∷ None ∷ [])) { settings = record clear_air { seed = 515; loss = 90; late = 100 } }

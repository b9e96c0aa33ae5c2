-- A small deck, and one of which each split is too long.
use Rattle.std.specs.Prelude.{[], ◌∷◌, None, replicate}
use Rattle.air_base.specs.declared.verdicts.Policy.TheVariants.{FMatrix}
use Rattle.air_model.specs.Decks.{Deck}

-- Two items on one disk; one reader asks for both, once; the script starts one cycle.
abbrev pub short_deck : Deck
short_deck = record {
  items = record { value = 10; rate = 1 } ∷ record { value = 20; rate = 1 } ∷ [];
  disks = record { size = 2; freq = 1 } ∷ [];
  replans = [];
  updates = [];
  readers = record { room = 0; age = 0; tries = 1 } ∷ [];
  queries = ((0 ∷ 1 ∷ []) ∷ []) ∷ [];
  script = None ∷ [];
  settings = record { policy = FMatrix; version = 1; group = 0; cycles = 10; seed = 0; loss = 0; again = 0; late = 0; monitors = 0; hears = 1000000 };
}

-- 91 items of one rate on three disks of the frequencies 63, 56 and 44: so there are 5,544 minor cycles, and the disks have 88, 99 and 126 chunks. A
-- minor cycle has at least three slots, and the split 1 1 89 has exactly three. The deck's own sizes have four, since 89 items need two slots of a
-- chunk.
abbrev pub long_deck : Deck
long_deck = record short_deck {
  items = replicate 91 (record { value = 10; rate = 1 });
  disks = record { size = 89; freq = 63 } ∷ record { size = 1; freq = 56 } ∷ record { size = 1; freq = 44 } ∷ [];
}

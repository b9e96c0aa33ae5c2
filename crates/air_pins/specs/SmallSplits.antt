-- The pins of splits use decks that have these rates and disks, and nothing else that matters.
use Rattle.std.specs.Prelude.{ℕ, List, [], ◌∷◌, ◌++◌, map, replicate}
use Rattle.air_base.specs.declared.verdicts.Policy.TheVariants.{FMatrix}
use Rattle.air_model.specs.Decks.{Deck}
use Rattle.air_model.specs.Disks.{DiskSpec}
use Rattle.air_pins.specs.SmallPrograms.{spec}

-- A deck of items with these rates on these disks.
abbrev pub rated : List ℕ → List DiskSpec → Deck
rated rates disks = record {
  items = map (λ rate. record { value = 0; rate = rate }) rates;
  disks = disks;
  replans = [];
  updates = [];
  readers = [];
  queries = [];
  script = [];
  settings = record { policy = FMatrix; version = 1; group = 0; cycles = 10; seed = 0; loss = 0; again = 0; late = 0; monitors = 0; hears = 1000000 };
}

-- Five items. The splits 1 4, 2 3, 3 2 and 4 1 cost 81, 92, 80 and 95.
abbrev pub five : Deck
five = rated (9 ∷ 4 ∷ 3 ∷ 1 ∷ 1 ∷ []) (spec 4 2 ∷ spec 1 1 ∷ [])

-- Six items. The splits 1 5, 2 4 and 4 2 cost 120, the other two more.
abbrev pub six : Deck
six = rated (2 ∷ 0 ∷ 3 ∷ 3 ∷ 4 ∷ 4 ∷ []) (spec 5 1 ∷ spec 1 2 ∷ [])

-- Three items that nobody asks for.
abbrev pub unrated : Deck
unrated = rated (0 ∷ 0 ∷ 0 ∷ []) (spec 2 2 ∷ spec 1 1 ∷ [])

-- The rates of 256 items, of which only the last has the rate 0.
abbrev pub but_the_last : List ℕ
but_the_last = replicate 255 1000000 ++ 0 ∷ []

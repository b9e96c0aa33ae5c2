-- The plans of a deck that changes its program at cycle 2, computed.
use Rattle.std.proofs.Common.{◌≡◌, ℕ, [], ◌∷◌, Some, None, length, map, refl}
use Rattle.std.proofs.lemmas.List.Elements.{All-from_recursion}
use Rattle.air_base.specs.declared.verdicts.Policy.TheVariants.{FMatrix}
use Rattle.air_model.specs.Airings.{chunks_of, disk_number, pix_number}
use Rattle.air_model.specs.Decks.{Deck, Item}
use Rattle.air_model.specs.Disks.{all_items, cut, order, order_with}
use Rattle.air_model.specs.Programs.{chunk, chunk_len, least_common_multiple, minor_cycle, num_chunks, num_minors, program}
use Rattle.chunk_program.specs.Editions.{EditionDisks, HaveItems, edition_disks, no_disks, planned_edition, planned_slots, plans_in, program_pix, programs_in}

-- An item of this rate.
abbrev of_rate : ℕ → Item
of_rate rate = record { value = 10; rate = rate }

-- Three items with rates 3, 2 and 1. At first item 0 is aired twice a cycle, and the others once; from cycle 2 on item 2 is, and the others once.
abbrev changing : Deck
changing = record {
  items = of_rate 3 ∷ of_rate 2 ∷ of_rate 1 ∷ [];
  disks = record { size = 1; freq = 2 } ∷ record { size = 2; freq = 1 } ∷ [];
  replans = record { cycle = 2; disks = record { size = 2; freq = 1 } ∷ record { size = 1; freq = 2 } ∷ [] } ∷ [];
  updates = [];
  readers = [];
  queries = [];
  script = None ∷ None ∷ [];
  settings = record { policy = FMatrix; version = 1; group = 0; cycles = 10; seed = 0; loss = 0; again = 0; late = 0; monitors = 0; hears = 1000000 };
}

abbrev first : EditionDisks
first = record { edition = 0; disks = record { items = 0 ∷ []; freq = 2 } ∷ record { items = 1 ∷ 2 ∷ []; freq = 1 } ∷ [] }

abbrev second : EditionDisks
second = record { edition = 1; disks = record { items = 0 ∷ 1 ∷ []; freq = 1 } ∷ record { items = 2 ∷ []; freq = 2 } ∷ [] }

pub record Editions : Type 0 where
  own : edition_disks changing 0 ≡ first
  replanned : edition_disks changing 1 ≡ second
  both : programs_in changing ≡ first ∷ second ∷ []
  -- in edition 0 the disk of items 1 and 2 has two chunks, in edition 1 that of items 0 and 1
  first_pix : program_pix changing first ≡ 3 ∷ 4 ∷ 2 ∷ []
  second_pix : program_pix changing second ≡ 6 ∷ 4 ∷ 1 ∷ []
  plans : plans_in changing ≡ record { replans = 2 ∷ []; programs = first ∷ second ∷ []; pix = (3 ∷ 4 ∷ 2 ∷ []) ∷ (6 ∷ 4 ∷ 1 ∷ []) ∷ [] }
  by_cycle : map (planned_edition (plans_in changing)) (0 ∷ 1 ∷ 2 ∷ 3 ∷ []) ≡ 0 ∷ 0 ∷ 1 ∷ 1 ∷ []
  slots_of_first : planned_slots (plans_in changing) 1 ≡ Some 0 ∷ Some 1 ∷ Some 0 ∷ Some 2 ∷ []
  slots_of_second : planned_slots (plans_in changing) 2 ≡ Some 0 ∷ Some 2 ∷ Some 1 ∷ Some 2 ∷ []
  -- plans that lack the edition of a cycle have no slot in it
  without : no_disks ≡ record { edition = 0; disks = [] }
  no_slots : planned_slots (record (plans_in changing) { programs = first ∷ [] }) 2 ≡ []

pub editions : Editions
unfolding order order_with cut program least_common_multiple num_minors num_chunks chunk_len chunk minor_cycle pix_number chunks_of disk_number
editions = record {
  own = refl;
  replanned = refl;
  both = refl;
  first_pix = refl;
  second_pix = refl;
  plans = refl;
  by_cycle = refl;
  slots_of_first = refl;
  slots_of_second = refl;
  without = refl;
  no_slots = refl;
}

-- Each edition has three items, and not two.
pub three_items : HaveItems 3 (first ∷ second ∷ [])
unfolding all_items
three_items = All-from_recursion (λ (p : EditionDisks). length (all_items p.disks) ≡ 3) (first ∷ second ∷ []) (refl, (refl, tt))

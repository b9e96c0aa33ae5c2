-- Held reads over two items: which reads are new ones, and which come in the order of cycles.
use Rattle.std.proofs.Common.{◌≡◌, ◌≢◌, ℕ, ◌<◌, ◌≤◌, true, false, List, [], ◌∷◌, refl, arith}
use Rattle.std.proofs.lemmas.List.Elements.{All-from_recursion}
use Rattle.air_history.specs.Places.{last_place}
use Rattle.air_history.specs.Histories.{writes, front, writer_before, writer}
use Rattle.air_history.specs.Reads.{same_origin}
use Rattle.air_history.specs.Clashes.{HeardRead}
use Rattle.air_history.specs.HeldReads.{HeldReads, IsNew, ComesInOrder}
use Rattle.air_history.proofs.ClashExamples.{one_written}

-- Item 0 of cycle 2 is held over two items.
abbrev one_held : HeldReads
one_held = record { n = 2; reads = record { item = 0; cycle = 2; entries = 1 ∷ 0 ∷ [] } ∷ [] }

-- Items 0 and 1 of three are held, of these cycles.
abbrev two_held : ℕ → ℕ → HeldReads
two_held first last = record { n = 3; reads = record { item = 0; cycle = first; entries = 0 ∷ 0 ∷ 0 ∷ [] } ∷ record { item = 1; cycle = last; entries = 0 ∷ 0 ∷ 0 ∷ [] } ∷ [] }

-- Item 2 of three in cycle 2.
abbrev item_two : HeardRead
item_two = record { item = 2; cycle = 2; entries = 0 ∷ 0 ∷ 0 ∷ [] }

-- Item 1 with these entries.
abbrev item_one : ℕ → List ℕ → HeardRead
item_one cycle entries = record { item = 1; cycle = cycle; entries = entries }

pub record New : Type 0 where
  -- item 1 isn't held, and its two entries are below its cycle
  new : IsNew one_held (item_one 1 (0 ∷ 0 ∷ []))
  -- a held item, three entries, or an entry of the read's own cycle are not those of a new read
  held_item : IsNew one_held (record { item = 0; cycle = 3; entries = 0 ∷ 0 ∷ [] }) → ⊥
  too_many : IsNew one_held (item_one 1 (0 ∷ 0 ∷ 0 ∷ [])) → ⊥
  entry_of_its_cycle : IsNew one_held (item_one 1 (1 ∷ 0 ∷ [])) → ⊥
  -- there is no item 2 of two
  no_item : IsNew one_held (record { item = 2; cycle = 3; entries = 0 ∷ 0 ∷ [] }) → ⊥
  -- cycle 2 comes in order, and cycle 1 doesn't
  in_order : ComesInOrder one_held (item_one 2 (0 ∷ 0 ∷ []))
  out_of_order : ComesInOrder one_held (item_one 1 (0 ∷ 0 ∷ [])) → ⊥
  -- only the last held cycle counts: after 1 and 3 cycle 2 isn't in order, after 3 and 1 it is
  after_the_first : ComesInOrder (two_held 1 3) item_two → ⊥
  before_the_newest : ComesInOrder (two_held 3 1) item_two
  -- item 1 has one origin in both cycles, and item 0 has another in cycle 2
  one_origin : (same_origin one_written 1 1 2 ≡ true) × (same_origin one_written 0 1 2 ≡ false)

pub new : New
unfolding writer writer_before last_place writes front
new = record {
  new = record {
    within = omega arith;
    free = All-from_recursion (λ r. r.item ≢ 1) one_held.reads (λ e. omega (arith, e), tt);
    sized = refl;
    below = All-from_recursion (λ e. e < 1) (0 ∷ 0 ∷ []) (omega arith, (omega arith, tt));
  };
  held_item = λ h. h.free 0 (item_one 0 []) (omega arith) refl;
  too_many = λ h. let three : 3 ≡ 2 = h.sized in omega arith;
  entry_of_its_cycle = λ h. let low : 1 < 1 = h.below 0 0 (omega arith) in omega arith;
  no_item = λ h. let low : 2 < 2 = h.within in omega arith;
  in_order = omega arith;
  out_of_order = λ h. let low : 2 ≤ 1 = h in omega arith;
  after_the_first = λ h. let low : 3 ≤ 2 = h in omega arith;
  before_the_newest = omega arith;
  one_origin = (refl, refl);
}

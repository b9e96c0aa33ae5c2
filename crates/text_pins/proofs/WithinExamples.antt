-- What the limits of the grammar let through and refuse: the greatest disk, replan and reader, and decks that are beyond one limit. And a text that spells
-- no deck, with a kind of fault that it doesn't have.
use Rattle.std.proofs.Common.{◌≡◌, ◌≤◌, ℕ, List, [], ◌∷◌, length, ap, subst, arith}
use Rattle.std.specs.Prelude.{codes}
use Rattle.std.proofs.lemmas.List.Elements.{All-from_recursion}
use Rattle.csv.proofs.OnLiterals.{csv_on_literals}
use Rattle.air_base.specs.Numbers.{number_of}
use Rattle.air_base.specs.declared.verdicts.Policy.TheVariants.{FMatrix}
use Rattle.air_model.specs.Decks.{Deck, Replan}
use Rattle.air_model.specs.Disks.{DiskSpec}
use Rattle.item_catalog.specs.DeckLimits.{DiskWithin, ReaderWithin, ReplanWithin, WithinLimits}
use Rattle.item_catalog.specs.Faults.{kinds_at}
use Rattle.item_catalog.specs.Grammar.{HasFault, RecordsFail, RecordsSpell, Spells}

-- A deck of one item, with no reader and an empty script.
abbrev small : Deck
small = record {
  items = record { value = 10; rate = 1 } ∷ [];
  disks = record { size = 1; freq = 1 } ∷ [];
  replans = [];
  updates = [];
  readers = [];
  queries = [];
  script = [];
  settings = record { policy = FMatrix; version = 1; group = 0; cycles = 10; seed = 0; loss = 0; again = 0; late = 0; monitors = 0; hears = 1000000 };
}

-- The items of a query that asks for 17.
abbrev seventeen : List ℕ
seventeen = 0 ∷ 1 ∷ 2 ∷ 3 ∷ 4 ∷ 5 ∷ 6 ∷ 7 ∷ 8 ∷ 9 ∷ 10 ∷ 11 ∷ 12 ∷ 13 ∷ 14 ∷ 15 ∷ 16 ∷ []

-- The greatest disk, and a replan to eight of them, the most.
abbrev greatest_disk : DiskSpec
greatest_disk = record { size = 1024; freq = 64 }

abbrev to_most_disks : Replan
to_most_disks = record { cycle = 2; disks = greatest_disk ∷ greatest_disk ∷ greatest_disk ∷ greatest_disk ∷ greatest_disk ∷ greatest_disk ∷ greatest_disk ∷ greatest_disk ∷ [] }

record Within : Type 0 where
  disk : DiskWithin greatest_disk
  replan : ReplanWithin to_most_disks
  reader : ReaderWithin (record { room = 256; age = 10000; tries = 16 })

within : Within
within = record { disk = great; replan = record { disks = omega arith; disk = All-from_recursion DiskWithin to_most_disks.disks (great, (great, (great, (great, (great, (great, (great, (great, tt)))))))) }; reader = record { room = omega arith; age = omega arith; tries = omega arith } }
  where
    great : DiskWithin greatest_disk
    great = record { size = omega arith; freq = omega arith }

record Beyond : Type 0 where
  size : DiskWithin (record { size = 1025; freq = 1 }) → ⊥
  freq : DiskWithin (record { size = 1; freq = 65 }) → ⊥
  ninth : ReplanWithin (record { cycle = 2; disks = greatest_disk ∷ to_most_disks.disks }) → ⊥
  room : ReaderWithin (record { room = 257; age = 0; tries = 1 }) → ⊥
  age : ReaderWithin (record { room = 0; age = 10001; tries = 1 }) → ⊥
  tries : ReaderWithin (record { room = 0; age = 0; tries = 17 }) → ⊥
  rates : WithinLimits (record small { items = record { value = 10; rate = 1000001 } ∷ [] }) → ⊥
  disk : WithinLimits (record small { disks = record { size = 1025; freq = 1 } ∷ [] }) → ⊥
  disk_again : WithinLimits (record small { disks = record { size = 1; freq = 65 } ∷ [] }) → ⊥
  replan : ReplanWithin (record { cycle = 2; disks = record { size = 1025; freq = 1 } ∷ [] }) → ⊥
  replans : WithinLimits (record small { replans = record { cycle = 2; disks = record { size = 1; freq = 65 } ∷ [] } ∷ [] }) → ⊥
  reader : WithinLimits (record small { readers = record { room = 257; age = 0; tries = 1 } ∷ [] }) → ⊥
  query : WithinLimits (record small { queries = (seventeen ∷ []) ∷ [] }) → ⊥
  settings : WithinLimits (record small { settings = record small.settings { hears = 0 } }) → ⊥

beyond : Beyond
beyond = record {
  size = λ h. let most : 1025 ≤ 1024 = h.size in omega arith;
  freq = λ h. let most : 65 ≤ 64 = h.freq in omega arith;
  ninth = λ h. let most : 9 ≤ 8 = h.disks in omega arith;
  room = λ h. let most : 257 ≤ 256 = h.room in omega arith;
  age = λ h. let most : 10001 ≤ 10000 = h.age in omega arith;
  tries = λ h. let most : 17 ≤ 16 = h.tries in omega arith;
  rates = λ h. let most : 1000001 ≤ 1000000 = h.rates 0 (record { value = 0; rate = 0 }) (omega arith) in omega arith;
  disk = λ h. let most : 1025 ≤ 1024 = (h.disk 0 (record { size = 0; freq = 0 }) (omega arith)).size in omega arith;
  disk_again = λ h. let most : 65 ≤ 64 = (h.disk 0 (record { size = 0; freq = 0 }) (omega arith)).freq in omega arith;
  replan = λ h. let most : 1025 ≤ 1024 = (h.disk 0 (record { size = 0; freq = 0 }) (omega arith)).size in omega arith;
  replans = λ h. let most : 65 ≤ 64 = ((h.replans 0 (record { cycle = 0; disks = [] }) (omega arith)).disk 0 (record { size = 0; freq = 0 }) (omega arith)).freq in omega arith;
  reader = λ h. let most : 257 ≤ 256 = (h.reader 0 (record { room = 0; age = 0; tries = 0 }) (omega arith)).room in omega arith;
  query = λ h. let most : 17 ≤ 16 = h.query 0 [] (omega arith) 0 [] (omega arith) in omega arith;
  settings = λ h. let some : 1 ≤ 0 = h.settings.some_hears in omega arith;
}

-- After the record of one item the fault at the end isn't of kind 7, since a lesser kind applies: the disks have fewer items than the deck.
abbrev item0 : List (List ℕ)
item0 = codes "item" ∷ codes "0" ∷ codes "10" ∷ codes "1" ∷ []

not_seven : RecordsFail (item0 ∷ []) 1 7 → ⊥
unfolding kinds_at number_of
not_seven h = let low : 7 ≤ 6 = h.least.least 0 0 (omega arith) in omega arith

not_fault : HasFault (codes "item,0,10,1\n") 2 7 → ⊥
unfolding HasFault csv_on_literals
not_fault (place, row, fails) = not_seven (subst (λ at. RecordsFail (item0 ∷ []) at 7) (omega (arith, row)) fails)

-- The record spells no deck.
not_faultless : (deck : Deck) → RecordsSpell (item0 ∷ []) deck → ⊥
unfolding kinds_at number_of
not_faultless deck h = let none : length (kinds_at (item0 ∷ []) 1) ≡ 0 = ap length (h.faultless 1 (omega arith)) in omega (arith, none)

-- The text spells no deck.
not_spelled : (deck : Deck) → Spells (codes "item,0,10,1\n") deck → ⊥
unfolding Spells csv_on_literals
not_spelled deck spells = not_faultless deck spells

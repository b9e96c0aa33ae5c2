-- The longest cycle of small decks, computed: that of a deck without replans, and of one that changes its program over.
use Rattle.std.specs.Prelude.{◌≡◌, ℕ, Option, List, [], ◌∷◌, refl}
use Rattle.air_history.specs.Places.{greatest_of}
use Rattle.air_model.specs.Decks.{Deck}
use Rattle.air_model.specs.Disks.{DiskSpec, cut, order, order_with}
use Rattle.air_model.specs.Programs.{chunk, chunk_len, least_common_multiple, minor_cycle, num_chunks, num_minors, program}
use Rattle.air_model.proofs.SessionExamples.{deck, item, pair, s}
use Rattle.scripts.specs.LongestCycles.{edition_size, longest_cycle}

-- A disk of so many items, each aired so often.
abbrev spec : ℕ → ℕ → DiskSpec
spec size freq = record { size = size; freq = freq }

abbrev one_disk : List DiskSpec
one_disk = spec 3 1 ∷ []

abbrev two_disks : List DiskSpec
two_disks = spec 1 2 ∷ spec 2 1 ∷ []

-- Three items on these disks, and on others from cycle 2 on; one reader, and a script of so many starts.
abbrev changing : List DiskSpec → List DiskSpec → List (Option ℕ) → Deck
changing first later script = record (deck (item 10 3 ∷ item 20 2 ∷ item 30 1 ∷ []) [] (0, 0, 1) ((2 ∷ 0 ∷ []) ∷ []) script) { disks = first; replans = record { cycle = 2; disks = later } ∷ [] }

pub record Longest : Type 0 where
  -- two slots of 36 bytes
  without_replans : longest_cycle pair ≡ 72
  -- three slots of 40 bytes, then four
  of_first : edition_size (changing one_disk two_disks (s ∷ s ∷ [])) 0 ≡ 120
  of_second : edition_size (changing one_disk two_disks (s ∷ s ∷ [])) 1 ≡ 160
  by_the_second : longest_cycle (changing one_disk two_disks (s ∷ s ∷ [])) ≡ 160
  by_the_first : longest_cycle (changing two_disks one_disk (s ∷ s ∷ [])) ≡ 160
  -- one cycle doesn't reach the replan
  unreached : longest_cycle (changing one_disk two_disks (s ∷ [])) ≡ 120

longest : Longest
unfolding greatest_of cut order order_with program least_common_multiple num_minors num_chunks chunk_len chunk minor_cycle
longest = record {
  without_replans = refl;
  of_first = refl;
  of_second = refl;
  by_the_second = refl;
  by_the_first = refl;
  unreached = refl;
}

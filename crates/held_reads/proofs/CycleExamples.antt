-- The array of held cycles on small attempts, and what entries reach, computed.
use Rattle.std.proofs.Common.{◌≡◌, true, false, [], ◌∷◌, refl}
use Rattle.held_reads.specs.HeardReads.{heard_read}
use Rattle.held_reads.specs.Searches.{is_reached}
use Rattle.held_reads.specs.HeldCycles.{cycles_of}

-- Item 2 is held in cycle 5 and item 0 in cycle 7, for any entries.
two_held : cycles_of (record { n = 4; reads = heard_read 2 5 (1 ∷ 0 ∷ 4 ∷ 0 ∷ []) ∷ heard_read 0 7 (6 ∷ 0 ∷ 0 ∷ 0 ∷ []) ∷ [] }) ≡ 7 ∷ 4294967295 ∷ 5 ∷ 4294967295 ∷ []
two_held = refl

nothing_held : cycles_of (record { n = 2; reads = [] }) ≡ 4294967295 ∷ 4294967295 ∷ []
nothing_held = refl

-- An entry reaches a held read from its own cycle on.
reached_at_its_cycle : is_reached (0 ∷ 5 ∷ []) (heard_read 1 5 (0 ∷ 0 ∷ [])) ≡ true
reached_at_its_cycle = refl

not_reached_before : is_reached (0 ∷ 4 ∷ []) (heard_read 1 5 (0 ∷ 0 ∷ [])) ≡ false
not_reached_before = refl

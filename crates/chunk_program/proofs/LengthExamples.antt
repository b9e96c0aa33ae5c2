-- When a program is too long: by its number of slots, which is told. When an edition of a deck is the first that is.
use Rattle.std.proofs.Common.{◌≡◌, ◌<◌, ℕ, zero, suc, List, [], ◌∷◌, length, refl, sym, arith}
use Rattle.air_base.specs.declared.limits.TheConstants.{MOST_SLOTS}
use Rattle.air_model.specs.Decks.{Deck, count_editions, disks_in}
use Rattle.air_model.specs.Disks.{Disk}
use Rattle.air_model.specs.Programs.{chunk, chunk_len, least_common_multiple, minor_cycle, num_chunks, num_minors, program}
use Rattle.chunk_program.specs.Plans.{AreShort, AreShortBelow, IsFirstTooLong, IsTooLong}

-- Item 0 twice a cycle and item 1 once: four slots, as disk 1 has two chunks.
abbrev small : List Disk
small = record { items = 0 ∷ []; freq = 2 } ∷ record { items = 1 ∷ []; freq = 1 } ∷ []

few_slots : length (program small) ≡ 4
unfolding program least_common_multiple num_minors num_chunks chunk_len chunk minor_cycle
few_slots = refl

most : MOST_SLOTS ≡ 16384
most = refl

-- A program of four slots isn't too long, whatever number is told.
not_too_long : (slots : ℕ) → IsTooLong small slots → ⊥
not_too_long slots h = omega (arith, few_slots, h.counted, h.above)

-- A program of one slot more than the most is, and that number is told; with the most it isn't.
too_long : (disks : List Disk) → length (program disks) ≡ 16385 → IsTooLong disks 16385
too_long disks slots = record { counted = sym slots; above = omega arith }

at_the_most : (disks : List Disk) → IsTooLong disks 16384 → ⊥
at_the_most disks h = let above : 16384 < 16384 = h.above in omega arith

-- Where edition 0 has the most slots and edition 1 one more, those below edition 1 are short, those below edition 2 aren't, and edition 1 is the
-- first that is too long.
short_below : (deck : Deck) → length (program (disks_in deck 0)) ≡ 16384 → AreShortBelow deck 1
short_below deck own zero below = omega (arith, own)
short_below deck own (suc e) below = absurd (omega arith)

not_short_below : (deck : Deck) → length (program (disks_in deck 1)) ≡ 16385 → AreShortBelow deck 2 → ⊥
not_short_below deck later short = let few = short 1 (omega arith) in omega (arith, few, later)

first_too_long : (deck : Deck) → 1 < count_editions deck → length (program (disks_in deck 0)) ≡ 16384 → length (program (disks_in deck 1)) ≡ 16385 → IsFirstTooLong deck 16385
first_too_long deck two own later = record { edition = 1; within = two; long = too_long (disks_in deck 1) later; least = short_below deck own }

not_short : (deck : Deck) → 1 < count_editions deck → length (program (disks_in deck 1)) ≡ 16385 → AreShort deck → ⊥
not_short deck two later short = let few = short 1 two in omega (arith, few, later)

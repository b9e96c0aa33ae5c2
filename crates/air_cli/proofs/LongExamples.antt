-- A deck whose program has one slot more than a program may have: what is said of it, and what isn't.
use Rattle.std.proofs.Common.{◌≡◌, ◌<◌, ◌≤◌, ℕ, zero, suc, List, [], ◌∷◌, length, map, replicate, refl, sym, ap, arith}
use Rattle.std.proofs.lemmas.List.Sums.{sum_by-cons}
use Rattle.air_base.specs.declared.verdicts.Policy.TheVariants.{FMatrix}
use Rattle.air_model.specs.Decks.{Deck, disks_in}
use Rattle.air_model.specs.Disks.{cut, order, order_with}
use Rattle.air_model.specs.Programs.{chunk_len, least_common_multiple, minor_len, num_chunks, num_minors, program}
use Rattle.air_model.proofs.ProgramLemmas.{length_program}
use Rattle.chunk_program.specs.Plans.{AreShort, AreShortBelow, IsFirstTooLong, IsTooLong}
use Rattle.disk_split.specs.Splits.{IsShortSplit, IsSplit, minor_of, resized, slots_of}
use Rattle.air_cli.specs.Run.{CanRun}
use Rattle.air_cli.specs.Split.{CanBeSplit}

-- Five items of one rate on one disk, in each of 3277 minor cycles: 16,385 slots.
abbrev too_full : Deck
too_full = record {
  items = map (λ rate. record { value = 0; rate = rate }) (replicate 5 1);
  disks = record { size = 5; freq = 3277 } ∷ [];
  replans = [];
  updates = [];
  readers = [];
  queries = [];
  script = [];
  settings = record { policy = FMatrix; version = 1; group = 0; cycles = 10; seed = 0; loss = 0; again = 0; late = 0; monitors = 0; hears = 1000000 };
}

-- With one item it has 3,277.
abbrev one_item : Deck
one_item = record too_full { items = record { value = 0; rate = 1 } ∷ []; disks = record { size = 1; freq = 3277 } ∷ [] }

many_slots : length (program (disks_in too_full 0)) ≡ 16385
unfolding order order_with cut least_common_multiple num_minors num_chunks chunk_len minor_len
many_slots = length_program (disks_in too_full 0)

few_slots : length (program (disks_in one_item 0)) ≡ 3277
unfolding order order_with cut least_common_multiple num_minors num_chunks chunk_len minor_len
few_slots = length_program (disks_in one_item 0)

record Long : Type 0 where
  program : IsTooLong (disks_in too_full 0) 16385
  first : IsFirstTooLong too_full 16385
  none_before : AreShortBelow too_full 0
  other : AreShort one_item

long : Long
long = record {
  program = is_long;
  first = record { edition = 0; within = omega arith; long = is_long; least = λ e below. absurd (omega (arith, below)) };
  none_before = λ e below. absurd (omega (arith, below));
  other = by;
}
  where
    is_long : IsTooLong (disks_in too_full 0) 16385
    is_long = record { counted = sym many_slots; above = omega arith }

    by : AreShort one_item
    by zero below = omega (arith, few_slots)
    by (suc e) below = absurd (omega (arith, below))

-- It isn't short, so it can't be run.
not_short : AreShort too_full → ⊥
not_short h = let few : length (program (disks_in too_full 0)) ≤ 16384 = h 0 (omega arith) in omega (arith, few, many_slots)

not_short_below : AreShortBelow too_full 1 → ⊥
not_short_below h = let few : length (program (disks_in too_full 0)) ≤ 16384 = h 0 (omega arith) in omega (arith, few, many_slots)

no_run : CanRun too_full → ⊥
no_run h = not_short h.0

-- The number that is told is its own, and the shorter one isn't too long by its own number.
not_by_another : IsTooLong (disks_in too_full 0) 16386 → ⊥
not_by_another h = let counted : 16386 ≡ length (program (disks_in too_full 0)) = h.counted in omega (arith, counted, many_slots)

not_the_first : IsFirstTooLong one_item 3277 → ⊥
not_the_first h = let above : 16384 < 3277 = h.long.above in omega arith

-- Its one split is too long, too, so it can't be split.
split_slots : slots_of too_full (5 ∷ []) ≡ 16385
unfolding order order_with cut least_common_multiple num_minors num_chunks chunk_len minor_len resized minor_of slots_of
split_slots = refl

all_on_one : (sizes : List ℕ) → IsSplit too_full sizes → sizes ≡ 5 ∷ []
all_on_one [] split = absurd (omega (arith, split.disks))
all_on_one (a ∷ []) split = ap (λ k. k ∷ []) (let is : a ≡ 5 = omega (arith, split.all, sum_by-cons (λ (x : ℕ). x) a []) in is)
all_on_one (a ∷ b ∷ sizes) split = absurd (omega (arith, split.disks))

no_split : CanBeSplit too_full → ⊥
no_split h =
    let is : IsShortSplit too_full h.short.0 = h.short.1 in
    let same = ap (slots_of too_full) (all_on_one h.short.0 is.split) in
    omega (arith, is.short, same, split_slots)

-- Splits of decks of one disk, with as many slots as a program may have and with one more, and lists of sizes that are no
-- split.
use Rattle.std.proofs.Common.{◌≡◌, ◌≤◌, ℕ, false, List, [], ◌∷◌, All, length, map, replicate, refl, sym, subst, ap, arith}
use Rattle.std.proofs.lemmas.List.Elements.{All-cons, All-nil}
use Rattle.std.proofs.lemmas.List.Sums.{sum_by-cons}
use Rattle.air_base.specs.declared.verdicts.Policy.TheVariants.{FMatrix}
use Rattle.air_model.specs.Decks.{Deck}
use Rattle.air_model.specs.Disks.{DiskSpec, cut, order, order_with}
use Rattle.air_model.specs.Programs.{chunk_len, least_common_multiple, minor_len, num_chunks, num_minors}
use Rattle.disk_split.specs.SplitAnswers.{AreAllTooLong}
use Rattle.disk_split.specs.Splits.{IsBest, IsShortSplit, IsSplit, cost, is_before, minor_of, resized, slots_of}

-- Items of one rate on disks of these sizes and frequencies.
abbrev of_one_rate : ℕ → List DiskSpec → Deck
of_one_rate items disks = record {
  items = map (λ rate. record { value = 0; rate = rate }) (replicate items 1);
  disks = disks;
  replans = [];
  updates = [];
  readers = [];
  queries = [];
  script = [];
  settings = record { policy = FMatrix; version = 1; group = 0; cycles = 10; seed = 0; loss = 0; again = 0; late = 0; monitors = 0; hears = 1000000 };
}

-- Four items in each of 4096 minor cycles, which are 16,384 slots, and five in each of 3277, which are 16,385.
abbrev full : Deck
full = of_one_rate 4 (record { size = 4; freq = 4096 } ∷ [])

abbrev too_full : Deck
too_full = of_one_rate 5 (record { size = 5; freq = 3277 } ∷ [])

full_slots : slots_of full (4 ∷ []) ≡ 16384
unfolding order order_with cut least_common_multiple num_minors num_chunks chunk_len minor_len resized minor_of slots_of
full_slots = refl

too_full_slots : slots_of too_full (5 ∷ []) ≡ 16385
unfolding order order_with cut least_common_multiple num_minors num_chunks chunk_len minor_len resized minor_of slots_of
too_full_slots = refl

-- A split of one disk gives it all items.
all_on_one : (n : ℕ) (deck : Deck) (sizes : List ℕ) → length deck.disks ≡ 1 → length deck.items ≡ n → IsSplit deck sizes → sizes ≡ n ∷ []
all_on_one n deck [] one all split = absurd (omega (arith, split.disks, one))
all_on_one n deck (a ∷ []) one all split = ap (λ k. k ∷ []) (let is : a ≡ n = omega (arith, split.all, all, sum_by-cons (λ (x : ℕ). x) a []) in is)
all_on_one n deck (a ∷ b ∷ sizes) one all split = absurd (omega (arith, split.disks, one))

some : (n : ℕ) → 1 ≤ n → All (λ n. 1 ≤ n) (n ∷ [])
some n one = All-cons (λ n. 1 ≤ n) n [] one (All-nil (λ n. 1 ≤ n))

-- 16,384 slots are no more than a program may have.
full_is_short : IsShortSplit full (4 ∷ [])
full_is_short = record { split = record { disks = refl; filled = some 4 (omega arith); all = refl }; short = omega (arith, full_slots) }

not_all_too_long : AreAllTooLong full 16384 → ⊥
not_all_too_long long = let above = long.above in omega (arith, above)

-- One more is too many, and that number is reported.
not_short : IsShortSplit too_full (5 ∷ []) → ⊥
not_short short = let few = short.short in omega (arith, few, too_full_slots)

all_too_long : AreAllTooLong too_full 16385
all_too_long = record {
  above = omega arith;
  reached = (5 ∷ [], record { disks = refl; filled = some 5 (omega arith); all = refl }, too_full_slots);
  least = λ sizes split. let same = all_on_one 5 too_full sizes refl refl split in omega (arith, ap (slots_of too_full) same, too_full_slots);
}

-- A list of another length, or with another sum, is no split.
no_split : (IsSplit full (1 ∷ 3 ∷ []) → ⊥) × (IsSplit full (3 ∷ []) → ⊥)
no_split = (λ split. let two = split.disks in omega (arith, two), λ split. let three = split.all in omega (arith, three))

-- The one split of the four items is the best.
only_is_best : IsBest full (4 ∷ [])
only_is_best = record {
  short = full_is_short;
  least = λ other short. let same = all_on_one 4 full other refl refl short.split in omega (arith, ap (cost full) same);
  first = λ other short costs. subst (λ sizes. is_before sizes (4 ∷ []) ≡ false) (sym (all_on_one 4 full other refl refl short.split)) refl;
}

-- Splits of small decks, computed: their minor cycles, slots and costs, which of two comes first, which are short, and the text.
use Rattle.std.proofs.Common.{◌≡◌, ◌≤◌, ◌*◌, ℕ, true, false, List, [], ◌∷◌, All, codes, length, map, replicate, refl, sym, ap, subst, arith}
use Rattle.std.proofs.Math.Nat.{mul-le-mul_left}
use Rattle.std.proofs.lemmas.List.Elements.{All-cons, All-head, All-nil}
use Rattle.csv.specs.Writing.{escaped, fields_text, is_blank}
use Rattle.air_base.specs.Numbers.{number_text}
use Rattle.air_base.specs.declared.verdicts.Policy.TheVariants.{FMatrix}
use Rattle.air_model.specs.Airings.{chunks_of, disk_number, gap_of}
use Rattle.air_model.specs.Decks.{Deck}
use Rattle.air_model.specs.Disks.{DiskSpec, cut, order, order_with}
use Rattle.air_model.specs.Programs.{chunk_len, least_common_multiple, minor_len, num_chunks, num_minors}
use Rattle.air_model.specs.Rows.{rows_text}
use Rattle.disk_split.specs.SplitAnswers.{AreAllTooLong, search_size}
use Rattle.disk_split.specs.Splits.{IsBest, IsShortSplit, IsSplit, cost, is_before, minor_of, resized, slots_of, split_row, split_text}
use Rattle.disk_split.specs.Numbers.{chunks_in, minors_in}
use Rattle.disk_split.specs.Rests.{minor_from}
use Rattle.disk_split.proofs.DeckLemmas.{deck_sums, slots_walk, split_rest}
use Rattle.disk_split.proofs.RestLemmas.{slots_many}

-- A deck of items with these rates, and disks of these sizes and frequencies.
abbrev deck_of : List ℕ → List DiskSpec → Deck
deck_of rates disks = record {
  items = map (λ rate. record { value = 0; rate = rate }) rates;
  disks = disks;
  replans = [];
  updates = [];
  readers = [];
  queries = [];
  script = [];
  settings = record { policy = FMatrix; version = 1; group = 0; cycles = 10; seed = 0; loss = 0; again = 0; late = 0; monitors = 0; hears = 1000000 };
}

-- A disk of this size and this frequency.
abbrev spec : ℕ → ℕ → DiskSpec
spec size freq = record { size = size; freq = freq }

-- Eleven items of one rate on three disks.
abbrev eleven : Deck
eleven = deck_of (replicate 11 1) (spec 1 4 ∷ spec 2 2 ∷ spec 8 1 ∷ [])

-- Six items of different rates on two disks.
abbrev six : Deck
six = deck_of (2 ∷ 0 ∷ 3 ∷ 3 ∷ 4 ∷ 4 ∷ []) (spec 5 1 ∷ spec 1 2 ∷ [])

-- What is known of a split: the slots of a minor cycle and of a cycle, and its cost.
abbrev numbers : Deck → List ℕ → List ℕ
numbers deck sizes = minor_of deck sizes ∷ slots_of deck sizes ∷ cost deck sizes ∷ []

pub larger_second_disk_costs_less : numbers eleven (1 ∷ 6 ∷ 4 ∷ []) ≡ 5 ∷ 20 ∷ 145 ∷ []
unfolding order order_with cut least_common_multiple num_minors num_chunks chunk_len minor_len disk_number chunks_of gap_of resized minor_of slots_of cost
larger_second_disk_costs_less = refl

pub own_sizes_cost_more : numbers eleven (1 ∷ 2 ∷ 8 ∷ []) ≡ 4 ∷ 16 ∷ 148 ∷ []
unfolding order order_with cut least_common_multiple num_minors num_chunks chunk_len minor_len disk_number chunks_of gap_of resized minor_of slots_of cost
own_sizes_cost_more = refl

-- All splits of the six items: three of them cost least, each with another number of slots.
pub three_splits_cost_least : map (numbers six) ((1 ∷ 5 ∷ []) ∷ (2 ∷ 4 ∷ []) ∷ (3 ∷ 3 ∷ []) ∷ (4 ∷ 2 ∷ []) ∷ (5 ∷ 1 ∷ []) ∷ [])
    ≡ (6 ∷ 12 ∷ 120 ∷ []) ∷ (5 ∷ 10 ∷ 120 ∷ []) ∷ (5 ∷ 10 ∷ 135 ∷ []) ∷ (4 ∷ 8 ∷ 120 ∷ []) ∷ (4 ∷ 8 ∷ 128 ∷ []) ∷ []
unfolding order order_with cut least_common_multiple num_minors num_chunks chunk_len minor_len disk_number chunks_of gap_of resized minor_of slots_of cost
three_splits_cost_least = refl

-- Each disk keeps its frequency; disks without a size are left out.
pub other_sizes : (resized (spec 5 1 ∷ spec 1 2 ∷ []) (2 ∷ 4 ∷ []) ≡ spec 2 1 ∷ spec 4 2 ∷ []) × (resized (spec 5 1 ∷ spec 1 2 ∷ []) (6 ∷ []) ≡ spec 6 1 ∷ [])
unfolding resized
other_sizes = (refl, refl)

-- The first number that differs decides which comes first, and no list comes before itself.
pub first_difference_decides : is_before (1 ∷ 5 ∷ []) (2 ∷ 4 ∷ []) ∷ is_before (1 ∷ 6 ∷ 4 ∷ []) (1 ∷ 2 ∷ 8 ∷ []) ∷ is_before (1 ∷ 5 ∷ []) (1 ∷ 5 ∷ []) ∷ []
    ≡ true ∷ false ∷ false ∷ []
first_difference_decides = refl

pub row_of_sizes : split_row (codes "given") eleven (1 ∷ 2 ∷ 8 ∷ []) ≡ codes "given" ∷ codes "1 2 8" ∷ codes "148" ∷ []
unfolding order order_with cut least_common_multiple num_minors num_chunks chunk_len minor_len disk_number chunks_of gap_of resized minor_of cost number_text
row_of_sizes = refl

pub text_of_two_rows : split_text eleven (1 ∷ 6 ∷ 4 ∷ []) ≡ codes "split,1 6 4,145\ngiven,1 2 8,148\n"
unfolding order order_with cut least_common_multiple num_minors num_chunks chunk_len minor_len disk_number chunks_of gap_of resized minor_of cost split_text rows_text number_text escaped fields_text is_blank
text_of_two_rows = refl

-- ---- short and long

-- The search for eleven items on three disks has the size 363.
pub size_of_search : search_size eleven ≡ 363
size_of_search = refl

all_some : (a b c : ℕ) → 1 ≤ a → 1 ≤ b → 1 ≤ c → All (λ n. 1 ≤ n) (a ∷ b ∷ c ∷ [])
all_some a b c one two three =
    All-cons (λ n. 1 ≤ n) a (b ∷ c ∷ []) one (All-cons (λ n. 1 ≤ n) b (c ∷ []) two (All-cons (λ n. 1 ≤ n) c [] three (All-nil (λ n. 1 ≤ n))))

twenty_slots : slots_of eleven (1 ∷ 6 ∷ 4 ∷ []) ≡ 20
unfolding order order_with cut least_common_multiple num_minors num_chunks chunk_len minor_len resized minor_of slots_of
twenty_slots = refl

pub twenty_are_few : IsShortSplit eleven (1 ∷ 6 ∷ 4 ∷ [])
twenty_are_few = record {
  split = record { disks = refl; filled = all_some 1 6 4 (omega arith) (omega arith) (omega arith); all = refl };
  short = omega (arith, twenty_slots);
}

-- A split gives each disk an item.
pub empty_disk_is_none : IsSplit eleven (0 ∷ 7 ∷ 4 ∷ []) → ⊥
empty_disk_is_none split = let some = All-head (λ n. 1 ≤ n) 0 (7 ∷ 4 ∷ []) split.filled in omega arith

-- ---- splits that aren't the best

costs_of_eleven : (cost eleven (1 ∷ 6 ∷ 4 ∷ []) ≡ 145) × (cost eleven (1 ∷ 2 ∷ 8 ∷ []) ≡ 148)
unfolding order order_with cut least_common_multiple num_minors num_chunks chunk_len minor_len disk_number chunks_of gap_of resized cost
costs_of_eleven = (refl, refl)

slots_of_six : slots_of six (1 ∷ 5 ∷ []) ≡ 12
unfolding order order_with cut least_common_multiple num_minors num_chunks chunk_len minor_len resized minor_of slots_of
slots_of_six = refl

same_costs : cost six (1 ∷ 5 ∷ []) ≡ cost six (2 ∷ 4 ∷ [])
unfolding order order_with cut least_common_multiple num_minors num_chunks chunk_len minor_len disk_number chunks_of gap_of resized cost
same_costs = refl

first_is_short : IsShortSplit six (1 ∷ 5 ∷ [])
first_is_short = record {
  split = record {
    disks = refl;
    filled = All-cons (λ n. 1 ≤ n) 1 (5 ∷ []) (omega arith) (All-cons (λ n. 1 ≤ n) 5 [] (omega arith) (All-nil (λ n. 1 ≤ n)));
    all = refl;
  };
  short = omega (arith, slots_of_six);
}

-- The best split costs least, and of those that cost least it is the first; and it is a split.
pub costs_more : IsBest eleven (1 ∷ 2 ∷ 8 ∷ []) → ⊥
costs_more best = let least = best.least (1 ∷ 6 ∷ 4 ∷ []) twenty_are_few in omega (arith, least, costs_of_eleven.0, costs_of_eleven.1)

pub comes_second : IsBest six (2 ∷ 4 ∷ []) → ⊥
comes_second best = let first : true ≡ false = best.first (1 ∷ 5 ∷ []) first_is_short same_costs in cc

pub has_no_item : IsBest eleven (0 ∷ 7 ∷ 4 ∷ []) → ⊥
has_no_item best = empty_disk_is_none best.short.split

-- Three items on three disks of frequencies 64, 63 and 61. Each split has a slot for each disk in each of 245,952 minor cycles.
abbrev three : Deck
three = deck_of (replicate 3 1) (spec 1 64 ∷ spec 1 63 ∷ spec 1 61 ∷ [])

three_minors : minors_in three ≡ 245952
unfolding minors_in least_common_multiple
three_minors = refl

three_chunks : chunks_in three ≡ 3843 ∷ 3904 ∷ 4032 ∷ []
unfolding chunks_in minors_in least_common_multiple
three_chunks = refl

three_slots : slots_of three (1 ∷ 1 ∷ 1 ∷ []) ≡ 737856
unfolding order order_with cut least_common_multiple num_minors num_chunks chunk_len minor_len resized minor_of slots_of
three_slots = refl

one_each : IsSplit three (1 ∷ 1 ∷ 1 ∷ [])
one_each = record { disks = refl; filled = all_some 1 1 1 (omega arith) (omega arith) (omega arith); all = refl }

at_least : (sizes : List ℕ) → IsSplit three sizes → 737856 ≤ slots_of three sizes
at_least sizes split =
    let some : All (λ n. 1 ≤ n) (chunks_in three) = subst (All (λ n. 1 ≤ n)) (sym three_chunks) (all_some 3843 3904 4032 (omega arith) (omega arith) (omega arith)) in
    let many = slots_many (deck_sums three) (chunks_in three) 0 sizes some (split_rest three sizes split) in
    let grows : minors_in three * 3 ≤ minors_in three * minor_from (chunks_in three) sizes = mul-le-mul_left (minors_in three) (omega (arith, ap length three_chunks)) in
    omega (arith, slots_walk three sizes split, three_minors)

pub all_too_long : AreAllTooLong three 737856
all_too_long = record { above = omega arith; reached = (1 ∷ 1 ∷ 1 ∷ [], one_each, three_slots); least = at_least }

-- The answer is the least number, no lower one, and none that a program may have.
pub not_all_too_long : (AreAllTooLong three 737855 → ⊥) × (AreAllTooLong eleven 20 → ⊥)
not_all_too_long = (
  λ h. let r = h.reached in let low = at_least r.0 r.1 in let is = r.2 in omega arith,
  λ h. let above = h.above in omega arith,
)

-- From the search over disks to the splits of a deck: what is least there is best here.
use Rattle.std.proofs.Common.{◌≡◌, ◌≤◌, ◌<◌, ◌⊎◌, inl, inr, ◌+◌, ◌*◌, ◌/◌, ◌^◌, ℕ, suc, None, List, length, min, sym, ap, ◌∙◌, arith}
use Rattle.std.proofs.Math.Nat.{div-add-mod', mul-le-mul_left, mul-le-mul_right}
use Rattle.std.specs.List.{All}
use Rattle.std.proofs.lemmas.Bool.{cases_lt}
use Rattle.std.proofs.lemmas.Nat.{mod_below}
use Rattle.air_base.specs.declared.limits.TheConstants.{MOST_SLOTS}
use Rattle.air_model.specs.Decks.{Deck, IsDeck}
use Rattle.disk_split.specs.Splits.{IsBest, IsShortSplit, IsSplit, cost, minor_of}
use Rattle.disk_split.specs.SplitAnswers.{AreAllTooLong}
use Rattle.disk_split.specs.Private.Bests.{IsBestBelow, IsFound, cost_from}
use Rattle.disk_split.specs.Numbers.{IsLeastMinor, chunks_in, minors_in}
use Rattle.disk_split.specs.Rests.{AreChunks, IsSplitRest, minor_from, weight_from}
use Rattle.disk_split.proofs.CostLemmas.{cost_is}
use Rattle.disk_split.proofs.DeckLemmas.{deck_sums, length-deck_sums, minor_walk, rest_split, slots_walk, split_rest, weight_walk}
use Rattle.disk_split.proofs.RestLemmas.{slots_few, slots_many}

-- n times a number is at most m if the number is at most the quotient, and more if it isn't.
quotient_fits : (m n k : ℕ) → 0 < n → k ≤ m / n → n * k ≤ m
quotient_fits m n k some up =
    let grows : n * k ≤ n * (m / n) = mul-le-mul_left n up in
    let parts = div-add-mod' m n in let turned : n * (m / n) ≡ m / n * n = omega arith in omega arith

pub fits_quotient : (m n k : ℕ) → 0 < n → n * k ≤ m → k ≤ m / n
fits_quotient m n k some fits = by (cases_lt (m / n) k)
  where
    by : ((m / n < k) ⊎ (k ≤ m / n)) → k ≤ m / n
    by (inl less) = absurd (
        let grows : n * suc (m / n) ≤ n * k = mul-le-mul_left n less in
        let next : n * suc (m / n) ≡ m / n * n + n = omega arith in
        let parts = div-add-mod' m n in let rest = mod_below m n some in omega arith)
    by (inr more) = more

pub few_minors : (n k m : ℕ) → 1 ≤ k → n * k ≤ m → n ≤ m
few_minors n k m some fits = let grows : n * 1 ≤ n * k = mul-le-mul_left n some in omega arith

-- What sizes cost fits 64 bits if their minor cycles have few slots.
pub cost_small : (slots weight : ℕ) → slots ≤ 1024 → weight < 2 ^ 46 → slots * weight < 2 ^ 64
cost_small slots weight few small = let grows : slots * weight ≤ 1024 * weight = mul-le-mul_right weight few in omega arith

-- Some split has the fewest slots, so there are at least as many as disks.
pub least_many : (sums cs : List ℕ) (least : ℕ) → All (λ c. 1 ≤ c) cs → IsLeastMinor sums cs least → length cs ≤ least
least_many sums cs least some low = let r = low.reached in let many = slots_many sums cs 0 r.0 some r.1 in let is = r.2 in omega arith

-- Some split has the fewest slots, so there are at most as many as items.
pub least_few : (sums cs : List ℕ) (least : ℕ) → All (λ c. 1 ≤ c) cs → IsLeastMinor sums cs least → least < length sums
least_few sums cs least some low = let r = low.reached in let few = slots_few sums cs 0 r.0 some r.1 in let is = r.2 in omega arith

module _ (deck : Deck) (made : IsDeck deck) where
  pub cost_walk : (sizes : List ℕ) → IsSplit deck sizes → cost deck sizes ≡ cost_from (deck_sums deck) (chunks_in deck) sizes
  cost_walk sizes split =
      cost_is deck sizes made split ∙ ap (λ n. minor_of deck sizes * n) (weight_walk deck sizes split) ∙ ap (λ n. n * weight_from (deck_sums deck) (chunks_in deck) 0 sizes) (minor_walk deck sizes split)

  module _ (cut : AreChunks (chunks_in deck)) (some : 0 < minors_in deck) where
    -- a split is short if the slots of its minor cycle are below the width
    short_below : (sizes : List ℕ) → IsShortSplit deck sizes → minor_from (chunks_in deck) sizes < min (MOST_SLOTS / minors_in deck) (length deck.items) + 1
    short_below sizes short =
        let walk = slots_walk deck sizes short.split in let fits = short.short in
        let low = fits_quotient MOST_SLOTS (minors_in deck) (minor_from (chunks_in deck) sizes) some (omega arith) in
        let few = slots_few (deck_sums deck) (chunks_in deck) 0 sizes cut.some (split_rest deck sizes short.split) in
        let long = length-deck_sums deck in omega arith

    below_short : (sizes : List ℕ) → IsSplitRest (deck_sums deck) (chunks_in deck) 0 sizes → minor_from (chunks_in deck) sizes < min (MOST_SLOTS / minors_in deck) (length deck.items) + 1 → IsShortSplit deck sizes
    below_short sizes rest below =
        let split = rest_split deck sizes rest in let walk = slots_walk deck sizes split in
        let fits = quotient_fits MOST_SLOTS (minors_in deck) (minor_from (chunks_in deck) sizes) some (omega arith) in
        record { split = split; short = omega arith }

    -- what is best of these sizes is the best split
    pub best_is : (c : ℕ) (sizes : List ℕ) → IsBestBelow (deck_sums deck) (chunks_in deck) (min (MOST_SLOTS / minors_in deck) (length deck.items) + 1) c sizes → IsBest deck sizes × (c ≡ cost deck sizes)
    best_is c sizes best = (
      record {
        short = short;
        least = λ other s. let low = best.least other (split_rest deck other s.split) (short_below other s) in let one = walk sizes short in let two = walk other s in let own = best.costs in omega arith;
        first = λ other s same. best.first other (split_rest deck other s.split) (short_below other s) (sym (walk other s) ∙ same ∙ walk sizes short ∙ best.costs);
      },
      sym best.costs ∙ sym (walk sizes short),
    )
      where
        short : IsShortSplit deck sizes
        short = below_short sizes best.rest best.short

        walk : (sizes : List ℕ) → IsShortSplit deck sizes → cost deck sizes ≡ cost_from (deck_sums deck) (chunks_in deck) sizes
        walk sizes s = cost_walk sizes s.split

    -- nothing is found only if no sizes are short
    pub none_short : (least : ℕ) → IsLeastMinor (deck_sums deck) (chunks_in deck) least → minors_in deck * least ≤ MOST_SLOTS
        → IsFound (deck_sums deck) (chunks_in deck) (min (MOST_SLOTS / minors_in deck) (length deck.items) + 1) None → ⊥
    none_short least low fits none =
        let r = low.reached in let split = rest_split deck r.0 r.1 in
        let walk = slots_walk deck r.0 split in let is = ap (λ n. minors_in deck * n) r.2 in
        none r.0 r.1 (short_below r.0 (record { split = split; short = omega arith }))

  -- if even the fewest slots are too many, all splits are too long
  pub too_long : (least slots : ℕ) → IsLeastMinor (deck_sums deck) (chunks_in deck) least → slots ≡ minors_in deck * least → MOST_SLOTS < slots → AreAllTooLong deck slots
  too_long least slots low is over = record {
    above = over;
    reached = (let r = low.reached in let split = rest_split deck r.0 r.1 in (r.0, split, slots_walk deck r.0 split ∙ ap (λ n. minors_in deck * n) r.2 ∙ sym is));
    least = λ sizes split.
        let few = low.fewest sizes (split_rest deck sizes split) in let walk = slots_walk deck sizes split in
        let grows : minors_in deck * least ≤ minors_in deck * minor_from (chunks_in deck) sizes = mul-le-mul_left (minors_in deck) few in omega arith;
  }

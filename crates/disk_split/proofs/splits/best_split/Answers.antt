use Rattle.std.proofs.Common.{◌≡◌, ◌≤◌, ◌<◌, ◌+◌, ◌*◌, ◌/◌, ◌^◌, ℕ, List, All, length, min, sym, subst, ap, ◌∙◌, arith}
use Rattle.std.proofs.Math.Nat.{mul-le-mul_left}
use Rattle.air_base.specs.declared.limits.TheConstants.{MOST_SLOTS}
use Rattle.disk_split.specs.Splits.{sizes_in}
use Rattle.disk_split.specs.Private.Bests.{IsBestBelow, IsFound, cost_from}
use Rattle.disk_split.specs.Numbers.{IsLeastMinor, chunks_in, minors_in}
use Rattle.disk_split.specs.Rests.{AreChunks, AreSums, IsSplitRest, minor_from, weight_from}
use Rattle.disk_split.proofs.CostLemmas.{own_split}
use Rattle.disk_split.proofs.DeckLemmas.{deck_sums, length-chunks_in, length-deck_sums, split_rest}
use Rattle.disk_split.proofs.DeckNumbers.{are_deck_chunks, are_deck_sums, chunks_below, chunks_some, few_disks, few_items, some_disks}
use Rattle.disk_split.proofs.RestLemmas.{slots_few, weight_small}
use Rattle.disk_split.proofs.SearchLemmas.{best_is, cost_small, cost_walk, few_minors, least_few, least_many, none_short, too_long}
use Rattle.disk_split.proofs.splits.best_split.Goals as goal
use Rattle.disk_split.proofs.splits.best_split.Goals.{After-deref-3, After-drop-chunks-2, After-items, After-least_minor, In_ok-found}

-- ---- the chunks, and the fewest slots
chunks_are : (c : After-items) → c.deref.result.now ≡ chunks_in c.args.deck.now
chunks_are c = c.deref.ensures.value ∙ c.in_ok-chunks.ensures

pub least_minor-requires-clause-filled : goal.least_minor-requires-clause-filled
least_minor-requires-clause-filled c =
    let long = ap length (chunks_are c) ∙ length-chunks_in c.args.deck.now in let few = few_disks c.args.deck.now c.shows_well_made.ensures.made in let told = c.items.ensures.told in omega arith

pub least_minor-requires-clause-disks : goal.least_minor-requires-clause-disks
least_minor-requires-clause-disks c =
    let long = ap length (chunks_are c) ∙ length-chunks_in c.args.deck.now in let some = some_disks c.args.deck.now c.shows_well_made.ensures.made in omega arith

pub least_minor-requires-clause-some : goal.least_minor-requires-clause-some
least_minor-requires-clause-some c = subst (All (λ n. 1 ≤ n)) (sym (chunks_are c)) (chunks_some c.args.deck.now c.shows_well_made.ensures.made)

pub least_minor-requires-clause-few : goal.least_minor-requires-clause-few
least_minor-requires-clause-few c =
    subst (All (λ n. n ≤ 2 ^ 48)) (sym (chunks_are c)) (chunks_below c.args.deck.now (2 ^ 48) (let few = c.minors-minors.ensures.few in let is = c.minors-minors.ensures.counted in omega arith))

least_is : (c : After-least_minor) → IsLeastMinor (deck_sums c.args.deck.now) (chunks_in c.args.deck.now) c.least_minor.result
least_is c =
    let deck = c.args.deck.now in
    subst (λ l. IsLeastMinor (deck_sums deck) l c.least_minor.result) (chunks_are ((goal.at.overflow_mul-slots c).After-items))
    (c.least_minor.ensures (deck_sums deck) (length-deck_sums deck ∙ ap (λ n. n + 1) (sym c.items.ensures.told)))

pub overflow_mul-slots : goal.overflow_mul-slots
overflow_mul-slots c =
    let deck = c.args.deck.now in
    let few = least_few (deck_sums deck) (chunks_in deck) c.least_minor.result (chunks_some deck c.shows_well_made.ensures.made) (least_is c) in
    let long = length-deck_sums deck in let most = few_items deck c.shows_well_made.ensures.made in
    let grows : c.minors-minors.result * c.least_minor.result ≤ c.minors-minors.result * 1024 = mul-le-mul_left c.minors-minors.result (omega arith) in
    let top = c.minors-minors.ensures.few in omega arith

pub returns-then-slots-gt-MOST_SLOTS-clause-long : goal.returns-then-slots-gt-MOST_SLOTS-clause-long
returns-then-slots-gt-MOST_SLOTS-clause-long c =
    let low = least_is ((goal.at.returns-then-slots-gt-MOST_SLOTS-clause-long c).After-least_minor) in
    too_long c.args.deck.now c.shows_well_made.ensures.made c.least_minor.result _ low (ap (λ m. m * c.least_minor.result) c.minors-minors.ensures.counted) c.if-slots-gt-MOST_SLOTS.true

-- ---- if some split is short
-- The fewest slots are no more than a program may have, so there are few minor cycles.
fits : (c : After-deref-3) → minors_in c.args.deck.now * c.least_minor.result ≤ MOST_SLOTS
fits c = let is = ap (λ m. m * c.least_minor.result) c.minors-minors.ensures.counted in let low = c.if-slots-gt-MOST_SLOTS.false in omega arith

cut : (c : After-deref-3) → AreChunks (chunks_in c.args.deck.now)
cut c =
    let deck = c.args.deck.now in let made = c.shows_well_made.ensures.made in
    let low = least_is ((goal.at.given_cost-given-requires-clause-rest c).After-least_minor) in
    let many = least_many (deck_sums deck) (chunks_in deck) c.least_minor.result (chunks_some deck made) low in
    let some = some_disks deck made in let long = length-chunks_in deck in
    are_deck_chunks deck made (few_minors (minors_in deck) c.least_minor.result MOST_SLOTS (omega arith) (fits c))

sums : (c : After-deref-3) → AreSums (deck_sums c.args.deck.now)
sums c = are_deck_sums c.args.deck.now c.shows_well_made.ensures.made c.shows_well_made.ensures.limits

pub given_cost-given-requires-clause-sums : goal.given_cost-given-requires-clause-sums
given_cost-given-requires-clause-sums c = subst AreSums (sym (c.deref-3.ensures.value ∙ c.in_ok-sums.ensures)) (sums c)

pub given_cost-given-requires-clause-chunks : goal.given_cost-given-requires-clause-chunks
given_cost-given-requires-clause-chunks c = subst AreChunks (sym (c.deref-2.ensures.value ∙ c.in_ok-chunks.ensures)) (cut c)

rest : (c : After-deref-3) → IsSplitRest (deck_sums c.args.deck.now) (chunks_in c.args.deck.now) 0 (sizes_in c.args.deck.now)
rest c = split_rest c.args.deck.now (sizes_in c.args.deck.now) (own_split c.args.deck.now c.shows_well_made.ensures.made)

pub given_cost-given-requires-clause-rest : goal.given_cost-given-requires-clause-rest
given_cost-given-requires-clause-rest c =
    let sizes = sizes_in c.args.deck.now in
    subst (λ l. IsSplitRest l c.deref-2.result.now 0 sizes) (sym (c.deref-3.ensures.value ∙ c.in_ok-sums.ensures))
    (subst (λ l. IsSplitRest (deck_sums c.args.deck.now) l 0 sizes) (sym (c.deref-2.ensures.value ∙ c.in_ok-chunks.ensures)) (rest c))

pub best_sizes-requires-clause-sums : goal.best_sizes-requires-clause-sums
best_sizes-requires-clause-sums c = subst AreSums (sym (c.deref-5.ensures.value ∙ c.in_ok-sums.ensures)) (sums ((goal.at.best_sizes-requires-clause-sums c).After-deref-3))

pub best_sizes-requires-clause-chunks : goal.best_sizes-requires-clause-chunks
best_sizes-requires-clause-chunks c = subst AreChunks (sym (c.deref-4.ensures.value ∙ c.in_ok-chunks.ensures)) (cut ((goal.at.best_sizes-requires-clause-chunks c).After-deref-3))

pub best_sizes-requires-clause-some : goal.best_sizes-requires-clause-some
best_sizes-requires-clause-some c =
    let long = ap length (c.deref-4.ensures.value ∙ c.in_ok-chunks.ensures) ∙ length-chunks_in c.args.deck.now in let some = some_disks c.args.deck.now c.shows_well_made.ensures.made in omega arith

found : (c : In_ok-found) → IsFound (deck_sums c.args.deck.now) (chunks_in c.args.deck.now) (min (MOST_SLOTS / minors_in c.args.deck.now) (length c.args.deck.now.items) + 1) c.in_ok-found.field-0
found c =
    let deck = c.args.deck.now in
    let width : c.min.result + 1 ≡ min (MOST_SLOTS / minors_in deck) (length deck.items) + 1 =
    ap (λ n. n + 1) (c.min.ensures ∙ ap (λ m. min (MOST_SLOTS / m) c.from.result) c.minors-minors.ensures.counted ∙ ap (min (MOST_SLOTS / minors_in deck)) (c.from.ensures ∙ c.items-2.ensures.told)) in
    subst (λ n. IsFound (deck_sums deck) (chunks_in deck) n c.in_ok-found.field-0) width
    (subst (λ l. IsFound l (chunks_in deck) (c.min.result + 1) c.in_ok-found.field-0) (c.deref-5.ensures.value ∙ c.in_ok-sums.ensures)
    (subst (λ l. IsFound c.deref-5.result.now l (c.min.result + 1) c.in_ok-found.field-0) (c.deref-4.ensures.value ∙ c.in_ok-chunks.ensures) c.in_ok-found.ensures))

pub unreachable-requires : goal.unreachable-requires
unreachable-requires c =
    let a = goal.at.unreachable-requires c in let deck = c.args.deck.now in
    let some : 0 < minors_in deck = (let is = c.minors-minors.ensures.counted in let s = c.minors-minors.ensures.some in omega arith) in
    none_short deck c.shows_well_made.ensures.made (cut a.After-deref-3) some c.least_minor.result (least_is a.After-least_minor) (fits a.After-deref-3)
    (subst (IsFound (deck_sums deck) (chunks_in deck) (min (MOST_SLOTS / minors_in deck) (length deck.items) + 1)) c.in-None.is (found a.In_ok-found))

best : (c : After-drop-chunks-2)
    → IsBestBelow (deck_sums c.args.deck.now) (chunks_in c.args.deck.now) (min (MOST_SLOTS / minors_in c.args.deck.now) (length c.args.deck.now.items) + 1) c.in-Some.found.cost c.in-Some.found.sizes
best c =
    let deck = c.args.deck.now in
    subst (IsFound (deck_sums deck) (chunks_in deck) (min (MOST_SLOTS / minors_in deck) (length deck.items) + 1)) c.in-Some.is (found (goal.at.returns-clause-best c).In_ok-found)

pub returns-clause-best : goal.returns-clause-best
returns-clause-best c =
    let some : 0 < minors_in c.args.deck.now = (let is = c.minors-minors.ensures.counted in let s = c.minors-minors.ensures.some in omega arith) in
    best_is c.args.deck.now c.shows_well_made.ensures.made (cut (goal.at.returns-clause-best c).After-deref-3) some c.in-Some.found.cost c.in-Some.found.sizes (best c)

given_is : (c : After-drop-chunks-2) → c.given_cost-given.result ≡ cost_from (deck_sums c.args.deck.now) (chunks_in c.args.deck.now) (sizes_in c.args.deck.now)
given_is c =
    let sizes = sizes_in c.args.deck.now in
    c.given_cost-given.ensures ∙ ap (λ l. cost_from l c.deref-2.result.now sizes) (c.deref-3.ensures.value ∙ c.in_ok-sums.ensures)
    ∙ ap (λ l. cost_from (deck_sums c.args.deck.now) l sizes) (c.deref-2.ensures.value ∙ c.in_ok-chunks.ensures)

pub returns-clause-given : goal.returns-clause-given
returns-clause-given c = let deck = c.args.deck.now in let made = c.shows_well_made.ensures.made in given_is c ∙ sym (cost_walk deck made (sizes_in deck) (own_split deck made))

-- What sizes cost that take all items of the deck.
small : (c : After-drop-chunks-2) (sizes : List ℕ) → IsSplitRest (deck_sums c.args.deck.now) (chunks_in c.args.deck.now) 0 sizes → cost_from (deck_sums c.args.deck.now) (chunks_in c.args.deck.now) sizes < 2 ^ 64
small c sizes all =
    let deck = c.args.deck.now in let a = (goal.at.returns-clause-best c).After-deref-3 in
    let few = slots_few (deck_sums deck) (chunks_in deck) 0 sizes (cut a).some all in let long = length-deck_sums deck in let most = few_items deck c.shows_well_made.ensures.made in
    cost_small (minor_from (chunks_in deck) sizes) (weight_from (deck_sums deck) (chunks_in deck) 0 sizes) (omega arith) (weight_small (deck_sums deck) (chunks_in deck) 0 sizes (sums a) (cut a) all)

pub returns-clause-narrow : goal.returns-clause-narrow
returns-clause-narrow c =
    let b = best c in let one = small c c.in-Some.found.sizes b.rest in let is = b.costs in
    let two = small c (sizes_in c.args.deck.now) (rest (goal.at.returns-clause-best c).After-deref-3) in let given = given_is c in
    (omega arith, omega arith)

use Rattle.std.proofs.Common.{◌≡◌, map, sum, subst, ap, ◌∙◌, arith}
use Rattle.std.specs.Result.{IfOk}
use Rattle.disk_split.specs.Numbers.{hot_rates, sums_of}
use Rattle.disk_split.proofs.DeckNumbers.{hot_small}
use Rattle.disk_split.proofs.HotLemmas.{rate_of, sorted_hot}
use Rattle.disk_split.proofs.rates.sums.Goals as goal
use Rattle.disk_split.proofs.rates.sums.Goals.{After-deref}

hot : (c : After-deref) → map rate_of c.deref.result.now ≡ hot_rates c.args.deck.now
hot c =
    ap (map rate_of) c.deref.ensures.value
    ∙ sorted_hot c.args.deck.now c.in_ok-rates.rates.items c.sort_unstable.new.self.items c.in_ok-rates.ensures c.sort_unstable.ensures.permutation c.sort_unstable.ensures.sorted

pub sums_of-requires : goal.sums_of-requires
sums_of-requires c = let small = hot_small c.args.deck.now c.shows_well_made.ensures.made c.shows_well_made.ensures.limits in let same = ap sum (hot c) in omega arith

pub returns : goal.returns
returns c = subst (λ rates. IfOk c.sums_of.result (λ sums. sums.items ≡ sums_of rates)) (hot (goal.at.returns c).After-deref) c.sums_of.ensures

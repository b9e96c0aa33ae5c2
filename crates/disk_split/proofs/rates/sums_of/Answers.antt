use Rattle.std.proofs.Common.{rules, ◌≡◌, ◌<◌, ℕ, List, true, map, length, get_or, arith, ◌∙◌, sym}
use Rattle.std.specs.declared.cmp.Reverse.{Reverse}
use Rattle.std.specs.Result.{is_ok}
use Rattle.std.proofs.lemmas.List.{get_or-map, length-map}
use Rattle.disk_split.proofs.HotLemmas.{rate_of}
use Rattle.disk_split.proofs.RateLemmas.{sum_fits, sum_more, sums_more, sums_whole}
use Rattle.disk_split.proofs.rates.sums_of.Goals as goal

rate_at : (rates : List (Reverse ℕ)) (k rate : ℕ) → k < length rates → rate ≡ (get_or rates k (record { 0 = 0 })).0 → rate ≡ get_or (map rate_of rates) k 0
rate_at rates k rate below is = is ∙ sym (get_or-map rate_of rates k (record { 0 = 0 }) 0 below)

pub overflow_add-sum : goal.overflow_add-sum
overflow_add-sum c =
    let rates = c.args.rates.now in let k = c.loop-rate.rate-index in
    let fits = sum_fits (map rate_of rates) k c.loop-rate.sum c.from-sum.result (omega (arith, length-map rates rate_of)) c.requires c.loop-rate.invariant.sum
    (rate_at rates k c.from-sum.result c.loop-rate-test.true c.from-sum.ensures) in omega arith

pub loop-rate-preserved : goal.loop-rate-preserved
loop-rate-preserved c =
    let rates = c.args.rates.now in let k = c.loop-rate.rate-index in
    let good : is_ok c.push-in-loop-rate.result ≡ true = search rules in
    let pushed = rw good at c.push-in-loop-rate.ensures.items in
    let next = sum_more (map rate_of rates) k c.loop-rate.sum c.from-sum.result (omega (arith, length-map rates rate_of)) c.loop-rate.invariant.sum
    (rate_at rates k c.from-sum.result c.loop-rate-test.true c.from-sum.ensures) in
    record { sums = sums_more (map rate_of rates) k _ c.loop-rate.sums.items _ c.loop-rate.invariant.sums next pushed; sum = next }

pub returns : goal.returns
returns c =
    sums_whole (map rate_of c.args.rates.now) c.loop-rate.rate-index c.loop-rate.sums.items (omega (arith, length-map c.args.rates.now rate_of)) c.loop-rate.invariant.sums

use Rattle.std.proofs.Common.{◌≡◌, ◌+◌, ◌-◌, ◌≤◌, length, sum, refl, sym, ap, ◌∙◌, subst, arith}
use Rattle.std.specs.List.{All}
use Rattle.std.proofs.lemmas.List.{take_all}
use Rattle.std.proofs.lemmas.List.Elements.{Contains-get_or}
use Rattle.std.proofs.lemmas.List.Sums.{sum_by_more}
use Rattle.disk_split.specs.Numbers.{IsLeastMinor}
use Rattle.disk_split.specs.Rests.{chunk_slots}
use Rattle.disk_split.proofs.LeastMinors.{all_fits, least_is, most_more, own_more}
use Rattle.disk_split.proofs.lengths.least_minor.Goals as goal

pub loop-count-init : goal.loop-count-init
loop-count-init c = record { all = refl; most = λ k d below. absurd (omega arith); own = Contains-get_or c.args.chunks.now 0 0 c.requires.disks }

pub overflow_add-all : goal.overflow_add-all
overflow_add-all c =
    let filled = c.requires.filled in
    let fits = all_fits c.args.chunks.now c.loop-count.count-index c.loop-count.all c.loop-count-test.true (omega arith) c.requires.few c.loop-count.invariant.all in omega arith

pub loop-count-preserved : goal.loop-count-preserved
loop-count-preserved c =
    let chunks = c.args.chunks.now in let k = c.loop-count.count-index in let i = c.loop-count.invariant in
    record {
      all = (let more = sum_by_more (λ x. x) chunks k 0 c.loop-count-test.true in let told = i.all in omega arith);
      most = most_more chunks k c.loop-count.most c.max-most.result c.loop-count-test.true c.max-most.ensures i.most;
      own = own_more chunks k c.loop-count.most c.max-most.result c.loop-count-test.true c.max-most.ensures i.own;
    }

pub returns : goal.returns
returns c = λ sums long.
    let chunks = c.args.chunks.now in let i = c.loop-count.invariant in
    let whole = take_all c.loop-count.count-index chunks c.loop-count-test.false in
    let most : All (λ x. x ≤ c.loop-count.most) chunks = subst (All (λ x. x ≤ c.loop-count.most)) whole i.most in
    let left : c.saturating_sub.result ≡ c.args.items - sum chunks = c.saturating_sub.ensures ∙ ap (λ n. n - c.loop-count.all) c.from.ensures ∙ ap (λ n. c.args.items - n) (i.all ∙ ap sum whole) in
    subst (λ n. IsLeastMinor sums chunks (length chunks + n)) (sym (c.chunk_slots.ensures ∙ ap (chunk_slots c.loop-count.most) left))
    (least_is sums chunks c.loop-count.most c.args.items c.requires.some most i.own long c.requires.filled)

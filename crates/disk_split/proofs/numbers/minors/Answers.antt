use Rattle.std.proofs.Common.{◌≡◌, ◌<◌, get_or, length, ap, ◌∙◌, arith}
use Rattle.std.specs.Prelude.{⊤}
use Rattle.std.proofs.lemmas.List.{take_all}
use Rattle.std.proofs.lemmas.Option.{MatchOption-at_some, slice_get-get_or}
use Rattle.air_model.specs.Disks.{DiskSpec}
use Rattle.air_model.proofs.CommonMultiples.{least_common_pos}
use Rattle.disk_split.specs.Numbers.{minors_in}
use Rattle.disk_split.proofs.MinorLemmas.{common_bound, common_more, common_of, minors_bound, product_fits}
use Rattle.disk_split.proofs.numbers.minors.Goals as goal

pub common_multiple-minors-requires-clause-fits : goal.common_multiple-minors-requires-clause-fits
common_multiple-minors-requires-clause-fits c =
    let few = c.freq.ensures.few in let eight = c.disks-disk-end.ensures.few in
    product_fits c.loop-disk.minors c.freq.result c.loop-disk.disk (omega arith) c.loop-disk.invariant.under (omega arith)

pub loop-disk-preserved : goal.loop-disk-preserved
loop-disk-preserved c =
    let disks = c.args.deck.now.disks in let k = c.loop-disk.disk in let i = c.loop-disk.invariant in
    let none : DiskSpec = record { size = 0; freq = 0 } in
    let told = c.disks-disk-end.ensures.told in let few = c.freq.ensures.few in let some = c.freq.ensures.some in
    let below : k < length disks = omega arith in
    let freq : c.freq.result ≡ (get_or disks k none).freq =
    MatchOption-at_some ⊤ (λ (d : DiskSpec). c.freq.result ≡ d.freq) (get_or disks k none) (slice_get-get_or disks k none below) c.freq.ensures.told in
    record {
      counted = c.common_multiple-minors.ensures ∙ common_more disks k c.freq.result none c.loop-disk.minors below freq i.counted;
      some = (let pos = least_common_pos c.loop-disk.minors c.freq.result i.some (omega arith) in let is = c.common_multiple-minors.ensures in omega arith);
      under = (let bound = common_bound c.loop-disk.minors c.freq.result k i.some (omega arith) (omega arith) i.under in let is = c.common_multiple-minors.ensures in omega arith);
    }

pub returns-clause-counted : goal.returns-clause-counted
unfolding minors_in
returns-clause-counted c =
    let told = c.disks-disk-end.ensures.told in
    c.loop-disk.invariant.counted ∙ ap common_of (take_all c.loop-disk.disk c.args.deck.now.disks (omega arith))

pub returns-clause-few : goal.returns-clause-few
returns-clause-few c = minors_bound c.loop-disk.minors c.loop-disk.disk c.loop-disk.invariant.under (let eight = c.disks-disk-end.ensures.few in omega arith)

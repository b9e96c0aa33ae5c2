use Rattle.std.proofs.Common.{◌≡◌, ◌≤◌, refl, arith, length, ap, ◌∙◌}
use Rattle.std.proofs.lemmas.Option.{slice_get_read}
use Rattle.air_model.specs.Disks.{Disk}
use Rattle.air_model.specs.Programs.{least_common_multiple}
use Rattle.air_model.proofs.ProgramLemmas.{airable_aired}
use Rattle.air_model.proofs.CommonMultiples.{least_common_pos}
use Rattle.air_model.proofs.Elements.{all_at}
use Rattle.chunk_program.proofs.Numbers.{common_bound, common_fits, minors_bound, minors_more, minors_none}
use Rattle.chunk_program.proofs.layout.num_minors.Goals as goal

pub loop-disk-init : goal.loop-disk-init
loop-disk-init c = record { counted = minors_none; some = omega arith; under = omega arith }

pub common_multiple-minors-requires-clause-fits : goal.common_multiple-minors-requires-clause-fits
common_multiple-minors-requires-clause-fits c =
    let disks = c.args.disks.now in let k = c.loop-disk.disk-index in let d = c.disk-item.result in
    let at = slice_get_read disks (length disks) k d refl c.loop-disk-test.true c.disk-item.is in
    let few = all_at (λ (d : Disk). d.freq ≤ 64) disks k d c.requires.freqs at in
    let freq = c.freq.ensures in let eight = c.requires.eight in
    common_fits c.loop-disk.minors c.freq.result k (omega arith) c.loop-disk.invariant.under (omega arith)

pub loop-disk-preserved : goal.loop-disk-preserved
loop-disk-preserved c =
    let disks = c.args.disks.now in let k = c.loop-disk.disk-index in let d = c.disk-item.result in let m = c.loop-disk.minors in
    let i = c.loop-disk.invariant in
    let at = slice_get_read disks (length disks) k d refl c.loop-disk-test.true c.disk-item.is in
    let few = all_at (λ (d : Disk). d.freq ≤ 64) disks k d c.requires.freqs at in
    let aired = airable_aired disks c.requires.airable k d at in
    let is : c.common_multiple-minors.result ≡ least_common_multiple m d.freq = c.common_multiple-minors.ensures ∙ ap (least_common_multiple m) c.freq.ensures in
    record {
      counted = is ∙ minors_more disks k d m c.loop-disk-test.true c.disk-item.is i.counted;
      some = (let pos = least_common_pos m d.freq i.some aired in omega arith);
      under = (let bound = common_bound m d.freq k i.some aired few i.under in omega arith);
    }

pub returns-clause-few : goal.returns-clause-few
returns-clause-few c = minors_bound c.loop-disk.minors c.loop-disk.disk-index c.loop-disk.invariant.under (let eight = c.requires.eight in omega arith)

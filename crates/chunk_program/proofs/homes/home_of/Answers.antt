use Rattle.std.proofs.Common.{List, length, get_or, take, arith, ap, ◌∙◌}
use Rattle.air_model.specs.Disks.{Disk}
use Rattle.air_model.specs.Programs.{minor_len}
use Rattle.chunk_program.proofs.HomeLemmas.{home_known, number_within}
use Rattle.chunk_program.proofs.homes.home_of.Goals as goal

pub len_before-slots_before-requires-clause-within : goal.len_before-slots_before-requires-clause-within
len_before-slots_before-requires-clause-within c =
    let within = number_within c.args.cut.now c.args.item c.disk_of-disk.result c.requires.limits c.requires.item c.disk_of-disk.ensures in
    let long = ap length c.disks-disks.ensures in omega arith

pub bounds-disks-number : goal.bounds-disks-number
bounds-disks-number c =
    let within = number_within c.args.cut.now c.args.item c.disk_of-disk.result c.requires.limits c.requires.item c.disk_of-disk.ensures in
    let long = ap length c.disks-disks.ensures in omega arith

pub home_at-requires : goal.home_at-requires
home_at-requires c =
    let disks = c.args.cut.now in let n = c.disk_of-disk.result in let d = c.index-disks-number.result in let m = c.args.minors in
    let is = c.index-disks-number.is ∙ ap (λ (l : List Disk). get_or l n d) c.disks-disks.ensures in
    let slots_before = c.len_before-slots_before.ensures.counted ∙ ap (λ (l : List Disk). minor_len m (take n l)) c.disks-disks.ensures in
    let known = home_known disks c.args.item n c.place_of-place.result m c.args.minor_slots c.len_before-slots_before.result d
    c.requires.limits c.requires.item c.disk_of-disk.ensures c.place_of-place.ensures is c.requires.short c.requires.minors c.requires.minor_slots slots_before in
    known.fits

pub returns : goal.returns
returns c =
    let disks = c.args.cut.now in let n = c.disk_of-disk.result in let d = c.index-disks-number.result in let m = c.args.minors in
    let is = c.index-disks-number.is ∙ ap (λ (l : List Disk). get_or l n d) c.disks-disks.ensures in
    let slots_before = c.len_before-slots_before.ensures.counted ∙ ap (λ (l : List Disk). minor_len m (take n l)) c.disks-disks.ensures in
    let known = home_known disks c.args.item n c.place_of-place.result m c.args.minor_slots c.len_before-slots_before.result d
    c.requires.limits c.requires.item c.disk_of-disk.ensures c.place_of-place.ensures is c.requires.short c.requires.minors c.requires.minor_slots slots_before in
    record {
      disk = c.home_at.ensures.disk ∙ c.disk_of-disk.ensures;
      times = c.home_at.ensures.times ∙ known.times;
      gap = c.home_at.ensures.gap ∙ known.gap;
      first = c.home_at.ensures.first ∙ known.first;
      chunks = c.home_at.ensures.chunks ∙ known.chunks;
    }

use Rattle.std.proofs.Common.{◌≡◌, ◌+◌, arith, ap, ◌∙◌, take}
use Rattle.std.proofs.lemmas.List.{length-take-le}
use Rattle.air_model.specs.Programs.{chunk_len, minor_len}
use Rattle.chunk_program.proofs.ChunkLemmas.{chunk_len_few, freq_some, earlier_disk, chunks_some, len_more, len_none}
use Rattle.chunk_program.proofs.layout.len_before.Goals as goal

pub loop-disk-init : goal.loop-disk-init
loop-disk-init c = record { counted = len_none c.args.minors; under = omega arith }

pub chunk_len-len-requires-clause-aired : goal.chunk_len-len-requires-clause-aired
chunk_len-len-requires-clause-aired c =
    let disks = c.args.disks.now in let k = c.loop-disk.disk-index in let d = c.disk-item.result in
    let own = earlier_disk disks c.args.n k d c.requires.within c.loop-disk-test.true c.disk-item.is in
    freq_some disks c.requires.limits k d own.at

pub chunk_len-len-requires-clause-some : goal.chunk_len-len-requires-clause-some
chunk_len-len-requires-clause-some c =
    let disks = c.args.disks.now in let k = c.loop-disk.disk-index in let d = c.disk-item.result in
    let own = earlier_disk disks c.args.n k d c.requires.within c.loop-disk-test.true c.disk-item.is in
    rw c.requires.minors (chunks_some disks c.requires.limits k d own.at)

pub overflow_add-len : goal.overflow_add-len
overflow_add-len c =
    let disks = c.args.disks.now in let k = c.loop-disk.disk-index in let d = c.disk-item.result in
    let own = earlier_disk disks c.args.n k d c.requires.within c.loop-disk-test.true c.disk-item.is in
    let few = chunk_len_few disks c.requires.limits k d own.at in
    let len = c.chunk_len-len.ensures ∙ ap (λ m. chunk_len m d) c.requires.minors in
    let under = c.loop-disk.invariant.under in let eight = c.requires.limits.eight in let within = own.within in omega arith

pub loop-disk-preserved : goal.loop-disk-preserved
loop-disk-preserved c =
    let disks = c.args.disks.now in let k = c.loop-disk.disk-index in let d = c.disk-item.result in
    let own = earlier_disk disks c.args.n k d c.requires.within c.loop-disk-test.true c.disk-item.is in
    let len = c.chunk_len-len.ensures in
    record {
      counted = ap (λ l. c.loop-disk.len + l) len ∙ len_more c.args.minors disks k d c.loop-disk.len own.within own.is c.loop-disk.invariant.counted;
      under = (let few = chunk_len_few disks c.requires.limits k d own.at in let same = len ∙ ap (λ m. chunk_len m d) c.requires.minors in let under = c.loop-disk.invariant.under in omega arith);
    }

pub returns-clause-counted : goal.returns-clause-counted
returns-clause-counted c =
    let long = length-take-le c.args.n c.args.disks.now c.requires.within in
    let all : c.loop-disk.disk-index ≡ c.args.n = omega arith in
    c.loop-disk.invariant.counted ∙ ap (λ k. minor_len c.args.minors (take k c.args.disks.now)) all

pub returns-clause-few : goal.returns-clause-few
returns-clause-few c =
    let under = c.loop-disk.invariant.under in let eight = c.requires.limits.eight in let within = c.requires.within in
    let long = length-take-le c.args.n c.args.disks.now within in omega arith

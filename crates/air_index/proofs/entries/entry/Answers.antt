use Rattle.std.proofs.Common.{◌+◌, ◌/◌, ◌*◌, ◌-◌, sym, ◌∙◌, ap, arith}
use Rattle.air_model.specs.Programs.{program as slots_of}
use Rattle.air_index.proofs.EntryLemmas.{entry_here, entry_there, from_below, len_within, rest_few, wait_few, wait_within}
use Rattle.air_index.proofs.MarkLemmas.{some_parts}
use Rattle.air_index.proofs.entries.entry.Goals as goal

pub next_wake-wait-requires-clause-slot : goal.next_wake-wait-requires-clause-slot
next_wake-wait-requires-clause-slot c =
    from_below c.args.program.now.disks c.args.next.now.disks c.args.minor c.args.item c.minor_len.result c.slots-slots.result c.minor_len.ensures c.slots-slots.ensures.counted c.slots-slots.ensures.some
    c.slots-slots.ensures.few c.requires.minor

pub overflow_mul-from : goal.overflow_mul-from
overflow_mul-from c =
    let below =
    from_below c.args.program.now.disks c.args.next.now.disks c.args.minor c.args.item c.minor_len.result c.slots-slots.result c.minor_len.ensures c.slots-slots.ensures.counted c.slots-slots.ensures.some
    c.slots-slots.ensures.few c.requires.minor in
    omega (arith, below, c.slots-slots.ensures.counted, c.slots-slots.ensures.few)

pub overflow_add-from : goal.overflow_add-from
overflow_add-from c =
    let below =
    from_below c.args.program.now.disks c.args.next.now.disks c.args.minor c.args.item c.minor_len.result c.slots-slots.result c.minor_len.ensures c.slots-slots.ensures.counted c.slots-slots.ensures.some
    c.slots-slots.ensures.few c.requires.minor in
    let few = wait_few (slots_of c.args.program.now.disks) (c.args.minor * c.minor_len.result) c.args.item c.next_wake-wait.result c.next_wake-wait.ensures.wait in
    omega (arith, below, few, c.slots-slots.ensures.counted, c.slots-slots.ensures.few)

pub nonzero_div-result : goal.nonzero_div-result
nonzero_div-result c =
    let parts = some_parts c.args.program.now.disks (omega (arith, c.slots-slots.ensures.counted, c.slots-slots.ensures.some)) in
    omega (arith, parts.1, c.minor_len-then-from-wait.ensures)

pub returns-then-from-wait : goal.returns-then-from-wait
returns-then-from-wait c =
    let w = c.next_wake-wait.result in
    ap (λ k. w + w / k + 1) (c.minor_len-then-from-wait.ensures ∙ sym c.minor_len.ensures)
    ∙ entry_here c.args.program.now.disks c.args.next.now.disks c.args.minor c.args.item c.minor_len.result c.slots-slots.result c.minor_len.ensures c.slots-slots.ensures.counted c.slots-slots.ensures.some
    c.slots-slots.ensures.few c.requires.minor w c.next_wake-wait.ensures.wait c.if-from-wait.true

pub overflow_add-left : goal.overflow_add-left
overflow_add-left c =
    let few =
    rest_few c.args.program.now.disks c.args.next.now.disks 0 c.args.item c.minor_len-2.result c.slots-slots.result c.minor_len-2.ensures c.slots-slots.ensures.counted c.slots-slots.ensures.some
    c.slots-slots.ensures.few (omega (arith, c.requires.minor)) c.minors.result c.minors.ensures in
    let one = len_within (c.minors.result - 0) (c.minor_len-2.result + 1) (omega (arith, c.requires.minor, c.minors.ensures)) in
    omega (arith, few, one)

pub overflow_mul-left : goal.overflow_mul-left
overflow_mul-left c =
    let few =
    rest_few c.args.program.now.disks c.args.next.now.disks c.args.minor c.args.item c.minor_len-2.result c.slots-slots.result c.minor_len-2.ensures c.slots-slots.ensures.counted c.slots-slots.ensures.some
    c.slots-slots.ensures.few c.requires.minor c.minors.result c.minors.ensures in
    omega (arith, few)

pub place_of-requires : goal.place_of-requires
place_of-requires c = wait_within (slots_of c.args.next.now.disks) c.args.item c.next_wake.result c.next_wake.ensures.wait c.next_wake.ensures.least

pub overflow_add-result-2 : goal.overflow_add-result-2
overflow_add-result-2 c =
    let few =
    rest_few c.args.program.now.disks c.args.next.now.disks c.args.minor c.args.item c.minor_len-2.result c.slots-slots.result c.minor_len-2.ensures c.slots-slots.ensures.counted c.slots-slots.ensures.some
    c.slots-slots.ensures.few c.requires.minor c.minors.result c.minors.ensures in
    omega (arith, few, c.place_of.ensures.few)

pub returns : goal.returns
returns c =
    let disks = c.args.program.now.disks in
    ap (λ k. (c.minors.result - c.args.minor) * (k + 1) + c.place_of.result) (c.minor_len-2.ensures ∙ sym c.minor_len.ensures)
    ∙ entry_there disks c.args.next.now.disks c.args.minor c.args.item c.minor_len.result c.slots-slots.result c.minor_len.ensures c.slots-slots.ensures.counted c.slots-slots.ensures.some
    c.slots-slots.ensures.few c.requires.minor c.next_wake-wait.result c.next_wake.result c.place_of.result c.slots-slots-2.result c.minors.result c.next_wake-wait.ensures.wait c.if-from-wait.false
    c.minors.ensures c.slots-slots-2.ensures.counted c.slots-slots-2.ensures.some c.next_wake.ensures.wait c.next_wake.ensures.least c.place_of.ensures.place

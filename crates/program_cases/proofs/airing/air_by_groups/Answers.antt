use Rattle.std.proofs.Common.{◌≡◌, ◌∙◌, ◌<◌, ◌≤◌, ◌+◌, ◌*◌, length, replicate, sym, ap, subst, arith}
use Rattle.std.proofs.lemmas.List.{length-replicate}
use Rattle.air_model.specs.Buckets.{entry_len}
use Rattle.air_sender.specs.BoardBuckets.{EntriesBelow, spread}
use Rattle.bucket_codec.specs.declared.offsets.TheConstants.{HEAD_BYTES}
use Rattle.group_matrix.specs.GroupBoards.{GroupBoard, grouped}
use Rattle.program_cases.proofs.airing.air_by_groups.Goals as goal

pub fill-requires : goal.fill-requires
fill-requires g c = record { items = ap (λ (b : GroupBoard). length b.values) c.in_ok-groups.ensures.zeros ∙ length-replicate c.n.result 0 ∙ c.n.ensures.counted }

pub air_group_cycle-requires-clause-started : goal.air_group_cycle-requires-clause-started
air_group_cycle-requires-clause-started g c = let same = ap (λ (b : GroupBoard). b.cycle) c.fill.ensures.filled in omega (arith, c.requires.started)

pub air_group_cycle-requires-clause-below : goal.air_group_cycle-requires-clause-below
air_group_cycle-requires-clause-below g c =
    let group = c.in_ok-groups.groups.group in
    let same = ap (λ (b : GroupBoard). b.group) c.in_ok-groups.ensures.zeros in
    let some = c.requires.some_group in
    subst (λ b. EntriesBelow (spread b)) (sym c.fill.ensures.filled) (c.requires.below group (omega arith))

pub air_group_cycle-requires-clause-items : goal.air_group_cycle-requires-clause-items
air_group_cycle-requires-clause-items g c = c.requires.items ∙ sym (ap (λ (b : GroupBoard). length b.values) c.fill.ensures.filled)

pub air_group_cycle-requires-clause-few : goal.air_group_cycle-requires-clause-few
air_group_cycle-requires-clause-few g c = λ one. let same = ap (λ (b : GroupBoard). length b.values) c.fill.ensures.filled in let few = c.requires.few one in omega arith

pub air_group_cycle-requires-clause-room : goal.air_group_cycle-requires-clause-room
air_group_cycle-requires-clause-room g c =
    subst (λ (b : GroupBoard). HEAD_BYTES + entry_len c.args.form.version * length b.values ≤ length c.args.buf.now) (sym c.fill.ensures.filled) c.requires.room

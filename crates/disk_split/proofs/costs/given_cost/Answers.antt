use Rattle.std.proofs.Common.{◌≡◌, ◌≤◌, ◌<◌, ◌+◌, ◌*◌, ◌^◌, drop, length, get_or, sym, subst, ap, ◌∙◌, arith}
use Rattle.std.specs.Prelude.{⊤}
use Rattle.std.proofs.lemmas.List.{get_or-map, length-map}
use Rattle.std.proofs.lemmas.Option.{MatchOption-at_some, slice_get-get_or}
use Rattle.air_model.specs.Disks.{DiskSpec}
use Rattle.disk_split.specs.Splits.{sizes_in}
use Rattle.disk_split.specs.Rests.{IsSplitRest, chunk_slots, minor_from, rates_from, weight_from}
use Rattle.disk_split.proofs.CostSteps.{chunk_some, chunk_within, end_within, next_minor, next_rest, next_weight, nothing_left, own_weight_small}
use Rattle.disk_split.proofs.RestLemmas.{slots_few, weight_small}
use Rattle.disk_split.proofs.costs.given_cost.Goals as goal
use Rattle.disk_split.proofs.costs.given_cost.Goals.{After-from, After-size-size}

-- The disk is one of those whose sizes the deck says, and its size is the one that was read.
below : (c : After-size-size) → c.loop-disk.disk < length (sizes_in c.args.deck.now)
below c = let told = c.disks-disk-end.ensures.told in let test = c.loop-disk-test.true in omega (arith, length-map c.args.deck.now.disks (λ (d : DiskSpec). d.size))

size_is : (c : After-size-size) → c.size-size.result ≡ get_or (sizes_in c.args.deck.now) c.loop-disk.disk 0
size_is c =
    let disks = c.args.deck.now.disks in let none : DiskSpec = record { size = 0; freq = 0 } in
    let at : c.loop-disk.disk < length disks = (let told = c.disks-disk-end.ensures.told in let test = c.loop-disk-test.true in omega arith) in
    MatchOption-at_some ⊤ (λ (d : DiskSpec). c.size-size.result ≡ d.size) (get_or disks c.loop-disk.disk none) (slice_get-get_or disks c.loop-disk.disk none at) c.size-size.ensures.told
    ∙ sym (get_or-map (λ (d : DiskSpec). d.size) disks c.loop-disk.disk none 0 at)

pub bounds-chunks-disk : goal.bounds-chunks-disk
bounds-chunks-disk c =
    let a = (goal.at.bounds-chunks-disk c).After-size-size in
    chunk_within c.args.sums.now c.args.chunks.now (sizes_in c.args.deck.now) c.loop-disk.from c.loop-disk.disk c.size-size.result c.loop-disk.invariant.rest (below a) (size_is a)

-- The place at which the disk's items end.
end_is : (c : After-from) → c.loop-disk.from + c.from.result < length c.args.sums.now
end_is c =
    let a = (goal.at.overflow_add-end c).After-size-size in let e = c.from.ensures in
    let within = end_within c.args.sums.now c.args.chunks.now (sizes_in c.args.deck.now) c.loop-disk.from c.loop-disk.disk c.size-size.result c.loop-disk.invariant.rest (below a) (size_is a) in omega arith

pub overflow_add-end : goal.overflow_add-end
overflow_add-end c = let few = c.requires.sums.few in let end = end_is c in omega arith

pub chunk_slots-slots-requires-clause-some : goal.chunk_slots-slots-requires-clause-some
chunk_slots-slots-requires-clause-some c =
    let a = (goal.at.chunk_slots-slots-requires-clause-some c).After-size-size in
    chunk_some c.args.sums.now c.args.chunks.now (sizes_in c.args.deck.now) c.loop-disk.from c.loop-disk.disk c.size-size.result c.loop-disk.invariant.rest (below a) (size_is a) c.requires.sums c.requires.chunks

pub overflow_add-slots : goal.overflow_add-slots
overflow_add-slots c =
    let a = (goal.at.overflow_add-slots c).After-size-size in let sizes = sizes_in c.args.deck.now in let i = c.loop-disk.invariant in
    let next = next_minor c.args.sums.now c.args.chunks.now sizes c.loop-disk.from c.loop-disk.disk c.size-size.result i.rest (below a) (size_is a) in
    let is = c.chunk_slots-slots.ensures ∙ ap (chunk_slots (get_or c.args.chunks.now c.loop-disk.disk 0)) c.from-in-loop-disk.ensures in
    let all = slots_few c.args.sums.now c.args.chunks.now 0 sizes c.requires.chunks.some c.requires.rest in
    let few = c.requires.sums.few in let slots = i.slots in omega arith

pub offset_bounds-sums-end : goal.offset_bounds-sums-end
offset_bounds-sums-end c = let few = c.requires.sums.few in let end = end_is ((goal.at.offset_bounds-sums-end c).After-from) in omega arith

pub bounds-sums-end : goal.bounds-sums-end
bounds-sums-end c = end_is ((goal.at.bounds-sums-end c).After-from)

pub offset_bounds-sums-from : goal.offset_bounds-sums-from
offset_bounds-sums-from c = let few = c.requires.sums.few in let end = end_is ((goal.at.offset_bounds-sums-from c).After-from) in omega arith

pub bounds-sums-from : goal.bounds-sums-from
bounds-sums-from c = let end = end_is ((goal.at.bounds-sums-from c).After-from) in omega arith

pub overflow_sub-weight : goal.overflow_sub-weight
overflow_sub-weight c = c.requires.sums.rising c.loop-disk.from (c.loop-disk.from + c.from.result) (omega arith) (end_is ((goal.at.overflow_sub-weight c).After-from))

-- What the disk weighs is small.
own_small : (c : After-from) → get_or c.args.chunks.now c.loop-disk.disk 0 * rates_from c.args.sums.now c.loop-disk.from c.from.result < 2 ^ 46
own_small c =
    let a = (goal.at.overflow_add-end c).After-size-size in
    subst (λ n. get_or c.args.chunks.now c.loop-disk.disk 0 * rates_from c.args.sums.now c.loop-disk.from n < 2 ^ 46) (sym c.from.ensures)
    (own_weight_small c.args.sums.now c.args.chunks.now (sizes_in c.args.deck.now) c.loop-disk.from c.loop-disk.disk c.size-size.result c.loop-disk.invariant.rest (below a) (size_is a) c.requires.sums c.requires.chunks)

pub overflow_mul-weight : goal.overflow_mul-weight
overflow_mul-weight c = let small = own_small ((goal.at.overflow_mul-weight c).After-from) in omega arith

-- What all of them weigh from the disk on is small too.
pub overflow_add-weight : goal.overflow_add-weight
overflow_add-weight c =
    let small = own_small ((goal.at.overflow_add-weight c).After-from) in let i = c.loop-disk.invariant in let weight = i.weight in
    let all = weight_small c.args.sums.now c.args.chunks.now 0 (sizes_in c.args.deck.now) c.requires.sums c.requires.chunks c.requires.rest in omega arith

pub loop-disk-preserved : goal.loop-disk-preserved
loop-disk-preserved c =
    let a = (goal.at.loop-disk-preserved c).After-size-size in
    let sums = c.args.sums.now in let cs = c.args.chunks.now in let sizes = sizes_in c.args.deck.now in
    let from = c.loop-disk.from in let disk = c.loop-disk.disk in let size = c.size-size.result in let i = c.loop-disk.invariant in
    let minor = next_minor sums cs sizes from disk size i.rest (below a) (size_is a) in
    let own = c.chunk_slots-slots.ensures ∙ ap (chunk_slots (get_or cs disk 0)) c.from-in-loop-disk.ensures in
    let weight = next_weight sums cs sizes from disk size i.rest (below a) (size_is a) in
    let same = c.from.ensures in
    let slots = i.slots in let weighs = i.weight in
    record {
      rest = subst (λ n. IsSplitRest sums (drop (disk + 1) cs) (from + n) (drop (disk + 1) sizes)) (sym same) (next_rest sums cs sizes from disk size i.rest (below a) (size_is a));
      slots = omega arith;
      weight = subst (λ n. c.loop-disk.weight + get_or cs disk 0 * rates_from sums from n + weight_from sums (drop (disk + 1) cs) (from + n) (drop (disk + 1) sizes) ≡ weight_from sums cs 0 sizes) (sym same) (omega arith);
    }

pub returns : goal.returns
returns c =
    let sums = c.args.sums.now in let cs = c.args.chunks.now in let sizes = sizes_in c.args.deck.now in let i = c.loop-disk.invariant in
    let over : length sizes ≤ c.loop-disk.disk = (let told = c.disks-disk-end.ensures.told in let test = c.loop-disk-test.false in omega (arith, length-map c.args.deck.now.disks (λ (d : DiskSpec). d.size))) in
    let none = nothing_left sums cs sizes c.loop-disk.from c.loop-disk.disk over i.rest in
    let slots : c.loop-disk.slots ≡ minor_from cs sizes = (let e = i.slots in let z = none.0 in omega arith) in
    let weight : c.loop-disk.weight ≡ weight_from sums cs 0 sizes = (let e = i.weight in let z = none.1 in omega arith) in
    ap (λ n. n * c.from-3.result) (c.from-2.ensures ∙ slots) ∙ ap (λ n. minor_from cs sizes * n) (c.from-3.ensures ∙ weight)

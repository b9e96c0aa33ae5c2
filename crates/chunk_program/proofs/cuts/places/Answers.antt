use Rattle.std.proofs.Common.{◌≡◌, ◌<◌, ◌++◌, refl, Some, ℕ, All, rules, arith, ap, subst, sym, ◌∙◌, length, take, slice_get}
use Rattle.std.proofs.lemmas.List.{take_all, with_items_is}
use Rattle.std.proofs.lemmas.Option.{slice_get_read}
use Rattle.air_model.specs.Disks.{all_items}
use Rattle.chunk_program.specs.PlaceTables.{HasPlaces}
use Rattle.chunk_program.proofs.PlaceSteps.{all_of_disk, below_count, fewer_items, items_more, items_none, place_is}
use Rattle.chunk_program.proofs.cuts.places.Goals as goal

pub loop-number-init : goal.loop-number-init
loop-number-init c = record { len = search rules; places = items_none c.args.disks.now c.in_ok-places.places.items }

pub put_places-requires-clause-within : goal.put_places-requires-clause-within
put_places-requires-clause-within c =
    let at = slice_get_read c.args.disks.now (length c.args.disks.now) c.loop-number.number c.index-disks-number.result refl c.loop-number-test.true c.index-disks-number.is in
    let n = c.args.n in
    let all : All (λ i. i < c.args.n) c.items.result.now = subst (All (λ i. i < n)) (sym c.items.ensures) (all_of_disk (λ i. i < n) c.args.disks.now c.loop-number.number c.index-disks-number.result (below_count c.args.disks.now n c.requires.limits c.requires.count) at) in
    λ k d below. let under = all k d below in let long = ap length c.deref_mut.ensures.value in let same = c.loop-number.invariant.len in omega arith

pub put_places-requires-clause-few : goal.put_places-requires-clause-few
put_places-requires-clause-few c =
    let at = slice_get_read c.args.disks.now (length c.args.disks.now) c.loop-number.number c.index-disks-number.result refl c.loop-number-test.true c.index-disks-number.is in
    let fewer = fewer_items c.args.disks.now c.loop-number.number c.index-disks-number.result at in
    let same = ap length c.items.ensures in let few = c.requires.limits.few in omega arith

pub loop-number-preserved : goal.loop-number-preserved
loop-number-preserved c =
    let disks = c.args.disks.now in let n = c.loop-number.number in let d = c.index-disks-number.result in
    let at = slice_get_read disks (length disks) n d refl c.loop-number-test.true c.index-disks-number.is in
    let long : length c.put_places.new.places ≡ c.loop-number.places.len = (let kept = c.put_places.auto.places in let whole = c.deref_mut.ensures.len in omega arith) in
    let own = λ (q i : ℕ) (item : slice_get c.items.result.now q ≡ Some i). place_is disks n d q i c.requires.limits.airable at (ap (λ l. slice_get l q) (sym c.items.ensures) ∙ item) in
    let done = all_items (take n disks) in
    let put = c.put_places.ensures disks done (subst (HasPlaces disks done) (sym c.deref_mut.ensures.value) c.loop-number.invariant.places) own in
    let more = ap (λ l. done ++ l) c.items.ensures ∙ items_more disks n d c.loop-number-test.true c.index-disks-number.is in
    rw (with_items_is c.loop-number.places c.put_places.new.places long) (record {
      len = (let kept = c.put_places.auto.places in let long = ap length c.deref_mut.ensures.value in let same = c.loop-number.invariant.len in omega arith);
      places = subst (λ l. HasPlaces disks l c.put_places.new.places) more put;
    })

pub returns-clause-places : goal.returns-clause-places
returns-clause-places c =
    let all = take_all c.loop-number.number c.args.disks.now (omega arith) in
    subst (λ l. HasPlaces c.args.disks.now (all_items l) c.loop-number.places.items) all c.loop-number.invariant.places

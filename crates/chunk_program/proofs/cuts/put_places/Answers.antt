use Rattle.std.proofs.Common.{◌<◌, ◌++◌, arith, subst, length, refl}
use Rattle.std.proofs.lemmas.List.{take_all}
use Rattle.std.proofs.lemmas.Option.{slice_get-get_or}
use Rattle.chunk_program.specs.PlaceTables.{HasPlaces}
use Rattle.chunk_program.proofs.PlaceSteps.{put_step}
use Rattle.chunk_program.proofs.cuts.put_places.Goals as goal

pub loop-place-preserved : goal.loop-place-preserved
loop-place-preserved c = λ disks done before own.
    let below : c.loop-place.place < length c.args.items.now = omega arith in
    put_step disks done c.args.items.now c.loop-place.place _ c.args.disk c.loop-place.places below refl (let within = c.requires.within c.loop-place.place 0 below in let long = c.loop-place.auto.places in omega arith)
    (c.loop-place.invariant disks done before own) (own c.loop-place.place _ (slice_get-get_or c.args.items.now c.loop-place.place 0 below))

pub returns : goal.returns
returns c = λ disks done before own. subst (λ l. HasPlaces disks (done ++ l) c.loop-place.places) (take_all c.loop-place.place c.args.items.now (omega arith)) (c.loop-place.invariant disks done before own)

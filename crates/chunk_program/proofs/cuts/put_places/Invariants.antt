use Rattle.std.proofs.Common.{◌≡◌, ◌++◌, ℕ, List, Some, slice_get, take}
use Rattle.air_model.specs.Disks.{Disk}
use Rattle.chunk_program.specs.PlaceTables.{HasPlaces, IsPlace}
use Rattle.chunk_program.proofs.cuts.put_places.Given as goal

abbrev pub invariant-loop-place : goal.invariant-loop-place
invariant-loop-place l = (disks : List Disk) (done : List ℕ) → HasPlaces disks done l.fn.places →
    ((q i : ℕ) → slice_get l.items q ≡ Some i → IsPlace disks i (record { disk = l.disk; place = q })) →
    HasPlaces disks (done ++ take l.place l.items) l.places

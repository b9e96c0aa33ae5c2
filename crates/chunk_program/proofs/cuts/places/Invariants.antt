use Rattle.std.proofs.Common.{◌≡◌, length, take}
use Rattle.air_model.specs.Disks.{all_items}
use Rattle.chunk_program.specs.PlaceTables.{HasPlaces}
use Rattle.chunk_program.proofs.cuts.places.Given as goal

abbrev pub invariant-loop-number : goal.invariant-loop-number
invariant-loop-number l = record {
  len : length l.places.items ≡ l.n;
  places : HasPlaces l.disks (all_items (take l.number l.disks)) l.places.items;
}

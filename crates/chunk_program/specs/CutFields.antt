-- What always holds of the fields of a cut.
use Rattle.std.specs.Prelude.{◌≡◌, length}
use Rattle.air_model.specs.Disks.{all_items}
use Rattle.chunk_program.specs.declared.cuts.Cut.TheInside.{Inside}
use Rattle.chunk_program.specs.CutConditions.{AreDeckDisks}
use Rattle.chunk_program.specs.PlaceTables.{HasPlaces}

-- The order is that of the disks' items, the disks are a deck's, and the table has a place for each item.
pub record IsCut (c : Inside) : Type 0 where
  pub order : c.order.items ≡ all_items c.disks.items
  pub limits : AreDeckDisks c.disks.items
  pub len : length c.places.items ≡ length c.order.items
  pub places : HasPlaces c.disks.items (all_items c.disks.items) c.places.items

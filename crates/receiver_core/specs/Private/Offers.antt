-- For private steps alone. What a read that is tried does to the copies before it is offered to them.
use Rattle.std.specs.Prelude.{List, Option, Some, None}
use Rattle.air_base.specs.declared.verdicts.Clash.{Clash}
use Rattle.air_model.specs.Copies.{without_item}
use Rattle.air_model.specs.Reads.{Read}

-- The copies without that of the item that clashes; all of them where nothing clashes.
abbrev pub without_clash : Option Clash → List Read → List Read
without_clash None copies = copies
without_clash (Some clash) copies = without_item clash.item copies

-- The numbers of the kinds of a deck's fault: of those that apply to a record, the one with the least number is reported.
use Rattle.std.specs.Prelude.{ℕ}
use Rattle.item_catalog.specs.declared.faults.FaultKind.{FaultKind}
use Rattle.item_catalog.specs.declared.faults.FaultKind.TheVariants as fault

-- The number of a kind.
abbrev pub deck_kind_number : FaultKind → ℕ
deck_kind_number fault.Fields = 1
deck_kind_number fault.Form = 2
deck_kind_number fault.Id = 3
deck_kind_number fault.Undeclared = 4
deck_kind_number fault.Twice = 5
deck_kind_number fault.Sizes = 6
deck_kind_number fault.Limit = 7
deck_kind_number fault.Unread = 8
deck_kind_number fault.Tag = 9
deck_kind_number fault.Setting = 10
deck_kind_number fault.Overdrawn = 11
deck_kind_number fault.Lengths = 13

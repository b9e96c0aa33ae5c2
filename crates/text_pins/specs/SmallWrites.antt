-- Writes of short lists.
use Rattle.std.specs.Prelude.{ℕ, [], ◌∷◌, Bool, false, Some, None}
use Rattle.air_history.specs.declared.updates.Write.{Write}
use Rattle.air_history.specs.UpdateLists.{UpdateLists}
use Rattle.item_catalog.specs.KeptLists.{WritesSeen}

-- Item 1 becomes item 0 plus this amount, or item 0 minus it.
abbrev pub one_on_zero : Bool → ℕ → Write
one_on_zero minus amount = record { item = 1; base = Some 0; minus = minus; amount = amount }

-- One write is read, and nothing else.
abbrev pub one_write : Write → Bool → WritesSeen
one_write write unread = record { writes = write ∷ []; undeclared = false; repeated = false; unread = unread }

-- Item `item` becomes its base plus this amount.
abbrev pub write_from_base : ℕ → ℕ → ℕ → Write
write_from_base item base amount = record { item = item; base = Some base; minus = false; amount = amount }

-- An update that reads nothing and sets an item to an amount.
abbrev blind_write : ℕ → ℕ → UpdateLists
blind_write item amount = record { reads = []; writes = record { item = item; base = None; minus = false; amount = amount } ∷ [] }

-- Item 0 becomes 5.
abbrev pub setting_first : UpdateLists
setting_first = blind_write 0 5

-- Item 1 becomes 6.
abbrev pub setting_second : UpdateLists
setting_second = blind_write 1 6

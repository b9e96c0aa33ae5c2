-- Which write a text spells.
use Rattle.std.specs.Prelude.{ℕ, List, Bool, true, false, Option, Some, None}
use Rattle.air_base.specs.Numbers.{number_of}
use Rattle.air_base.specs.Parts.{parts_at, two_of}
use Rattle.air_history.specs.declared.updates.Write.{Write}

-- The write of an amount to an item.
abbrev pub constant : Option ℕ → Option ℕ → Option Write
constant (Some item) (Some amount) = Some (record { item = item; base = None; minus = false; amount = amount })
constant item amount = None

-- The write to an item of a base plus an amount, or of a base minus an amount.
abbrev pub write_on_base : Bool → Option ℕ → Option ℕ → Option ℕ → Option Write
write_on_base minus (Some item) (Some base) (Some amount) = Some (record { item = item; base = Some base; minus = minus; amount = amount })
write_on_base minus item base amount = None

-- The write of a value to an item: by the two parts of the value at a `+`, by those at a `-`, or by the whole of it.
abbrev pub write_by : Option ℕ → Option (List ℕ × List ℕ) → Option (List ℕ × List ℕ) → List ℕ → Option Write
write_by item (Some plus) minus value = write_on_base false item (number_of plus.0) (number_of plus.1)
write_by item None (Some minus) value = write_on_base true item (number_of minus.0) (number_of minus.1)
write_by item None None value = constant item (number_of value)

-- The write of a value to an item.
unfoldable pub spelled_value_write : Option ℕ → List ℕ → Option Write
spelled_value_write item value = write_by item (two_of (parts_at 43 value)) (two_of (parts_at 45 value)) value

-- The write of the two sides of an `=`.
abbrev pub write_from : Option (List ℕ × List ℕ) → Option Write
write_from None = None
write_from (Some sides) = spelled_value_write (number_of sides.0) sides.1

-- A write: `<item>=<amount>`, `<item>=<base>+<amount>` or `<item>=<base>-<amount>`.
unfoldable pub spelled_write : List ℕ → Option Write
spelled_write text = write_from (two_of (parts_at 61 text))

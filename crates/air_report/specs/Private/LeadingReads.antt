-- For private steps alone. The leading place and the leading read of a text, by its leading digits and what follows them.
use Rattle.std.specs.Prelude.{ℕ, List, Option, Some, None, drop, if◌then◌else◌}
use Rattle.air_base.specs.LeadingParts.{after_digits, after_part, begins, digits_of, first_part}
use Rattle.air_base.specs.Numbers.{number_of}
use Rattle.air_base.specs.declared.verdicts.ReadOf.{ReadOf}
use Rattle.item_catalog.specs.Spelled.{spelled_then as ◌>>=◌}
use Rattle.air_report.specs.LineTexts.{short_of, spelled_item}

-- The item and the cycle of the leading place, and the text after it.
unfoldable pub leading_place : List ℕ → Option (ℕ × ℕ × List ℕ)
leading_place text = do
  item ← spelled_item (digits_of text)
  more ← if begins 64 (after_digits text) then Some (drop 1 (after_digits text)) else None
  cycle ← short_of (digits_of more)
  Some (item, cycle, after_digits more)

-- The read that the first part spells, and what follows the part.
unfoldable pub leading_read : List ℕ → Option (ReadOf × List ℕ)
leading_read text = do
  place ← leading_place text
  more ← if begins 61 place.2 then Some (drop 1 place.2) else None
  value ← number_of (first_part more)
  Some (record { item = place.0; cycle = place.1; value = value }, after_part more)

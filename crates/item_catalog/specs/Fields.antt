-- What a field's text spells: a frequency, or an event of the script. Numbers and lists are those of `air_base`, writes those
-- of `Writes`.
use Rattle.std.specs.Prelude.{ℕ, List, Option, Some, None, option_map, codes, if◌then◌else◌}
use Rattle.air_base.specs.Numbers.{number_of}
use Rattle.item_catalog.specs.RecordFields.{◌is◌}

-- A frequency: a number, or `-`, which gives none.
unfoldable pub freq_of : List ℕ → Option (Option ℕ)
freq_of text = if text is codes "-" then Some None else option_map Some (number_of text)

-- An event of the script: `s`, a start, or the number of an updater.
unfoldable pub spelled_event : List ℕ → Option (Option ℕ)
spelled_event text = if text is codes "s" then Some None else option_map Some (number_of text)

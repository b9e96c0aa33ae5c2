-- For private steps alone. What a turn of settling tells.
use Rattle.std.specs.Prelude.{Bool, false, not}
use Rattle.std.specs.Option.{option_map_or}
use Rattle.air_model.specs.Aired.{Air}
use Rattle.air_model.specs.Judges.{by_entries}
use Rattle.air_model.specs.Sessions.{Reader, State, copy_of, is_unusable, wanted}

-- The wanted item has a copy that can be used as a read now.
abbrev pub uses_copy : Air → Reader → State → Bool
uses_copy air reader s = option_map_or (λ x. not (is_unusable (by_entries air.scheme) air reader x s)) (copy_of (wanted reader s) s) false

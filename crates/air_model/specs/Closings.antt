-- How a later list of events continues one that was seen. Passes of a station promise what is defined here.
use Rattle.std.specs.Prelude.{◌≡◌, Bool, List, ◌++◌, count_by}
use Rattle.air_history.specs.declared.histories.Event.{Event}

-- The later list begins with the one that was seen, and no event that follows passes the test. With the test `is_by by`, no
-- commit of that updater follows; with `is_start`, no start.
abbrev pub GoesOnWithout : (Event → Bool) → List Event → List Event → Type 0
GoesOnWithout own seen later = (others : List Event) × (later ≡ seen ++ others) × (count_by own others ≡ 0)

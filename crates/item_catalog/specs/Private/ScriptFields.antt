-- For private steps only. How a script is read: a byte alone at the beginning, the answer for a list, and what always holds of
-- a script: its limits and its counts.
use Rattle.std.specs.Prelude.{◌≡◌, ◌<◌, ◌≤◌, ◌==◌, ◌&&◌, ◌++◌, ℕ, List, [], ◌∷◌, Bool, false, Option, Some, None, length, get_or}
use Rattle.air_base.specs.declared.limits.TheConstants.{MOST_EVENTS, MOST_STARTS, MOST_UPDATERS}
use Rattle.air_base.specs.LeadingParts.{ends_part}
use Rattle.air_model.specs.Decks.{scripted_commits}
use Rattle.item_catalog.specs.Faults.{count_starts, script_passes}
use Rattle.item_catalog.specs.declared.scripts.Script.TheInside.{Inside}

-- Whether a text's first part is this byte alone.
abbrev pub stands_alone : ℕ → List ℕ → Bool
stands_alone word [] = false
stands_alone word (byte ∷ bytes) = (byte == word) && ends_part bytes

-- A reader of events answers whether they pass a limit, and has added them if they don't. It answers None if the text spells no
-- list.
abbrev pub EventsRead : Option Bool → Option (List (Option ℕ)) → List (Option ℕ) → List (Option ℕ) → Type 0
EventsRead read None old new = read ≡ None
EventsRead read (Some events) old new = (read ≡ Some (script_passes old events)) × (script_passes old events ≡ false → new ≡ old ++ events)

-- A script is within its limits, and its starts and each updater's commits are counted.
pub record ScriptKept (s : Inside) : Type 0 where
  pub few : length s.events.items ≤ MOST_EVENTS
  pub starts : s.starts ≡ count_starts s.events.items
  pub few_starts : s.starts ≤ MOST_STARTS
  pub updaters : length s.commits ≡ MOST_UPDATERS
  pub commits : (by : ℕ) → by < MOST_UPDATERS → get_or s.commits by 0 ≡ scripted_commits by s.events.items

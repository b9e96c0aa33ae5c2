-- What declarations declare: the items, the disks, and so on, each in the order of their declarations, with any others between
-- them.
use Rattle.std.specs.Prelude.{◌+◌, ◌==◌, ℕ, List, [], ◌∷◌, Bool, true, false, Option, Some, None, fold, map, max, count_by, if◌then◌else◌}
use Rattle.std.specs.List.{filter_map, flat_map}
use Rattle.air_history.specs.UpdateLists.{UpdateLists}
use Rattle.air_model.specs.declared.deck.ReaderPlan.{ReaderPlan}
use Rattle.item_catalog.specs.Declarations.{Declaration}
use Rattle.item_catalog.specs.Declarations as e
use Rattle.item_catalog.specs.declared.parts.ItemPart.{ItemPart}
use Rattle.item_catalog.specs.declared.parts.DiskPart.{DiskPart}
use Rattle.item_catalog.specs.declared.deck.draft.settings.Setting.{Setting}

-- The item that a declaration declares, with its value and rate; its id is its place.
abbrev pub its_item : Declaration → Option ItemPart
its_item (e.DeclaredItem id value rate) = Some (record { value = value; rate = rate })
its_item declaration = None

-- All items, in order.
abbrev pub items_in : List Declaration → List ItemPart
items_in declarations = filter_map its_item declarations

-- The disk that a declaration declares, with its frequency if a number is given.
abbrev pub its_disk : Declaration → Option DiskPart
its_disk (e.DeclaredDisk size freq) = Some (record { size = size; freq = freq })
its_disk declaration = None

-- All disks, in order.
abbrev pub disk_parts_in : List Declaration → List DiskPart
disk_parts_in declarations = filter_map its_disk declarations

-- A replan as its record gives it: the cycle, and the disks.
pub record ReplanSaid : Type 0 where
  pub cycle : ℕ
  pub disks : List DiskPart

-- The disks of a list of sizes and one of frequencies, in order.
abbrev pub disks_said : List ℕ → List (Option ℕ) → List DiskPart
disks_said (size ∷ sizes) (freq ∷ freqs) = record { size = size; freq = freq } ∷ disks_said sizes freqs
disks_said sizes freqs = []

-- The replan that a declaration declares.
abbrev pub its_replan : Declaration → Option ReplanSaid
its_replan (e.DeclaredReplan cycle sizes freqs) = Some (record { cycle = cycle; disks = disks_said sizes freqs })
its_replan declaration = None

-- All replans, in order.
abbrev pub replans_in : List Declaration → List ReplanSaid
replans_in declarations = filter_map its_replan declarations

-- The cycle of the last replan; 0 if there is none.
abbrev pub last_replan_cycle : List ReplanSaid → ℕ
last_replan_cycle replans = fold (λ (cycle : ℕ) replan. replan.cycle) 0 replans

-- The update that a declaration gives the updater.
abbrev pub its_update : ℕ → Declaration → Option UpdateLists
its_update who (e.DeclaredUpdate by reads writes) = if by == who then Some (record { reads = reads; writes = writes }) else None
its_update who declaration = None

-- All updates of the updater, in order.
abbrev pub updates_in : List Declaration → ℕ → List UpdateLists
updates_in declarations who = filter_map (its_update who) declarations

-- Whether the declaration is an update.
abbrev pub is_update : Declaration → Bool
is_update (e.DeclaredUpdate by reads writes) = true
is_update declaration = false

-- How many declarations are updates, of any updater.
abbrev pub count_updates : List Declaration → ℕ
count_updates declarations = count_by is_update declarations

-- The greatest of some numbers; 0 if there are none.
abbrev pub greatest_number : List ℕ → ℕ
greatest_number [] = 0
greatest_number (n ∷ ns) = max n (greatest_number ns)

-- How many updaters a declaration requires: one more than the number that it names; 0 if it names none.
abbrev pub its_updaters : Declaration → ℕ
its_updaters (e.DeclaredUpdate by reads writes) = by + 1
its_updaters declaration = 0

-- How many updaters there are.
abbrev pub updaters_in : List Declaration → ℕ
updaters_in declarations = greatest_number (map its_updaters declarations)

-- The reader that a declaration declares.
abbrev pub its_reader : Declaration → Option ReaderPlan
its_reader (e.DeclaredReader room age tries) = Some (record { room = room; age = age; tries = tries })
its_reader declaration = None

-- All readers, in order.
abbrev pub readers_in : List Declaration → List ReaderPlan
readers_in declarations = filter_map its_reader declarations

-- The query that a declaration gives the reader.
abbrev pub its_query : ℕ → Declaration → Option (List ℕ)
its_query who (e.DeclaredQuery reader items) = if reader == who then Some items else None
its_query who declaration = None

-- All queries of the reader, in order.
abbrev pub queries_in : List Declaration → ℕ → List (List ℕ)
queries_in declarations who = filter_map (its_query who) declarations

-- Whether the declaration is a query.
abbrev pub is_query : Declaration → Bool
is_query (e.DeclaredQuery reader items) = true
is_query declaration = false

-- How many declarations are queries, of any reader.
abbrev pub count_queries : List Declaration → ℕ
count_queries declarations = count_by is_query declarations

-- The events of a script's record: a number is a commit of that updater, None is a start.
abbrev pub its_events : Declaration → List (Option ℕ)
its_events (e.DeclaredScript events) = events
its_events declaration = []

-- The whole script.
abbrev pub script_in : List Declaration → List (Option ℕ)
script_in declarations = flat_map its_events declarations

-- The setting that a declaration makes.
abbrev pub its_setting : Declaration → Option Setting
its_setting (e.DeclaredSetting setting) = Some setting
its_setting declaration = None

-- All settings, in order.
abbrev pub set_in : List Declaration → List Setting
set_in declarations = filter_map its_setting declarations

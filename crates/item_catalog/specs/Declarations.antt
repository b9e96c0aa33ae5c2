-- What a record spells alone: a declaration of the deck, or the kind of its fault.
--
-- Four kinds need no other record: those of the number of fields, of the form of a field, of the tag and of a setting. All
-- other kinds are tests of the numbers that a record spells, so a record that spells no declaration has just the one kind given
-- here.
use Rattle.std.specs.Prelude.{ℕ, List, Option, Some, None, Result, Err, codes, if◌then◌else◌}
use Rattle.air_base.specs.Numbers.{number_of}
use Rattle.air_base.specs.NumberLists.{list_of}
use Rattle.air_base.specs.Parts.{one_of, two_of, three_of}
use Rattle.air_history.specs.declared.updates.Write.{Write}
use Rattle.item_catalog.specs.Writes.{spelled_write}
use Rattle.item_catalog.specs.RecordFields.{◌is◌}
use Rattle.item_catalog.specs.Spelled.{spelled_then as ◌>>=◌, or_fault}
use Rattle.item_catalog.specs.Tags.{by_tag}
use Rattle.item_catalog.specs.Fields.{freq_of, spelled_event}
use Rattle.item_catalog.specs.Settings.{setting_of}
use Rattle.item_catalog.specs.declared.reading.Tag.{Tag}
use Rattle.item_catalog.specs.declared.reading.Tag.TheVariants as t
use Rattle.item_catalog.specs.declared.faults.FaultKind.{FaultKind}
use Rattle.item_catalog.specs.declared.faults.FaultKind.TheVariants as fault
use Rattle.item_catalog.specs.declared.deck.draft.settings.Setting.{Setting}

-- A declaration: what the fields of a record say, by its tag.
pub data Declaration : Type 0 where
  DeclaredItem : (id value rate : ℕ) → Declaration
  DeclaredDisk : (size : ℕ) (freq : Option ℕ) → Declaration
  DeclaredReplan : (cycle : ℕ) (sizes : List ℕ) (freqs : List (Option ℕ)) → Declaration
  DeclaredUpdate : (by : ℕ) (reads : List ℕ) (writes : List Write) → Declaration
  DeclaredReader : (room age tries : ℕ) → Declaration
  DeclaredQuery : (reader : ℕ) (items : List ℕ) → Declaration
  DeclaredScript : (events : List (Option ℕ)) → Declaration
  DeclaredSetting : (setting : Setting) → Declaration

-- What the fields of an item's record spell, `item,<id>,<value>,<rate>`.
abbrev pub item_by : Option (List ℕ × List ℕ × List ℕ) → Result Declaration FaultKind
item_by None = Err fault.Fields
item_by (Some f) = or_fault fault.Form (do
  id ← number_of f.0
  value ← number_of f.1
  rate ← number_of f.2
  Some (DeclaredItem id value rate))

-- What the fields of a disk's record spell, `disk,<size>,<freq>`.
abbrev pub disk_by : Option (List ℕ × List ℕ) → Result Declaration FaultKind
disk_by None = Err fault.Fields
disk_by (Some f) = or_fault fault.Form (do
  size ← number_of f.0
  freq ← freq_of f.1
  Some (DeclaredDisk size freq))

-- What the fields of a replan's record spell, `replan,<cycle>,<sizes>,<freqs>`.
abbrev pub replan_by : Option (List ℕ × List ℕ × List ℕ) → Result Declaration FaultKind
replan_by None = Err fault.Fields
replan_by (Some f) = or_fault fault.Form (do
  cycle ← number_of f.0
  sizes ← list_of number_of f.1
  freqs ← list_of freq_of f.2
  Some (DeclaredReplan cycle sizes freqs))

-- What the fields of an update's record spell, `update,<by>,<reads>,<writes>`.
abbrev pub update_by : Option (List ℕ × List ℕ × List ℕ) → Result Declaration FaultKind
update_by None = Err fault.Fields
update_by (Some f) = or_fault fault.Form (do
  by ← number_of f.0
  reads ← list_of number_of f.1
  writes ← list_of spelled_write f.2
  Some (DeclaredUpdate by reads writes))

-- What the fields of a reader's record spell, `reader,<room>,<age>,<tries>`.
abbrev pub reader_by : Option (List ℕ × List ℕ × List ℕ) → Result Declaration FaultKind
reader_by None = Err fault.Fields
reader_by (Some f) = or_fault fault.Form (do
  room ← number_of f.0
  age ← number_of f.1
  tries ← number_of f.2
  Some (DeclaredReader room age tries))

-- What the fields of a query's record spell, `query,<reader>,<items>`.
abbrev pub query_by : Option (List ℕ × List ℕ) → Result Declaration FaultKind
query_by None = Err fault.Fields
query_by (Some f) = or_fault fault.Form (do
  reader ← number_of f.0
  items ← list_of number_of f.1
  Some (DeclaredQuery reader items))

-- What the field of a script's record spells, `script,<events>`.
abbrev pub script_by : Option (List ℕ) → Result Declaration FaultKind
script_by None = Err fault.Fields
script_by (Some f) = or_fault fault.Form (do
  events ← list_of spelled_event f
  Some (DeclaredScript events))

-- What the fields of a setting's record spell, `set,<name>,<value>`.
abbrev pub set_by : Option (List ℕ × List ℕ) → Result Declaration FaultKind
set_by None = Err fault.Fields
set_by (Some f) = or_fault fault.Setting (do
  setting ← setting_of f.0 f.1
  Some (DeclaredSetting setting))

-- The tag of this name, if there is one.
abbrev pub tag_of : List ℕ → Option Tag
tag_of text =
    if text is codes "item" then Some t.Item
    else if text is codes "disk" then Some t.Disk
    else if text is codes "update" then Some t.Update
    else if text is codes "reader" then Some t.Reader
    else if text is codes "query" then Some t.Query
    else if text is codes "script" then Some t.Script
    else if text is codes "set" then Some t.Set
    else if text is codes "replan" then Some t.Replan
    else None

-- What the fields after a tag spell.
abbrev pub declaration_by : Option Tag → List (List ℕ) → Result Declaration FaultKind
declaration_by (Some t.Item) fields = item_by (three_of fields)
declaration_by (Some t.Disk) fields = disk_by (two_of fields)
declaration_by (Some t.Replan) fields = replan_by (three_of fields)
declaration_by (Some t.Update) fields = update_by (three_of fields)
declaration_by (Some t.Reader) fields = reader_by (three_of fields)
declaration_by (Some t.Query) fields = query_by (two_of fields)
declaration_by (Some t.Script) fields = script_by (one_of fields)
declaration_by (Some t.Set) fields = set_by (two_of fields)
declaration_by None fields = Err fault.Tag

-- What a record spells, by its tag.
abbrev pub spelled_declaration : List (List ℕ) → Result Declaration FaultKind
spelled_declaration fields = by_tag tag_of declaration_by fields

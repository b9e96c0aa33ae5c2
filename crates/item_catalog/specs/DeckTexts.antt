-- The text of a deck: one record for each thing that it declares.
--
-- The records are those of the grammar (`Declarations`), in the deck's order: the items, the disks, the replans,
-- the updates of each updater, the readers, the queries of each reader, one record for the script, and one for each setting
-- except delta, since each disk's frequency is given.
use Rattle.std.specs.Prelude.{◌≡◌, ◌+◌, ◌<◌, ◌++◌, ℕ, List, [], ◌∷◌, Bool, true, false, Option, Some, None, length, map, codes}
use Rattle.std.specs.List.{enumerate_from, flat_map}
use Rattle.air_base.specs.Numbers.{number_text}
use Rattle.air_base.specs.NumberLists.{list_text}
use Rattle.air_base.specs.declared.verdicts.Policy.{Policy}
use Rattle.air_base.specs.declared.verdicts.Policy.TheVariants.{FMatrix, Datacycle, RMatrix}
use Rattle.air_history.specs.declared.updates.Write.{Write}
use Rattle.air_history.specs.UpdateLists.{UpdateLists}
use Rattle.air_model.specs.declared.deck.ReaderPlan.{ReaderPlan}
use Rattle.air_model.specs.declared.deck.Settings.{Settings}
use Rattle.air_model.specs.Disks.{DiskSpec}
use Rattle.air_model.specs.Decks.{Deck, Item, Replan, updates_by}
use Rattle.air_model.specs.Rows.{rows_text}
use Rattle.item_catalog.specs.Declarations.{Declaration}
use Rattle.item_catalog.specs.Declarations as e
use Rattle.item_catalog.specs.declared.deck.draft.settings.Name.{Name}
use Rattle.item_catalog.specs.declared.deck.draft.settings.Name.TheVariants as n
use Rattle.item_catalog.specs.declared.deck.draft.settings.Setting.{Setting}
use Rattle.item_catalog.specs.declared.deck.draft.settings.Setting.TheVariants as setting

-- ---- the fields of a record

-- A frequency: `-`, or its number.
abbrev pub freq_text : Option ℕ → List ℕ
freq_text None = codes "-"
freq_text (Some freq) = number_text freq

-- An event of the script: `s`, or the number of an updater.
abbrev pub event_text : Option ℕ → List ℕ
event_text None = codes "s"
event_text (Some by) = number_text by

-- The value of a write: an amount, a base plus an amount, or a base minus an amount.
abbrev pub value_text : Bool → Option ℕ → ℕ → List ℕ
value_text minus None amount = number_text amount
value_text true (Some base) amount = number_text base ++ (codes "-" ++ number_text amount)
value_text false (Some base) amount = number_text base ++ (codes "+" ++ number_text amount)

-- A write: the item, `=`, and the value.
abbrev pub write_text : Write → List ℕ
write_text w = number_text w.item ++ (codes "=" ++ value_text w.minus w.base w.amount)

-- The name of a setting that is a number.
abbrev pub name_text : Name → List ℕ
name_text n.Delta = codes "delta"
name_text n.Version = codes "version"
name_text n.Group = codes "group"
name_text n.Cycles = codes "cycles"
name_text n.Seed = codes "seed"
name_text n.Loss = codes "loss"
name_text n.Again = codes "again"
name_text n.Late = codes "late"
name_text n.Monitors = codes "monitors"
name_text n.Hears = codes "hears"

-- The letter of a policy.
abbrev pub policy_text : Policy → List ℕ
policy_text FMatrix = codes "F"
policy_text Datacycle = codes "D"
policy_text RMatrix = codes "R"

-- ---- records

-- The record of a setting.
abbrev pub set_row : Setting → List (List ℕ)
set_row (setting.Policy policy) = codes "set" ∷ codes "policy" ∷ policy_text policy ∷ []
set_row (setting.Number name value) = codes "set" ∷ name_text name ∷ number_text value ∷ []

-- The record of a declaration: its tag, and what it says.
abbrev pub declaration_row : Declaration → List (List ℕ)
declaration_row (e.DeclaredItem id value rate) = codes "item" ∷ number_text id ∷ number_text value ∷ number_text rate ∷ []
declaration_row (e.DeclaredDisk size freq) = codes "disk" ∷ number_text size ∷ freq_text freq ∷ []
declaration_row (e.DeclaredReplan cycle sizes freqs) = codes "replan" ∷ number_text cycle ∷ list_text (map number_text sizes) ∷ list_text (map freq_text freqs) ∷ []
declaration_row (e.DeclaredUpdate by reads writes) = codes "update" ∷ number_text by ∷ list_text (map number_text reads) ∷ list_text (map write_text writes) ∷ []
declaration_row (e.DeclaredReader room age tries) = codes "reader" ∷ number_text room ∷ number_text age ∷ number_text tries ∷ []
declaration_row (e.DeclaredQuery reader items) = codes "query" ∷ number_text reader ∷ list_text (map number_text items) ∷ []
declaration_row (e.DeclaredScript events) = codes "script" ∷ list_text (map event_text events) ∷ []
declaration_row (e.DeclaredSetting s) = set_row s

-- ---- the declarations of a deck

-- An item with its place.
abbrev pub item_declaration : ℕ × Item → Declaration
item_declaration item = e.DeclaredItem item.0 item.1.value item.1.rate

-- A disk with its frequency.
abbrev pub disk_declaration : DiskSpec → Declaration
disk_declaration disk = e.DeclaredDisk disk.size (Some disk.freq)

-- A replan with the frequency of each disk.
abbrev pub replan_declaration : Replan → Declaration
replan_declaration replan = e.DeclaredReplan replan.cycle (map (λ d. d.size) replan.disks) (map (λ d. Some d.freq) replan.disks)

-- An update of an updater.
abbrev pub update_declaration : ℕ → UpdateLists → Declaration
update_declaration by update = e.DeclaredUpdate by update.reads update.writes

-- The updates of updaters, the first of which has this number.
abbrev pub update_declarations : ℕ → List (List UpdateLists) → List Declaration
update_declarations from updates = flat_map (λ (own : ℕ × List UpdateLists). map (update_declaration own.0) own.1) (enumerate_from from updates)

-- A reader.
abbrev pub reader_declaration : ReaderPlan → Declaration
reader_declaration reader = e.DeclaredReader reader.room reader.age reader.tries

-- The queries of readers, the first of which has this number.
abbrev pub query_declarations : ℕ → List (List (List ℕ)) → List Declaration
query_declarations from queries = flat_map (λ (own : ℕ × List (List ℕ)). map (e.DeclaredQuery own.0) own.1) (enumerate_from from queries)

-- All settings except delta.
abbrev pub all_set : Settings → List Setting
all_set s =
    setting.Policy s.policy ∷ setting.Number n.Version s.version ∷ setting.Number n.Group s.group ∷ setting.Number n.Cycles s.cycles ∷ setting.Number n.Seed s.seed ∷ setting.Number n.Loss s.loss ∷ setting.Number n.Again s.again ∷
    setting.Number n.Late s.late ∷ setting.Number n.Monitors s.monitors ∷ setting.Number n.Hears s.hears ∷ []

-- What a deck declares.
abbrev pub deck_declarations : Deck → List Declaration
deck_declarations deck =
    map item_declaration (enumerate_from 0 deck.items)
    ++ (map disk_declaration deck.disks ++ (map replan_declaration deck.replans ++ (update_declarations 0 deck.updates
    ++ (map reader_declaration deck.readers ++ (query_declarations 0 deck.queries ++ (e.DeclaredScript deck.script ∷ map e.DeclaredSetting (all_set deck.settings)))))))

-- The text of a deck.
unfoldable pub deck_text : Deck → List ℕ
deck_text deck = rows_text (map declaration_row (deck_declarations deck))

-- ---- what has a text

-- The last updater has an update. It must, since the number of updaters is known only from their updates.
abbrev pub LastUpdates : Deck → Type 0
LastUpdates deck = (last : ℕ) → length deck.updates ≡ last + 1 → 0 < length (updates_by deck last)

-- For private steps only. A deck while it is read: what the declarations so far declare, and what one more declaration adds.
use Rattle.std.specs.Prelude.{◌≡◌, ◌+◌, ◌++◌, ℕ, List, [], ◌∷◌, Bool, Option, Result, Ok, length, max, get_or, map, slice_set, take}
use Rattle.air_base.specs.declared.limits.TheConstants.{MOST_READERS, MOST_UPDATERS}
use Rattle.air_history.specs.UpdateLists.{UpdateLists}
use Rattle.air_model.specs.declared.deck.ReaderPlan.{ReaderPlan}
use Rattle.item_catalog.specs.Declarations.{Declaration}
use Rattle.item_catalog.specs.Declarations as e
use Rattle.item_catalog.specs.Parts.{ReplanSaid, disks_said, items_in, disk_parts_in, last_replan_cycle, replans_in, updates_in, updaters_in, count_updates, readers_in, queries_in, count_queries, script_in, set_in}
use Rattle.air_model.specs.Decks.{Deck}
use Rattle.item_catalog.specs.Decks.{for_each, plain_item, plain_replan, with_freqs}
use Rattle.item_catalog.specs.Settings.{number_in, settings_in}
use Rattle.item_catalog.specs.declared.deck.draft.settings.Name.TheVariants.{Delta}
use Rattle.item_catalog.specs.RecordKinds.{least_kind, with_spelled}
use Rattle.item_catalog.specs.ReadAnswers.{Answers}
use Rattle.item_catalog.specs.declared.records.refusals.Refusal.{Refusal}
use Rattle.item_catalog.specs.Faults.{item_tests, disk_tests, replan_tests, update_tests, reader_tests, query_tests, script_tests, set_tests}
use Rattle.item_catalog.specs.declared.faults.FaultKind.{FaultKind}
use Rattle.item_catalog.specs.declared.parts.ItemPart.{ItemPart}
use Rattle.item_catalog.specs.declared.parts.DiskPart.{DiskPart}
use Rattle.item_catalog.specs.declared.deck.draft.settings.Setting.{Setting}

-- What is declared so far, with a list for each updater and each reader that there can be.
pub record DraftValue : Type 0 where
  pub items : List ItemPart
  pub disks : List DiskPart
  pub replans : List ReplanSaid
  pub last_replan_cycle : ℕ
  pub updates : List (List UpdateLists)
  pub updaters : ℕ
  pub update_count : ℕ
  pub readers : List ReaderPlan
  pub queries : List (List (List ℕ))
  pub query_count : ℕ
  pub script : List (Option ℕ)
  pub set : List Setting

-- What the declarations so far declare.
abbrev pub draft_of : List Declaration → DraftValue
draft_of declarations = record {
  items = items_in declarations;
  disks = disk_parts_in declarations;
  replans = replans_in declarations;
  last_replan_cycle = last_replan_cycle (replans_in declarations);
  updates = for_each MOST_UPDATERS (updates_in declarations);
  updaters = updaters_in declarations;
  update_count = count_updates declarations;
  readers = readers_in declarations;
  queries = for_each MOST_READERS (queries_in declarations);
  query_count = count_queries declarations;
  script = script_in declarations;
  set = set_in declarations;
}

-- The lists with one more element at the end of the list at a place.
abbrev pub push_at : {A : Type 0} → List (List A) → ℕ → A → List (List A)
push_at lists place x = slice_set lists place (get_or lists place [] ++ x ∷ [])

-- The draft with one more declaration.
abbrev pub with_declaration : DraftValue → Declaration → DraftValue
with_declaration d (e.DeclaredItem id value rate) = record d { items = d.items ++ record { value = value; rate = rate } ∷ [] }
with_declaration d (e.DeclaredDisk size freq) = record d { disks = d.disks ++ record { size = size; freq = freq } ∷ [] }
with_declaration d (e.DeclaredReplan cycle sizes freqs) = record d { replans = d.replans ++ record { cycle = cycle; disks = disks_said sizes freqs } ∷ []; last_replan_cycle = cycle }
with_declaration d (e.DeclaredUpdate by reads writes) = record d {
  updates = push_at d.updates by (record { reads = reads; writes = writes });
  updaters = max d.updaters (by + 1);
  update_count = d.update_count + 1;
}
with_declaration d (e.DeclaredReader room age tries) = record d { readers = d.readers ++ record { room = room; age = age; tries = tries } ∷ [] }
with_declaration d (e.DeclaredQuery reader items) = record d { queries = push_at d.queries reader items; query_count = d.query_count + 1 }
with_declaration d (e.DeclaredScript events) = record d { script = d.script ++ events }
with_declaration d (e.DeclaredSetting setting) = record d { set = d.set ++ setting ∷ [] }

-- The kinds that a declaration may have after what is declared so far, by rising kind, each with its test.
abbrev pub draft_tests : DraftValue → Declaration → List (FaultKind × Bool)
draft_tests d (e.DeclaredItem id value rate) = item_tests (length d.items) id rate
draft_tests d (e.DeclaredDisk size freq) = disk_tests (length d.disks) size freq
draft_tests d (e.DeclaredReplan cycle sizes freqs) = replan_tests (length d.replans) d.last_replan_cycle cycle sizes freqs
draft_tests d (e.DeclaredUpdate by reads writes) = update_tests (length d.items) d.update_count by reads writes
draft_tests d (e.DeclaredReader room age tries) = reader_tests (length d.readers) room age tries
draft_tests d (e.DeclaredQuery reader items) = query_tests (length d.items) (length d.readers) d.query_count reader items
draft_tests d (e.DeclaredScript events) = script_tests (λ by. length (get_or d.updates by [])) d.script events
draft_tests d (e.DeclaredSetting setting) = set_tests d.set setting

-- The deck of what is declared.
abbrev pub deck_from : DraftValue → Deck
deck_from d = record {
  items = map plain_item d.items;
  disks = with_freqs (number_in Delta d.set) d.disks;
  replans = map (plain_replan (number_in Delta d.set)) d.replans;
  updates = take d.updaters d.updates;
  readers = d.readers;
  queries = take (length d.readers) d.queries;
  script = d.script;
  settings = settings_in d.set;
}

-- The least kind that applies to what a record spells, after what is declared so far.
abbrev pub record_kind : DraftValue → Result Declaration FaultKind → Option FaultKind
record_kind d spelled = least_kind (draft_tests d) spelled

-- A call adds what a record spells, if no kind applies; otherwise it answers the least kind, and nothing is said of what it
-- leaves.
abbrev pub AddsDeclaration : {A : Type 0} → Result A (Refusal FaultKind) → Result Declaration FaultKind → DraftValue → DraftValue → Type 0
AddsDeclaration result spelled old new = Answers result (record_kind old spelled) (λ _. new ≡ with_spelled with_declaration old spelled)

-- A call reads what an update spells, and adds nothing.
abbrev pub UpdateRead : Result (ℕ × UpdateLists) (Refusal FaultKind) → Result Declaration FaultKind → DraftValue → Type 0
UpdateRead result spelled d = Answers result (record_kind d spelled) (λ read. spelled ≡ Ok (e.DeclaredUpdate read.0 read.1.reads read.1.writes))

-- A call reads what a replan spells, and adds nothing.
abbrev pub ReplanRead : Result ReplanSaid (Refusal FaultKind) → Result Declaration FaultKind → DraftValue → Type 0
ReplanRead result spelled d = Answers result (record_kind d spelled) (λ read. with_spelled with_declaration d spelled ≡ record d { replans = d.replans ++ read ∷ []; last_replan_cycle = read.cycle })

-- A call reads what a query spells, and adds nothing.
abbrev pub QueryRead : Result (ℕ × List ℕ) (Refusal FaultKind) → Result Declaration FaultKind → DraftValue → Type 0
QueryRead result spelled d = Answers result (record_kind d spelled) (λ read. spelled ≡ Ok (e.DeclaredQuery read.0 read.1))

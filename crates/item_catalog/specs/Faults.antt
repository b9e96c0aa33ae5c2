-- Which kinds of fault apply where: to a record after the records before it, and at the end.
--
-- For each tag there is a list of kinds with their tests, by rising number, and a kind applies if its test holds. A test uses
-- only what the declarations before declare: how many items, how many updates of an updater, and so on. The end of the deck is
-- judged as one further record.
use Rattle.std.specs.Prelude.{◌+◌, ◌==◌, ◌||◌, ◌++◌, ℕ, zero, suc, List, [], ◌∷◌, Bool, false, not, Option, Some, None, Result, length, take, nat_lt, nat_le, map, count_by, slice_get}
use Rattle.std.specs.List.{list_any, filter_map, sum_by}
use Rattle.std.specs.Result.{result_ok}
use Rattle.air_base.specs.declared.limits.TheConstants.{MOST_AGE, MOST_ASKED, MOST_CYCLES, MOST_DISKS, MOST_EVENTS, MOST_FREQ, MOST_ITEMS, MOST_QUERIES, MOST_RATE, MOST_READERS, MOST_READS, MOST_REPLANS, MOST_ROOM, MOST_SIZE, MOST_STARTS, MOST_TRIES, MOST_UPDATERS, MOST_UPDATES, MOST_WRITES}
use Rattle.air_history.specs.declared.updates.Write.{Write}
use Rattle.air_history.specs.UpdateRules.{has_repeat, written_item}
use Rattle.air_model.specs.Buckets.{most_count}
use Rattle.air_model.specs.Decks.{scripted_commits}
use Rattle.item_catalog.specs.ListTests.{is_unread, option_any, reaches, write_reaches}
use Rattle.item_catalog.specs.RecordKinds.{kinds_of, spelled_kinds}
use Rattle.item_catalog.specs.DeckLimits.{is_scripted_start}
use Rattle.item_catalog.specs.Ranges.{outside}
use Rattle.item_catalog.specs.Declarations.{Declaration, spelled_declaration}
use Rattle.item_catalog.specs.Declarations as e
use Rattle.item_catalog.specs.Parts.{ReplanSaid, items_in, disk_parts_in, last_replan_cycle, replans_in, updates_in, count_updates, readers_in, count_queries, script_in, set_in}
use Rattle.item_catalog.specs.Settings.{groups_vectors, number_in, same_setting}
use Rattle.item_catalog.specs.Kinds.{deck_kind_number}
use Rattle.item_catalog.specs.declared.faults.FaultKind.{FaultKind}
use Rattle.item_catalog.specs.declared.faults.FaultKind.TheVariants as fault
use Rattle.item_catalog.specs.declared.parts.DiskPart.{DiskPart}
use Rattle.item_catalog.specs.declared.deck.draft.settings.Name.TheVariants.{Version}
use Rattle.item_catalog.specs.declared.deck.draft.settings.Setting.{Setting}

-- Whether some number below n passes the test.
unfoldable pub some_below : ℕ → (ℕ → Bool) → Bool
some_below zero test = false
some_below (suc n) test = some_below n test || test n

-- The number of starts in events.
abbrev pub count_starts : List (Option ℕ) → ℕ
count_starts events = count_by is_scripted_start events

-- The tests of an item after this many items.
abbrev pub item_tests : ℕ → ℕ → ℕ → List (FaultKind × Bool)
item_tests items id rate =
    (fault.Id, not (id == items)) ∷
    (fault.Limit, nat_lt MOST_RATE rate || nat_le MOST_ITEMS items) ∷ []

-- The tests of a disk after this many disks.
abbrev pub disk_tests : ℕ → ℕ → Option ℕ → List (FaultKind × Bool)
disk_tests disks size freq =
    (fault.Limit, outside 1 MOST_SIZE size || option_any (outside 1 MOST_FREQ) freq || nat_le MOST_DISKS disks) ∷ []

-- The tests of a replan after this many replans, the last of which has this cycle.
abbrev pub replan_tests : ℕ → ℕ → ℕ → List ℕ → List (Option ℕ) → List (FaultKind × Bool)
replan_tests replans last cycle sizes freqs = (
  fault.Limit,
  nat_le MOST_REPLANS replans || outside 2 MOST_CYCLES cycle || nat_le cycle last
      || outside 1 MOST_DISKS (length sizes) || list_any (outside 1 MOST_SIZE) sizes || list_any (option_any (outside 1 MOST_FREQ)) freqs,
) ∷
    (fault.Lengths, not (length sizes == length freqs)) ∷ []

-- The tests of an update after this many items and updates.
abbrev pub update_tests : ℕ → ℕ → ℕ → List ℕ → List Write → List (FaultKind × Bool)
update_tests items updates by reads writes =
    (fault.Undeclared, reaches items reads || list_any (write_reaches items) writes) ∷
    (fault.Twice, has_repeat reads || has_repeat (map written_item writes)) ∷
    (fault.Limit, nat_le MOST_UPDATERS by || nat_lt MOST_READS (length reads) || outside 1 MOST_WRITES (length writes) || nat_le MOST_UPDATES updates) ∷
    (fault.Unread, list_any (is_unread reads) writes) ∷ []

-- The tests of a reader after this many readers.
abbrev pub reader_tests : ℕ → ℕ → ℕ → ℕ → List (FaultKind × Bool)
reader_tests readers room age tries =
    (fault.Limit, nat_lt MOST_ROOM room || nat_lt MOST_AGE age || outside 1 MOST_TRIES tries || nat_le MOST_READERS readers) ∷ []

-- The tests of a query after this many items, readers and queries.
abbrev pub query_tests : ℕ → ℕ → ℕ → ℕ → List ℕ → List (FaultKind × Bool)
query_tests items readers queries reader asked =
    (fault.Undeclared, nat_le readers reader || reaches items asked) ∷
    (fault.Twice, has_repeat asked) ∷
    (fault.Limit, outside 1 MOST_ASKED (length asked) || nat_le MOST_QUERIES queries) ∷ []

-- Whether events after these pass a limit: an updater's number, the number of events, or that of starts.
abbrev pub script_passes : List (Option ℕ) → List (Option ℕ) → Bool
script_passes script events =
    list_any (option_any (nat_le MOST_UPDATERS)) events
    || nat_lt MOST_EVENTS (length script + length events)
    || nat_lt MOST_STARTS (count_starts script + count_starts events)

-- The tests of events after these, if each updater was given this many updates. All its commits count.
abbrev pub script_tests : (ℕ → ℕ) → List (Option ℕ) → List (Option ℕ) → List (FaultKind × Bool)
script_tests given script events =
    (fault.Limit, script_passes script events) ∷
    (fault.Overdrawn, some_below MOST_UPDATERS (λ by. nat_lt (given by) (scripted_commits by (script ++ events)))) ∷ []

-- The tests of a setting after these.
abbrev pub set_tests : List Setting → Setting → List (FaultKind × Bool)
set_tests set setting =
    (fault.Setting, list_any (same_setting setting) set) ∷ []

-- The kinds that a declaration may have after declarations, by rising kind, each with its test.
abbrev pub tests_of : List Declaration → Declaration → List (FaultKind × Bool)
tests_of before (e.DeclaredItem id value rate) = item_tests (length (items_in before)) id rate
tests_of before (e.DeclaredDisk size freq) = disk_tests (length (disk_parts_in before)) size freq
tests_of before (e.DeclaredReplan cycle sizes freqs) = replan_tests (length (replans_in before)) (last_replan_cycle (replans_in before)) cycle sizes freqs
tests_of before (e.DeclaredUpdate by reads writes) = update_tests (length (items_in before)) (count_updates before) by reads writes
tests_of before (e.DeclaredReader room age tries) = reader_tests (length (readers_in before)) room age tries
tests_of before (e.DeclaredQuery reader items) = query_tests (length (items_in before)) (length (readers_in before)) (count_queries before) reader items
tests_of before (e.DeclaredScript events) = script_tests (λ by. length (updates_in before by)) (script_in before) events
tests_of before (e.DeclaredSetting setting) = set_tests (set_in before) setting

-- The sizes of disks don't add up to this many items.
abbrev pub differs_from : ℕ → List DiskPart → Bool
differs_from items disks = not (sum_by (λ d. d.size) disks == items)

-- The tests of the end after this many items, these disks, replans and settings.
abbrev pub end_tests : ℕ → List DiskPart → List ReplanSaid → List Setting → List (FaultKind × Bool)
end_tests items disks replans set =
    (fault.Sizes, differs_from items disks || list_any (λ replan. differs_from items replan.disks) replans) ∷
    (fault.Limit, items == 0 || length disks == 0 || nat_lt (most_count (number_in Version set)) items) ∷
    (fault.Setting, groups_vectors set) ∷ []

-- The numbers of the kinds that apply to what a record spells, after declarations.
abbrev pub kinds_after : List Declaration → Result Declaration FaultKind → List ℕ
kinds_after before spelled = spelled_kinds deck_kind_number (tests_of before) spelled

-- The declarations that the records spell, without those that spell none.
abbrev pub declarations_in : List (List (List ℕ)) → List Declaration
declarations_in records = filter_map (λ fields. result_ok (spelled_declaration fields)) records

-- The numbers of the kinds that apply to a record after declarations; if there is no record, of those that apply at the end.
abbrev pub place_kinds : List Declaration → Option (List (List ℕ)) → List ℕ
place_kinds before (Some fields) = kinds_after before (spelled_declaration fields)
place_kinds before None = kinds_of deck_kind_number (end_tests (length (items_in before)) (disk_parts_in before) (replans_in before) (set_in before))

-- The numbers of the kinds that apply at a place, counted from 0: to the record there, after all records before it, or at the end.
unfoldable pub kinds_at : List (List (List ℕ)) → ℕ → List ℕ
kinds_at records place = place_kinds (declarations_in (take place records)) (slice_get records place)

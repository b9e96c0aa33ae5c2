-- Which parts declarations make, and which kinds apply to single declarations, computed at the ends of the limits; and the
-- first fault of small decks.
use Rattle.std.proofs.Common.{◌≡◌, ◌==◌, ℕ, List, [], ◌∷◌, Some, None, true, false, Bool, refl}
use Rattle.std.specs.Prelude.{Ok, Err, codes}
use Rattle.air_base.specs.Numbers.{number_of}
use Rattle.air_base.specs.declared.verdicts.Policy.TheVariants.{RMatrix}
use Rattle.air_history.specs.declared.updates.Write.{Write}
use Rattle.air_history.specs.UpdateRules.{has_repeat}
use Rattle.item_catalog.specs.Declarations as e
use Rattle.item_catalog.specs.Declarations.{Declaration}
use Rattle.item_catalog.specs.DeckLimits.{is_scripted_start}
use Rattle.item_catalog.specs.Decks.{deck_of, for_each, plain_item, with_freqs}
use Rattle.item_catalog.specs.Faults.{count_starts, disk_tests, end_tests, item_tests, kinds_after, place_kinds, query_tests, reader_tests, script_passes, script_tests, set_tests, some_below, tests_of, update_tests}
use Rattle.item_catalog.specs.Kinds.{deck_kind_number}
use Rattle.item_catalog.specs.ListTests.{is_unread, option_any, reaches, write_reaches}
use Rattle.item_catalog.specs.Parts.{count_queries, count_updates, disk_parts_in, greatest_number, is_query, is_update, items_in, its_disk, its_events, its_item, its_query, its_reader, its_setting, its_update, its_updaters, queries_in, readers_in, script_in, set_in, updaters_in, updates_in}
use Rattle.item_catalog.specs.Ranges.{outside}
use Rattle.item_catalog.specs.RecordKinds.{kinds_of, spelled_kinds}
use Rattle.item_catalog.specs.declared.deck.draft.settings.Name.TheVariants.{Loss, Version}
use Rattle.item_catalog.specs.declared.deck.draft.settings.Setting.TheVariants as setting
use Rattle.item_catalog.specs.declared.faults.FaultKind.{FaultKind}
use Rattle.item_catalog.specs.declared.faults.FaultKind.TheVariants as fault

-- A write of item 4 minus 5 to item 3.
abbrev less : Write
less = record { item = 3; base = Some 4; minus = true; amount = 5 }

-- Declarations of every tag, in no order.
abbrev all : List Declaration
all = e.DeclaredUpdate 2 (4 ∷ []) (less ∷ []) ∷ e.DeclaredItem 0 10 1 ∷ e.DeclaredQuery 1 (0 ∷ []) ∷ e.DeclaredDisk 2 None ∷ e.DeclaredReader 1 2 3 ∷ e.DeclaredScript (None ∷ Some 2 ∷ []) ∷ e.DeclaredItem 1 20 5
    ∷ e.DeclaredSetting (setting.Number Loss 3) ∷ e.DeclaredDisk 1 (Some 7) ∷ e.DeclaredScript (None ∷ []) ∷ e.DeclaredQuery 0 (1 ∷ 0 ∷ []) ∷ []

pub record Parts : Type 0 where
  of_item : its_item (e.DeclaredItem 0 10 1) ≡ Some (record { value = 10; rate = 1 })
  no_item : its_item (e.DeclaredDisk 2 None) ≡ None
  both_items : items_in all ≡ record { value = 10; rate = 1 } ∷ record { value = 20; rate = 5 } ∷ []
  of_disk : its_disk (e.DeclaredDisk 2 None) ≡ Some (record { size = 2; freq = None })
  both_disks : disk_parts_in all ≡ record { size = 2; freq = None } ∷ record { size = 1; freq = Some 7 } ∷ []
  of_update : its_update 2 (e.DeclaredUpdate 2 [] []) ≡ Some (record { reads = []; writes = [] })
  other_update : its_update 1 (e.DeclaredUpdate 2 [] []) ≡ None
  one_update : updates_in all 2 ≡ record { reads = 4 ∷ []; writes = less ∷ [] } ∷ []
  an_update : is_update (e.DeclaredUpdate 2 [] []) ≡ true
  all_updates : count_updates all ≡ 1
  greatest_of_three : greatest_number (2 ∷ 5 ∷ 3 ∷ []) ≡ 5
  of_updaters : its_updaters (e.DeclaredUpdate 2 [] []) ≡ 3
  all_updaters : updaters_in all ≡ 3
  of_reader : its_reader (e.DeclaredReader 1 2 3) ≡ Some (record { room = 1; age = 2; tries = 3 })
  one_reader : readers_in all ≡ record { room = 1; age = 2; tries = 3 } ∷ []
  of_query : its_query 0 (e.DeclaredQuery 0 (1 ∷ [])) ≡ Some (1 ∷ [])
  other_query : its_query 0 (e.DeclaredQuery 1 (1 ∷ [])) ≡ None
  one_query : queries_in all 0 ≡ (1 ∷ 0 ∷ []) ∷ []
  a_query : is_query (e.DeclaredQuery 0 []) ≡ true
  both_queries : count_queries all ≡ 2
  of_script : its_events (e.DeclaredScript (None ∷ Some 2 ∷ [])) ≡ None ∷ Some 2 ∷ []
  no_events : its_events (e.DeclaredItem 0 10 1) ≡ []
  whole_script : script_in all ≡ None ∷ Some 2 ∷ None ∷ []
  of_setting : its_setting (e.DeclaredSetting (setting.Number Loss 3)) ≡ Some (setting.Number Loss 3)
  one_setting : set_in all ≡ setting.Number Loss 3 ∷ []
  start_part : is_scripted_start None ≡ true
  commit_part : is_scripted_start (Some 0) ≡ false
  both_starts : count_starts (None ∷ Some 2 ∷ None ∷ []) ≡ 2
  each : for_each {A = ℕ} 3 (λ n. n) ≡ 0 ∷ 1 ∷ 2 ∷ []
  plain : plain_item (record { value = 10; rate = 1 }) ≡ record { value = 10; rate = 1 }
  -- Three disks without a number, with a delta of 2, and two if delta isn't set.
  by_delta : with_freqs 2 (record { size = 1; freq = None } ∷ record { size = 2; freq = None } ∷ record { size = 3; freq = Some 9 } ∷ [])
      ≡ record { size = 1; freq = 5 } ∷ record { size = 2; freq = 3 } ∷ record { size = 3; freq = 9 } ∷ []
  without_delta : (deck_of (e.DeclaredDisk 1 None ∷ e.DeclaredDisk 2 None ∷ [])).disks ≡ record { size = 1; freq = 1 } ∷ record { size = 2; freq = 1 } ∷ []

parts : Parts
parts = record {
  of_item = refl;
  no_item = refl;
  both_items = refl;
  of_disk = refl;
  both_disks = refl;
  of_update = refl;
  other_update = refl;
  one_update = refl;
  an_update = refl;
  all_updates = refl;
  greatest_of_three = refl;
  of_updaters = refl;
  all_updaters = refl;
  of_reader = refl;
  one_reader = refl;
  of_query = refl;
  other_query = refl;
  one_query = refl;
  a_query = refl;
  both_queries = refl;
  of_script = refl;
  no_events = refl;
  whole_script = refl;
  of_setting = refl;
  one_setting = refl;
  start_part = refl;
  commit_part = refl;
  both_starts = refl;
  each = refl;
  plain = refl;
  by_delta = refl;
  without_delta = refl;
}

-- The kinds of tests that hold.
abbrev kinds : List (FaultKind × Bool) → List ℕ
kinds tests = kinds_of deck_kind_number tests

pub record Tests : Type 0 where
  within : outside 1 3 3 ≡ false
  above : outside 1 3 4 ≡ true
  below : outside 1 3 0 ≡ true
  no_number : option_any (outside 1 3) None ≡ false
  a_number : option_any (outside 1 3) (Some 4) ≡ true
  declared : reaches 2 (0 ∷ 1 ∷ []) ≡ false
  undeclared : reaches 2 (0 ∷ 2 ∷ []) ≡ true
  base_undeclared : write_reaches 4 less ≡ true
  write_declared : write_reaches 5 less ≡ false
  unread : is_unread (3 ∷ []) less ≡ true
  is_read : is_unread (3 ∷ 4 ∷ []) less ≡ false
  first_code : deck_kind_number fault.Fields ≡ 1
  last_code : deck_kind_number fault.Overdrawn ≡ 11
  holding : kinds ((fault.Id, true) ∷ (fault.Twice, false) ∷ (fault.Limit, true) ∷ []) ≡ 3 ∷ 7 ∷ []
  of_declaration : spelled_kinds {X = ℕ} deck_kind_number (λ n. (fault.Limit, n == 3) ∷ []) (Ok 3) ≡ 7 ∷ []
  of_fault : spelled_kinds {X = ℕ} deck_kind_number (λ n. []) (Err fault.Tag) ≡ 9 ∷ []
  -- a million is the greatest rate, and 1,024 items are the most
  greatest_rate : kinds (item_tests 0 0 1000000) ≡ []
  rate_above : kinds (item_tests 0 0 1000001) ≡ 7 ∷ []
  id_and_items : kinds (item_tests 1024 1023 1) ≡ 3 ∷ 7 ∷ []
  last_item : kinds (item_tests 1023 1023 1) ≡ []
  greatest_disk : kinds (disk_tests 7 1024 (Some 64)) ≡ []
  no_size : kinds (disk_tests 0 0 None) ≡ 7 ∷ []
  freq_above : kinds (disk_tests 0 1 (Some 65)) ≡ 7 ∷ []
  freq_none : kinds (disk_tests 0 1 (Some 0)) ≡ 7 ∷ []
  ninth_disk : kinds (disk_tests 8 1 None) ≡ 7 ∷ []
  last_updater : kinds (update_tests 5 0 15 (4 ∷ []) (less ∷ [])) ≡ []
  no_updater : kinds (update_tests 5 0 16 (4 ∷ []) (less ∷ [])) ≡ 7 ∷ []
  no_writes : kinds (update_tests 5 0 0 (4 ∷ []) []) ≡ 7 ∷ []
  last_update : kinds (update_tests 5 99999 0 (4 ∷ []) (less ∷ [])) ≡ []
  no_update : kinds (update_tests 5 100000 0 (4 ∷ []) (less ∷ [])) ≡ 7 ∷ []
  greatest_reader : kinds (reader_tests 63 256 10000 16) ≡ []
  room_above : kinds (reader_tests 0 257 0 1) ≡ 7 ∷ []
  age_above : kinds (reader_tests 0 0 10001 1) ≡ 7 ∷ []
  tries_above : kinds (reader_tests 0 0 0 17) ≡ 7 ∷ []
  tries_none : kinds (reader_tests 0 0 0 0) ≡ 7 ∷ []
  no_more_readers : kinds (reader_tests 64 0 0 1) ≡ 7 ∷ []
  -- the first reader that isn't declared
  asked : kinds (query_tests 2 1 9999 0 (1 ∷ 0 ∷ [])) ≡ []
  undeclared_reader : kinds (query_tests 2 1 0 1 (1 ∷ [])) ≡ 4 ∷ []
  undeclared_item : kinds (query_tests 2 1 0 0 (2 ∷ [])) ≡ 4 ∷ []
  nothing_asked : kinds (query_tests 2 1 0 0 []) ≡ 7 ∷ []
  no_more_queries : kinds (query_tests 2 1 10000 0 (1 ∷ [])) ≡ 7 ∷ []
  last_event : script_passes [] (Some 15 ∷ []) ≡ false
  no_event : script_passes [] (Some 16 ∷ []) ≡ true
  overdrawn : kinds (script_tests (λ by. 1) (Some 0 ∷ []) (Some 0 ∷ [])) ≡ 11 ∷ []
  all_drawn : kinds (script_tests (λ by. 1) (Some 0 ∷ []) (Some 1 ∷ [])) ≡ []
  set_once : kinds (set_tests (setting.Policy RMatrix ∷ []) (setting.Number Loss 1)) ≡ []
  set_twice : kinds (set_tests (setting.Number Loss 3 ∷ []) (setting.Number Loss 1)) ≡ 10 ∷ []
  sizes : kinds (end_tests 3 (record { size = 2; freq = None } ∷ []) [] []) ≡ 6 ∷ []
  at_end : kinds (end_tests 2 (record { size = 2; freq = None } ∷ []) [] []) ≡ []
  nothing_at_end : kinds (end_tests 0 [] [] []) ≡ 7 ∷ []
  most_in_full : kinds (end_tests 256 (record { size = 256; freq = None } ∷ []) [] []) ≡ []
  too_many_in_full : kinds (end_tests 257 (record { size = 257; freq = None } ∷ []) [] (setting.Number Version 1 ∷ [])) ≡ 7 ∷ []
  by_ages : kinds (end_tests 257 (record { size = 257; freq = None } ∷ []) [] (setting.Number Version 2 ∷ [])) ≡ []
  by_declarations : kinds (tests_of all (e.DeclaredItem 1 5 1)) ≡ 3 ∷ []
  after_declarations : kinds_after all (Ok (e.DeclaredItem 2 5 1)) ≡ []
  in_place : place_kinds all (Some (codes "item" ∷ codes "3" ∷ codes "5" ∷ codes "1" ∷ [])) ≡ 3 ∷ []
  end_in_place : place_kinds all None ≡ 6 ∷ []

tests : Tests
unfolding number_of some_below has_repeat
tests = record {
  within = refl;
  above = refl;
  below = refl;
  no_number = refl;
  a_number = refl;
  declared = refl;
  undeclared = refl;
  base_undeclared = refl;
  write_declared = refl;
  unread = refl;
  is_read = refl;
  first_code = refl;
  last_code = refl;
  holding = refl;
  of_declaration = refl;
  of_fault = refl;
  greatest_rate = refl;
  rate_above = refl;
  id_and_items = refl;
  last_item = refl;
  greatest_disk = refl;
  no_size = refl;
  freq_above = refl;
  freq_none = refl;
  ninth_disk = refl;
  last_updater = refl;
  no_updater = refl;
  no_writes = refl;
  last_update = refl;
  no_update = refl;
  greatest_reader = refl;
  room_above = refl;
  age_above = refl;
  tries_above = refl;
  tries_none = refl;
  no_more_readers = refl;
  asked = refl;
  undeclared_reader = refl;
  undeclared_item = refl;
  nothing_asked = refl;
  no_more_queries = refl;
  last_event = refl;
  no_event = refl;
  overdrawn = refl;
  all_drawn = refl;
  set_once = refl;
  set_twice = refl;
  sizes = refl;
  at_end = refl;
  nothing_at_end = refl;
  most_in_full = refl;
  too_many_in_full = refl;
  by_ages = refl;
  by_declarations = refl;
  after_declarations = refl;
  in_place = refl;
  end_in_place = refl;
}

-- The numbers of settings and the limits of declarations, computed: what is taken at each end, and what is refused one further on.
use Rattle.std.proofs.Common.{◌≡◌, ◌+◌, ◌||◌, ℕ, List, [], ◌∷◌, Option, Some, None, true, false, Bool, length, map, nat_lt, replicate, refl, sym, subst}
use Rattle.std.specs.Prelude.{codes}
use Rattle.std.specs.List.{range_with_len}
use Rattle.air_base.specs.Numbers.{number_of}
use Rattle.air_base.specs.declared.verdicts.Policy.TheVariants.{FMatrix, Datacycle, RMatrix}
use Rattle.air_history.specs.declared.updates.Write.{Write}
use Rattle.air_history.specs.UpdateRules.{has_repeat}
use Rattle.item_catalog.specs.Declarations as e
use Rattle.item_catalog.specs.Faults.{count_starts, disk_tests, query_tests, reader_tests, script_passes, script_tests, set_tests, some_below, tests_of, update_tests}
use Rattle.item_catalog.specs.Kinds.{deck_kind_number}
use Rattle.item_catalog.specs.Parts.{count_queries, queries_in, readers_in, script_in}
use Rattle.item_catalog.specs.RecordKinds.{kinds_of}
use Rattle.item_catalog.specs.Settings.{name_of, setting_of, settings_in, spelled_policy}
use Rattle.item_catalog.specs.declared.deck.draft.settings.Name.TheVariants.{Delta, Version, Group, Cycles, Seed, Loss, Again, Late, Monitors, Hears}
use Rattle.item_catalog.specs.declared.deck.draft.settings.Setting.TheVariants as setting
use Rattle.item_catalog.specs.declared.faults.FaultKind.{FaultKind}
use Rattle.item_catalog.specs.declared.faults.FaultKind.TheVariants as fault

-- ---- settings

pub record SettingNumbers : Type 0 where
  -- each setting by its word
  delta : name_of (codes "delta") ≡ Some Delta
  version : name_of (codes "version") ≡ Some Version
  cycles : name_of (codes "cycles") ≡ Some Cycles
  seed : name_of (codes "seed") ≡ Some Seed
  loss : name_of (codes "loss") ≡ Some Loss
  again : name_of (codes "again") ≡ Some Again
  late : name_of (codes "late") ≡ Some Late
  -- the ends of each
  most_delta : setting_of (codes "delta") (codes "9") ≡ Some (setting.Number Delta 9)
  delta_above : setting_of (codes "delta") (codes "10") ≡ None
  no_version : setting_of (codes "version") (codes "0") ≡ None
  newest_version : setting_of (codes "version") (codes "2") ≡ Some (setting.Number Version 2)
  version_above : setting_of (codes "version") (codes "3") ≡ None
  most_group : setting_of (codes "group") (codes "1024") ≡ Some (setting.Number Group 1024)
  most_cycles : setting_of (codes "cycles") (codes "10000") ≡ Some (setting.Number Cycles 10000)
  cycles_above : setting_of (codes "cycles") (codes "10001") ≡ None
  most_seed : setting_of (codes "seed") (codes "18446744073709551615") ≡ Some (setting.Number Seed 18446744073709551615)
  seed_above : setting_of (codes "seed") (codes "18446744073709551616") ≡ None
  all_lost : setting_of (codes "loss") (codes "100") ≡ Some (setting.Number Loss 100)
  loss_above : setting_of (codes "loss") (codes "101") ≡ None
  all_again : setting_of (codes "again") (codes "100") ≡ Some (setting.Number Again 100)
  again_above : setting_of (codes "again") (codes "101") ≡ None
  all_late : setting_of (codes "late") (codes "100") ≡ Some (setting.Number Late 100)
  late_above : setting_of (codes "late") (codes "101") ≡ None
  most_monitors : setting_of (codes "monitors") (codes "16") ≡ Some (setting.Number Monitors 16)
  monitors_above : setting_of (codes "monitors") (codes "17") ≡ None
  no_hears : setting_of (codes "hears") (codes "0") ≡ None
  one_hear : setting_of (codes "hears") (codes "1") ≡ Some (setting.Number Hears 1)
  most_hears : setting_of (codes "hears") (codes "100000000") ≡ Some (setting.Number Hears 100000000)
  hears_above : setting_of (codes "hears") (codes "100000001") ≡ None
  -- 0 may be set, except of version and hears
  no_delta : setting_of (codes "delta") (codes "0") ≡ Some (setting.Number Delta 0)
  no_cycles : setting_of (codes "cycles") (codes "0") ≡ Some (setting.Number Cycles 0)
  no_seed : setting_of (codes "seed") (codes "0") ≡ Some (setting.Number Seed 0)
  none_lost : setting_of (codes "loss") (codes "0") ≡ Some (setting.Number Loss 0)
  none_again : setting_of (codes "again") (codes "0") ≡ Some (setting.Number Again 0)
  none_late : setting_of (codes "late") (codes "0") ≡ Some (setting.Number Late 0)
  no_monitors : setting_of (codes "monitors") (codes "0") ≡ Some (setting.Number Monitors 0)
  -- what each is if nothing is set
  unset : settings_in [] ≡ record { policy = FMatrix; version = 1; group = 0; cycles = 10; seed = 0; loss = 0; again = 0; late = 0; monitors = 0; hears = 1000000 }
  -- and what each is if all are set
  all_set : settings_in (setting.Number Delta 9 ∷ setting.Policy RMatrix ∷ setting.Number Version 2 ∷ setting.Number Group 3 ∷ setting.Number Cycles 4 ∷ setting.Number Seed 5 ∷ setting.Number Loss 6
      ∷ setting.Number Again 7 ∷ setting.Number Late 8 ∷ setting.Number Monitors 10 ∷ setting.Number Hears 11 ∷ [])
      ≡ record { policy = RMatrix; version = 2; group = 3; cycles = 4; seed = 5; loss = 6; again = 7; late = 8; monitors = 10; hears = 11 }
  -- the letter of each policy
  f_matrix : spelled_policy (codes "F") ≡ Some FMatrix
  datacycle : spelled_policy (codes "D") ≡ Some Datacycle
  r_matrix : spelled_policy (codes "R") ≡ Some RMatrix
  no_policy : spelled_policy (codes "f") ≡ None

setting_numbers : SettingNumbers
unfolding number_of
setting_numbers = record {
  delta = refl;
  version = refl;
  cycles = refl;
  seed = refl;
  loss = refl;
  again = refl;
  late = refl;
  most_delta = refl;
  delta_above = refl;
  no_version = refl;
  newest_version = refl;
  version_above = refl;
  most_group = refl;
  most_cycles = refl;
  cycles_above = refl;
  most_seed = refl;
  seed_above = refl;
  all_lost = refl;
  loss_above = refl;
  all_again = refl;
  again_above = refl;
  all_late = refl;
  late_above = refl;
  most_monitors = refl;
  monitors_above = refl;
  no_hears = refl;
  one_hear = refl;
  most_hears = refl;
  hears_above = refl;
  no_delta = refl;
  no_cycles = refl;
  no_seed = refl;
  none_lost = refl;
  none_again = refl;
  none_late = refl;
  no_monitors = refl;
  unset = refl;
  all_set = refl;
  f_matrix = refl;
  datacycle = refl;
  r_matrix = refl;
  no_policy = refl;
}

-- ---- limits

-- The numbers of the kinds of tests that hold: 7 is the kind of a limit.
abbrev kinds : List (FaultKind × Bool) → List ℕ
kinds tests = kinds_of deck_kind_number tests

-- A write of a constant to an item, and one of item 4 minus 5 to item 3.
abbrev five_to : ℕ → Write
five_to item = record { item = item; base = None; minus = false; amount = 5 }

abbrev less : Write
less = record { item = 3; base = Some 4; minus = true; amount = 5 }

pub record Limits : Type 0 where
  -- the numbers of all kinds
  all_kinds : map deck_kind_number (fault.Fields ∷ fault.Form ∷ fault.Id ∷ fault.Undeclared ∷ fault.Twice ∷ fault.Sizes ∷ fault.Limit ∷ fault.Unread ∷ fault.Tag ∷ fault.Setting ∷ fault.Overdrawn ∷ fault.Lengths ∷ [])
      ≡ 1 ∷ 2 ∷ 3 ∷ 4 ∷ 5 ∷ 6 ∷ 7 ∷ 8 ∷ 9 ∷ 10 ∷ 11 ∷ 13 ∷ []
  -- an item's rate has a limit, and its value and its id have none; a wrong id is no limit passed
  rate_above : kinds (tests_of [] (e.DeclaredItem 0 5 1000001)) ≡ 7 ∷ []
  great_value : kinds (tests_of [] (e.DeclaredItem 0 1000001 1)) ≡ []
  great_id : kinds (tests_of [] (e.DeclaredItem 1024 5 1)) ≡ 3 ∷ []
  disk_above : kinds (disk_tests 0 1025 None) ≡ 7 ∷ []
  eighth_disk : kinds (tests_of (replicate 7 (e.DeclaredDisk 1 None)) (e.DeclaredDisk 1 None)) ≡ []
  ninth_disk : kinds (tests_of (replicate 8 (e.DeclaredDisk 1 None)) (e.DeclaredDisk 1 None)) ≡ 7 ∷ []
  sixteen_reads : kinds (update_tests 20 0 0 (range_with_len 0 16) (five_to 0 ∷ [])) ≡ []
  seventeen_reads : kinds (update_tests 20 0 0 (range_with_len 0 17) (five_to 0 ∷ [])) ≡ 7 ∷ []
  -- a base that isn't read, of the first write and of the second: 8 is its kind
  first_unread : kinds (update_tests 5 0 0 [] (less ∷ five_to 0 ∷ [])) ≡ 8 ∷ []
  second_unread : kinds (update_tests 5 0 0 [] (five_to 0 ∷ less ∷ [])) ≡ 8 ∷ []
  -- two writes of one item: 5 is their kind
  written_twice : kinds (update_tests 5 0 0 [] (five_to 0 ∷ five_to 0 ∷ [])) ≡ 5 ∷ []
  one_try : kinds (reader_tests 0 0 0 1) ≡ []
  long_age : kinds (tests_of [] (e.DeclaredReader 0 257 1)) ≡ []
  great_room : kinds (tests_of [] (e.DeclaredReader 257 0 1)) ≡ 7 ∷ []
  last_reader : kinds (tests_of (replicate 63 (e.DeclaredReader 0 0 1)) (e.DeclaredReader 0 0 1)) ≡ []
  no_more_readers : kinds (tests_of (replicate 64 (e.DeclaredReader 0 0 1)) (e.DeclaredReader 0 0 1)) ≡ 7 ∷ []
  sixteen_asked : kinds (query_tests 20 1 0 0 (range_with_len 0 16)) ≡ []
  seventeen_asked : kinds (query_tests 20 1 0 0 (range_with_len 0 17)) ≡ 7 ∷ []
  -- updater 15 is the last whose commits are compared with its updates; events before were tested in their own record
  last_updater : kinds (script_tests (λ by. 0) [] (Some 15 ∷ [])) ≡ 11 ∷ []
  no_updater : kinds (script_tests (λ by. 0) [] (Some 16 ∷ [])) ≡ 7 ∷ []
  tested_before : kinds (script_tests (λ by. 1) (Some 16 ∷ []) []) ≡ []
  -- a setting is set twice, whatever else is set: 10 is the kind of a setting
  among_others : kinds (set_tests (setting.Policy RMatrix ∷ setting.Number Loss 3 ∷ []) (setting.Number Loss 1)) ≡ 10 ∷ []
  policy_twice : kinds (set_tests (setting.Policy RMatrix ∷ []) (setting.Policy FMatrix)) ≡ 10 ∷ []
  another_set : kinds (set_tests (setting.Number Late 3 ∷ []) (setting.Number Loss 1)) ≡ []
  -- the first declaration counts too
  one_query : count_queries (e.DeclaredQuery 0 (1 ∷ []) ∷ []) ≡ 1
  its_query : queries_in (e.DeclaredQuery 0 (1 ∷ []) ∷ []) 0 ≡ (1 ∷ []) ∷ []
  its_reader : readers_in (e.DeclaredReader 1 2 3 ∷ []) ≡ record { room = 1; age = 2; tries = 3 } ∷ []
  its_script : script_in (e.DeclaredScript (None ∷ Some 2 ∷ []) ∷ []) ≡ None ∷ Some 2 ∷ []

limits : Limits
unfolding has_repeat some_below
limits = record {
  all_kinds = refl;
  rate_above = refl;
  great_value = refl;
  great_id = refl;
  disk_above = refl;
  eighth_disk = refl;
  ninth_disk = refl;
  sixteen_reads = refl;
  seventeen_reads = refl;
  first_unread = refl;
  second_unread = refl;
  written_twice = refl;
  one_try = refl;
  long_age = refl;
  great_room = refl;
  last_reader = refl;
  no_more_readers = refl;
  sixteen_asked = refl;
  seventeen_asked = refl;
  last_updater = refl;
  no_updater = refl;
  tested_before = refl;
  among_others = refl;
  policy_twice = refl;
  another_set = refl;
  one_query = refl;
  its_query = refl;
  its_reader = refl;
  its_script = refl;
}

-- ---- long scripts, of which only the numbers of events and of starts are known

pub record Scripts : Type 0 where
  -- 10,000 starts are the most, however few the events are
  last_start : (script : List (Option ℕ)) → length script ≡ 9999 → count_starts script ≡ 9999 → script_passes script (None ∷ []) ≡ false
  no_more_starts : (script : List (Option ℕ)) → length script ≡ 10000 → count_starts script ≡ 10000 → script_passes script (None ∷ []) ≡ true
  -- 200,000 events are the most
  last_event : (script : List (Option ℕ)) → length script ≡ 199999 → count_starts script ≡ 0 → script_passes script (Some 0 ∷ []) ≡ false
  no_more_events : (script : List (Option ℕ)) → length script ≡ 200000 → count_starts script ≡ 0 → script_passes script (Some 0 ∷ []) ≡ true

-- With these numbers of events before, of starts before, and of starts in one more event.
abbrev Passes : ℕ → ℕ → ℕ → Bool → Type 0
Passes events starts more passes = (nat_lt 200000 (events + 1) || nat_lt 10000 (starts + more)) ≡ passes

scripts : Scripts
scripts = record {
  last_start = λ script events starts. subst (λ n. Passes n (count_starts script) 1 false) (sym events) (subst (λ n. Passes 9999 n 1 false) (sym starts) refl);
  no_more_starts = λ script events starts. subst (λ n. Passes n (count_starts script) 1 true) (sym events) (subst (λ n. Passes 10000 n 1 true) (sym starts) refl);
  last_event = λ script events starts. subst (λ n. Passes n (count_starts script) 0 false) (sym events) (subst (λ n. Passes 199999 n 0 false) (sym starts) refl);
  no_more_events = λ script events starts. subst (λ n. Passes n (count_starts script) 0 true) (sym events) refl;
}

-- The kinds that apply to declarations at the ends of limits and at the first of several, and settings by their words.
use Rattle.std.proofs.Common.{◌≡◌, ◌-◌, ◌^◌, ℕ, List, [], ◌∷◌, Some, None, true, false, Bool, Option, length, replicate, refl}
use Rattle.std.proofs.Math.Bool.{or-true}
use Rattle.std.specs.Prelude.{codes}
use Rattle.air_base.specs.Numbers.{number_of}
use Rattle.air_base.specs.declared.verdicts.Policy.TheVariants.{FMatrix, RMatrix}
use Rattle.air_history.specs.declared.updates.Write.{Write}
use Rattle.air_history.specs.UpdateRules.{has_repeat}
use Rattle.item_catalog.specs.Declarations as e
use Rattle.item_catalog.specs.Faults.{count_starts, disk_tests, query_tests, reader_tests, script_passes, script_tests, set_tests, some_below, tests_of, update_tests}
use Rattle.item_catalog.specs.Kinds.{deck_kind_number}
use Rattle.item_catalog.specs.ListTests.{write_reaches}
use Rattle.item_catalog.specs.Parts.{count_queries, queries_in, readers_in, script_in}
use Rattle.item_catalog.specs.RecordKinds.{kinds_of}
use Rattle.item_catalog.specs.Settings.{name_of, setting_of, spelled_policy}
use Rattle.item_catalog.specs.declared.deck.draft.settings.Name.TheVariants.{Late, Loss, Seed}
use Rattle.item_catalog.specs.declared.deck.draft.settings.Setting.TheVariants as setting
use Rattle.item_catalog.specs.declared.faults.FaultKind.{FaultKind}

-- The numbers of the kinds whose tests hold: 7 is a limit's, 8 that of a base that isn't read, 10 that of a setting.
abbrev kinds : List (FaultKind × Bool) → List ℕ
kinds tests = kinds_of deck_kind_number tests

-- Seventeen items.
abbrev seventeen : List ℕ
seventeen = 0 ∷ 1 ∷ 2 ∷ 3 ∷ 4 ∷ 5 ∷ 6 ∷ 7 ∷ 8 ∷ 9 ∷ 10 ∷ 11 ∷ 12 ∷ 13 ∷ 14 ∷ 15 ∷ 16 ∷ []

-- A write to item 3, of a constant or of a base.
abbrev to_three : Option ℕ → Write
to_three base = record { item = 3; base = base; minus = false; amount = 5 }

pub record AtLimits : Type 0 where
  size_above : kinds (disk_tests 0 1025 None) ≡ 7 ∷ []
  one_try : kinds (reader_tests 0 0 0 1) ≡ []
  seventeen_asked : kinds (query_tests 17 1 0 0 seventeen) ≡ 7 ∷ []
  seventeen_reads : kinds (update_tests 17 0 0 seventeen (to_three None ∷ [])) ≡ 7 ∷ []
  first_base_unread : kinds (update_tests 5 0 0 [] (to_three (Some 4) ∷ [])) ≡ 8 ∷ []
  own_item_undeclared : write_reaches 3 (to_three None) ≡ true
  ninth_disk : kinds (tests_of (replicate 8 (e.DeclaredDisk 1 None)) (e.DeclaredDisk 1 None)) ≡ 7 ∷ []
  reader_too_many : kinds (tests_of (replicate 64 (e.DeclaredReader 0 0 1)) (e.DeclaredReader 0 0 1)) ≡ 7 ∷ []
  -- updater 16 has no number, and none of the sixteen commits too many updates
  seventeenth_updater : kinds (script_tests (λ by. 0) [] (Some 16 ∷ [])) ≡ 7 ∷ []
  -- only the updaters of the new events are judged
  earlier_updater : kinds (script_tests (λ by. 1) (Some 16 ∷ []) []) ≡ []

at_limits : AtLimits
unfolding some_below has_repeat
at_limits = record {
  size_above = refl;
  one_try = refl;
  seventeen_asked = refl;
  seventeen_reads = refl;
  first_base_unread = refl;
  own_item_undeclared = refl;
  ninth_disk = refl;
  reader_too_many = refl;
  seventeenth_updater = refl;
  earlier_updater = refl;
}

-- After 200,000 events one more passes the limit, and after 10,000 starts one more start does.
event_too_many : (script : List (Option ℕ)) → length script ≡ 200000 → script_passes script (Some 0 ∷ []) ≡ true
event_too_many script all = rw all refl

start_too_many : (script : List (Option ℕ)) → count_starts script ≡ 10000 → script_passes script (None ∷ []) ≡ true
start_too_many script all = rw all (or-true _)

pub record FirstOfAll : Type 0 where
  a_query : count_queries (e.DeclaredQuery 0 [] ∷ []) ≡ 1
  its_items : queries_in (e.DeclaredQuery 0 (1 ∷ []) ∷ []) 0 ≡ (1 ∷ []) ∷ []
  a_reader : readers_in (e.DeclaredReader 1 2 3 ∷ []) ≡ record { room = 1; age = 2; tries = 3 } ∷ []
  a_script : script_in (e.DeclaredScript (None ∷ []) ∷ []) ≡ None ∷ []

first_of_all : FirstOfAll
first_of_all = record { a_query = refl; its_items = refl; a_reader = refl; a_script = refl }

pub record SettingWords : Type 0 where
  nothing_set : kinds (set_tests [] (setting.Number Loss 1)) ≡ []
  -- it is enough to be one of those that were set
  set_among_others : kinds (set_tests (setting.Number Loss 3 ∷ setting.Policy RMatrix ∷ []) (setting.Number Loss 1)) ≡ 10 ∷ []
  policy_twice : kinds (set_tests (setting.Policy FMatrix ∷ []) (setting.Policy RMatrix)) ≡ 10 ∷ []
  letter : spelled_policy (codes "F") ≡ Some FMatrix
  late : name_of (codes "late") ≡ Some Late
  greatest_seed : setting_of (codes "seed") (codes "18446744073709551615") ≡ Some (setting.Number Seed (2 ^ 64 - 1))

setting_words : SettingWords
unfolding number_of
setting_words = record { nothing_set = refl; set_among_others = refl; policy_twice = refl; letter = refl; late = refl; greatest_seed = refl }

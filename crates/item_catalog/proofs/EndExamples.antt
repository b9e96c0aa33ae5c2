-- The kinds that apply to declarations if an earlier one decides, and settings of which only one differs.
use Rattle.std.specs.Prelude.{◌≡◌, ℕ, List, [], ◌∷◌, Some, None, false, codes, map, refl}
use Rattle.std.specs.List.{range_with_len}
use Rattle.air_history.specs.UpdateRules.{has_repeat}
use Rattle.item_catalog.specs.Declarations as e
use Rattle.item_catalog.specs.Declarations.{Declaration}
use Rattle.item_catalog.specs.Faults.{tests_of}
use Rattle.item_catalog.specs.Kinds.{deck_kind_number}
use Rattle.item_catalog.specs.RecordKinds.{kinds_of}
use Rattle.item_catalog.specs.Settings.{name_of, settings_in}
use Rattle.item_catalog.specs.declared.deck.draft.settings.Name.TheVariants.{Hears, Late, Seed}
use Rattle.item_catalog.specs.declared.deck.draft.settings.Setting.TheVariants as setting

-- The numbers of the kinds that apply to a declaration after others.
abbrev kinds_behind : List Declaration → Declaration → List ℕ
kinds_behind before declaration = kinds_of deck_kind_number (tests_of before declaration)

-- A replan to one disk of one item.
abbrev replan : ℕ → Declaration
replan cycle = e.DeclaredReplan cycle (1 ∷ []) (None ∷ [])

-- An update that writes 5 to item 0.
abbrev into_first : Declaration
into_first = e.DeclaredUpdate 0 [] (record { item = 0; base = None; minus = false; amount = 5 } ∷ [])

pub record Behind : Type 0 where
  -- a sixteenth replan may be declared, but no seventeenth: 7 is the kind of a limit
  sixteenth_replan : kinds_behind (map replan (range_with_len 2 15)) (replan 17) ≡ []
  seventeenth_replan : kinds_behind (map replan (range_with_len 2 16)) (replan 18) ≡ 7 ∷ []
  -- one item is enough to write to, and no item isn't: 4 is the kind of what isn't declared
  first_item : kinds_behind (e.DeclaredItem 0 10 1 ∷ []) into_first ≡ []
  no_item : kinds_behind [] into_first ≡ 4 ∷ []
  -- a setting by its word, and each of two settings with its own value
  hears : name_of (codes "hears") ≡ Some Hears
  late_alone : (settings_in (setting.Number Seed 5 ∷ setting.Number Late 3 ∷ [])).late ≡ 3
  seed_alone : (settings_in (setting.Number Seed 5 ∷ setting.Number Late 3 ∷ [])).seed ≡ 5

behind : Behind
unfolding has_repeat
behind = record { sixteenth_replan = refl; seventeenth_replan = refl; first_item = refl; no_item = refl; hears = refl; late_alone = refl; seed_alone = refl }

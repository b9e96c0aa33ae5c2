-- The setting of groups, computed: which values it takes, and where it is refused at the end.
use Rattle.std.specs.Prelude.{◌≡◌, ℕ, true, false, List, [], ◌∷◌, Some, None, codes, refl}
use Rattle.air_base.specs.Numbers.{number_of}
use Rattle.air_base.specs.declared.verdicts.Policy.TheVariants.{FMatrix, Datacycle, RMatrix}
use Rattle.item_catalog.specs.Faults.{end_tests}
use Rattle.item_catalog.specs.Kinds.{deck_kind_number}
use Rattle.item_catalog.specs.RecordKinds.{kinds_of}
use Rattle.item_catalog.specs.Settings.{default_of, groups_vectors, name_of, setting_of, settings_in}
use Rattle.item_catalog.specs.declared.deck.draft.settings.Name.TheVariants.{Group}
use Rattle.item_catalog.specs.declared.deck.draft.settings.Setting.{Setting}
use Rattle.item_catalog.specs.declared.deck.draft.settings.Setting.TheVariants as setting

-- The kinds at the end of three items on one disk of this size, where these were set.
abbrev at_end : ℕ → List Setting → List ℕ
at_end size set = kinds_of deck_kind_number (end_tests 3 (record { size = size; freq = None } ∷ []) [] set)

pub record GroupSettings : Type 0 where
  named : name_of (codes "group") ≡ Some Group
  not_named : name_of (codes "groups") ≡ None
  unset : default_of Group ≡ 0
  of_none : (settings_in []).group ≡ 0
  of_two : (settings_in (setting.Policy FMatrix ∷ setting.Number Group 2 ∷ [])).group ≡ 2
  -- 0 may be set; a number above the most, one with a sign and one with a leading zero may not
  none : setting_of (codes "group") (codes "0") ≡ Some (setting.Number Group 0)
  too_many : setting_of (codes "group") (codes "1025") ≡ None
  signed : setting_of (codes "group") (codes "-1") ≡ None
  leading : setting_of (codes "group") (codes "02") ≡ None
  -- at the end groups come under F-Matrix, which is the policy where none is set: 10 is the kind of a setting
  columns : at_end 3 (setting.Policy FMatrix ∷ setting.Number Group 2 ∷ []) ≡ []
  unset_policy : at_end 3 (setting.Number Group 2 ∷ []) ≡ []
  datacycle : at_end 3 (setting.Number Group 2 ∷ setting.Policy Datacycle ∷ []) ≡ 10 ∷ []
  r_matrix : at_end 3 (setting.Policy RMatrix ∷ setting.Number Group 1 ∷ []) ≡ 10 ∷ []
  no_groups : at_end 3 (setting.Number Group 0 ∷ setting.Policy Datacycle ∷ []) ≡ []
  vectors : groups_vectors (setting.Number Group 1 ∷ setting.Policy Datacycle ∷ []) ≡ true
  of_columns : groups_vectors (setting.Number Group 1 ∷ []) ≡ false
  of_no_groups : groups_vectors (setting.Policy Datacycle ∷ []) ≡ false
  -- and the sizes, and the limits, come before
  sizes_before : at_end 2 (setting.Number Group 2 ∷ setting.Policy Datacycle ∷ []) ≡ 6 ∷ 10 ∷ []
  limit_before : kinds_of deck_kind_number (end_tests 0 [] [] (setting.Number Group 2 ∷ setting.Policy Datacycle ∷ [])) ≡ 7 ∷ 10 ∷ []

pub group_settings : GroupSettings
unfolding number_of
group_settings = record {
  named = refl;
  not_named = refl;
  unset = refl;
  of_none = refl;
  of_two = refl;
  none = refl;
  too_many = refl;
  signed = refl;
  leading = refl;
  columns = refl;
  unset_policy = refl;
  datacycle = refl;
  r_matrix = refl;
  no_groups = refl;
  vectors = refl;
  of_columns = refl;
  of_no_groups = refl;
  sizes_before = refl;
  limit_before = refl;
}

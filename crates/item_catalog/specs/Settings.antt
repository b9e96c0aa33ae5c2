-- Settings: which name and value a record may give one, and what all settings are after some were set.
use Rattle.std.specs.Prelude.{◌-◌, ◌^◌, ◌&&◌, ℕ, Bool, true, false, not, nat_lt, List, [], ◌∷◌, Option, Some, None, find, option_map, unwrap_or, codes, if◌then◌else◌}
use Rattle.air_base.specs.declared.limits.TheConstants.{DEFAULT_CYCLES, DEFAULT_HEARS, MOST_CYCLES, MOST_DELTA, MOST_HEARS, MOST_MONITORS, MOST_GROUP, MOST_SHARE, NEWEST_VERSION}
use Rattle.air_base.specs.Numbers.{number_of}
use Rattle.air_base.specs.declared.verdicts.Policy.{Policy}
use Rattle.air_base.specs.declared.verdicts.Policy.TheVariants.{FMatrix, Datacycle, RMatrix}
use Rattle.air_model.specs.declared.deck.Settings.{Settings}
use Rattle.air_model.specs.Aired.{airs_columns}
use Rattle.item_catalog.specs.Ranges.{outside}
use Rattle.item_catalog.specs.RecordFields.{◌is◌}
use Rattle.item_catalog.specs.declared.deck.draft.settings.Name.{Name}
use Rattle.item_catalog.specs.declared.deck.draft.settings.Name.TheVariants.{Delta, Version, Group, Cycles, Seed, Loss, Again, Late, Monitors, Hears}
use Rattle.item_catalog.specs.declared.deck.draft.settings.Setting.{Setting}
use Rattle.item_catalog.specs.declared.deck.draft.settings.Setting.TheVariants as setting

-- A setting that is a number: its word in a record, its least and its greatest value, and its value if it isn't set.
pub record NumberSetting : Type 0 where
  pub word : List ℕ
  pub least : ℕ
  pub most : ℕ
  pub unset : ℕ

-- The settings that are numbers.
abbrev pub number_setting : Name → NumberSetting
number_setting Delta = record { word = codes "delta"; least = 0; most = MOST_DELTA; unset = 0 }
number_setting Version = record { word = codes "version"; least = 1; most = NEWEST_VERSION; unset = 1 }
number_setting Group = record { word = codes "group"; least = 0; most = MOST_GROUP; unset = 0 }
number_setting Cycles = record { word = codes "cycles"; least = 0; most = MOST_CYCLES; unset = DEFAULT_CYCLES }
number_setting Seed = record { word = codes "seed"; least = 0; most = 2 ^ 64 - 1; unset = 0 }
number_setting Loss = record { word = codes "loss"; least = 0; most = MOST_SHARE; unset = 0 }
number_setting Again = record { word = codes "again"; least = 0; most = MOST_SHARE; unset = 0 }
number_setting Late = record { word = codes "late"; least = 0; most = MOST_SHARE; unset = 0 }
number_setting Monitors = record { word = codes "monitors"; least = 0; most = MOST_MONITORS; unset = 0 }
number_setting Hears = record { word = codes "hears"; least = 1; most = MOST_HEARS; unset = DEFAULT_HEARS }

-- The least and the greatest value of a setting, and its value if it isn't set, by names of their own.
abbrev pub range_of : Name → ℕ × ℕ
range_of name = ((number_setting name).least, (number_setting name).most)

abbrev pub default_of : Name → ℕ
default_of name = (number_setting name).unset

-- The setting of this word, if there is one.
abbrev pub name_of : List ℕ → Option Name
name_of text = find (λ name. text is (number_setting name).word) (Delta ∷ Version ∷ Group ∷ Cycles ∷ Seed ∷ Loss ∷ Again ∷ Late ∷ Monitors ∷ Hears ∷ [])

-- The policy of this letter, if there is one.
abbrev pub spelled_policy : List ℕ → Option Policy
spelled_policy text =
    if text is codes "F" then Some FMatrix
    else if text is codes "D" then Some Datacycle
    else if text is codes "R" then Some RMatrix
    else None

-- A number is the setting's value if it is in its range.
abbrev pub number_set : Option Name → Option ℕ → Option Setting
number_set (Some name) (Some n) = if outside (number_setting name).least (number_setting name).most n then None else Some (setting.Number name n)
number_set name n = None

-- The setting that a name and a value spell, if they spell one.
abbrev pub setting_of : List ℕ → List ℕ → Option Setting
setting_of name value =
    if name is codes "policy" then option_map setting.Policy (spelled_policy value) else number_set (name_of name) (number_of value)

-- Whether the two have the same word.
abbrev pub same_name : Name → Name → Bool
same_name a b = (number_setting a).word is (number_setting b).word

-- Whether the two set the same thing, to any values.
abbrev pub same_setting : Setting → Setting → Bool
same_setting (setting.Policy a) (setting.Policy b) = true
same_setting (setting.Number a x) (setting.Number b y) = same_name a b
same_setting a b = false

-- What a setting says of this name.
abbrev pub number_said : Name → Setting → Option ℕ
number_said name (setting.Policy policy) = None
number_said name (setting.Number other n) = if same_name name other then Some n else None

-- The value of a name: the one that was set, otherwise its default.
abbrev pub number_in : Name → List Setting → ℕ
number_in name [] = (number_setting name).unset
number_in name (said ∷ settings) = unwrap_or (number_said name said) (number_in name settings)

-- The policy: the one that was set, otherwise F-Matrix.
abbrev pub policy_in : List Setting → Policy
policy_in [] = FMatrix
policy_in (setting.Policy policy ∷ settings) = policy
policy_in (setting.Number name n ∷ settings) = policy_in settings

-- A group is set with a policy that airs no columns.
abbrev pub groups_vectors : List Setting → Bool
groups_vectors set = nat_lt 0 (number_in Group set) && not (airs_columns (policy_in set))

-- All settings, if these were set.
abbrev pub settings_in : List Setting → Settings
settings_in set = record {
  policy = policy_in set;
  version = number_in Version set;
  group = number_in Group set;
  cycles = number_in Cycles set;
  seed = number_in Seed set;
  loss = number_in Loss set;
  again = number_in Again set;
  late = number_in Late set;
  monitors = number_in Monitors set;
  hears = number_in Hears set;
}

-- What single records and fields of a deck spell, computed: declarations, writes and settings, at the ends of their ranges.
use Rattle.std.proofs.Common.{◌≡◌, ℕ, ◌+◌, [], ◌∷◌, Option, Some, None, true, false, refl}
use Rattle.std.specs.Prelude.{Ok, Err, codes}
use Rattle.air_base.specs.Numbers.{number_of}
use Rattle.air_base.specs.NumberLists.{all_some}
use Rattle.air_base.specs.declared.verdicts.Policy.TheVariants.{FMatrix, Datacycle, RMatrix}
use Rattle.item_catalog.specs.Declarations as e
use Rattle.item_catalog.specs.Declarations.{Declaration, disk_by, declaration_by, item_by, query_by, reader_by, script_by, set_by, spelled_declaration, tag_of, update_by}
use Rattle.item_catalog.specs.Fields.{freq_of, spelled_event}
use Rattle.item_catalog.specs.RecordFields.{◌is◌, five_of, four_of, seven_of, six_of}
use Rattle.item_catalog.specs.Settings.{NumberSetting, default_of, name_of, number_in, number_said, number_set, number_setting, policy_in, range_of, same_name, same_setting, setting_of, settings_in, spelled_policy}
use Rattle.item_catalog.specs.Spelled.{spelled_then as ◌>>=◌, or_fault}
use Rattle.item_catalog.specs.Tags.{by_tag}
use Rattle.item_catalog.specs.Writes.{constant, spelled_value_write, spelled_write, write_by, write_from, write_on_base}
use Rattle.item_catalog.specs.declared.deck.draft.settings.Name.TheVariants.{Cycles, Delta, Hears, Loss, Monitors, Version}
use Rattle.item_catalog.specs.declared.deck.draft.settings.Setting.TheVariants as setting
use Rattle.item_catalog.specs.declared.faults.FaultKind.TheVariants as fault
use Rattle.item_catalog.specs.declared.reading.Tag.TheVariants as t

-- One more, if there is a number.
abbrev one_more : Option ℕ → Option ℕ
one_more number = do
  n ← number
  Some (n + 1)

pub record Fields : Type 0 where
  word : codes "disk" is codes "disk" ≡ true
  longer : codes "disk" is codes "disks" ≡ false
  other_letter : codes "disk" is codes "disc" ≡ false
  four : four_of {A = ℕ} (1 ∷ 2 ∷ 3 ∷ 4 ∷ []) ≡ Some (1, 2, 3, 4)
  not_four : four_of {A = ℕ} (1 ∷ 2 ∷ 3 ∷ 4 ∷ 5 ∷ []) ≡ None
  five : five_of {A = ℕ} (1 ∷ 2 ∷ 3 ∷ 4 ∷ 5 ∷ []) ≡ Some (1, 2, 3, 4, 5)
  not_five : five_of {A = ℕ} (1 ∷ 2 ∷ 3 ∷ 4 ∷ 5 ∷ 6 ∷ []) ≡ None
  six : six_of {A = ℕ} (1 ∷ 2 ∷ 3 ∷ 4 ∷ 5 ∷ 6 ∷ []) ≡ Some (1, 2, 3, 4, 5, 6)
  not_six : six_of {A = ℕ} (1 ∷ 2 ∷ 3 ∷ 4 ∷ 5 ∷ []) ≡ None
  seven : seven_of {A = ℕ} (1 ∷ 2 ∷ 3 ∷ 4 ∷ 5 ∷ 6 ∷ 7 ∷ []) ≡ Some (1, 2, 3, 4, 5, 6, 7)
  not_seven : seven_of {A = ℕ} (1 ∷ 2 ∷ 3 ∷ 4 ∷ 5 ∷ 6 ∷ []) ≡ None
  some_more : one_more (Some 3) ≡ Some 4
  none_more : one_more None ≡ None
  spelled : or_fault {A = ℕ} fault.Form (Some 3) ≡ Ok 3
  not_spelled : or_fault {A = ℕ} fault.Form None ≡ Err fault.Form
  -- The tag is the first field.
  tagged : by_tag tag_of declaration_by (codes "disk" ∷ codes "2" ∷ codes "1" ∷ []) ≡ Ok (e.DeclaredDisk 2 (Some 1))
  untagged : by_tag tag_of declaration_by [] ≡ Err fault.Tag
  -- writes
  an_amount : constant (Some 3) (Some 4) ≡ Some (record { item = 3; base = None; minus = false; amount = 4 })
  no_amount : constant (Some 3) None ≡ None
  a_base_less : write_on_base true (Some 3) (Some 4) (Some 5) ≡ Some (record { item = 3; base = Some 4; minus = true; amount = 5 })
  no_base : write_on_base true (Some 3) None (Some 5) ≡ None
  with_plus : write_by (Some 3) (Some (codes "4", codes "5")) None (codes "4+5") ≡ Some (record { item = 3; base = Some 4; minus = false; amount = 5 })
  plus_and_minus : write_by (Some 3) (Some (codes "4", codes "5-6")) (Some (codes "4+5", codes "6")) (codes "4+5-6") ≡ None
  two_sides : write_from (Some (codes "3", codes "4-5")) ≡ spelled_write (codes "3=4-5")
  no_sides : write_from None ≡ None

fields : Fields
unfolding number_of freq_of spelled_value_write spelled_write
fields = record {
  word = refl;
  longer = refl;
  other_letter = refl;
  four = refl;
  not_four = refl;
  five = refl;
  not_five = refl;
  six = refl;
  not_six = refl;
  seven = refl;
  not_seven = refl;
  some_more = refl;
  none_more = refl;
  spelled = refl;
  not_spelled = refl;
  tagged = refl;
  untagged = refl;
  an_amount = refl;
  no_amount = refl;
  a_base_less = refl;
  no_base = refl;
  with_plus = refl;
  plus_and_minus = refl;
  two_sides = refl;
  no_sides = refl;
}

-- An item's declaration, and a row that spells it.
abbrev an_item : Declaration
an_item = e.DeclaredItem 0 10 1

pub record DeclarationsRead : Type 0 where
  item : item_by (Some (codes "0", codes "10", codes "1")) ≡ Ok an_item
  item_form : item_by (Some (codes "0", codes "10", codes "x")) ≡ Err fault.Form
  item_fields : item_by None ≡ Err fault.Fields
  disk : disk_by (Some (codes "2", codes "-")) ≡ Ok (e.DeclaredDisk 2 None)
  disk_form : disk_by (Some (codes "-", codes "2")) ≡ Err fault.Form
  update : update_by (Some (codes "1", codes "0 2", codes "3=4")) ≡ Ok (e.DeclaredUpdate 1 (0 ∷ 2 ∷ []) (record { item = 3; base = None; minus = false; amount = 4 } ∷ []))
  update_form : update_by (Some (codes "1", codes "0  2", codes "3=4")) ≡ Err fault.Form
  reader : reader_by (Some (codes "1", codes "2", codes "3")) ≡ Ok (e.DeclaredReader 1 2 3)
  reader_fields : reader_by None ≡ Err fault.Fields
  query : query_by (Some (codes "0", codes "2 1")) ≡ Ok (e.DeclaredQuery 0 (2 ∷ 1 ∷ []))
  query_form : query_by (Some (codes "s", codes "2 1")) ≡ Err fault.Form
  script : script_by (Some (codes "s 0 s")) ≡ Ok (e.DeclaredScript (None ∷ Some 0 ∷ None ∷ []))
  script_fields : script_by None ≡ Err fault.Fields
  set : set_by (Some (codes "loss", codes "100")) ≡ Ok (e.DeclaredSetting (setting.Number Loss 100))
  set_too_great : set_by (Some (codes "loss", codes "101")) ≡ Err fault.Setting
  set_fields : set_by None ≡ Err fault.Fields
  its_tag : tag_of (codes "script") ≡ Some t.Script
  no_tag : tag_of (codes "Script") ≡ None
  by_tag_of_reader : declaration_by (Some t.Reader) (codes "1" ∷ codes "2" ∷ []) ≡ Err fault.Fields
  by_no_tag : declaration_by None (codes "1" ∷ []) ≡ Err fault.Tag
  of_row : spelled_declaration (codes "item" ∷ codes "0" ∷ codes "10" ∷ codes "1" ∷ []) ≡ Ok an_item

declarations : DeclarationsRead
unfolding number_of freq_of spelled_event spelled_value_write spelled_write all_some
declarations = record {
  item = refl;
  item_form = refl;
  item_fields = refl;
  disk = refl;
  disk_form = refl;
  update = refl;
  update_form = refl;
  reader = refl;
  reader_fields = refl;
  query = refl;
  query_form = refl;
  script = refl;
  script_fields = refl;
  set = refl;
  set_too_great = refl;
  set_fields = refl;
  its_tag = refl;
  no_tag = refl;
  by_tag_of_reader = refl;
  by_no_tag = refl;
  of_row = refl;
}

-- A share of 100, and none if it isn't set.
abbrev share_of_loss : NumberSetting
share_of_loss = record { word = codes "loss"; least = 0; most = 100; unset = 0 }

pub record SettingsSet : Type 0 where
  share : number_setting Loss ≡ share_of_loss
  hears : number_setting Hears ≡ record { word = codes "hears"; least = 1; most = 100000000; unset = 1000000 }
  -- Delta is 0 if it isn't set, and a disk's `-` is then 1.
  no_delta : default_of Delta ≡ 0
  ten_cycles : default_of Cycles ≡ 10
  first_version : default_of Version ≡ 1
  of_version : range_of Version ≡ (1, 2)
  of_monitors : range_of Monitors ≡ (0, 16)
  named : name_of (codes "monitors") ≡ Some Monitors
  not_named : name_of (codes "monitor") ≡ None
  vectors : spelled_policy (codes "D") ≡ Some Datacycle
  small_letter : spelled_policy (codes "d") ≡ None
  hears_one : number_set (Some Hears) (Some 1) ≡ Some (setting.Number Hears 1)
  hears_none : number_set (Some Hears) (Some 0) ≡ None
  second_version : number_set (Some Version) (Some 2) ≡ Some (setting.Number Version 2)
  third_version : number_set (Some Version) (Some 3) ≡ None
  no_version : number_set (Some Version) (Some 0) ≡ None
  a_policy : setting_of (codes "policy") (codes "R") ≡ Some (setting.Policy RMatrix)
  a_number : setting_of (codes "delta") (codes "3") ≡ Some (setting.Number Delta 3)
  same : same_name Loss Loss ≡ true
  another : same_name Loss Cycles ≡ false
  set_again : same_setting (setting.Number Loss 1) (setting.Number Loss 2) ≡ true
  set_other : same_setting (setting.Policy FMatrix) (setting.Number Loss 2) ≡ false
  said : number_said Loss (setting.Number Loss 2) ≡ Some 2
  not_said : number_said Loss (setting.Number Cycles 2) ≡ None
  value : number_in Loss (setting.Number Cycles 2 ∷ setting.Number Loss 3 ∷ []) ≡ 3
  no_value : number_in Cycles [] ≡ 10
  policy : policy_in (setting.Number Loss 3 ∷ setting.Policy RMatrix ∷ []) ≡ RMatrix
  no_policy : policy_in [] ≡ FMatrix
  all_set : settings_in (setting.Policy Datacycle ∷ setting.Number Loss 3 ∷ setting.Number Cycles 2 ∷ [])
      ≡ record { policy = Datacycle; version = 1; group = 0; cycles = 2; seed = 0; loss = 3; again = 0; late = 0; monitors = 0; hears = 1000000 }

settings : SettingsSet
unfolding number_of
settings = record {
  share = refl;
  hears = refl;
  no_delta = refl;
  ten_cycles = refl;
  first_version = refl;
  of_version = refl;
  of_monitors = refl;
  named = refl;
  not_named = refl;
  vectors = refl;
  small_letter = refl;
  hears_one = refl;
  hears_none = refl;
  second_version = refl;
  third_version = refl;
  no_version = refl;
  a_policy = refl;
  a_number = refl;
  same = refl;
  another = refl;
  set_again = refl;
  set_other = refl;
  said = refl;
  not_said = refl;
  value = refl;
  no_value = refl;
  policy = refl;
  no_policy = refl;
  all_set = refl;
}

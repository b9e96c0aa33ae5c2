-- What a record spells has numbers that fit.
use Rattle.std.proofs.Common.{◌≡◌, ◌<◌, ◌^◌, ◌∷◌, [], ℕ, List, Option, Some, None, Ok, Bool, true, false, cond, refl, arith, nat_lt, option_map, codes}
use Rattle.std.specs.Prelude.{All}
use Rattle.std.proofs.lemmas.Bool.Decides.{nat_tests}
use Rattle.air_base.specs.Numbers.{number_of}
use Rattle.air_base.specs.NumberLists.{list_of, parts_of}
use Rattle.air_base.specs.declared.verdicts.Policy.{Policy}
use Rattle.air_history.specs.declared.updates.Write.{Write}
use Rattle.item_catalog.specs.declared.faults.FaultKind.TheVariants as fault
use Rattle.item_catalog.specs.Spelled.{or_fault, spelled_then}
use Rattle.item_catalog.specs.Declarations.{Declaration, disk_by, declaration_by, item_by, query_by, reader_by, replan_by, script_by, set_by, spelled_declaration, tag_of, update_by}
use Rattle.item_catalog.specs.Declarations as e
use Rattle.item_catalog.specs.RecordFields.{◌is◌}
use Rattle.item_catalog.specs.Fields.{freq_of, spelled_event}
use Rattle.air_base.specs.Parts.{one_of, three_of, two_of}
use Rattle.item_catalog.specs.Writes.{spelled_write}
use Rattle.item_catalog.specs.Ranges.{outside}
use Rattle.item_catalog.specs.Settings.{name_of, number_set, range_of, setting_of, spelled_policy}
use Rattle.item_catalog.specs.declared.reading.Tag.{Tag}
use Rattle.item_catalog.specs.declared.reading.Tag.TheVariants as t
use Rattle.item_catalog.specs.declared.deck.draft.settings.Name.{Name}
use Rattle.item_catalog.specs.declared.deck.draft.settings.Setting.{Setting}
use Rattle.item_catalog.specs.declared.deck.draft.settings.Setting.TheVariants as setting
use Rattle.item_catalog.proofs.DeclarationLemmas.{all_spelled, or_none, write_fits, writes_signed}
use Rattle.item_catalog.proofs.KeptLemmas.{InRange, Spelt, every}
use Rattle.air_base.proofs.LeadingNumberLemmas.{spelled_fits}

-- A setting that is spelled is in its range.
number_in_range : (name : Option Name) (n : Option ℕ) (s : Setting) → number_set name n ≡ Some s → InRange s
number_in_range None n s h = cc h
number_in_range (Some name) None s h = cc h
number_in_range (Some name) (Some n) s h = by (outside (range_of name).0 (range_of name).1 n) refl h
  where
    by : (b : Bool) → outside (range_of name).0 (range_of name).1 n ≡ b → cond b None (Some (setting.Number name n)) ≡ Some s → InRange s
    by true f h = cc h
    by false f h =
        let same : setting.Number name n ≡ s = cc h in
        let both = or_none (nat_lt n (range_of name).0) (nat_lt (range_of name).1 n) f in
        rw (← same) (grind (arith, nat_tests, both.0), grind (arith, nat_tests, both.1))

policy_in_range : (p : Option Policy) (s : Setting) → option_map setting.Policy p ≡ Some s → InRange s
policy_in_range None s h = cc h
policy_in_range (Some p) s h = let same : setting.Policy p ≡ s = cc h in rw (← same) tt

setting_in_range : (name value : List ℕ) (s : Setting) → setting_of name value ≡ Some s → InRange s
setting_in_range name value s h = by (name is codes "policy") h
  where
    by : (b : Bool) → cond b (option_map setting.Policy (spelled_policy value)) (number_set (name_of name) (number_of value)) ≡ Some s → InRange s
    by true h = policy_in_range (spelled_policy value) s h
    by false h = number_in_range (name_of name) (number_of value) s h

-- Tag by tag.
item_spelt : (f : Option (List ℕ × List ℕ × List ℕ)) (x : Declaration) → item_by f ≡ Ok x → Spelt x
item_spelt None x h = cc h
item_spelt (Some f) x h = by (number_of f.0) (number_of f.1) (number_of f.2) refl h
  where
    by : (a b c : Option ℕ) → number_of f.1 ≡ b → or_fault fault.Form (spelled_then a λ id. spelled_then b λ value. spelled_then c λ rate. Some (e.DeclaredItem id value rate)) ≡ Ok x → Spelt x
    by None b c e1 h = cc h
    by (Some id) None c e1 h = cc h
    by (Some id) (Some value) None e1 h = cc h
    by (Some id) (Some value) (Some rate) e1 h = let same : e.DeclaredItem id value rate ≡ x = cc h in rw (← same) (spelled_fits f.1 value e1)

disk_spelt : (f : Option (List ℕ × List ℕ)) (x : Declaration) → disk_by f ≡ Ok x → Spelt x
disk_spelt None x h = cc h
disk_spelt (Some f) x h = by (number_of f.0) (freq_of f.1) h
  where
    by : (a : Option ℕ) (b : Option (Option ℕ)) → or_fault fault.Form (spelled_then a λ size. spelled_then b λ freq. Some (e.DeclaredDisk size freq)) ≡ Ok x → Spelt x
    by None b h = cc h
    by (Some size) None h = cc h
    by (Some size) (Some freq) h = let same : e.DeclaredDisk size freq ≡ x = cc h in rw (← same) tt

amounts_fit : (text : List ℕ) (ws : List Write) → list_of spelled_write text ≡ Some ws → All (λ w. w.amount < 2 ^ 64) ws
amounts_fit text ws h k d below =
    let one = every (λ w. nat_lt w.amount (2 ^ 64)) ws (all_spelled spelled_write (λ w. nat_lt w.amount (2 ^ 64)) (λ part w e1. let fits = write_fits part w e1 in grind (arith, nat_tests, fits)) (parts_of text) ws h) k d below in
    grind (arith, nat_tests, one)

update_spelt : (f : Option (List ℕ × List ℕ × List ℕ)) (x : Declaration) → update_by f ≡ Ok x → Spelt x
update_spelt None x h = cc h
update_spelt (Some f) x h = by (number_of f.0) (list_of number_of f.1) (list_of spelled_write f.2) refl h
  where
    by : (a : Option ℕ) (b : Option (List ℕ)) (c : Option (List Write)) → list_of spelled_write f.2 ≡ c → or_fault fault.Form (spelled_then a λ by. spelled_then b λ reads. spelled_then c λ writes. Some (e.DeclaredUpdate by reads writes)) ≡ Ok x → Spelt x
    by None b c e1 h = cc h
    by (Some a) None c e1 h = cc h
    by (Some a) (Some rs) None e1 h = cc h
    by (Some a) (Some rs) (Some ws) e1 h = let same : e.DeclaredUpdate a rs ws ≡ x = cc h in rw (← same) (writes_signed f.2 ws e1, amounts_fit f.2 ws e1)

replan_spelt : (f : Option (List ℕ × List ℕ × List ℕ)) (x : Declaration) → replan_by f ≡ Ok x → Spelt x
replan_spelt None x h = cc h
replan_spelt (Some f) x h = by (number_of f.0) (list_of number_of f.1) (list_of freq_of f.2) h
  where
    by : (a : Option ℕ) (b : Option (List ℕ)) (c : Option (List (Option ℕ))) → or_fault fault.Form (spelled_then a λ cycle. spelled_then b λ sizes. spelled_then c λ freqs. Some (e.DeclaredReplan cycle sizes freqs)) ≡ Ok x → Spelt x
    by None b c h = cc h
    by (Some a) None c h = cc h
    by (Some a) (Some b) None h = cc h
    by (Some a) (Some b) (Some c) h = let same : e.DeclaredReplan a b c ≡ x = cc h in rw (← same) tt

reader_spelt : (f : Option (List ℕ × List ℕ × List ℕ)) (x : Declaration) → reader_by f ≡ Ok x → Spelt x
reader_spelt None x h = cc h
reader_spelt (Some f) x h = by (number_of f.0) (number_of f.1) (number_of f.2) h
  where
    by : (a b c : Option ℕ) → or_fault fault.Form (spelled_then a λ room. spelled_then b λ age. spelled_then c λ tries. Some (e.DeclaredReader room age tries)) ≡ Ok x → Spelt x
    by None b c h = cc h
    by (Some a) None c h = cc h
    by (Some a) (Some b) None h = cc h
    by (Some a) (Some b) (Some c) h = let same : e.DeclaredReader a b c ≡ x = cc h in rw (← same) tt

query_spelt : (f : Option (List ℕ × List ℕ)) (x : Declaration) → query_by f ≡ Ok x → Spelt x
query_spelt None x h = cc h
query_spelt (Some f) x h = by (number_of f.0) (list_of number_of f.1) h
  where
    by : (a : Option ℕ) (b : Option (List ℕ)) → or_fault fault.Form (spelled_then a λ reader. spelled_then b λ items. Some (e.DeclaredQuery reader items)) ≡ Ok x → Spelt x
    by None b h = cc h
    by (Some a) None h = cc h
    by (Some a) (Some b) h = let same : e.DeclaredQuery a b ≡ x = cc h in rw (← same) tt

script_spelt : (f : Option (List ℕ)) (x : Declaration) → script_by f ≡ Ok x → Spelt x
script_spelt None x h = cc h
script_spelt (Some f) x h = by (list_of spelled_event f) h
  where
    by : (a : Option (List (Option ℕ))) → or_fault fault.Form (spelled_then a λ events. Some (e.DeclaredScript events)) ≡ Ok x → Spelt x
    by None h = cc h
    by (Some a) h = let same : e.DeclaredScript a ≡ x = cc h in rw (← same) tt

set_spelt : (f : Option (List ℕ × List ℕ)) (x : Declaration) → set_by f ≡ Ok x → Spelt x
set_spelt None x h = cc h
set_spelt (Some f) x h = by (setting_of f.0 f.1) refl h
  where
    by : (a : Option Setting) → setting_of f.0 f.1 ≡ a → or_fault fault.Setting (spelled_then a λ s. Some (e.DeclaredSetting s)) ≡ Ok x → Spelt x
    by None e1 h = cc h
    by (Some s) e1 h = let same : e.DeclaredSetting s ≡ x = cc h in rw (← same) (setting_in_range f.0 f.1 s e1)

pub declaration_spelt : (row : List (List ℕ)) (x : Declaration) → spelled_declaration row ≡ Ok x → Spelt x
declaration_spelt [] x h = cc h
declaration_spelt (tag ∷ fields) x h = by (tag_of tag) h
  where
    by : (t : Option Tag) → declaration_by t fields ≡ Ok x → Spelt x
    by (Some t.Item) h = item_spelt (three_of fields) x h
    by (Some t.Disk) h = disk_spelt (two_of fields) x h
    by (Some t.Replan) h = replan_spelt (three_of fields) x h
    by (Some t.Update) h = update_spelt (three_of fields) x h
    by (Some t.Reader) h = reader_spelt (three_of fields) x h
    by (Some t.Query) h = query_spelt (two_of fields) x h
    by (Some t.Script) h = script_spelt (one_of fields) x h
    by (Some t.Set) h = set_spelt (two_of fields) x h
    by None h = cc h

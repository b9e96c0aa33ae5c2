-- Small decks, computed: the kinds that apply at a place, one deck that is spelled, one fault.
use Rattle.std.proofs.Common.{◌≡◌, ◌<◌, ◌≤◌, ◌++◌, get_or, ℕ, zero, suc, List, [], ◌∷◌, Some, None, true, false, refl, arith}
use Rattle.std.specs.Prelude.{codes}
use Rattle.csv.proofs.OnLiterals.{csv_on_literals}
use Rattle.air_base.specs.Numbers.{number_of}
use Rattle.air_base.specs.NumberLists.{all_some}
use Rattle.air_base.specs.declared.verdicts.Policy.TheVariants.{FMatrix}
use Rattle.air_history.specs.UpdateRules.{has_repeat}
use Rattle.item_catalog.specs.Fields.{freq_of, spelled_event}
use Rattle.item_catalog.specs.Writes.{spelled_value_write, spelled_write}
use Rattle.item_catalog.specs.Decks.{deck_of}
use Rattle.item_catalog.specs.Faults.{declarations_in, kinds_at, some_below}
use Rattle.item_catalog.specs.Grammar.{HasFault}

-- The fields of a record.
abbrev Row : Type 0
Row = List (List ℕ)

write_less : spelled_write (codes "3=4-5") ≡ Some (record { item = 3; base = Some 4; minus = true; amount = 5 })
unfolding number_of spelled_value_write spelled_write
write_less = refl

write_two_signs : spelled_write (codes "3=4+1-5") ≡ None
unfolding number_of spelled_value_write spelled_write
write_two_signs = refl

write_no_amount : spelled_write (codes "3=") ≡ None
unfolding number_of spelled_value_write spelled_write
write_no_amount = refl

abbrev item0 : Row
item0 = codes "item" ∷ codes "0" ∷ codes "10" ∷ codes "1" ∷ []

abbrev item1 : Row
item1 = codes "item" ∷ codes "1" ∷ codes "20" ∷ codes "1" ∷ []

abbrev disk2 : Row
disk2 = codes "disk" ∷ codes "2" ∷ codes "-" ∷ []

abbrev update0 : Row
update0 = codes "update" ∷ codes "0" ∷ codes "0" ∷ codes "1=0+5" ∷ []

abbrev reader0 : Row
reader0 = codes "reader" ∷ codes "0" ∷ codes "0" ∷ codes "3" ∷ []

abbrev query0 : Row
query0 = codes "query" ∷ codes "0" ∷ codes "1 0" ∷ []

abbrev script0 : Row
script0 = codes "script" ∷ codes "s 0 s" ∷ []

abbrev delta3 : Row
delta3 = codes "set" ∷ codes "delta" ∷ codes "3" ∷ []

-- A deck that uses every tag: with one disk the disk's `-` is 1, for any delta.
abbrev whole : List Row
whole = item0 ∷ item1 ∷ disk2 ∷ update0 ∷ reader0 ∷ query0 ∷ script0 ∷ delta3 ∷ []

whole_deck : deck_of (declarations_in whole) ≡ record {
  items = record { value = 10; rate = 1 } ∷ record { value = 20; rate = 1 } ∷ [];
  disks = record { size = 2; freq = 1 } ∷ [];
  replans = [];
  updates = (record { reads = 0 ∷ []; writes = record { item = 1; base = Some 0; minus = false; amount = 5 } ∷ [] } ∷ []) ∷ [];
  readers = record { room = 0; age = 0; tries = 3 } ∷ [];
  queries = ((1 ∷ 0 ∷ []) ∷ []) ∷ [];
  script = None ∷ Some 0 ∷ None ∷ [];
  settings = record { policy = FMatrix; version = 1; group = 0; cycles = 10; seed = 0; loss = 0; again = 0; late = 0; monitors = 0; hears = 1000000 };
}
unfolding number_of spelled_value_write spelled_write spelled_event freq_of all_some
whole_deck = refl

-- No kind applies to its script's record, nor at its end.
whole_script : kinds_at whole 6 ≡ []
unfolding kinds_at number_of spelled_value_write spelled_write spelled_event freq_of all_some some_below has_repeat
whole_script = refl

whole_end : kinds_at whole 8 ≡ []
unfolding kinds_at number_of spelled_value_write spelled_write spelled_event freq_of all_some some_below has_repeat
whole_end = refl

-- Two disks without a number have frequencies that differ by delta.
graded : (deck_of (declarations_in (disk2 ∷ disk2 ∷ delta3 ∷ []))).disks ≡ record { size = 2; freq = 4 } ∷ record { size = 2; freq = 1 } ∷ []
unfolding number_of freq_of
graded = refl

empty_deck : kinds_at [] 0 ≡ 7 ∷ []
unfolding kinds_at
empty_deck = refl

no_disk : kinds_at (item0 ∷ []) 1 ≡ 6 ∷ 7 ∷ []
unfolding kinds_at number_of
no_disk = refl

too_few_fields : kinds_at ((codes "item" ∷ []) ∷ []) 0 ≡ 1 ∷ []
unfolding kinds_at
too_few_fields = refl

no_event : kinds_at (item0 ∷ (codes "script" ∷ codes "s x" ∷ []) ∷ []) 1 ≡ 2 ∷ []
unfolding kinds_at number_of spelled_event all_some
no_event = refl

gap : kinds_at (item1 ∷ []) 0 ≡ 3 ∷ []
unfolding kinds_at number_of
gap = refl

-- An update with every kind that an update can have, except that of its form.
all_of_an_update : kinds_at (item0 ∷ (codes "update" ∷ codes "16" ∷ codes "0 0" ∷ codes "1=0 0=1+1" ∷ []) ∷ []) 1 ≡ 4 ∷ 5 ∷ 7 ∷ 8 ∷ []
unfolding kinds_at number_of spelled_value_write spelled_write all_some has_repeat
all_of_an_update = refl

twice_asked : kinds_at (item0 ∷ reader0 ∷ (codes "query" ∷ codes "0" ∷ codes "0 0" ∷ []) ∷ []) 2 ≡ 5 ∷ []
unfolding kinds_at number_of all_some has_repeat
twice_asked = refl

no_tries : kinds_at ((codes "reader" ∷ codes "0" ∷ codes "0" ∷ codes "0" ∷ []) ∷ []) 0 ≡ 7 ∷ []
unfolding kinds_at number_of
no_tries = refl

unknown_tag : kinds_at (delta3 ∷ (codes "items" ∷ codes "1" ∷ []) ∷ []) 1 ≡ 9 ∷ []
unfolding kinds_at
unknown_tag = refl

set_again : kinds_at (delta3 ∷ delta3 ∷ []) 1 ≡ 10 ∷ []
unfolding kinds_at number_of
set_again = refl

-- A setting's value with a leading zero is a fault of the setting, not of the form.
set_form : kinds_at ((codes "set" ∷ codes "delta" ∷ codes "03" ∷ []) ∷ []) 0 ≡ 10 ∷ []
unfolding kinds_at number_of
set_form = refl

-- One update, committed by each of two script records.
committed_twice : kinds_at (item0 ∷ item1 ∷ update0 ∷ script0 ∷ script0 ∷ []) 4 ≡ 11 ∷ []
unfolding kinds_at number_of spelled_value_write spelled_write spelled_event all_some some_below
committed_twice = refl

-- By its bytes: an empty line is no record, a quote is csv's, and the end is the record after the last.
by_bytes : HasFault (codes "item,0,5,1" ++ 10 ∷ 10 ∷ codes "\"disk\",2,1") 3 6
unfolding HasFault kinds_at number_of freq_of csv_on_literals
by_bytes = (
  2,
  refl,
  record {
    within = omega arith;
    first = before;
    least = record { one = (0, omega arith, refl); least = λ k d below. least k d below };
  },
)
  where
    before : (place : ℕ) → place < 2 → kinds_at ((codes "item" ∷ codes "0" ∷ codes "5" ∷ codes "1" ∷ []) ∷ (codes "disk" ∷ codes "2" ∷ codes "1" ∷ []) ∷ []) place ≡ []
    before zero below = refl
    before (suc zero) below = refl
    before (suc (suc place)) below = absurd (omega arith)

    least : (k d : ℕ) → k < 1 → 6 ≤ get_or (6 ∷ []) k d
    least zero d below = omega arith
    least (suc k) d below = absurd (omega arith)

-- Replans, computed: what their records spell, which kinds apply to them and at the end, and the deck and the text of some.
use Rattle.std.proofs.Common.{◌≡◌, ◌∷◌, [], ℕ, List, Some, None, Bool, true, refl}
use Rattle.std.specs.Prelude.{Ok, Err, codes, replicate}
use Rattle.air_base.specs.Numbers.{number_of, number_text}
use Rattle.air_base.specs.NumberLists.{all_some}
use Rattle.air_model.specs.Decks.{Replan}
use Rattle.air_model.specs.Disks.{DiskSpec}
use Rattle.item_catalog.specs.Declarations as e
use Rattle.item_catalog.specs.Declarations.{declaration_by, replan_by, tag_of}
use Rattle.item_catalog.specs.Decks.{deck_of, plain_replan}
use Rattle.item_catalog.specs.DeckTexts.{declaration_row, replan_declaration}
use Rattle.item_catalog.specs.Faults.{declarations_in, differs_from, end_tests, kinds_at, replan_tests}
use Rattle.item_catalog.specs.Fields.{freq_of}
use Rattle.item_catalog.specs.Kinds.{deck_kind_number}
use Rattle.item_catalog.specs.Parts.{ReplanSaid, disks_said, its_replan, last_replan_cycle, replans_in}
use Rattle.item_catalog.specs.RecordKinds.{kinds_of}
use Rattle.item_catalog.specs.declared.faults.FaultKind.{FaultKind}
use Rattle.item_catalog.specs.declared.faults.FaultKind.TheVariants as fault
use Rattle.item_catalog.specs.declared.reading.Tag.TheVariants as t

-- The fields of a record.
abbrev Row : Type 0
Row = List (List ℕ)

abbrev replan : List ℕ → List ℕ → List ℕ → Row
replan cycle sizes freqs = codes "replan" ∷ cycle ∷ sizes ∷ freqs ∷ []

-- Three items on one disk, and a replan as the fifth record.
abbrev rows_with : List Row → List Row
rows_with more =
    (codes "item" ∷ codes "0" ∷ codes "10" ∷ codes "3" ∷ []) ∷ (codes "item" ∷ codes "1" ∷ codes "20" ∷ codes "2" ∷ []) ∷ (codes "item" ∷ codes "2" ∷ codes "30" ∷ codes "1" ∷ [])
    ∷ (codes "disk" ∷ codes "3" ∷ codes "1" ∷ []) ∷ more

abbrev fifth : List ℕ → List ℕ → List ℕ → List ℕ
fifth cycle sizes freqs = kinds_at (rows_with (replan cycle sizes freqs ∷ [])) 4

-- A replan to one disk whose frequency isn't given.
abbrev said : ℕ → ℕ → ReplanSaid
said cycle size = record { cycle = cycle; disks = record { size = size; freq = None } ∷ [] }

-- The kinds that some tests tell.
abbrev kinds : List (FaultKind × Bool) → List ℕ
kinds tests = kinds_of deck_kind_number tests

pub record Spelled : Type 0 where
  its_tag : tag_of (codes "replan") ≡ Some t.Replan
  of_fields : replan_by (Some (codes "2", codes "1 2", codes "2 -")) ≡ Ok (e.DeclaredReplan 2 (1 ∷ 2 ∷ []) (Some 2 ∷ None ∷ []))
  no_sizes : replan_by (Some (codes "2", [], [])) ≡ Ok (e.DeclaredReplan 2 [] [])
  no_frequency : replan_by (Some (codes "2", codes "1 2", codes "2 x")) ≡ Err fault.Form
  empty_part : replan_by (Some (codes "2", codes "3 ", codes "1")) ≡ Err fault.Form
  dash_for_a_size : replan_by (Some (codes "2", codes "-", codes "1")) ≡ Err fault.Form
  too_few_fields : replan_by None ≡ Err fault.Fields
  by_its_tag : declaration_by (Some t.Replan) (codes "2" ∷ codes "3" ∷ codes "1" ∷ []) ≡ Ok (e.DeclaredReplan 2 (3 ∷ []) (Some 1 ∷ []))

spelled : Spelled
unfolding number_of freq_of all_some
spelled = record {
  its_tag = refl;
  of_fields = refl;
  no_sizes = refl;
  no_frequency = refl;
  empty_part = refl;
  dash_for_a_size = refl;
  too_few_fields = refl;
  by_its_tag = refl;
}

-- A replan of two disks.
abbrev two_disks : Replan
two_disks = record { cycle = 2; disks = record { size = 1; freq = 2 } ∷ record { size = 2; freq = 1 } ∷ [] }

-- A disk of one item, aired this often.
abbrev one_item : ℕ → DiskSpec
one_item freq = record { size = 1; freq = freq }

pub record Parts : Type 0 where
  disks : disks_said (1 ∷ 2 ∷ []) (Some 2 ∷ None ∷ []) ≡ record { size = 1; freq = Some 2 } ∷ record { size = 2; freq = None } ∷ []
  of_replan : its_replan (e.DeclaredReplan 2 (3 ∷ []) (None ∷ [])) ≡ Some (said 2 3)
  no_replan : its_replan (e.DeclaredDisk 3 None) ≡ None
  both : replans_in (e.DeclaredReplan 2 (3 ∷ []) (None ∷ []) ∷ e.DeclaredDisk 3 None ∷ e.DeclaredReplan 5 (4 ∷ []) (None ∷ []) ∷ []) ≡ said 2 3 ∷ said 5 4 ∷ []
  last : last_replan_cycle (said 2 3 ∷ said 5 4 ∷ []) ≡ 5
  no_last : last_replan_cycle [] ≡ 0
  -- a `-` depends on the disks of the replan, and on the deck's delta, wherever that is set
  by_own_disks : plain_replan 2 (record { cycle = 3; disks = disks_said (1 ∷ 1 ∷ 1 ∷ []) (None ∷ None ∷ Some 9 ∷ []) }) ≡ record { cycle = 3; disks = one_item 5 ∷ one_item 3 ∷ one_item 9 ∷ [] }
  by_delta : (deck_of (declarations_in (rows_with (replan (codes "3") (codes "1 1 1") (codes "- - -") ∷ (codes "set" ∷ codes "delta" ∷ codes "1" ∷ []) ∷ [])))).replans
      ≡ record { cycle = 3; disks = one_item 3 ∷ one_item 2 ∷ one_item 1 ∷ [] } ∷ []
  its_row : declaration_row (replan_declaration two_disks) ≡ codes "replan" ∷ codes "2" ∷ codes "1 2" ∷ codes "2 1" ∷ []

parts : Parts
unfolding number_of number_text freq_of all_some
parts = record {
  disks = refl;
  of_replan = refl;
  no_replan = refl;
  both = refl;
  last = refl;
  no_last = refl;
  by_own_disks = refl;
  by_delta = refl;
  its_row = refl;
}

pub record Kinds : Type 0 where
  right : fifth (codes "2") (codes "1 2") (codes "2 1") ≡ []
  last_cycle_of_all : fifth (codes "10000") (codes "3") (codes "-") ≡ []
  in_the_first_cycle : fifth (codes "1") (codes "3") (codes "1") ≡ 7 ∷ []
  too_late : fifth (codes "10001") (codes "3") (codes "1") ≡ 7 ∷ []
  no_disks : fifth (codes "2") [] [] ≡ 7 ∷ []
  freq_above : fifth (codes "2") (codes "3") (codes "65") ≡ 7 ∷ []
  size_none : fifth (codes "2") (codes "0 3") (codes "1 1") ≡ 7 ∷ []
  nine_sizes : fifth (codes "2") (codes "1 1 1 1 1 1 1 1 1") (codes "1") ≡ 7 ∷ 13 ∷ []
  -- the number of frequencies has no limit of its own
  nine_frequencies : fifth (codes "2") (codes "3") (codes "1 1 1 1 1 1 1 1 1") ≡ 13 ∷ []
  other_lengths : fifth (codes "2") (codes "1 2") (codes "1") ≡ 13 ∷ []
  too_few_fields : kinds_at (rows_with ((codes "replan" ∷ codes "2" ∷ codes "3" ∷ []) ∷ [])) 4 ≡ 1 ∷ []
  empty_part : fifth (codes "2") (codes "3 ") (codes "1") ≡ 2 ∷ []
  no_frequency : fifth (codes "2") (codes "1 2") (codes "x 1") ≡ 2 ∷ []
  too_few_items : fifth (codes "2") (codes "2") (codes "1") ≡ []
  too_few_items_at_end : kinds_at (rows_with (replan (codes "2") (codes "2") (codes "1") ∷ [])) 5 ≡ 6 ∷ []
  right_at_end : kinds_at (rows_with (replan (codes "2") (codes "1 2") (codes "2 1") ∷ [])) 5 ≡ []
  in_one_cycle : kinds_at (rows_with (replan (codes "2") (codes "3") (codes "1") ∷ replan (codes "2") (codes "3") (codes "1") ∷ [])) 5 ≡ 7 ∷ []
  one_later : kinds_at (rows_with (replan (codes "2") (codes "3") (codes "1") ∷ replan (codes "3") (codes "3") (codes "1") ∷ [])) 5 ≡ []
  -- sixteen replans, and one more
  sixteenth : kinds (replan_tests 15 9 10 (3 ∷ []) (None ∷ [])) ≡ []
  seventeenth : kinds (replan_tests 16 9 10 (3 ∷ []) (None ∷ [])) ≡ 7 ∷ []
  greatest_disk : kinds (replan_tests 0 0 2 (1024 ∷ []) (Some 64 ∷ [])) ≡ []
  size_above : kinds (replan_tests 0 0 2 (1025 ∷ []) (Some 64 ∷ [])) ≡ 7 ∷ []
  eight_disks : kinds (replan_tests 0 0 2 (replicate 8 1) (replicate 8 None)) ≡ []
  -- the end tests each replan, and the deck's disks
  differs : differs_from 3 (record { size = 2; freq = None } ∷ []) ≡ true
  second_differs : kinds (end_tests 3 (record { size = 3; freq = None } ∷ []) (said 2 3 ∷ said 3 4 ∷ []) []) ≡ 6 ∷ []
  all_add_up : kinds (end_tests 3 (record { size = 3; freq = None } ∷ []) (said 2 3 ∷ said 3 3 ∷ []) []) ≡ []

kinds_told : Kinds
unfolding kinds_at number_of freq_of all_some
kinds_told = record {
  right = refl;
  last_cycle_of_all = refl;
  in_the_first_cycle = refl;
  too_late = refl;
  no_disks = refl;
  freq_above = refl;
  size_none = refl;
  nine_sizes = refl;
  nine_frequencies = refl;
  other_lengths = refl;
  too_few_fields = refl;
  empty_part = refl;
  no_frequency = refl;
  too_few_items = refl;
  too_few_items_at_end = refl;
  right_at_end = refl;
  in_one_cycle = refl;
  one_later = refl;
  sixteenth = refl;
  seventeenth = refl;
  greatest_disk = refl;
  size_above = refl;
  eight_disks = refl;
  differs = refl;
  second_differs = refl;
  all_add_up = refl;
}

-- The faults of short texts, computed; a reader of decks gives no other fault.
use Rattle.std.proofs.Common.{◌≡◌, ◌+◌, ◌∙◌, ℕ, List, [], ◌∷◌, Result, Ok, Err, IfOk, IfErr, ap, arith, inl, inr, length, refl, subst, sym}
use Rattle.std.specs.Prelude.{codes}
use Rattle.csv.proofs.OnLiterals.{csv_on_literals}
use Rattle.air_base.specs.Numbers.{number_of}
use Rattle.air_base.specs.NumberLists.{all_some}
use Rattle.air_history.specs.UpdateRules.{has_repeat}
use Rattle.air_model.specs.Decks.{Deck}
use Rattle.item_catalog.specs.Writes.{spelled_value_write, spelled_write}
use Rattle.item_catalog.specs.Records.{records_of}
use Rattle.item_catalog.proofs.FaultPlaces.{one_kind, one_place}
use Rattle.item_catalog.specs.Fields.{freq_of, spelled_event}
use Rattle.item_catalog.specs.Decks.{deck_of}
use Rattle.item_catalog.specs.Faults.{declarations_in, kinds_at, some_below}
use Rattle.item_catalog.specs.Grammar.{HasFault, IsErrorOf, Spells}
use Rattle.item_catalog.specs.declared.faults.DeckError.{DeckError}
use Rattle.item_catalog.specs.declared.faults.DeckError.TheVariants.{Fault, NoMemory}
use Rattle.item_catalog.proofs.GrammarLemmas.{no_fault}
use Rattle.text_pins.proofs.PlaceLemmas.{first_fault, first_fault_of_two, none_before_0, none_before_1, none_before_3, none_before_4}
use Rattle.text_pins.specs.DeckAnswers.{IsDeckFaultOrNoMemory, committed_twice, grouped_vectors, replanned_twice, spread_over_three, three_disks, unknown_second}

-- ---- a text with a fault is answered by it

same_fault : (text : List ℕ) (row1 kind1 row2 kind2 : ℕ) → HasFault text row1 kind1 → HasFault text row2 kind2 → (row1 ≡ row2) × (kind1 ≡ kind2)
unfolding HasFault
same_fault text row1 kind1 row2 kind2 first second =
    let kinds = kinds_at (records_of text) in let places = length (records_of text) + 1 in (
      first.1 ∙ ap (λ p. p + 1) (one_place kinds places first.0 second.0 kind1 kind2 first.2 second.2) ∙ sym second.1,
      one_kind kinds places first.0 second.0 kind1 kind2 first.2 second.2,
    )

answered : (text : List ℕ) (row kind : ℕ) (result : Result Deck DeckError) → HasFault text row kind → IfOk result (Spells text)
    → IfErr result (IsErrorOf text) → IsDeckFaultOrNoMemory row kind result
answered text row kind (Ok deck) has spells told = absurd (no_fault text deck row kind spells has)
answered text row kind (Err NoMemory) has spells told = inl refl
answered text row kind (Err (Fault fault)) has spells told =
    let same = same_fault text fault.row fault.kind row kind told has in
    inr (ap (λ r. Err (Fault (record { row = r; kind = fault.kind }))) same.0 ∙ ap (λ k. Err (Fault (record { row = row; kind = k }))) same.1)

pub told : (bytes text : List ℕ) (row kind : ℕ) (result : Result Deck DeckError) → bytes ≡ text → HasFault text row kind
    → IfOk result (Spells bytes) → IfErr result (IsErrorOf bytes) → IsDeckFaultOrNoMemory row kind result
told bytes text row kind result is has spells fault =
    answered bytes row kind result (subst (λ t. HasFault t row kind) (sym is) has) spells fault

-- ---- the faults of the texts

pub too_old : HasFault (codes "reader,0,10001,1") 1 7
unfolding HasFault kinds_at number_of csv_on_literals
too_old = (0, refl, first_fault _ 2 0 7 (omega arith) (none_before_0 _) refl)

pub sizes_apart : HasFault (codes "disk,1,64") 2 6
unfolding HasFault kinds_at number_of freq_of csv_on_literals
sizes_apart = (1, refl, first_fault_of_two _ 2 1 6 7 (omega arith) (none_before_1 _ refl) refl (omega arith))

pub wrong_id : HasFault (codes "item,1,0,1000001") 1 3
unfolding HasFault kinds_at number_of csv_on_literals
wrong_id = (0, refl, first_fault_of_two _ 2 0 3 7 (omega arith) (none_before_0 _) refl (omega arith))

pub tag_unknown : HasFault unknown_second 2 9
unfolding HasFault kinds_at number_of csv_on_literals
tag_unknown = (1, refl, first_fault _ 3 1 9 (omega arith) (none_before_1 _ refl) refl)

pub field_missing : HasFault (codes "set,delta") 1 1
unfolding HasFault kinds_at csv_on_literals
field_missing = (0, refl, first_fault _ 2 0 1 (omega arith) (none_before_0 _) refl)

pub overdrawn : HasFault committed_twice 4 11
unfolding HasFault kinds_at number_of spelled_value_write spelled_write spelled_event all_some some_below has_repeat csv_on_literals
overdrawn = (3, refl, first_fault _ 5 3 11 (omega arith) (none_before_3 _ refl refl refl) refl)

pub one_cycle : HasFault replanned_twice 2 7
unfolding HasFault kinds_at number_of freq_of all_some csv_on_literals
one_cycle = (1, refl, first_fault _ 3 1 7 (omega arith) (none_before_1 _ refl) refl)

pub two_lengths : HasFault (codes "replan,2,1 2,1") 1 13
unfolding HasFault kinds_at number_of freq_of all_some csv_on_literals
two_lengths = (0, refl, first_fault _ 2 0 13 (omega arith) (none_before_0 _) refl)

pub vectors_grouped : HasFault grouped_vectors 5 10
unfolding HasFault kinds_at number_of freq_of csv_on_literals
vectors_grouped = (4, refl, first_fault _ 5 4 10 (omega arith) (none_before_4 _ refl refl refl refl) refl)

-- ---- a deck that is read

replans_computed : (deck_of (declarations_in (records_of spread_over_three))).replans ≡ three_disks ∷ []
unfolding number_of freq_of all_some csv_on_literals
replans_computed = refl

pub replans_told : (bytes : List ℕ) (result : Result Deck DeckError) → bytes ≡ spread_over_three → IfOk result (Spells bytes) → IfOk result (λ deck. deck.replans ≡ three_disks ∷ [])
unfolding Spells
replans_told bytes (Ok deck) is spelled = ap (λ (d : Deck). d.replans) spelled.parts ∙ ap (λ t. (deck_of (declarations_in (records_of t))).replans) is ∙ replans_computed
replans_told bytes (Err error) is spelled = tt

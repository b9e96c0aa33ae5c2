-- What the answer is for a text whose first records were read: the fault of the next record, or that of the end, or the deck.
use Rattle.std.proofs.Common.{◌≡◌, ◌<◌, ◌+◌, ◌++◌, ◌∷◌, [], ℕ, List, Option, Some, None, Result, Ok, Err, ◌∙◌, sym, refl, ap, subst, length, length-append, option_map, arith}
use Rattle.std.specs.Prelude.{IfErr, IfOk}
use Rattle.std.proofs.lemmas.List.{append-nil}
use Rattle.air_model.specs.Decks.{Deck}
use Rattle.item_catalog.specs.FirstFaults.{NoneBefore}
use Rattle.item_catalog.specs.RecordKinds.{first_of}
use Rattle.item_catalog.specs.Records.{records_of}
use Rattle.item_catalog.proofs.RecordPlaces.{refused}
use Rattle.item_catalog.specs.Private.Drafts.{DraftValue, deck_from, draft_of, record_kind}
use Rattle.item_catalog.specs.Private.ReadEnds.{CanEnd, EndsBy}
use Rattle.item_catalog.specs.Declarations.{spelled_declaration}
use Rattle.item_catalog.specs.Faults.{end_tests, declarations_in, kinds_at}
use Rattle.item_catalog.specs.Grammar.{HasFault, IsErrorOf, RecordsFail, RecordsSpell, Spells}
use Rattle.item_catalog.specs.Kinds.{deck_kind_number}
use Rattle.item_catalog.specs.declared.faults.FaultKind.{FaultKind}
use Rattle.item_catalog.specs.declared.faults.DeckError.{DeckError}
use Rattle.item_catalog.specs.declared.faults.DeckError.TheVariants as error
use Rattle.item_catalog.proofs.KeptRows.{kept_all}
use Rattle.item_catalog.proofs.PlaceLemmas.{end_of, ended_bad, ended_good, judge, least_after}
use Rattle.item_catalog.proofs.WellMadeLemmas.{deck_same, delta_small, made, within}

pub can_end : (rows : List (List (List ℕ))) → NoneBefore (kinds_at rows) (length rows) → CanEnd (draft_of (declarations_in rows))
can_end rows before none =
    let k = kept_all rows before in let d = draft_of (declarations_in rows) in
    (made d k none, within d k none, delta_small d k none)

module _ (text : List ℕ) (rows : List (List (List ℕ))) (before : NoneBefore (kinds_at rows) (length rows)) where
  pub read_fault : (row : List (List ℕ)) (left : List (List (List ℕ))) (kind : FaultKind) → records_of text ≡ rows ++ row ∷ left
      → record_kind (draft_of (declarations_in rows)) (spelled_declaration row) ≡ Some kind → HasFault text (length rows + 1) (deck_kind_number kind)
  unfolding HasFault kinds_at
  read_fault row left kind all h =
      let P : List (List (List ℕ)) → Type 0 = λ all. RecordsFail all (length rows) (deck_kind_number kind) in
      let within : length rows < length (rows ++ row ∷ left) + 1 = omega (arith, length-append rows (row ∷ left)) in
      (length rows, refl, subst P (sym all) (refused judge rows row left (length (rows ++ row ∷ left) + 1) (deck_kind_number kind) within before (least_after rows row kind h)))

  module _ (all : records_of text ≡ rows ++ []) where
    every_row : records_of text ≡ rows
    every_row = all ∙ append-nil rows

    pub read_end_fault : (kind : FaultKind) → end_of rows ≡ Some kind → HasFault text (length rows + 1) (deck_kind_number kind)
    unfolding HasFault
    read_end_fault kind h =
        let P : List (List (List ℕ)) → Type 0 = λ all. RecordsFail all (length rows) (deck_kind_number kind) in
        (length rows, refl, subst P (sym every_row) (ended_bad rows kind before h))

    pub read_deck_is : end_of rows ≡ None → Spells text (deck_from (draft_of (declarations_in rows)))
    unfolding Spells
    read_deck_is h =
        let P : List (List (List ℕ)) → Type 0 = λ all. RecordsSpell all (deck_from (draft_of (declarations_in rows))) in
        subst P (sym every_row) (record { faultless = ended_good rows before h; parts = deck_same (declarations_in rows) (kept_all rows before) })

-- What the end gives, if the draft has what the records declare.
pub ok_more : {A E : Type 0} (r : Result A E) (P Q : A → Type 0) → ((x : A) → P x → Q x) → IfOk r P → IfOk r Q
ok_more (Ok x) P Q f h = f x h
ok_more (Err e) P Q f h = tt

pub err_more : {A E : Type 0} (r : Result A E) (P Q : E → Type 0) → ((e : E) → P e → Q e) → IfErr r P → IfErr r Q
err_more (Ok x) P Q f h = tt
err_more (Err e) P Q f h = f e h

module _ (text : List ℕ) (rows : List (List (List ℕ))) (before : NoneBefore (kinds_at rows) (length rows)) (all : records_of text ≡ rows ++ [])
    (draft : DraftValue) (same : draft ≡ draft_of (declarations_in rows)) (row : ℕ) (number : row ≡ length rows + 1) where
  kind_same : first_of (end_tests (length draft.items) draft.disks draft.replans draft.set) ≡ end_of rows
  kind_same = ap (λ (d : DraftValue). first_of (end_tests (length d.items) d.disks d.replans d.set)) same

  pub ends_deck : (deck : Deck) → (first_of (end_tests (length draft.items) draft.disks draft.replans draft.set) ≡ None) × (deck ≡ deck_from draft) → Spells text deck
  ends_deck deck h =
      let P : Deck → Type 0 = λ deck. Spells text deck in
      subst P (sym (h.1 ∙ ap deck_from same)) (read_deck_is text rows before all (sym kind_same ∙ h.0))

  pub ends_fault : (e : DeckError) → EndsBy row (first_of (end_tests (length draft.items) draft.disks draft.replans draft.set)) e → IsErrorOf text e
  ends_fault (error.Fault fault) h = subst (λ r. HasFault text r fault.kind) (sym (h.0 ∙ number)) (by (end_of rows) refl (sym (ap (option_map deck_kind_number) kind_same) ∙ h.1))
    where
      by : (told : Option FaultKind) → end_of rows ≡ told → option_map deck_kind_number told ≡ Some fault.kind → HasFault text (length rows + 1) fault.kind
      by None e same = cc same
      by (Some kind) e same = let code : deck_kind_number kind ≡ fault.kind = cc same in subst (HasFault text (length rows + 1)) code (read_end_fault text rows before all kind e)
  ends_fault error.NoMemory h = absurd h

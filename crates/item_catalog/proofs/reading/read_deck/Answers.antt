use Rattle.std.proofs.Common.{ℕ, ◌≡◌, ◌∙◌, sym, refl, subst, arith, ap, append_assoc, Some, None, ◌∷◌, [], ◌++◌, length, length-append}
use Rattle.csv.specs.Records.{fields_of}
use Rattle.item_catalog.specs.RecordKinds.{with_spelled}
use Rattle.item_catalog.proofs.RowLemmas.{few_records}
use Rattle.item_catalog.specs.Kinds.{deck_kind_number}
use Rattle.item_catalog.specs.Private.Drafts.{DraftValue, draft_of, record_kind, with_declaration}
use Rattle.item_catalog.specs.Private.ReadEnds.{CanEnd}
use Rattle.item_catalog.specs.Declarations.{spelled_declaration}
use Rattle.item_catalog.specs.Faults.{declarations_in}
use Rattle.item_catalog.specs.Grammar.{HasFault, IsErrorOf, Spells}
use Rattle.item_catalog.proofs.PlaceLemmas.{added, none_added}
use Rattle.item_catalog.proofs.ReadingLemmas.{can_end, ends_deck, ends_fault, err_more, ok_more, read_fault}
use Rattle.item_catalog.proofs.reading.read_deck.Goals as goal

pub loop-row-init : goal.loop-row-init
loop-row-init c = ([], sym c.new-records.ensures, (λ place below. absurd (omega arith)), c.in_ok-draft.ensures, refl)

pub loop-row-preserved : goal.loop-row-preserved
loop-row-preserved c =
    let inv = c.loop-row.invariant in let rows = inv.0 in let row = fields_of c.next.new.fields in let left = c.next.new.self in
    let read : c.loop-row.records ≡ row ∷ left = rw c.if-not-branch.false at c.in_ok-next.ensures.taken in
    let none : record_kind (draft_of (declarations_in rows)) (spelled_declaration row) ≡ None = ap (λ d. record_kind d (spelled_declaration row)) (sym inv.3) ∙ c.in-Ok.ensures.0 in (
      rows ++ row ∷ [],
      inv.1 ∙ ap (λ more. rows ++ more) read ∙ sym (append_assoc rows (row ∷ []) left),
      none_added rows row inv.2 none,
      c.in-Ok.ensures.1 ∙ ap (λ d. with_spelled with_declaration d (spelled_declaration row)) inv.3 ∙ added rows row none,
      omega (arith, length-append rows (row ∷ []), inv.4),
    )

pub finish-requires : goal.finish-requires
finish-requires c =
    let inv = c.loop-row.invariant in let P : DraftValue → Type 0 = λ d. CanEnd d in
    subst P (sym inv.3) (can_end inv.0 inv.2)

pub returns-then-not-branch-clause-deck : goal.returns-then-not-branch-clause-deck
returns-then-not-branch-clause-deck c =
    let inv = c.loop-row.invariant in
    let end : c.loop-row.records ≡ [] = rw c.if-not-branch.true at c.in_ok-next.ensures.taken in
    ok_more c.finish.result _ (λ deck. Spells c.args.bytes.now deck)
    (ends_deck c.args.bytes.now inv.0 inv.2 (inv.1 ∙ ap (λ more. inv.0 ++ more) end) c.loop-row.draft inv.3 c.loop-row.row inv.4) c.finish.ensures.deck

pub returns-then-not-branch-clause-fault : goal.returns-then-not-branch-clause-fault
returns-then-not-branch-clause-fault c =
    let inv = c.loop-row.invariant in
    let end : c.loop-row.records ≡ [] = rw c.if-not-branch.true at c.in_ok-next.ensures.taken in
    err_more c.finish.result _ (λ e. IsErrorOf c.args.bytes.now e)
    (ends_fault c.args.bytes.now inv.0 inv.2 (inv.1 ∙ ap (λ more. inv.0 ++ more) end) c.loop-row.draft inv.3 c.loop-row.row inv.4) c.finish.ensures.fault

pub returns-in-Err-Kind-clause-fault : goal.returns-in-Err-Kind-clause-fault
returns-in-Err-Kind-clause-fault c =
    let inv = c.loop-row.invariant in let rows = inv.0 in let row = fields_of c.next.new.fields in let left = c.next.new.self in
    let read : c.loop-row.records ≡ row ∷ left = rw c.if-not-branch.false at c.in_ok-next.ensures.taken in
    let told : record_kind c.loop-row.draft (spelled_declaration row) ≡ Some c.in-Err-Kind.kind = rw c.in-Err-Kind.field-0-is at c.in-Err-Kind.ensures in
    let P : ℕ → Type 0 = λ r. HasFault c.args.bytes.now r (deck_kind_number c.in-Err-Kind.kind) in
    let fault : P c.loop-row.row = subst P (sym inv.4)
    (read_fault c.args.bytes.now rows inv.2 row left c.in-Err-Kind.kind (inv.1 ∙ ap (λ more. rows ++ more) read) (ap (λ d. record_kind d (spelled_declaration row)) (sym inv.3) ∙ told)) in
    subst (IsErrorOf c.args.bytes.now) (sym c.at.ensures) (rw c.in-Err-Kind.kind-is fault)

pub unreachable-requires : goal.unreachable-requires
unreachable-requires c =
    let inv = c.loop-row.invariant in
    omega (arith, few_records c.args.bytes.now, ap length inv.1, length-append inv.0 c.loop-row.records, inv.4, c.requires.limit)

use Rattle.std.proofs.Common.{ℕ, ◌≡◌, ◌∙◌, sym, refl, subst, arith, ap, append_assoc, Some, None, ◌∷◌, [], ◌++◌, length, length-append}
use Rattle.csv.specs.Records.{fields_of}
use Rattle.item_catalog.specs.RecordKinds.{with_spelled}
use Rattle.item_catalog.proofs.RowLemmas.{few_records}
use Rattle.air_report.specs.Kinds.{report_kind_number}
use Rattle.air_report.specs.LineTexts.{spelled_line}
use Rattle.air_report.specs.LineFaults.{spelled_lines}
use Rattle.air_report.specs.LineGrammar.{SpellsLines}
use Rattle.air_report.specs.ReportGrammar.{HasReportFault, IsReportAnswer}
use Rattle.air_report.specs.ReportLines.{ReportLines, sections_of}
use Rattle.air_report.specs.Private.RecordAnswers.{line_record_kind, with_one_line}
use Rattle.air_report.proofs.PlaceLemmas.{added, none_added}
use Rattle.air_report.proofs.ReadingLemmas.{read_all}
use Rattle.air_report.proofs.TiedReports.{told_after}
use Rattle.air_report.proofs.reading.texts.read_lines.Goals as goal

pub loop-row-init : goal.loop-row-init
loop-row-init c = ([], sym c.new-records.ensures, (λ place below. absurd (omega arith)), c.new-draft.ensures, refl)

pub loop-row-preserved : goal.loop-row-preserved
loop-row-preserved c =
    let inv = c.loop-row.invariant in let rows = inv.0 in let row = fields_of c.next.new.fields in let left = c.next.new.self in let deck = c.args.deck.now in
    let read : c.loop-row.records ≡ row ∷ left = rw c.if-not-branch.false at c.in_ok-next.ensures.taken in
    let none : line_record_kind deck (sections_of (spelled_lines deck.settings.version rows)) (spelled_line deck.settings.version row) ≡ None = ap (λ d. line_record_kind deck d (spelled_line deck.settings.version row)) (sym inv.3) ∙ c.in-Ok.ensures.0 in (
      rows ++ row ∷ [],
      inv.1 ∙ ap (λ more. rows ++ more) read ∙ sym (append_assoc rows (row ∷ []) left),
      none_added deck rows row inv.2 none,
      c.in-Ok.ensures.1 ∙ ap (λ d. with_spelled with_one_line d (spelled_line deck.settings.version row)) inv.3 ∙ added deck rows row none,
      omega (arith, length-append rows (row ∷ []), inv.4),
    )

pub returns-then-not-branch-clause-lines : goal.returns-then-not-branch-clause-lines
returns-then-not-branch-clause-lines c =
    let inv = c.loop-row.invariant in
    let end : c.loop-row.records ≡ [] = rw c.if-not-branch.true at c.in_ok-next.ensures.taken in
    let P : ReportLines → Type 0 = λ lines. SpellsLines c.args.deck.now c.args.bytes.now lines in
    subst P (sym (c.into_lines.ensures ∙ inv.3)) (read_all c.args.deck.now c.args.bytes.now inv.0 inv.2 (inv.1 ∙ ap (λ more. inv.0 ++ more) end))

pub returns-in-Err-Kind-clause-fault : goal.returns-in-Err-Kind-clause-fault
returns-in-Err-Kind-clause-fault c =
    let inv = c.loop-row.invariant in let rows = inv.0 in let row = fields_of c.next.new.fields in let left = c.next.new.self in let deck = c.args.deck.now in
    let read : c.loop-row.records ≡ row ∷ left = rw c.if-not-branch.false at c.in_ok-next.ensures.taken in
    let told : line_record_kind deck c.loop-row.draft (spelled_line deck.settings.version row) ≡ Some c.in-Err-Kind.kind = rw c.in-Err-Kind.field-0-is at c.in-Err-Kind.ensures in
    let P : ℕ → Type 0 = λ r. HasReportFault deck c.args.bytes.now r (report_kind_number c.in-Err-Kind.kind) in
    let fault : P c.loop-row.row = subst P (sym inv.4)
    (told_after deck c.args.bytes.now rows inv.2 row left c.in-Err-Kind.kind (inv.1 ∙ ap (λ more. rows ++ more) read) (ap (λ d. line_record_kind deck d (spelled_line deck.settings.version row)) (sym inv.3) ∙ told)) in
    subst (IsReportAnswer deck c.args.bytes.now) (sym c.at.ensures) (rw c.in-Err-Kind.kind-is fault)

pub unreachable-requires : goal.unreachable-requires
unreachable-requires c =
    let inv = c.loop-row.invariant in
    omega (arith, few_records c.args.bytes.now, ap length inv.1, length-append inv.0 c.loop-row.records, inv.4, c.requires.limit)

-- The faults of short texts as reports of the small deck, computed, and that a reader of reports answers no other fault.
use Rattle.std.proofs.Common.{◌≡◌, ◌∙◌, ℕ, List, Result, Ok, Err, IfOk, IfErr, ap, arith, inl, inr, refl, subst, sym}
use Rattle.std.specs.Prelude.{codes}
use Rattle.csv.proofs.OnLiterals.{csv_on_literals}
use Rattle.air_base.specs.Numbers.{number_of}
use Rattle.air_base.specs.NumberLists.{all_some}
use Rattle.air_model.specs.Decks.{Deck}
use Rattle.air_report.specs.LineTexts.{short_of, spelled_item, spelled_place, spelled_read}
use Rattle.air_report.specs.LineFaults.{line_kinds_at}
use Rattle.air_report.specs.LineGrammar.{HasLineFault, SpellsLines}
use Rattle.air_report.specs.ReportGrammar.{HasReportFault, IsReportAnswer}
use Rattle.air_report.specs.ReportLines.{ReportLines, report_in}
use Rattle.air_report.specs.declared.reading.faults.ReportError.{ReportError}
use Rattle.air_report.specs.declared.reading.faults.ReportError.TheVariants.{Fault, NoMemory}
use Rattle.air_report.proofs.TiedReports.{one_fault, report_or_fault, spelled_report, told_fault}
use Rattle.text_pins.proofs.PlaceLemmas.{first_fault, first_fault_of_two, none_before_0, none_before_1}
use Rattle.report_pins.specs.ReportAnswers.{IsReportFaultOrNoMemory}
use Rattle.report_pins.specs.SmallDeck.{commit_skipped, cut_accept, glanced_before, looked_before, small_deck, started_after, two_unknown, young_deck}

-- ---- a text with a fault is answered by it

answered : (deck : Deck) (text : List ℕ) (row kind : ℕ) (result : Result ReportLines ReportError) → HasReportFault deck text row kind
    → IfOk result (SpellsLines deck text) → IfErr result (IsReportAnswer deck text) → IsReportFaultOrNoMemory row kind result
answered deck text row kind (Ok lines) has spells told = absurd (report_or_fault deck text (report_in deck lines) row kind (spelled_report deck text lines spells) has)
answered deck text row kind (Err NoMemory) has spells told = inl refl
answered deck text row kind (Err (Fault other_row other_kind)) has spells told =
    let same = one_fault deck text other_row other_kind row kind told has in
    inr (ap (λ r. Err (Fault r other_kind)) same.0 ∙ ap (λ k. Err (Fault row k)) same.1)

-- The deck and the text are given by equations, as a call has them.
pub fault_of : (d deck : Deck) (bytes text : List ℕ) (row kind : ℕ) → d ≡ deck → bytes ≡ text → HasReportFault deck text row kind → HasReportFault d bytes row kind
fault_of d deck bytes text row kind is given has =
    subst (λ v. HasReportFault v bytes row kind) (sym is) (subst (λ t. HasReportFault deck t row kind) (sym given) has)

pub told : (d deck : Deck) (bytes text : List ℕ) (row kind : ℕ) (result : Result ReportLines ReportError) → d ≡ deck → bytes ≡ text
    → HasReportFault deck text row kind → IfOk result (SpellsLines d bytes) → IfErr result (IsReportAnswer d bytes) → IsReportFaultOrNoMemory row kind result
told d deck bytes text row kind result is given has spells fault =
    answered d bytes row kind result (fault_of d deck bytes text row kind is given has) spells fault

-- ---- the faults of the texts

pub query_not_ended : HasReportFault small_deck cut_accept 2 6
unfolding HasLineFault line_kinds_at spelled_read spelled_place spelled_item short_of number_of all_some csv_on_literals
query_not_ended = told_fault small_deck cut_accept 2 6 (1, refl, first_fault _ 2 1 6 (omega arith) (none_before_1 _ refl) refl)

pub no_place : HasReportFault small_deck (codes "abort,0,2,1,0@1=10,1@1x,0") 1 2
unfolding HasLineFault line_kinds_at spelled_read spelled_place spelled_item short_of number_of all_some csv_on_literals
no_place = told_fault small_deck (codes "abort,0,2,1,0@1=10,1@1x,0") 1 2 (0, refl, first_fault _ 1 0 2 (omega arith) (none_before_0 _) refl)

pub aged_in_full : HasReportFault small_deck (codes "aged,0,2,1,0@1=10,1@1") 1 3
unfolding HasLineFault line_kinds_at csv_on_literals
aged_in_full = told_fault small_deck (codes "aged,0,2,1,0@1=10,1@1") 1 3 (0, refl, first_fault _ 1 0 3 (omega arith) (none_before_0 _) refl)

pub aged_alone : HasReportFault young_deck (codes "aged") 1 1
unfolding HasLineFault line_kinds_at csv_on_literals
aged_alone = told_fault young_deck (codes "aged") 1 1 (0, refl, first_fault _ 1 0 1 (omega arith) (none_before_0 _) refl)

pub cycle_nought : HasReportFault small_deck (codes "accept,0,2,1,0@0=10 1@0=20") 1 7
unfolding HasLineFault line_kinds_at spelled_read spelled_place spelled_item short_of number_of all_some csv_on_literals
cycle_nought = told_fault small_deck (codes "accept,0,2,1,0@0=10 1@0=20") 1 7 (0, refl, first_fault _ 1 0 7 (omega arith) (none_before_0 _) refl)

pub not_its_next : HasReportFault small_deck commit_skipped 2 5
unfolding HasLineFault line_kinds_at short_of number_of csv_on_literals
not_its_next = told_fault small_deck commit_skipped 2 5 (1, refl, first_fault _ 2 1 5 (omega arith) (none_before_1 _ refl) refl)

pub not_begun : HasReportFault small_deck started_after 1 7
unfolding HasLineFault line_kinds_at spelled_read spelled_place spelled_item short_of number_of all_some csv_on_literals
not_begun = told_fault small_deck started_after 1 7 (0, refl, first_fault _ 2 0 7 (omega arith) (none_before_0 _) refl)

pub late_and_not_begun : HasReportFault small_deck looked_before 2 4
unfolding HasLineFault line_kinds_at spelled_read spelled_place spelled_item short_of number_of all_some csv_on_literals
late_and_not_begun = told_fault small_deck looked_before 2 4 (1, refl, first_fault_of_two _ 2 1 4 7 (omega arith) (none_before_1 _ refl) refl (omega arith))

pub first_unknown : HasReportFault small_deck two_unknown 1 3
unfolding HasLineFault line_kinds_at csv_on_literals
first_unknown = told_fault small_deck two_unknown 1 3 (0, refl, first_fault _ 2 0 3 (omega arith) (none_before_0 _) refl)

pub late_start : HasReportFault small_deck glanced_before 2 4
unfolding HasLineFault line_kinds_at short_of number_of csv_on_literals
late_start = told_fault small_deck glanced_before 2 4 (1, refl, first_fault _ 2 1 4 (omega arith) (none_before_1 _ refl) refl)

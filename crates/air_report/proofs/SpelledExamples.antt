-- What small texts spell as reports of a small deck, record by record, and then as printed reports: positive and negative examples.
use Rattle.std.proofs.Common.{◌≡◌, ◌<◌, ◌≤◌, ◌^◌, get_or, ℕ, zero, suc, List, [], ◌∷◌, None, false, All, refl, ap, arith}
use Rattle.std.specs.Prelude.{codes, length}
use Rattle.std.proofs.lemmas.List.Elements.{All-from_recursion, All-nil}
use Rattle.csv.proofs.OnLiterals.{csv_on_literals}
use Rattle.csv.specs.Writing.{escaped, fields_text, is_blank}
use Rattle.air_base.specs.Numbers.{number_of, number_text}
use Rattle.air_base.specs.NumberLists.{all_some}
use Rattle.air_base.specs.declared.verdicts.VerdictKind.TheVariants.{Accept, Unfinished}
use Rattle.air_history.specs.declared.histories.Event.TheVariants as e
use Rattle.air_model.specs.Decks.{IsLegal}
use Rattle.air_model.specs.Reports.{Report, report_text}
use Rattle.air_model.specs.Rows.{rows_text}
use Rattle.air_base.specs.declared.limits.TheConstants.{MOST_ASKED, MOST_RATE}
use Rattle.item_catalog.specs.DeckLimits.{DiskWithin, ReplanWithin, ReaderWithin, WithinLimits}
use Rattle.air_report.specs.LineTexts.{short_of, spelled_item, spelled_place, spelled_read}
use Rattle.air_report.specs.ReadReports.{IsReportOf}
use Rattle.air_report.specs.ReportGrammar.{HasReportFault, SpellsReport}
use Rattle.air_report.specs.ReportRules.{CountsWide, EventWide, HasWidths, LookWide, ReadWide, VerdictWide}
use Rattle.air_report.specs.LineFaults.{line_kinds_at}
use Rattle.air_report.specs.LineGrammar.{HasLineFault, RecordsSpellLines, SpellsLines}
use Rattle.air_report.specs.ReportLines.{lines_in}
use Rattle.air_report.specs.declared.reading.ReadReport.{ReadReport}
use Rattle.air_report.proofs.HistoryRows.{one_history}
use Rattle.air_report.proofs.TextExamples.{deck}
use Rattle.air_report.proofs.TiedReports.{one_fault, spelled_report, told_fault}

-- The fields of a record.
abbrev Row : Type 0
Row = List (List ℕ)

-- A cycle, the commit of the deck's update, a read of item 0, and a look at the cycle.
abbrev rows : List Row
rows = (codes "start" ∷ []) ∷ (codes "commit" ∷ codes "0" ∷ codes "0" ∷ []) ∷ (codes "unfinished" ∷ codes "0" ∷ codes "0" ∷ codes "1" ∷ codes "0@1=10" ∷ [])
    ∷ (codes "look" ∷ codes "0" ∷ codes "1" ∷ codes "30" ∷ []) ∷ []

abbrev its_bytes : List ℕ
its_bytes = codes "start\ncommit,0,0\nunfinished,0,0,1,0@1=10\nlook,0,1,30\n"

-- The report that they spell.
abbrev pub report : Report
report = record {
  history = e.Start ∷ e.Commit 0 0 (record { reads = []; writes = record { item = 0; base = None; minus = false; amount = 5 } ∷ [] }) ∷ [];
  verdicts = record { reader = 0; verdict = record { query = 0; attempt = 1; kind = Unfinished }; reads = record { item = 0; cycle = 1; value = 10 } ∷ [] } ∷ [];
  counts = [];
  glances = [];
  looks = record { monitor = 0; cycle = 1; total = 30 } ∷ [];
}

no_kind : (place : ℕ) → place < 4 → line_kinds_at deck rows place ≡ []
unfolding line_kinds_at spelled_read spelled_place spelled_item short_of number_of all_some
no_kind zero below = refl
no_kind (suc zero) below = refl
no_kind (suc (suc zero)) below = refl
no_kind (suc (suc (suc zero))) below = refl
no_kind (suc (suc (suc (suc place)))) below = absurd (omega arith)

rows_spell : RecordsSpellLines deck rows (lines_in report)
unfolding spelled_read spelled_place spelled_item short_of number_of all_some
rows_spell = record { faultless = no_kind; sections = refl }

-- The rows don't spell the lines without the look, nor lines of which the look comes first.
not_rows_spell : (RecordsSpellLines deck rows (record (lines_in report) { looks = [] }) → ⊥)
    × (RecordsSpellLines deck ((codes "look" ∷ codes "0" ∷ codes "0" ∷ codes "30" ∷ []) ∷ (codes "start" ∷ []) ∷ []) (record (lines_in report) { looks = [] }) → ⊥)
unfolding line_kinds_at spelled_read spelled_place spelled_item short_of number_of all_some
not_rows_spell = (
  λ h. let n : 0 ≡ 1 = ap (λ lines. length lines.looks) h.sections in omega (arith, n),
  λ h. let late : 4 ∷ [] ≡ [] = h.faultless 1 (omega arith) in cc,
)

-- The bytes spell these lines.
spells : SpellsLines deck its_bytes (lines_in report)
unfolding SpellsLines csv_on_literals
spells = rows_spell

-- What is read from the bytes: the report, and the rows of its verdict and of its look.
abbrev read : ReadReport
read = record { report = report; verdict_rows = 3 ∷ []; glance_rows = []; look_rows = 4 ∷ [] }

-- The bytes spell the report with these rows.
pub spells_report : SpellsReport deck its_bytes report
spells_report = spelled_report deck its_bytes (lines_in report) spells

-- They don't spell it without its look.
not_spelled : SpellsReport deck its_bytes (record report { looks = [] }) → ⊥
unfolding csv_on_literals
not_spelled h = let n : 4 ≡ 3 = ap length h.rows in omega (arith, n)

is_report : IsReportOf deck its_bytes read
is_report = record { spelled = spells_report; verdict_rows = refl; glance_rows = refl; look_rows = refl }

-- The row of the look isn't 3.
not_report : IsReportOf deck its_bytes (record read { look_rows = 3 ∷ [] }) → ⊥
not_report h = let rows_are : 3 ∷ [] ≡ 4 ∷ [] = h.look_rows in let row : 3 ≡ 4 = ap (λ rs. get_or rs 0 0) rows_are in omega (arith, row)

-- Nor do the bytes spell the report without its look, whose rows would be these.
not_report_without : IsReportOf deck its_bytes (record read { report = record report { looks = [] }; look_rows = [] }) → ⊥
not_report_without h = not_spelled h.spelled

-- The second record has a look at a cycle that has not begun.
by_bytes : HasLineFault deck (codes "start\nlook,0,2,30\n") 2 7
unfolding HasLineFault line_kinds_at csv_on_literals spelled_read spelled_place spelled_item short_of number_of all_some
by_bytes = (
  1,
  refl,
  record {
    within = omega arith;
    first = before;
    least = record { one = (0, omega arith, refl); least = λ k d below. least k d below };
  },
)
  where
    before : (place : ℕ) → place < 1 → line_kinds_at deck ((codes "start" ∷ []) ∷ (codes "look" ∷ codes "0" ∷ codes "2" ∷ codes "30" ∷ []) ∷ []) place ≡ []
    before zero below = refl
    before (suc place) below = absurd (omega arith)

    least : (k d : ℕ) → k < 1 → 7 ≤ get_or (7 ∷ []) k d
    least zero d below = omega arith
    least (suc k) d below = absurd (omega arith)

-- The text has this fault, after the one row of a report.
pub has_fault : HasReportFault deck (codes "start\nlook,0,2,30\n") 2 7
has_fault = told_fault deck (codes "start\nlook,0,2,30\n") 2 7 by_bytes

-- Rows count from 1, so no fault is in row 0; and there is no other kind.
not_row_0 : HasReportFault deck (codes "start\nlook,0,2,30\n") 0 7 → ⊥
not_row_0 h = omega (arith, h.row_number_is)

not_kind_6 : HasReportFault deck (codes "start\nlook,0,2,30\n") 2 6 → ⊥
not_kind_6 h = let same = one_fault deck (codes "start\nlook,0,2,30\n") 2 6 2 7 h has_fault in omega (arith, same.1)

-- ---- widths

-- The last cycle of 32 bits is one, the next isn't.
widest : ReadWide (record { item = 65535; cycle = 4294967295; value = 18446744073709551615 })
widest = record { item = omega arith; cycle = omega arith; value = omega arith }

too_wide : ReadWide (record { item = 0; cycle = 4294967296; value = 0 }) → ⊥
too_wide h = let low : 4294967296 < 2 ^ 32 = h.cycle in omega arith

-- A report with such a read.
abbrev wide_report : Report
wide_report = record report {
  verdicts = record { reader = 0; verdict = record { query = 0; attempt = 1; kind = Accept }; reads = record { item = 0; cycle = 4294967295; value = 10 } ∷ [] } ∷ [];
}

wide : HasWidths wide_report
wide = record {
  events = All-from_recursion EventWide wide_report.history (tt, ((omega arith, omega arith), tt));
  verdicts = All-from_recursion VerdictWide wide_report.verdicts (
    record {
      reader = omega arith;
      query = omega arith;
      attempt = omega arith;
      reads = All-from_recursion ReadWide (record { item = 0; cycle = 4294967295; value = 10 } ∷ []) (record { item = omega arith; cycle = omega arith; value = omega arith }, tt);
      end = tt;
    },
    tt,
  );
  counts = All-nil CountsWide;
  glances = All-nil LookWide;
  looks = All-from_recursion LookWide wide_report.looks (record { monitor = omega arith; cycle = omega arith; total = omega arith }, tt);
}

-- ---- the history that a text tells

within : WithinLimits deck
within = record {
  rates = All-from_recursion (λ i. i.rate ≤ MOST_RATE) deck.items (omega arith, (omega arith, tt));
  disks = omega arith;
  disk = All-from_recursion DiskWithin deck.disks (record { size = omega arith; freq = omega arith }, tt);
  replans = All-nil ReplanWithin;
  updaters = omega arith;
  updates = omega arith;
  readers = omega arith;
  reader = All-from_recursion ReaderWithin deck.readers (record { room = omega arith; age = omega arith; tries = omega arith }, tt);
  queries = omega arith;
  query = All-from_recursion (All (λ items. length items ≤ MOST_ASKED)) deck.queries (All-from_recursion (λ items. length items ≤ MOST_ASKED) ((0 ∷ 1 ∷ []) ∷ []) (omega arith, tt), tt);
  script = omega arith;
  starts = omega arith;
  settings = record {
    group = omega arith;
    cycles = omega arith;
    seed = omega arith;
    loss = omega arith;
    again = omega arith;
    late = omega arith;
    monitors = omega arith;
    some_hears = omega arith;
    hears = omega arith;
  };
}

-- Every report with a legal history and this text has this history, even if it isn't a report of the deck.
one_told : (other : Report) → IsLegal deck other.history → report_text other ≡ its_bytes → other.history ≡ report.history
unfolding report_text rows_text number_text escaped fields_text is_blank
one_told other legal_other text = one_history deck other report within legal_other spells_report.report.legal text

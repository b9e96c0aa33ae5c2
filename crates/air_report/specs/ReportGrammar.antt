-- Which report a text spells, and which fault it has: by the rows that a report is printed as.
--
-- A text spells a report of a deck if its records are the rows of the report. Else its first records are the rows of a report of the deck, and some
-- kind of fault applies to the next record. The least of these kinds is the fault. By the laws of `laws/reading` a text either spells one report of a
-- deck or has one fault.
use Rattle.std.specs.Prelude.{◌≡◌, ◌≢◌, ◌+◌, ◌≤◌, ◌++◌, ℕ, List, [], ◌∷◌, Option, None, Some, codes, get_or, if◌then◌else◌, length, option_map, ⊤}
use Rattle.std.specs.List.{find}
use Rattle.air_history.specs.Histories.{starts}
use Rattle.air_model.specs.Buckets.{has_ages}
use Rattle.air_model.specs.Decks.{Deck, IsLegal}
use Rattle.air_model.specs.Reports.{Report, report_rows}
use Rattle.item_catalog.specs.RecordFields.{◌is◌}
use Rattle.item_catalog.specs.Records.{records_of}
use Rattle.air_report.specs.Kinds.{report_kind_number}
use Rattle.air_report.specs.ReportRules.{CyclesBegun, HasWidths, IsKnown, IsReport}
use Rattle.air_report.specs.declared.reading.faults.ReportError.{ReportError}
use Rattle.air_report.specs.declared.reading.faults.ReportError.TheVariants as error
use Rattle.air_report.specs.declared.reading.kinds.ReportFaultKind.{ReportFaultKind}
use Rattle.air_report.specs.declared.reading.kinds.ReportFaultKind.TheVariants as fault

-- The text spells the report, as one of the deck.
pub record SpellsReport (deck : Deck) (text : List ℕ) (r : Report) : Type 0 where
  pub rows : records_of text ≡ report_rows r
  pub report : IsReport deck r

-- ---- rows

-- The number of fields in the rows of each tag of a version: `aged` is a tag if buckets have ages.
abbrev pub row_lengths : ℕ → List (List ℕ × ℕ)
row_lengths version = (codes "commit", 3) ∷ (codes "start", 1) ∷ (codes "accept", 5) ∷ (codes "abort", 7) ∷ (codes "unfinished", 5)
    ∷ (codes "counts", 8) ∷ (codes "glance", 4) ∷ (codes "look", 4) ∷ (if has_ages version then (codes "aged", 6) ∷ [] else [])

-- The number of fields that a record must have: its first field is its tag.
abbrev pub due_length : ℕ → List (List ℕ) → Option ℕ
due_length version fields = option_map (λ (pair : List ℕ × ℕ). pair.1) (find (λ (pair : List ℕ × ℕ). get_or fields 0 [] is pair.0) (row_lengths version))

-- The record is the only row of the report, whose numbers fit their types.
pub record IsOneRow (fields : List (List ℕ)) (one : Report) : Type 0 where
  pub rows : report_rows one ≡ fields ∷ []
  pub widths : HasWidths one

-- No report with the record as its only row satisfies P.
abbrev pub NoSuchReport : List (List ℕ) → (Report → Type 0) → Type 0
NoSuchReport fields P = (one : Report) → IsOneRow fields one → P one → ⊥

-- ---- faults

-- One report after another, section by section.
abbrev pub joined : Report → Report → Report
joined r s = record {
  history = r.history ++ s.history;
  verdicts = r.verdicts ++ s.verdicts;
  counts = r.counts ++ s.counts;
  glances = r.glances ++ s.glances;
  looks = r.looks ++ s.looks;
}

-- The kinds of fault that apply to a record after the rows of a report. If the record is no row of a report, every kind defined by `NoSuchReport`
-- applies.
abbrev pub Applies : Deck → Report → List (List ℕ) → ReportFaultKind → Type 0
Applies deck before fields fault.Fields = (due_length deck.settings.version fields ≢ None) × (due_length deck.settings.version fields ≢ Some (length fields))
Applies deck before fields fault.Form = (due_length deck.settings.version fields ≢ None) × NoSuchReport fields (λ one. ⊤)
Applies deck before fields fault.Tag = due_length deck.settings.version fields ≡ None
Applies deck before fields fault.Order = NoSuchReport fields (λ one. report_rows (joined before one) ≡ report_rows before ++ report_rows one)
Applies deck before fields fault.Update = NoSuchReport fields (λ one. IsLegal deck (before.history ++ one.history))
Applies deck before fields fault.Deck = NoSuchReport fields (IsKnown deck)
Applies deck before fields fault.Cycle = NoSuchReport fields (CyclesBegun (starts before.history))

-- The records of the text before the one with this row number are the rows of a report of the deck, and this is the number of the least kind that
-- applies to that record.
pub record HasReportFault (deck : Deck) (text : List ℕ) (row_number kind_number : ℕ) : Type 0 where
  pub before : Report
  pub faulty : List (List ℕ)
  pub behind : List (List (List ℕ))
  pub which : ReportFaultKind
  pub records : records_of text ≡ report_rows before ++ faulty ∷ behind
  pub report : IsReport deck before
  pub row_number_is : row_number ≡ length (report_rows before) + 1
  pub kind_number_is : kind_number ≡ report_kind_number which
  pub applies : Applies deck before faulty which
  pub least : (other : ReportFaultKind) → Applies deck before faulty other → kind_number ≤ report_kind_number other

-- A fault that is answered is the text's. Out of memory, nothing is said.
abbrev pub IsReportAnswer : Deck → List ℕ → ReportError → Type 0
IsReportAnswer deck text (error.Fault row kind) = HasReportFault deck text row kind
IsReportAnswer deck text error.NoMemory = ⊤

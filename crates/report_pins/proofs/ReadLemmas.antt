-- What is read of short texts of the small deck, computed: histories by the lines that name them, and rows.
use Rattle.std.proofs.Common.{◌≡◌, ◌+◌, ◌∷◌, ◌∙◌, ℕ, List, [], Result, Ok, Err, IfOk, ap, length, map, refl, subst, sym}
use Rattle.std.specs.List.{range_with_len}
use Rattle.std.proofs.lemmas.List.{length-map}
use Rattle.csv.proofs.OnLiterals.{csv_on_literals}
use Rattle.air_base.specs.Numbers.{number_of}
use Rattle.air_base.specs.NumberLists.{all_some}
use Rattle.air_history.specs.declared.histories.Event.TheVariants as e
use Rattle.air_model.specs.Decks.{Deck}
use Rattle.item_catalog.specs.Records.{records_of}
use Rattle.air_report.specs.LineTexts.{short_of, spelled_item, spelled_place, spelled_read}
use Rattle.air_report.specs.LineFaults.{spelled_lines}
use Rattle.air_report.specs.LineGrammar.{SpellsLines}
use Rattle.air_report.specs.ReportLines.{ReportLines, event_in, its_line, lines_in, sections_of}
use Rattle.air_report.specs.declared.reading.faults.ReportError.{ReportError}
use Rattle.air_report.specs.declared.reading.lines.EventLine.{EventLine}
use Rattle.air_report.specs.declared.reading.lines.EventLine.TheVariants.{Commit}
use Rattle.air_report.proofs.SameHistories.{legal_same}
use Rattle.air_report.specs.ReadReports.{IsReportOf}
use Rattle.air_report.proofs.TiedReports.{report_lines}
use Rattle.air_report.specs.declared.reading.ReadReport.{ReadReport}
use Rattle.report_pins.specs.SmallDeck.{adding_update, each_section, setting_update, small_deck, two_commits}

-- The lines that are read are those of the text's records.
pub lines_read : (deck : Deck) (text : List ℕ) (read : ReadReport) → IsReportOf deck text read → lines_in read.report ≡ sections_of (spelled_lines deck.settings.version (records_of text))
unfolding SpellsLines
lines_read deck text read is = (report_lines deck text read.report is.spelled).sections

-- The history that is read is the one that the lines name.
pub history_read : (deck : Deck) (text : List ℕ) (read : ReadReport) (events : List EventLine) → IsReportOf deck text read
    → (sections_of (spelled_lines deck.settings.version (records_of text))).events ≡ events → read.report.history ≡ map (event_in deck) events
history_read deck text read events is given =
    sym (legal_same deck read.report.history is.spelled.report.legal) ∙ ap (λ lines. map (event_in deck) lines) (ap (λ l. l.events) (lines_read deck text read is) ∙ given)

-- The rows of each section, by the numbers of lines before it.
pub record RowsTold (read : ReadReport) (lines : ReportLines) : Type 0 where
  pub verdicts : read.verdict_rows ≡ range_with_len (1 + length lines.events) (length lines.verdicts)
  pub glances : read.glance_rows ≡ range_with_len (1 + length lines.events + length lines.verdicts + length lines.counts) (length lines.glances)
  pub looks : read.look_rows ≡ range_with_len (1 + length lines.events + length lines.verdicts + length lines.counts + length lines.glances) (length lines.looks)

pub rows_told : (deck : Deck) (text : List ℕ) (read : ReadReport) (lines : ReportLines) → IsReportOf deck text read → sections_of (spelled_lines deck.settings.version (records_of text)) ≡ lines → RowsTold read lines
rows_told deck text read lines is given =
    let same : lines_in read.report ≡ lines = lines_read deck text read is ∙ given in
    let r = read.report in
    let events : length r.history ≡ length (lines_in r).events = sym (length-map r.history its_line) in record {
      verdicts = is.verdict_rows ∙ ap (λ h. range_with_len (1 + h) (length r.verdicts)) events ∙ ap (λ (l : ReportLines). range_with_len (1 + length l.events) (length l.verdicts)) same;
      glances = is.glance_rows ∙ ap (λ h. range_with_len (1 + h + length r.verdicts + length r.counts) (length r.glances)) events
          ∙ ap (λ (l : ReportLines). range_with_len (1 + length l.events + length l.verdicts + length l.counts) (length l.glances)) same;
      looks = is.look_rows ∙ ap (λ h. range_with_len (1 + h + length r.verdicts + length r.counts + length r.glances) (length r.looks)) events
          ∙ ap (λ (l : ReportLines). range_with_len (1 + length l.events + length l.verdicts + length l.counts + length l.glances) (length l.looks)) same;
    }

-- The deck and the text are given by equations, as a call has them.
pub report_given : (d deck : Deck) (bytes text : List ℕ) (read : ReadReport) → d ≡ deck → bytes ≡ text → IsReportOf d bytes read → IsReportOf deck text read
report_given d deck bytes text read is given spelled =
    subst (λ t. IsReportOf deck t read) given (subst (λ v. IsReportOf v bytes read) is spelled)

-- ---- two commits

pub commits_read : (d : Deck) (bytes : List ℕ) (result : Result ReadReport ReportError) → d ≡ small_deck → bytes ≡ two_commits → IfOk result (IsReportOf d bytes)
    → IfOk result (λ read. read.report.history ≡ e.Commit 0 0 (setting_update 0 11) ∷ e.Commit 0 1 (adding_update 1 0 2) ∷ [])
unfolding short_of number_of csv_on_literals
commits_read d bytes (Ok read) is given spelled =
    history_read small_deck two_commits read (Commit 0 0 ∷ Commit 0 1 ∷ []) (report_given d small_deck bytes two_commits read is given spelled) refl
commits_read d bytes (Err error) is given spelled = spelled

-- ---- the rows of a verdict, a glance and a look

pub record RowsRead (read : ReadReport) : Type 0 where
  pub verdicts : read.verdict_rows ≡ 2 ∷ []
  pub glances : read.glance_rows ≡ 3 ∷ []
  pub looks : read.look_rows ≡ 4 ∷ []

rows_of_each : (read : ReadReport) → IsReportOf small_deck each_section read → RowsRead read
unfolding spelled_read spelled_place spelled_item short_of number_of all_some csv_on_literals
rows_of_each read is =
    let rows = rows_told small_deck each_section read (sections_of (spelled_lines 1 (records_of each_section))) is refl in
    record { verdicts = rows.verdicts; glances = rows.glances; looks = rows.looks }

pub rows_read : (d : Deck) (bytes : List ℕ) (result : Result ReadReport ReportError) → d ≡ small_deck → bytes ≡ each_section → IfOk result (IsReportOf d bytes)
    → IfOk result RowsRead
rows_read d bytes (Ok read) is given spelled = rows_of_each read (report_given d small_deck bytes each_section read is given spelled)
rows_read d bytes (Err error) is given spelled = spelled

pub of_rows : (result : Result ReadReport ReportError) (P : ReadReport → Type 0) → ((read : ReadReport) → RowsRead read → P read) → IfOk result RowsRead → IfOk result P
of_rows (Ok read) P gives rows = gives read rows
of_rows (Err error) P gives rows = rows

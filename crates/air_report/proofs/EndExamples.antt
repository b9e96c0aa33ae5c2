-- Reports at their ends: numbers of one bit too many, rows of each tag, sections one after another, and the places of faults.
use Rattle.std.proofs.Common.{◌≡◌, ◌<◌, ◌≤◌, ◌^◌, ℕ, Some, None, List, [], ◌∷◌, length, refl, sym, ap, ◌∙◌, arith, length-append}
use Rattle.std.specs.Prelude.{codes, map}
use Rattle.std.proofs.lemmas.List.Elements.{All-from_recursion}
use Rattle.item_catalog.specs.Records.{records_of}
use Rattle.air_base.specs.declared.verdicts.Counts.{Counts}
use Rattle.air_base.specs.declared.verdicts.ReadOf.{ReadOf}
use Rattle.air_base.specs.declared.verdicts.VerdictKind.TheVariants.{Accept, Abort, Aged}
use Rattle.air_history.specs.declared.histories.Event.TheVariants as e
use Rattle.air_model.specs.Decks.{Deck}
use Rattle.air_model.specs.Reports.{Report, report_rows}
use Rattle.air_model.specs.declared.reports.CountsLine.{CountsLine}
use Rattle.air_model.specs.declared.reports.LookLine.{LookLine}
use Rattle.air_model.specs.declared.reports.VerdictLine.{VerdictLine}
use Rattle.air_model.proofs.SessionExamples.{pair}
use Rattle.air_report.specs.Kinds.{report_kind_number}
use Rattle.air_report.specs.ReadReports.{IsReportOf}
use Rattle.air_report.specs.ReportGrammar.{HasReportFault, SpellsReport, due_length, joined}
use Rattle.air_report.specs.ReportRules.{CountsWide, CyclesBegun, EndWide, EventWide, IsTried, LookWide, ReadWide, VerdictWide}
use Rattle.air_report.specs.Statuses.{status_number}
use Rattle.air_report.specs.declared.status.Status.TheVariants as status
use Rattle.air_report.specs.declared.reading.kinds.ReportFaultKind.TheVariants as fault

-- ---- widths

-- A read, a verdict's line, a line of counts, and what a monitor saw, each with a number that may be too great.
abbrev read : ℕ → ℕ → ReadOf
read item value = record { item = item; cycle = 1; value = value }

abbrev verdict : ℕ → ℕ → ℕ → VerdictLine
verdict reader query attempt = record { reader = reader; verdict = record { query = query; attempt = attempt; kind = Accept }; reads = [] }

abbrev none_counted : Counts
none_counted = record { opened = 0; dozed = 0; late = 0; refused = 0; foreign = 0; copied = 0 }

abbrev counts : ℕ → Counts → CountsLine
counts reader counted = record { reader = reader; counts = counted }

abbrev look : ℕ → ℕ → ℕ → LookLine
look monitor cycle total = record { monitor = monitor; cycle = cycle; total = total }

pub record NotWide : Type 0 where
  updater : EventWide (e.Commit (2 ^ 32) 0 (record { reads = []; writes = [] })) → ⊥
  number : EventWide (e.Commit 0 (2 ^ 32) (record { reads = []; writes = [] })) → ⊥
  item : ReadWide (read (2 ^ 16) 0) → ⊥
  value : ReadWide (read 0 (2 ^ 64)) → ⊥
  refused_cycle : EndWide (Abort 0 (2 ^ 32) 0) → ⊥
  clash : EndWide (Abort 0 0 (2 ^ 16)) → ⊥
  aged_item : EndWide (Aged (2 ^ 16) 0) → ⊥
  reader : VerdictWide (verdict (2 ^ 32) 0 1) → ⊥
  query : VerdictWide (verdict 0 (2 ^ 32) 1) → ⊥
  attempt : VerdictWide (verdict 0 0 (2 ^ 32)) → ⊥
  counting_reader : CountsWide (counts (2 ^ 32) none_counted) → ⊥
  opened : CountsWide (counts 0 (record none_counted { opened = 2 ^ 64 })) → ⊥
  dozed : CountsWide (counts 0 (record none_counted { dozed = 2 ^ 64 })) → ⊥
  late : CountsWide (counts 0 (record none_counted { late = 2 ^ 64 })) → ⊥
  refused : CountsWide (counts 0 (record none_counted { refused = 2 ^ 64 })) → ⊥
  foreign : CountsWide (counts 0 (record none_counted { foreign = 2 ^ 64 })) → ⊥
  copied : CountsWide (counts 0 (record none_counted { copied = 2 ^ 64 })) → ⊥
  monitor : LookWide (look (2 ^ 32) 0 0) → ⊥
  cycle : LookWide (look 0 (2 ^ 32) 0) → ⊥
  total : LookWide (look 0 0 (2 ^ 64)) → ⊥

not_wide : NotWide
not_wide = record {
  updater = λ h. let low : 2 ^ 32 < 2 ^ 32 = h.0 in omega arith;
  number = λ h. let low : 2 ^ 32 < 2 ^ 32 = h.1 in omega arith;
  item = λ h. let low : 2 ^ 16 < 2 ^ 16 = h.item in omega arith;
  value = λ h. let low : 2 ^ 64 < 2 ^ 64 = h.value in omega arith;
  refused_cycle = λ h. let low : 2 ^ 32 < 2 ^ 32 = h.1 in omega arith;
  clash = λ h. let low : 2 ^ 16 < 2 ^ 16 = h.2 in omega arith;
  aged_item = λ h. let low : 2 ^ 16 < 2 ^ 16 = h.0 in omega arith;
  reader = λ h. let low : 2 ^ 32 < 2 ^ 32 = h.reader in omega arith;
  query = λ h. let low : 2 ^ 32 < 2 ^ 32 = h.query in omega arith;
  attempt = λ h. let low : 2 ^ 32 < 2 ^ 32 = h.attempt in omega arith;
  counting_reader = λ h. let low : 2 ^ 32 < 2 ^ 32 = h.reader in omega arith;
  opened = λ h. let low : 2 ^ 64 < 2 ^ 64 = h.opened in omega arith;
  dozed = λ h. let low : 2 ^ 64 < 2 ^ 64 = h.dozed in omega arith;
  late = λ h. let low : 2 ^ 64 < 2 ^ 64 = h.late in omega arith;
  refused = λ h. let low : 2 ^ 64 < 2 ^ 64 = h.refused in omega arith;
  foreign = λ h. let low : 2 ^ 64 < 2 ^ 64 = h.foreign in omega arith;
  copied = λ h. let low : 2 ^ 64 < 2 ^ 64 = h.copied in omega arith;
  monitor = λ h. let low : 2 ^ 32 < 2 ^ 32 = h.monitor in omega arith;
  cycle = λ h. let low : 2 ^ 32 < 2 ^ 32 = h.cycle in omega arith;
  total = λ h. let low : 2 ^ 64 < 2 ^ 64 = h.total in omega arith;
}

-- ---- rows and sections

-- A report with two lines of each section, and one with one.
abbrev one_of_each : Report
one_of_each = record { history = e.Start ∷ []; verdicts = verdict 0 0 1 ∷ []; counts = counts 0 none_counted ∷ []; glances = look 0 0 30 ∷ []; looks = look 0 1 30 ∷ [] }

abbrev two_of_each : Report
two_of_each = record {
  history = e.Start ∷ e.Start ∷ [];
  verdicts = verdict 0 0 1 ∷ verdict 0 0 1 ∷ [];
  counts = counts 0 none_counted ∷ counts 0 none_counted ∷ [];
  glances = look 0 0 30 ∷ look 0 0 30 ∷ [];
  looks = look 0 1 30 ∷ look 0 1 30 ∷ [];
}

each_joined : joined one_of_each one_of_each ≡ two_of_each
each_joined = refl

-- The number of fields in the rows of each tag.
abbrev tags : List (List ℕ)
tags = codes "commit" ∷ codes "start" ∷ codes "accept" ∷ codes "abort" ∷ codes "unfinished" ∷ codes "counts" ∷ codes "glance" ∷ codes "look" ∷ codes "aged" ∷ []

each_tag : (map (λ tag. due_length 2 (tag ∷ [])) tags ≡ Some 3 ∷ Some 1 ∷ Some 5 ∷ Some 7 ∷ Some 5 ∷ Some 8 ∷ Some 4 ∷ Some 4 ∷ Some 6 ∷ [])
    × (map (λ tag. due_length 1 (tag ∷ [])) tags ≡ Some 3 ∷ Some 1 ∷ Some 5 ∷ Some 7 ∷ Some 5 ∷ Some 8 ∷ Some 4 ∷ Some 4 ∷ None ∷ [])
each_tag = (refl, refl)

-- In a report with two lines of each section the verdicts are in rows 3 and 4, the glances in 7 and 8, the looks in 9 and 10.
its_rows : (deck : Deck) (text : List ℕ) → SpellsReport deck text two_of_each
    → IsReportOf deck text (record { report = two_of_each; verdict_rows = 3 ∷ 4 ∷ []; glance_rows = 7 ∷ 8 ∷ []; look_rows = 9 ∷ 10 ∷ [] })
its_rows deck text spelled = record { spelled = spelled; verdict_rows = refl; glance_rows = refl; look_rows = refl }

-- The deck has one reader; a glance may be of the last cycle that began.
no_reader : IsTried pair (verdict 1 0 1) → ⊥
no_reader h = let low : 1 < 1 = h.0 in omega arith

last_begun : CyclesBegun 1 (record { history = []; verdicts = []; counts = []; glances = look 0 1 30 ∷ []; looks = look 0 1 30 ∷ [] })
last_begun = record {
  verdicts = λ i d within. absurd (omega (arith, within));
  glances = All-from_recursion (λ l. l.cycle ≤ 1) (look 0 1 30 ∷ []) (omega arith, tt);
  looks = All-from_recursion (λ l. l.cycle ≤ 1) (look 0 1 30 ∷ []) (omega arith, tt);
}

-- ---- faults

kinds : map report_kind_number (fault.Fields ∷ fault.Form ∷ fault.Tag ∷ fault.Order ∷ fault.Update ∷ fault.Deck ∷ fault.Cycle ∷ []) ≡ 1 ∷ 2 ∷ 3 ∷ 4 ∷ 5 ∷ 6 ∷ 7 ∷ []
kinds = refl

-- The numbers of statuses that print no line.
without_line : map status_number (status.Ok ∷ status.WriteFault ∷ status.NoMemory ∷ status.Differs ∷ []) ≡ 0 ∷ 4 ∷ 5 ∷ 9 ∷ []
without_line = refl

-- A text without a record has no fault.
no_record : (deck : Deck) (text : List ℕ) (row kind : ℕ) → records_of text ≡ [] → HasReportFault deck text row kind → ⊥
no_record deck text row kind none h =
    let n = ap length (sym none ∙ h.records) in
    let more = length-append (report_rows h.before) (h.faulty ∷ h.behind) in
    omega arith

-- After three rows the fault is in the fourth; its kind is the given one, and is the least of those that apply.
fourth_row : (deck : Deck) (text : List ℕ) (row kind : ℕ) (h : HasReportFault deck text row kind) → length (report_rows h.before) ≡ 3 → row ≡ 4
fourth_row deck text row kind h three = omega (arith, h.row_number_is, three)

its_kind : (deck : Deck) (text : List ℕ) (row kind : ℕ) (h : HasReportFault deck text row kind) → kind ≡ report_kind_number h.which
its_kind deck text row kind h = h.kind_number_is

least_of_itself : (deck : Deck) (text : List ℕ) (row kind : ℕ) (h : HasReportFault deck text row kind) → kind ≤ report_kind_number h.which
least_of_itself deck text row kind h = h.least h.which h.applies

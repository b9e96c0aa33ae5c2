-- The definitions of printed reports on small reports: the fields of a row, what lines say, and which kinds apply after a report.
use Rattle.std.proofs.Common.{◌≡◌, ◌<◌, ◌≤◌, ◌^◌, ◌++◌, ◌∷◌, ◌∙◌, [], ℕ, List, Some, None, true, false, refl, ap, codes, length, arith}
use Rattle.std.specs.Prelude.{⊤}
use Rattle.std.proofs.lemmas.List.Elements.{All-cons, All-head, All-nil}
use Rattle.air_base.specs.Numbers.{number_text}
use Rattle.air_base.specs.declared.verdicts.ReadOf.{ReadOf}
use Rattle.air_base.specs.declared.verdicts.VerdictKind.{VerdictKind}
use Rattle.air_base.specs.declared.verdicts.VerdictKind.TheVariants.{Abort, Aged, Unfinished}
use Rattle.air_model.specs.Reports.{Report, report_rows}
use Rattle.air_model.specs.SessionLaws.{follows_query}
use Rattle.air_model.specs.declared.reports.CountsLine.{CountsLine}
use Rattle.air_model.specs.declared.reports.LookLine.{LookLine}
use Rattle.air_model.specs.declared.reports.VerdictLine.{VerdictLine}
use Rattle.air_report.specs.LineTexts.{spelled_line}
use Rattle.air_report.specs.ReportGrammar.{Applies, IsOneRow, NoSuchReport, due_length, joined, row_lengths}
use Rattle.air_report.specs.ReportRules.{CountsWide, EndWide, EventWide, CyclesBegun, IsKnown, IsReport, IsTried, LookWide, MayEnd, VerdictWide, its_attempt}
use Rattle.air_report.specs.declared.reading.kinds.ReportFaultKind.TheVariants as fault
use Rattle.air_report.proofs.PrintedReports.{line_is}
use Rattle.air_report.proofs.PrintedFields.{Row, all_told, line_spelled}
use Rattle.air_report.proofs.SpelledExamples.{report, spells_report}
use Rattle.air_report.proofs.TextExamples.{deck, young}

-- ---- rows

eight_tags : length (row_lengths 1) ≡ 8
eight_tags = refl

nine_tags : length (row_lengths 2) ≡ 9
nine_tags = refl

a_length : due_length 1 (codes "abort" ∷ []) ≡ Some 7
a_length = refl

aged_length : due_length 2 (codes "aged" ∷ []) ≡ Some 6
aged_length = refl

no_aged_length : due_length 1 (codes "aged" ∷ []) ≡ None
no_aged_length = refl

no_length : due_length 2 (codes "aborts" ∷ []) ≡ None
no_length = refl

-- A look of monitor 0 in cycle 2.
abbrev look_row2 : Row
look_row2 = codes "look" ∷ codes "0" ∷ codes "2" ∷ codes "30" ∷ []

abbrev nothing : Report
nothing = record { history = []; verdicts = []; counts = []; glances = []; looks = [] }

abbrev look2 : LookLine
look2 = record { monitor = 0; cycle = 2; total = 30 }

abbrev its_line : Report
its_line = record nothing { looks = look2 ∷ [] }

line_of_look : IsOneRow look_row2 its_line
unfolding number_text
line_of_look = record {
  rows = refl;
  widths = record {
    events = All-nil EventWide;
    verdicts = All-nil VerdictWide;
    counts = All-nil CountsWide;
    glances = All-nil LookWide;
    looks = All-cons LookWide look2 [] (record { monitor = omega arith; cycle = omega arith; total = omega arith }) (All-nil LookWide);
  };
}

-- A glance is no look.
not_its_line : IsOneRow look_row2 (record nothing { glances = look2 ∷ [] }) → ⊥
not_its_line h = let rows = h.rows in cc rows

-- A row without a field has no line.
no_line : NoSuchReport [] (λ line. ⊤)
no_line line is t =
    let found = line_is [] line is in
    let spelled = ap (spelled_line 2) found.1.row_is ∙ line_spelled 2 found.0 found.1.wide (all_told found.0) in cc spelled

-- ---- what lines say

abbrev verdict : ℕ → VerdictKind → List ReadOf → VerdictLine
verdict attempt end reads = record { reader = 0; verdict = record { query = 0; attempt = attempt; kind = end }; reads = reads }

abbrev read : ℕ → ℕ → ReadOf
read item cycle = record { item = item; cycle = cycle; value = 10 }

attempt_told : (its_attempt (verdict 1 Unfinished [])).verdict.attempt ≡ 1
attempt_told = refl

-- The reader tries twice, and asks for the items 0 and 1.
last_try : IsTried deck (verdict 2 (Abort 1 3 0) (read 0 1 ∷ []))
unfolding follows_query
last_try = (omega arith, record { query = omega arith; begun = omega arith; tried = omega arith; follows = refl }, λ none. absurd none)

no_try : IsTried deck (verdict 3 Unfinished []) → ⊥
no_try h = let most : 3 ≤ 2 = h.1.tried in omega arith

other_item : IsTried deck (verdict 1 Unfinished (read 1 1 ∷ [])) → ⊥
unfolding follows_query
other_item h = let follows = h.1.follows in cc follows

-- An attempt ends aged if buckets have ages.
abbrev aged : VerdictLine
aged = verdict 1 (Aged 1 256) (read 0 1 ∷ [])

aged_try : IsTried young aged
unfolding follows_query
aged_try = (omega arith, record { query = omega arith; begun = omega arith; tried = omega arith; follows = refl }, λ _. refl)

no_aged_try : IsTried deck aged → ⊥
no_aged_try h = let ages : false ≡ true = h.2 tt in cc ages

aborted_in_full : MayEnd 1 (Abort 1 3 0)
aborted_in_full none = absurd none

-- The look names a monitor of the deck, and its cycle is the second.
known_look : IsKnown deck its_line
known_look = record { verdicts = All-nil (IsTried deck); counts = All-nil (λ (l : CountsLine). l.reader < 1); glances = All-nil (λ (l : LookLine). l.monitor < 1); looks = All-cons (λ (l : LookLine). l.monitor < 1) look2 [] (omega arith) (All-nil (λ (l : LookLine). l.monitor < 1)) }

other_monitor : IsKnown deck (record nothing { looks = record { monitor = 1; cycle = 2; total = 30 } ∷ [] }) → ⊥
other_monitor h = let low : 1 < 1 = All-head (λ (l : LookLine). l.monitor < 1) (record { monitor = 1; cycle = 2; total = 30 }) [] h.looks in omega arith

not_begun : CyclesBegun 1 its_line → ⊥
not_begun h = let low : 2 ≤ 1 = All-head (λ (l : LookLine). l.cycle ≤ 1) look2 [] h.looks in omega arith

-- Reads are of a cycle from 1 on, the refused one too.
refused_later : CyclesBegun 2 (record nothing { verdicts = verdict 1 (Abort 1 3 0) (read 0 1 ∷ []) ∷ [] }) → ⊥
refused_later h = let cycle : 3 ≤ 2 = (h.verdicts 0 (verdict 1 Unfinished []) (omega arith) 1 (record { item = 0; cycle = 0 }) (omega arith)).1 in omega arith

read_of_catalog : CyclesBegun 2 (record nothing { verdicts = verdict 1 Unfinished (read 0 0 ∷ []) ∷ [] }) → ⊥
read_of_catalog h = let cycle : 1 ≤ 0 = (h.verdicts 0 (verdict 1 Unfinished []) (omega arith) 0 (record { item = 0; cycle = 0 }) (omega arith)).0 in omega arith

wide_end : EndWide (Abort 65535 1 0)
wide_end = (omega arith, omega arith, omega arith)

not_wide_end : EndWide (Abort 65536 1 0) → ⊥
not_wide_end h = let low : 65536 < 2 ^ 16 = h.0 in omega arith

wide_aged_end : EndWide (Aged 65535 4294967295)
wide_aged_end = (omega arith, omega arith)

not_wide_aged_end : EndWide (Aged 1 4294967296) → ⊥
not_wide_aged_end h = let low : 4294967296 < 2 ^ 32 = h.1 in omega arith

of_the_deck : IsReport deck report
of_the_deck = spells_report.report

-- ---- kinds

other_length : Applies deck report (codes "look" ∷ codes "0" ∷ []) fault.Fields
other_length = (λ none. cc none, λ some. let n : ◌≡◌ {A = ℕ} 4 2 = cc some in omega (arith, n))

not_other_length : Applies deck report look_row2 fault.Fields → ⊥
not_other_length h = h.1 refl

unknown : Applies deck report (codes "looks" ∷ []) fault.Tag
unknown = refl

not_unknown : Applies deck report look_row2 fault.Tag → ⊥
not_unknown h = cc h

-- The printed row of an aged attempt has a tag if buckets have ages.
abbrev aged_row : Row
aged_row = codes "aged" ∷ codes "0" ∷ codes "0" ∷ codes "1" ∷ codes "0@1=10" ∷ codes "1@256" ∷ []

aged_unknown : Applies deck report aged_row fault.Tag
aged_unknown = refl

aged_known : Applies young report aged_row fault.Tag → ⊥
aged_known h = cc h

-- The number of fields of `aged` is no fault if it is no tag.
no_aged_fields : Applies deck report (codes "aged" ∷ []) fault.Fields → ⊥
no_aged_fields h = h.0 refl

aged_fields : Applies young report (codes "aged" ∷ []) fault.Fields
aged_fields = (λ none. cc none, λ some. let n : ◌≡◌ {A = ℕ} 6 1 = cc some in omega (arith, n))

not_unformed : Applies deck report look_row2 fault.Form → ⊥
not_unformed h = h.1 its_line line_of_look tt

-- After the report, which ends with a look, another look is in order.
in_order : report_rows (joined report its_line) ≡ report_rows report ++ report_rows its_line
in_order = refl

not_late : Applies deck report look_row2 fault.Order → ⊥
not_late h = h its_line line_of_look in_order

-- A glance isn't.
late_glance : report_rows (joined report (record nothing { glances = look2 ∷ [] })) ≡ report_rows report ++ report_rows (record nothing { glances = look2 ∷ [] }) → ⊥
late_glance h = cc h

not_of_other_deck : Applies deck report look_row2 fault.Deck → ⊥
not_of_other_deck h = h its_line line_of_look known_look

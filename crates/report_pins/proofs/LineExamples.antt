-- What a report's lines may say and may not: the greatest numbers of each line, no report of a row, how an attempt may end, and what doesn't come before
-- a fault.
use Rattle.std.proofs.Common.{◌≡◌, ◌<◌, ℕ, false, true, List, [], ◌∷◌, refl, subst, arith}
use Rattle.std.specs.Prelude.{codes, ⊤}
use Rattle.std.proofs.lemmas.List.Elements.{All-nil, All-from_recursion}
use Rattle.air_base.specs.declared.verdicts.VerdictKind.TheVariants.{Abort, Aged}
use Rattle.air_history.specs.declared.histories.Event.TheVariants as e
use Rattle.air_model.specs.Reports.{Report}
use Rattle.air_model.specs.declared.reports.CountsLine.{CountsLine}
use Rattle.air_model.specs.declared.reports.LookLine.{LookLine}
use Rattle.air_model.specs.declared.reports.VerdictLine.{VerdictLine}
use Rattle.air_model.proofs.SessionExamples.{pair}
use Rattle.air_report.specs.Kinds.{report_kind_number}
use Rattle.air_report.specs.ReportGrammar.{Applies, HasReportFault, IsOneRow, NoSuchReport}
use Rattle.air_report.specs.ReportRules.{CountsWide, EventWide, IsKnown, LookWide, MayEnd, ReadWide, VerdictWide}
use Rattle.air_report.specs.declared.reading.kinds.ReportFaultKind.{ReportFaultKind}
use Rattle.air_report.specs.declared.reading.kinds.ReportFaultKind.TheVariants as fault

-- The greatest number of 32 bits, and of 64.
abbrev most32 : ℕ
most32 = 4294967295

abbrev most64 : ℕ
most64 = 18446744073709551615

-- The lines with the greatest numbers.
abbrev greatest_verdict : VerdictLine
greatest_verdict = record {
  reader = most32;
  verdict = record { query = most32; attempt = most32; kind = Abort 65535 most32 65535 };
  reads = record { item = 65535; cycle = most32; value = most64 } ∷ [];
}

abbrev greatest_counts : CountsLine
greatest_counts = record { reader = most32; counts = record { opened = most64; dozed = most64; late = most64; refused = most64; foreign = most64; copied = most64 } }

abbrev greatest_look : LookLine
greatest_look = record { monitor = most32; cycle = most32; total = most64 }

record Wide : Type 0 where
  event : EventWide (e.Commit most32 most32 (record { reads = []; writes = [] }))
  verdict : VerdictWide greatest_verdict
  counts : CountsWide greatest_counts
  look : LookWide greatest_look

wide : Wide
wide = record {
  event = (omega arith, omega arith);
  verdict = record {
    reader = omega arith;
    query = omega arith;
    attempt = omega arith;
    reads = All-from_recursion ReadWide greatest_verdict.reads (record { item = omega arith; cycle = omega arith; value = omega arith }, tt);
    end = (omega arith, omega arith, omega arith);
  };
  counts = record { reader = omega arith; opened = omega arith; dozed = omega arith; late = omega arith; refused = omega arith; foreign = omega arith; copied = omega arith };
  look = record { monitor = omega arith; cycle = omega arith; total = omega arith };
}

-- An attempt may end aged in version 2, and not in version 1.
aged_in_2 : MayEnd 2 (Aged 1 256)
aged_in_2 aged = refl

not_aged_in_1 : MayEnd 1 (Aged 1 256) → ⊥
not_aged_in_1 h = let ages : false ≡ true = h tt in cc

-- ---- reports of one row

-- The report of one start.
abbrev one_start : Report
one_start = record { history = e.Start ∷ []; verdicts = []; counts = []; glances = []; looks = [] }

its_row : IsOneRow (codes "start" ∷ []) one_start
its_row = record {
  rows = refl;
  widths = record { events = All-from_recursion EventWide (e.Start ∷ []) (tt, tt); verdicts = All-nil VerdictWide; counts = All-nil CountsWide; glances = All-nil LookWide; looks = All-nil LookWide };
}

-- So there is a report with that row.
no_start : NoSuchReport (codes "start" ∷ []) (λ one. ⊤) → ⊥
no_start none = none one_start its_row tt

-- ---- faults

-- The rows before a fault are those of a report of the deck: a look of monitor 0 is none of these, since the deck has no monitor.
abbrev look_at_first : LookLine
look_at_first = record { monitor = 0; cycle = 0; total = 0 }

no_report_before : (text : List ℕ) (row kind : ℕ) (h : HasReportFault pair text row kind) → h.before ≡ record one_start { looks = look_at_first ∷ [] } → ⊥
no_report_before text row kind h is =
    let known : IsKnown pair (record one_start { looks = look_at_first ∷ [] }) = subst (IsKnown pair) is h.report.known in
    let low : 0 < 0 = known.looks 0 look_at_first (omega arith) in omega arith

-- A look of four fields doesn't have the least kind, that of a wrong number of fields.
abbrev look_row : List (List ℕ)
look_row = codes "look" ∷ codes "0" ∷ codes "0" ∷ codes "30" ∷ []

no_wrong_length : (text : List ℕ) (row : ℕ) (h : HasReportFault pair text row 1) → h.faulty ≡ look_row → ⊥
no_wrong_length text row h is = none h.which (subst (λ fields. Applies pair h.before fields h.which) is h.applies) h.kind_number_is
  where
    none : (which : ReportFaultKind) → Applies pair h.before look_row which → 1 ≡ report_kind_number which → ⊥
    none fault.Fields applies same = applies.1 refl
    none fault.Form applies same = omega (arith, same)
    none fault.Tag applies same = omega (arith, same)
    none fault.Order applies same = omega (arith, same)
    none fault.Update applies same = omega (arith, same)
    none fault.Deck applies same = omega (arith, same)
    none fault.Cycle applies same = omega (arith, same)

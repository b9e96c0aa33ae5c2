-- Reports that break one rule each: a number that is too wide, a commit out of turn, a name that the deck doesn't have, a cycle that didn't begin.
use Rattle.std.proofs.Common.{◌≡◌, ◌<◌, ◌≤◌, ◌^◌, ℕ, List, [], ◌∷◌, None, false, codes, refl, arith}
use Rattle.std.proofs.lemmas.List.Elements.{All-head}
use Rattle.air_base.specs.declared.verdicts.ReadOf.{ReadOf}
use Rattle.air_base.specs.declared.verdicts.VerdictKind.{VerdictKind}
use Rattle.air_base.specs.declared.verdicts.VerdictKind.TheVariants.{Accept, Aged, Unfinished}
use Rattle.air_history.specs.Histories.{is_start, starts}
use Rattle.air_history.specs.UpdateLists.{UpdateLists}
use Rattle.air_history.specs.declared.histories.Event.TheVariants.{Commit}
use Rattle.air_model.specs.Decks.{is_by}
use Rattle.air_model.specs.Reports.{Report}
use Rattle.air_model.specs.declared.reports.CountsLine.{CountsLine}
use Rattle.air_model.specs.declared.reports.LookLine.{LookLine}
use Rattle.air_model.specs.declared.reports.VerdictLine.{VerdictLine}
use Rattle.air_report.specs.ReportGrammar.{IsOneRow, SpellsReport}
use Rattle.air_report.specs.ReportRules.{CountsWide, CyclesBegun, EventWide, HasWidths, IsKnown, IsReport, IsTried, LookWide, ReadWide, VerdictWide}
use Rattle.air_report.proofs.TextExamples.{deck}

-- ---- lines

abbrev nothing : Report
nothing = record { history = []; verdicts = []; counts = []; glances = []; looks = [] }

-- The deck's update.
abbrev its_update : UpdateLists
its_update = record { reads = []; writes = record { item = 0; base = None; minus = false; amount = 5 } ∷ [] }

-- A verdict on the first attempt of a reader's first query.
abbrev verdict : ℕ → VerdictKind → List ReadOf → VerdictLine
verdict reader kind reads = record { reader = reader; verdict = record { query = 0; attempt = 1; kind = kind }; reads = reads }

-- How many buckets a reader opened.
abbrev counts : ℕ → ℕ → CountsLine
counts reader opened = record { reader = reader; counts = record { opened = opened; dozed = 0; late = 0; refused = 0; foreign = 0; copied = 0 } }

abbrev look : ℕ → ℕ → ℕ → LookLine
look monitor cycle total = record { monitor = monitor; cycle = cycle; total = total }

-- A read of an item that has 17 bits.
abbrev wide_read : ReadOf
wide_read = record { item = 65536; cycle = 1; value = 10 }

-- ---- widths

-- Each section has numbers that don't fit.
pub record TooWide : Type 0 where
  updater : HasWidths (record nothing { history = Commit 4294967296 0 its_update ∷ [] }) → ⊥
  reader : HasWidths (record nothing { verdicts = verdict 4294967296 Accept [] ∷ [] }) → ⊥
  count : HasWidths (record nothing { counts = counts 0 18446744073709551616 ∷ [] }) → ⊥
  glance : HasWidths (record nothing { glances = look 0 4294967296 30 ∷ [] }) → ⊥
  look : HasWidths (record nothing { looks = look 0 1 18446744073709551616 ∷ [] }) → ⊥
  -- a line with such a read, and with such an end
  a_read : VerdictWide (verdict 0 Accept (wide_read ∷ [])) → ⊥
  an_end : VerdictWide (verdict 0 (Aged 65536 1) []) → ⊥

too_wide : TooWide
too_wide = record {
  updater = λ h. let low : 4294967296 < 2 ^ 32 = (All-head EventWide (Commit 4294967296 0 its_update) [] h.events).0 in omega arith;
  reader = λ h. let low : 4294967296 < 2 ^ 32 = (All-head VerdictWide (verdict 4294967296 Accept []) [] h.verdicts).reader in omega arith;
  count = λ h. let low : 18446744073709551616 < 2 ^ 64 = (All-head CountsWide (counts 0 18446744073709551616) [] h.counts).opened in omega arith;
  glance = λ h. let low : 4294967296 < 2 ^ 32 = (All-head LookWide (look 0 4294967296 30) [] h.glances).cycle in omega arith;
  look = λ h. let low : 18446744073709551616 < 2 ^ 64 = (All-head LookWide (look 0 1 18446744073709551616) [] h.looks).total in omega arith;
  a_read = λ h. let low : 65536 < 2 ^ 16 = (All-head ReadWide wide_read [] h.reads).item in omega arith;
  an_end = λ h. let low : 65536 < 2 ^ 16 = h.end.0 in omega arith;
}

-- ---- what the deck has, and which cycles began

pub record Unknown : Type 0 where
  -- there is one reader, and one monitor
  reader : IsKnown deck (record nothing { verdicts = verdict 1 Unfinished [] ∷ [] }) → ⊥
  counting_reader : IsKnown deck (record nothing { counts = counts 1 2 ∷ [] }) → ⊥
  glancing_monitor : IsKnown deck (record nothing { glances = look 1 0 30 ∷ [] }) → ⊥
  looking_monitor : IsKnown deck (record nothing { looks = look 1 0 30 ∷ [] }) → ⊥
  -- one cycle began
  glance_of_two : CyclesBegun 1 (record nothing { glances = look 0 2 30 ∷ [] }) → ⊥
  look_of_two : CyclesBegun 1 (record nothing { looks = look 0 2 30 ∷ [] }) → ⊥
  read_of_two : CyclesBegun 1 (record nothing { verdicts = verdict 0 Unfinished (record { item = 0; cycle = 2; value = 10 } ∷ []) ∷ [] }) → ⊥

unknown : Unknown
unknown = record {
  reader = λ h. let low : 1 < 1 = (All-head (IsTried deck) (verdict 1 Unfinished []) [] h.verdicts).0 in omega arith;
  counting_reader = λ h. let low : 1 < 1 = All-head (λ (l : CountsLine). l.reader < 1) (counts 1 2) [] h.counts in omega arith;
  glancing_monitor = λ h. let low : 1 < 1 = All-head (λ (l : LookLine). l.monitor < 1) (look 1 0 30) [] h.glances in omega arith;
  looking_monitor = λ h. let low : 1 < 1 = All-head (λ (l : LookLine). l.monitor < 1) (look 1 0 30) [] h.looks in omega arith;
  glance_of_two = λ h. let low : 2 ≤ 1 = All-head (λ (l : LookLine). l.cycle ≤ 1) (look 0 2 30) [] h.glances in omega arith;
  look_of_two = λ h. let low : 2 ≤ 1 = All-head (λ (l : LookLine). l.cycle ≤ 1) (look 0 2 30) [] h.looks in omega arith;
  read_of_two = λ h. let low : 2 ≤ 1 = (h.verdicts 0 (verdict 0 Unfinished []) (omega arith) 0 (record { item = 0; cycle = 0 }) (omega arith)).1 in omega arith;
}

-- ---- reports

-- Each breaks one rule of the four, and keeps the others.
pub record NoReports : Type 0 where
  too_wide_count : IsReport deck (record nothing { counts = counts 0 18446744073709551616 ∷ [] }) → ⊥
  -- the updater's first commit has number 0
  out_of_turn : IsReport deck (record nothing { history = Commit 0 1 its_update ∷ [] }) → ⊥
  no_such_monitor : IsReport deck (record nothing { looks = look 1 0 30 ∷ [] }) → ⊥
  not_begun : IsReport deck (record nothing { looks = look 0 1 30 ∷ [] }) → ⊥
  -- so no text spells it as one of the deck, and a row of a number that is too wide is none
  not_spelled : SpellsReport deck (codes "look,1,0,30\n") (record nothing { looks = look 1 0 30 ∷ [] }) → ⊥
  no_row : IsOneRow (codes "look" ∷ codes "0" ∷ codes "4294967296" ∷ codes "30" ∷ []) (record nothing { looks = look 0 4294967296 30 ∷ [] }) → ⊥

no_reports : NoReports
unfolding is_by is_start starts
no_reports = record {
  too_wide_count = λ h. too_wide.count h.widths;
  out_of_turn = λ h. let number : 1 ≡ 0 = (h.legal 0 0 1 its_update refl).number in omega (arith, number);
  no_such_monitor = λ h. unknown.looking_monitor h.known;
  not_begun = λ h. let low : 1 ≤ 0 = All-head (λ (l : LookLine). l.cycle ≤ 0) (look 0 1 30) [] h.begun.looks in omega arith;
  not_spelled = λ h. unknown.looking_monitor h.report.known;
  no_row = λ h. let low : 4294967296 < 2 ^ 32 = (All-head LookWide (look 0 4294967296 30) [] h.widths.looks).cycle in omega arith;
}

-- The tests of a line alone, as conditions on the report with its row.
use Rattle.std.proofs.Common.{◌≡◌, ◌<◌, ◌≤◌, ◌∷◌, [], ℕ, List, All, true, refl, ap, subst, length}
use Rattle.std.proofs.lemmas.Bool.{le-leb, leb-true, lt-ltb, ltb-true}
use Rattle.std.proofs.lemmas.List.Elements.{All-cons, All-head, All-nil}
use Rattle.air_model.specs.Decks.{Deck}
use Rattle.air_model.specs.Reports.{Report}
use Rattle.air_model.specs.declared.reports.CountsLine.{CountsLine}
use Rattle.air_model.specs.declared.reports.LookLine.{LookLine}
use Rattle.air_report.specs.LineFaults.{is_begun, is_known}
use Rattle.air_report.specs.ReportLines.{ReportLines, lines_in, sections_of}
use Rattle.air_report.specs.ReportRules.{CyclesBegun, IsKnown, IsTried}
use Rattle.air_report.specs.declared.reading.lines.ReportLine.{ReportLine}
use Rattle.air_report.specs.declared.reading.lines.ReportLine.TheVariants as l
use Rattle.air_report.proofs.PrintedGrammar.{VerdictBegun, is_tried_of, is_verdict_begun, tried, verdict_begun}
use Rattle.air_report.proofs.PrintedReports.{own_line}

one : {A : Type 0} (P : A → Type 0) (x : A) → P x → All P (x ∷ [])
one P x h = All-cons P x [] h (All-nil P)

first : {A : Type 0} (P : A → Type 0) (xs : List A) (x : A) → xs ≡ x ∷ [] → All P xs → P x
first P xs x is a = All-head P x [] (subst (λ ys. All P ys) is a)

module _ (deck : Deck) where
  abbrev CountsKnown : CountsLine → Type 0
  CountsKnown x = x.reader < length deck.readers

  abbrev LookKnown : LookLine → Type 0
  LookKnown x = x.monitor < deck.settings.monitors

  pub known_one : (x : ReportLine) → is_known deck x ≡ true → IsKnown deck (own_line deck x)
  known_one (l.Event x) h = record { verdicts = All-nil (IsTried deck); counts = All-nil CountsKnown; glances = All-nil LookKnown; looks = All-nil LookKnown }
  known_one (l.Verdict x) h = record { verdicts = one (IsTried deck) x (tried deck x h); counts = All-nil CountsKnown; glances = All-nil LookKnown; looks = All-nil LookKnown }
  known_one (l.Counts x) h = record { verdicts = All-nil (IsTried deck); counts = one CountsKnown x (ltb-true x.reader (length deck.readers) h); glances = All-nil LookKnown; looks = All-nil LookKnown }
  known_one (l.Glance x) h = record { verdicts = All-nil (IsTried deck); counts = All-nil CountsKnown; glances = one LookKnown x (ltb-true x.monitor deck.settings.monitors h); looks = All-nil LookKnown }
  known_one (l.Look x) h = record { verdicts = All-nil (IsTried deck); counts = All-nil CountsKnown; glances = All-nil LookKnown; looks = one LookKnown x (ltb-true x.monitor deck.settings.monitors h) }

  pub known_told : (x : ReportLine) (line : Report) → lines_in line ≡ sections_of (x ∷ []) → IsKnown deck line → is_known deck x ≡ true
  known_told (l.Event x) line same k = refl
  known_told (l.Verdict x) line same k = is_tried_of deck x (first (IsTried deck) line.verdicts x (ap (λ (r : ReportLines). r.verdicts) same) k.verdicts)
  known_told (l.Counts x) line same k = lt-ltb x.reader (length deck.readers) (first CountsKnown line.counts x (ap (λ (r : ReportLines). r.counts) same) k.counts)
  known_told (l.Glance x) line same k = lt-ltb x.monitor deck.settings.monitors (first LookKnown line.glances x (ap (λ (r : ReportLines). r.glances) same) k.glances)
  known_told (l.Look x) line same k = lt-ltb x.monitor deck.settings.monitors (first LookKnown line.looks x (ap (λ (r : ReportLines). r.looks) same) k.looks)

  module _ (starts : ℕ) where
    abbrev LookBegun : LookLine → Type 0
    LookBegun x = x.cycle ≤ starts

    pub begun_one : (x : ReportLine) → is_begun starts x ≡ true → CyclesBegun starts (own_line deck x)
    begun_one (l.Event x) h = record { verdicts = All-nil (VerdictBegun starts); glances = All-nil LookBegun; looks = All-nil LookBegun }
    begun_one (l.Verdict x) h = record { verdicts = one (VerdictBegun starts) x (verdict_begun starts x h); glances = All-nil LookBegun; looks = All-nil LookBegun }
    begun_one (l.Counts x) h = record { verdicts = All-nil (VerdictBegun starts); glances = All-nil LookBegun; looks = All-nil LookBegun }
    begun_one (l.Glance x) h = record { verdicts = All-nil (VerdictBegun starts); glances = one LookBegun x (leb-true x.cycle starts h); looks = All-nil LookBegun }
    begun_one (l.Look x) h = record { verdicts = All-nil (VerdictBegun starts); glances = All-nil LookBegun; looks = one LookBegun x (leb-true x.cycle starts h) }

    pub begun_told : (x : ReportLine) (line : Report) → lines_in line ≡ sections_of (x ∷ []) → CyclesBegun starts line → is_begun starts x ≡ true
    begun_told (l.Event x) line same b = refl
    begun_told (l.Verdict x) line same b = is_verdict_begun starts x (first (VerdictBegun starts) line.verdicts x (ap (λ (r : ReportLines). r.verdicts) same) b.verdicts)
    begun_told (l.Counts x) line same b = refl
    begun_told (l.Glance x) line same b = le-leb x.cycle starts (first LookBegun line.glances x (ap (λ (r : ReportLines). r.glances) same) b.glances)
    begun_told (l.Look x) line same b = le-leb x.cycle starts (first LookBegun line.looks x (ap (λ (r : ReportLines). r.looks) same) b.looks)

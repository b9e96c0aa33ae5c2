-- A text determines the history of its report: its records are the report's rows, and exactly those of events have one field or three.
use Rattle.std.proofs.Common.{◌≡◌, ◌≤◌, ◌^◌, ◌++◌, ◌∷◌, [], ℕ, List, Bool, false, cond, refl, sym, ap, ◌∙◌, length, map, codes, inl, inr, arith}
use Rattle.std.specs.Prelude.{◌||◌, ◌==◌}
use Rattle.std.specs.List.{filter}
use Rattle.std.proofs.lemmas.Bool.{cases_lt}
use Rattle.std.proofs.lemmas.List.{append-nil, get_or_past}
use Rattle.std.proofs.lemmas.List.Elements.{filter-append}
use Rattle.std.proofs.lemmas.List.Sums.{get_or-le-sum_by}
use Rattle.air_base.specs.declared.verdicts.VerdictKind.{VerdictKind}
use Rattle.air_base.specs.declared.verdicts.VerdictKind.TheVariants as kind
use Rattle.air_history.specs.declared.histories.Event.{Event}
use Rattle.air_history.specs.declared.histories.Event.TheVariants as e
use Rattle.air_model.specs.Decks.{Deck, IsLegal, updates_by}
use Rattle.air_model.specs.DeckLaws.{HasNumbers}
use Rattle.air_model.specs.Reports.{Report, counts_row, event_row, kind_row, look_row, report_rows, report_text, verdict_row}
use Rattle.air_model.specs.declared.reports.VerdictLine.{VerdictLine}
use Rattle.air_model.proofs.RowLemmas.{one_rows}
use Rattle.item_catalog.specs.DeckLimits.{WithinLimits}
use Rattle.item_catalog.specs.Records.{records_of}
use Rattle.air_report.proofs.StandingLines.{plain_report}
use Rattle.item_catalog.proofs.WrittenRows.{written_rows}

-- A row of an event has one field or three; no other row does.
abbrev is_event_row : List (List ℕ) → Bool
is_event_row row = (length row == 1) || (length row == 3)

abbrev event_rows : List (List (List ℕ)) → List (List (List ℕ))
event_rows rows = filter is_event_row rows

module _ {L : Type 0} (row : L → List (List ℕ)) (none : (x : L) → is_event_row (row x) ≡ false) where
  no_events : (xs : List L) → event_rows (map row xs) ≡ []
  no_events [] = refl
  no_events (x ∷ xs) = ap (λ b. cond b (row x ∷ event_rows (map row xs)) (event_rows (map row xs))) (none x) ∙ no_events xs

  -- Such rows at the end leave the rows of events as they are.
  events_before : (rows : List (List (List ℕ))) (xs : List L) → event_rows (rows ++ map row xs) ≡ event_rows rows
  events_before rows xs = filter-append is_event_row rows (map row xs) ∙ ap (λ l. event_rows rows ++ l) (no_events xs) ∙ append-nil (event_rows rows)

all_events : (H : List Event) → event_rows (map event_row H) ≡ map event_row H
all_events [] = refl
all_events (e.Start ∷ H) = ap (λ l. event_row e.Start ∷ l) (all_events H)
all_events (e.Commit by seq update ∷ H) = ap (λ l. event_row (e.Commit by seq update) ∷ l) (all_events H)

no_verdict : (k : VerdictKind) (x : VerdictLine) → is_event_row (kind_row k x) ≡ false
no_verdict kind.Accept x = refl
no_verdict (kind.Abort item cycle clash) x = refl
no_verdict (kind.Aged item cycle) x = refl
no_verdict kind.Unfinished x = refl

report_events : (r : Report) → event_rows (report_rows r) ≡ map event_row r.history
report_events r =
    let H = map event_row r.history in let V = map verdict_row r.verdicts in let C = map counts_row r.counts in
    let G = map (look_row (codes "glance")) r.glances in
    events_before (look_row (codes "look")) (λ x. refl) (H ++ V ++ C ++ G) r.looks
    ∙ events_before (look_row (codes "glance")) (λ x. refl) (H ++ V ++ C) r.glances
    ∙ events_before counts_row (λ x. refl) (H ++ V) r.counts
    ∙ events_before verdict_row (λ x. no_verdict x.verdict.kind x) H r.verdicts
    ∙ all_events r.history

told_events : (r : Report) → event_rows (records_of (report_text r)) ≡ map event_row r.history
unfolding report_text
told_events r = ap event_rows (written_rows (report_rows r) (plain_report r)) ∙ report_events r

-- The numbers of a deck of the grammar fit.
few_numbers : (deck : Deck) → WithinLimits deck → HasNumbers deck
few_numbers deck within = record {
  updaters = let most = within.updaters in omega arith;
  updates = λ by. elim (cases_lt by (length deck.updates)) as (λ _. length (updates_by deck by) ≤ 2 ^ 64) [
    | inl l ↦ let part = get_or-le-sum_by length deck.updates by [] l in let most = within.updates in omega arith
    | inr past ↦ let none = ap length (get_or_past deck.updates by [] past) in omega arith
  ];
}

pub one_history : (deck : Deck) (r s : Report) → WithinLimits deck → IsLegal deck r.history → IsLegal deck s.history → report_text r ≡ report_text s → r.history ≡ s.history
one_history deck r s within a b same =
    one_rows deck r.history s.history (few_numbers deck within) a b (sym (told_events r) ∙ ap (λ text. event_rows (records_of text)) same ∙ told_events s)

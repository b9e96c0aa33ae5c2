-- The rules of a report's lines, as the reader tests them, are those of the report: tries of a query, what the deck has, and cycles that began.
use Rattle.std.proofs.Common.{◌≡◌, ◌≤◌, ◌+◌, ◌++◌, ◌∷◌, [], ℕ, suc, List, All, Option, Some, None, Bool, true, false, cond, ◌==◌, ◌&&◌, refl, sym, ap, ◌∙◌, subst, length, get_or, map, nat_eq, nat_le, nat_lt, take, slice_get, inl, inr, arith}
use Rattle.std.specs.Cmp.Lexicographic.{pointwise}
use Rattle.std.specs.List.{list_all, list_any}
use Rattle.std.specs.Option.{option_map_or}
use Rattle.std.proofs.lemmas.Bool.{and_from, and_parts, cases_eq, eq-eqb, false≢true, le-leb, leb-true, lt-ltb, ltb-true, ne_eqb}
use Rattle.std.proofs.lemmas.List.Elements.{All-append, All-cons, All-head, All-nil, All-tail}
use Rattle.std.proofs.lemmas.List.Sums.{sum_by-cons}
use Rattle.std.proofs.lemmas.Option.{get_or_from_slice_get, slice_get-get_or, slice_get_within}
use Rattle.air_base.specs.declared.verdicts.ReadOf.{ReadOf}
use Rattle.air_base.specs.declared.verdicts.VerdictKind.{VerdictKind}
use Rattle.air_base.specs.declared.verdicts.VerdictKind.TheVariants.{Accept, Abort, Aged, Unfinished}
use Rattle.air_history.specs.Histories.{is_start, starts}
use Rattle.air_history.specs.Reads.{ReadAt}
use Rattle.air_history.specs.declared.histories.Event.{Event}
use Rattle.air_history.specs.declared.histories.Event.TheVariants as e
use Rattle.air_model.specs.Decks.{Deck, IsLegal}
use Rattle.air_model.specs.Reports.{Report}
use Rattle.air_model.specs.SessionLaws.{decided_on, follows_query}
use Rattle.air_model.specs.Sessions.{is_wanted}
use Rattle.air_model.specs.declared.deck.ReaderPlan.{ReaderPlan}
use Rattle.air_model.specs.declared.reports.VerdictLine.{VerdictLine}
use Rattle.air_report.specs.LineFaults.{end_begun, follow, has_begun, is_begun, is_tried, leads, may_end, read_item}
use Rattle.air_report.specs.LineRules.{InGrammar}
use Rattle.air_report.specs.ReportLines.{ReportLines, event_in, its_line, lines_in, report_in, starts_cycle, starts_in}
use Rattle.air_report.specs.ReportRules.{CyclesBegun, HasWidths, IsKnown, IsReport, IsTried, MayEnd}
use Rattle.air_report.specs.declared.reading.lines.EventLine.TheVariants as line
use Rattle.air_report.specs.declared.reading.lines.ReportLine.TheVariants as l
use Rattle.air_report.proofs.LegalLines.{legal}
use Rattle.air_report.proofs.PrintedReports.{named_back}
use Rattle.air_report.proofs.SameHistories.{legal_next}

-- ---- queries

leading_same : (items query : List ℕ) → leads items query ≡ pointwise nat_eq items (take (length items) query)
leading_same [] query = refl
leading_same (x ∷ items) [] = refl
leading_same (x ∷ items) (y ∷ query) = ap (λ b. (x == y) && b) (leading_same items query)

next_same : (a b : ℕ) → (suc a == suc b) ≡ (a == b)
next_same a b = elim (cases_eq a b) [
  | inl same ↦ let next : suc a ≡ suc b = ap suc same in eq-eqb (suc a) (suc b) next ∙ sym (eq-eqb a b same)
  | inr other ↦ ne_eqb (suc a) (suc b) (λ next. other (omega (arith, next))) ∙ sym (ne_eqb a b other)
]

whole_same : (items query : List ℕ) → (leads items query && (length items == length query)) ≡ pointwise nat_eq items query
whole_same [] [] = refl
whole_same [] (y ∷ query) = let none : (0 == length (y ∷ query)) ≡ false = grind arith in none
whole_same (x ∷ items) [] = refl
whole_same (x ∷ items) (y ∷ query) = by (x == y) (whole_same items query)
  where
    longer : (length (x ∷ items) == length (y ∷ query)) ≡ (length items == length query)
    longer = next_same (length items) (length query)

    by : (b : Bool) → (leads items query && (length items == length query)) ≡ pointwise nat_eq items query
        → ((b && leads items query) && (length (x ∷ items) == length (y ∷ query))) ≡ (b && pointwise nat_eq items query)
    by true h = ap (λ c. leads items query && c) longer ∙ h
    by false h = refl

wanted_same : (o : Option ℕ) (item : ℕ) → option_map_or (λ next. next == item) o false ≡ is_wanted o item
wanted_same None item = refl
wanted_same (Some next) item = refl

and_again : (a b c : Bool) → ((a && b) && c) ≡ (a && (b && c))
and_again true b c = refl
and_again false b c = refl

same_follow : (query items : List ℕ) (end : VerdictKind) → follow query items end ≡ follows_query query end items
unfolding follows_query
same_follow query items Accept = whole_same items query
same_follow query items (Abort item cycle clash) =
    let test = list_any (λ other. other == clash) items in let next = option_map_or (λ next. next == item) (slice_get query (length items)) false in
    and_again (leads items query) next test ∙ ap (λ b. b && (next && test)) (leading_same items query)
    ∙ ap (λ b. pointwise nat_eq items (take (length items) query) && (b && test)) (wanted_same (slice_get query (length items)) item)
same_follow query items (Aged item cycle) =
    let next = option_map_or (λ next. next == item) (slice_get query (length items)) false in
    ap (λ b. b && next) (leading_same items query) ∙ ap (λ b. pointwise nat_eq items (take (length items) query) && b) (wanted_same (slice_get query (length items)) item)
same_follow query items Unfinished = ap (λ b. b && nat_lt (length items) (length query)) (leading_same items query)

-- ---- attempts

found : {X : Type 0} (f : X → Bool) (o : Option X) → option_map_or f o false ≡ true → (x : X) × (o ≡ Some x) × (f x ≡ true)
found f None h = absurd (false≢true h)
found f (Some x) h = (x, refl, h)

-- An attempt ends as it may end.
ends_so : (version : ℕ) (end : VerdictKind) → may_end version end ≡ true → MayEnd version end
ends_so version Accept h = λ none. absurd none
ends_so version (Abort item cycle clash) h = λ none. absurd none
ends_so version (Aged item cycle) h = λ aged. h
ends_so version Unfinished h = λ none. absurd none

may_end_so : (version : ℕ) (end : VerdictKind) → MayEnd version end → may_end version end ≡ true
may_end_so version Accept h = refl
may_end_so version (Abort item cycle clash) h = refl
may_end_so version (Aged item cycle) h = h tt
may_end_so version Unfinished h = refl

abbrev no_plan : ReaderPlan
no_plan = record { room = 0; age = 0; tries = 0 }

module _ (deck : Deck) (x : VerdictLine) where
  abbrev items : List ℕ
  items = map read_item x.reads

  abbrev queries : List (List ℕ)
  queries = get_or deck.queries x.reader []

  abbrev tries : ReaderPlan → Bool
  tries plan = nat_le 1 x.verdict.attempt && nat_le x.verdict.attempt plan.tries

  abbrev asks : List ℕ → Bool
  asks query = follow query items x.verdict.kind

  pub tried : is_tried deck x ≡ true → IsTried deck x
  tried h =
      let whole = and_parts (option_map_or tries (slice_get deck.readers x.reader) false && option_map_or asks (slice_get queries x.verdict.query) false) (may_end deck.settings.version x.verdict.kind) h in
      let both = and_parts (option_map_or tries (slice_get deck.readers x.reader) false) (option_map_or asks (slice_get queries x.verdict.query) false) whole.0 in
      let plan = found tries (slice_get deck.readers x.reader) both.0 in
      let query = found asks (slice_get queries x.verdict.query) both.1 in
      let each = and_parts (nat_le 1 x.verdict.attempt) (nat_le x.verdict.attempt plan.0.tries) plan.2 in
      let same : get_or deck.readers x.reader no_plan ≡ plan.0 = get_or_from_slice_get deck.readers x.reader plan.0 no_plan plan.1 in
      let asked : get_or queries x.verdict.query [] ≡ query.0 = get_or_from_slice_get queries x.verdict.query query.0 [] query.1 in (
        slice_get_within deck.readers x.reader plan.0 plan.1,
        record {
          query = slice_get_within queries x.verdict.query query.0 query.1;
          begun = leb-true 1 x.verdict.attempt each.0;
          tried = subst (λ (p : ReaderPlan). x.verdict.attempt ≤ p.tries) (sym same) (leb-true x.verdict.attempt plan.0.tries each.1);
          follows = ap (λ q. follows_query q x.verdict.kind items) asked ∙ sym (same_follow query.0 items x.verdict.kind) ∙ query.2;
        },
        ends_so deck.settings.version x.verdict.kind whole.1,
      )

  pub is_tried_of : IsTried deck x → is_tried deck x ≡ true
  is_tried_of h =
      let own = h.1 in
      let plan = slice_get-get_or deck.readers x.reader no_plan h.0 in
      let query = slice_get-get_or queries x.verdict.query [] own.query in
      let follows : asks (get_or queries x.verdict.query []) ≡ true = same_follow (get_or queries x.verdict.query []) items x.verdict.kind ∙ own.follows in
      let both = and_from (option_map_or tries (slice_get deck.readers x.reader) false) (option_map_or asks (slice_get queries x.verdict.query) false)
      (ap (λ o. option_map_or tries o false) plan
      ∙ and_from (nat_le 1 x.verdict.attempt) (nat_le x.verdict.attempt (get_or deck.readers x.reader no_plan).tries) (le-leb 1 x.verdict.attempt own.begun)
      (le-leb x.verdict.attempt (get_or deck.readers x.reader no_plan).tries own.tried))
      (ap (λ o. option_map_or asks o false) query ∙ follows) in
      and_from (option_map_or tries (slice_get deck.readers x.reader) false && option_map_or asks (slice_get queries x.verdict.query) false) (may_end deck.settings.version x.verdict.kind) both
      (may_end_so deck.settings.version x.verdict.kind h.2)

-- ---- cycles

-- A read's cycle is one of the first `starts`.
abbrev pub Begun : ℕ → ReadAt → Type 0
Begun starts read = (1 ≤ read.cycle) × (read.cycle ≤ starts)

abbrev at : ReadOf → ReadAt
at r = record { item = r.item; cycle = r.cycle }

cycle_begun : (starts cycle : ℕ) → has_begun starts cycle ≡ true → (1 ≤ cycle) × (cycle ≤ starts)
cycle_begun starts cycle h = let both = and_parts (nat_le 1 cycle) (nat_le cycle starts) h in (leb-true 1 cycle both.0, leb-true cycle starts both.1)

is_cycle_begun : (starts cycle : ℕ) → (1 ≤ cycle) × (cycle ≤ starts) → has_begun starts cycle ≡ true
is_cycle_begun starts cycle h = and_from (nat_le 1 cycle) (nat_le cycle starts) (le-leb 1 cycle h.0) (le-leb cycle starts h.1)

module _ (starts : ℕ) where
  abbrev all_begun : List ReadOf → Bool
  all_begun reads = list_all (λ read. has_begun starts read.cycle) reads

  reads_begun : (reads : List ReadOf) → all_begun reads ≡ true → All (Begun starts) (map at reads)
  reads_begun [] h = All-nil (Begun starts)
  reads_begun (r ∷ reads) h =
      let both = and_parts (has_begun starts r.cycle) (all_begun reads) h in
      All-cons (Begun starts) (at r) (map at reads) (cycle_begun starts r.cycle both.0) (reads_begun reads both.1)

  are_reads_begun : (reads : List ReadOf) → All (Begun starts) (map at reads) → all_begun reads ≡ true
  are_reads_begun [] h = refl
  are_reads_begun (r ∷ reads) h =
      and_from (has_begun starts r.cycle) (all_begun reads) (is_cycle_begun starts r.cycle (All-head (Begun starts) (at r) (map at reads) h))
      (are_reads_begun reads (All-tail (Begun starts) (at r) (map at reads) h))

  refused_begun : (item cycle : ℕ) (reads : List ReadOf) → (all_begun reads && has_begun starts cycle) ≡ true → All (Begun starts) (map at reads ++ record { item = item; cycle = cycle } ∷ [])
  refused_begun item cycle reads h =
      let both = and_parts (all_begun reads) (has_begun starts cycle) h in let last : ReadAt = record { item = item; cycle = cycle } in
      All-append (Begun starts) (map at reads) (last ∷ []) (reads_begun reads both.0) (All-cons (Begun starts) last [] (cycle_begun starts cycle both.1) (All-nil (Begun starts)))

  ended_begun : (end : VerdictKind) (reads : List ReadOf) → (all_begun reads && end_begun starts end) ≡ true → All (Begun starts) (decided_on end (map at reads))
  ended_begun Accept reads h = reads_begun reads (and_parts (all_begun reads) true h).0
  ended_begun Unfinished reads h = reads_begun reads (and_parts (all_begun reads) true h).0
  ended_begun (Abort item cycle clash) reads h = refused_begun item cycle reads h
  ended_begun (Aged item cycle) reads h = refused_begun item cycle reads h

  left : (xs ys : List ReadAt) → All (Begun starts) (xs ++ ys) → All (Begun starts) xs
  left [] ys h = All-nil (Begun starts)
  left (x ∷ xs) ys h = All-cons (Begun starts) x xs (All-head (Begun starts) x (xs ++ ys) h) (left xs ys (All-tail (Begun starts) x (xs ++ ys) h))

  right : (xs ys : List ReadAt) → All (Begun starts) (xs ++ ys) → All (Begun starts) ys
  right [] ys h = h
  right (x ∷ xs) ys h = right xs ys (All-tail (Begun starts) x (xs ++ ys) h)

  is_refused_begun : (item cycle : ℕ) (reads : List ReadOf) → All (Begun starts) (map at reads ++ record { item = item; cycle = cycle } ∷ []) → (all_begun reads && has_begun starts cycle) ≡ true
  is_refused_begun item cycle reads h =
      let last : ReadAt = record { item = item; cycle = cycle } in
      and_from (all_begun reads) (has_begun starts cycle) (are_reads_begun reads (left (map at reads) (last ∷ []) h))
      (is_cycle_begun starts cycle (All-head (Begun starts) last [] (right (map at reads) (last ∷ []) h)))

  is_ended_begun : (end : VerdictKind) (reads : List ReadOf) → All (Begun starts) (decided_on end (map at reads)) → (all_begun reads && end_begun starts end) ≡ true
  is_ended_begun Accept reads h = and_from (all_begun reads) true (are_reads_begun reads h) refl
  is_ended_begun Unfinished reads h = and_from (all_begun reads) true (are_reads_begun reads h) refl
  is_ended_begun (Abort item cycle clash) reads h = is_refused_begun item cycle reads h
  is_ended_begun (Aged item cycle) reads h = is_refused_begun item cycle reads h

  -- The cycles of a verdict.
  abbrev pub VerdictBegun : VerdictLine → Type 0
  VerdictBegun x = All (Begun starts) (decided_on x.verdict.kind (map at x.reads))

  pub verdict_begun : (x : VerdictLine) → is_begun starts (l.Verdict x) ≡ true → VerdictBegun x
  verdict_begun x h = ended_begun x.verdict.kind x.reads h

  pub is_verdict_begun : (x : VerdictLine) → VerdictBegun x → is_begun starts (l.Verdict x) ≡ true
  is_verdict_begun x h = is_ended_begun x.verdict.kind x.reads h

-- The lines of a history have as many starts as the history.
pub starts_of : (H : List Event) → starts_in (map its_line H) ≡ starts H
unfolding starts is_start
starts_of [] = refl
starts_of (e.Commit by seq u ∷ H) = sum_by-cons (λ x. cond (starts_cycle x) 1 0) (line.Commit by seq) (map its_line H) ∙ ap (λ n. 0 + n) (starts_of H) ∙ sym (sum_by-cons (λ x. cond (is_start x) 1 0) (e.Commit by seq u) H)
starts_of (e.Start ∷ H) = sum_by-cons (λ x. cond (starts_cycle x) 1 0) line.Start (map its_line H) ∙ ap (λ n. 1 + n) (starts_of H) ∙ sym (sum_by-cons (λ x. cond (is_start x) 1 0) e.Start H)

-- ---- reports

module _ (deck : Deck) where
  -- The lines of a report of the deck are in the grammar.
  pub grammar_of : (r : Report) → IsLegal deck r.history → IsKnown deck r → CyclesBegun (starts r.history) r → InGrammar deck (lines_in r)
  grammar_of r legal known begun =
      let same = starts_of r.history in record {
        events = legal_next deck r.history legal;
        verdicts = λ k d below. record {
          known = is_tried_of deck (get_or r.verdicts k d) (known.verdicts k d below);
          begun = ap (λ n. is_begun n (l.Verdict (get_or r.verdicts k d))) same ∙ is_verdict_begun (starts r.history) (get_or r.verdicts k d) (begun.verdicts k d below);
        };
        counts = λ k d below. record { known = lt-ltb (get_or r.counts k d).reader (length deck.readers) (known.counts k d below); begun = refl };
        glances = λ k d below. record {
          known = lt-ltb (get_or r.glances k d).monitor deck.settings.monitors (known.glances k d below);
          begun = ap (λ n. is_begun n (l.Glance (get_or r.glances k d))) same ∙ le-leb (get_or r.glances k d).cycle (starts r.history) (begun.glances k d below);
        };
        looks = λ k d below. record {
          known = lt-ltb (get_or r.looks k d).monitor deck.settings.monitors (known.looks k d below);
          begun = ap (λ n. is_begun n (l.Look (get_or r.looks k d))) same ∙ le-leb (get_or r.looks k d).cycle (starts r.history) (begun.looks k d below);
        };
      }

  -- Lines in the grammar name what the deck has, and cycles that began.
  pub known_of : (r : ReportLines) → InGrammar deck r → IsKnown deck (report_in deck r)
  known_of r g = record {
    verdicts = λ k d below. tried deck (get_or r.verdicts k d) (g.verdicts k d below).known;
    counts = λ k d below. ltb-true (get_or r.counts k d).reader (length deck.readers) (g.counts k d below).known;
    glances = λ k d below. ltb-true (get_or r.glances k d).monitor deck.settings.monitors (g.glances k d below).known;
    looks = λ k d below. ltb-true (get_or r.looks k d).monitor deck.settings.monitors (g.looks k d below).known;
  }

  pub begun_of : (r : ReportLines) → InGrammar deck r → CyclesBegun (starts (report_in deck r).history) (report_in deck r)
  begun_of r g =
      let H = map (event_in deck) r.events in
      let same : starts H ≡ starts_in r.events = sym (starts_of H) ∙ ap starts_in (named_back deck r.events) in record {
        verdicts = λ k d below. verdict_begun (starts H) (get_or r.verdicts k d) (ap (λ n. is_begun n (l.Verdict (get_or r.verdicts k d))) same ∙ (g.verdicts k d below).begun);
        glances = λ k d below. leb-true (get_or r.glances k d).cycle (starts H) (ap (λ n. is_begun n (l.Glance (get_or r.glances k d))) same ∙ (g.glances k d below).begun);
        looks = λ k d below. leb-true (get_or r.looks k d).cycle (starts H) (ap (λ n. is_begun n (l.Look (get_or r.looks k d))) same ∙ (g.looks k d below).begun);
      }

  pub report_of_lines : (r : ReportLines) → HasWidths (report_in deck r) → InGrammar deck r → IsReport deck (report_in deck r)
  report_of_lines r wide g = record { widths = wide; legal = legal deck r.events g.events; known = known_of r g; begun = begun_of r g }

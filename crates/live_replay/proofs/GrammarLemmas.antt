-- What lines in the grammar give a replay: items of the deck, and cycles from 1 on.
use Rattle.std.proofs.Common.{◌≡◌, ℕ, ◌<◌, ◌≤◌, Bool, true, false, ◌==◌, nat_le, Option, Some, None, List, [], ◌∷◌, length, get_or, map, All, refl, sym, ap, subst, inl, inr, arith}
use Rattle.std.specs.Prelude.{slice_get}
use Rattle.std.specs.List.{list_all}
use Rattle.std.specs.Option.{option_map_or}
use Rattle.std.proofs.lemmas.Bool.{and_parts, cases_lt, eqb-true, leb-true, false≢true}
use Rattle.std.proofs.lemmas.List.{get_or_past}
use Rattle.std.proofs.lemmas.List.Elements.{All-cons, All-head, All-map, All-nil, All-tail}
use Rattle.std.proofs.lemmas.List.Sums.{AllPass-from_list_all}
use Rattle.std.proofs.lemmas.Option.{get_or_from_slice_get, slice_get_within}
use Rattle.air_base.specs.declared.verdicts.ReadOf.{ReadOf}
use Rattle.air_base.specs.declared.verdicts.VerdictKind.{VerdictKind}
use Rattle.air_base.specs.declared.verdicts.VerdictKind.TheVariants.{Accept, Abort, Aged, Unfinished}
use Rattle.air_history.specs.Histories.{starts}
use Rattle.air_history.specs.Reads.{IsRead}
use Rattle.air_model.specs.Decks.{Deck, IsDeck, IsQuery}
use Rattle.air_model.specs.Reports.{Report}
use Rattle.air_model.specs.declared.reports.VerdictLine.{VerdictLine}
use Rattle.air_report.specs.LineFaults.{end_begun, follow, has_begun, leads, read_item}
use Rattle.air_report.specs.ReportLines.{lines_in, starts_in}
use Rattle.air_report.specs.declared.reading.lines.ReportLine.TheVariants as l
use Rattle.air_report.specs.LineRules.{InGrammar, IsRight}
use Rattle.air_report.proofs.PrintedGrammar.{starts_of}
use Rattle.live_replay.specs.Findings.{place_of_line, places_read}
use Rattle.live_replay.specs.Private.Groups.{IsItemRead}
use Rattle.live_replay.specs.Private.Lines.{EndFits, LineFits}

told : {X : Type 0} (f : X → Bool) (o : Option X) → option_map_or f o false ≡ true → (x : X) × (o ≡ Some x) × (f x ≡ true)
told f None h = absurd (false≢true h)
told f (Some x) h = (x, refl, h)

front_fits : (n : ℕ) (items query : List ℕ) → leads items query ≡ true → All (λ i. i < n) query → All (λ i. i < n) items
front_fits n [] query h fits = All-nil (λ i. i < n)
front_fits n (x ∷ items) [] h fits = absurd (false≢true h)
front_fits n (x ∷ items) (y ∷ query) h fits =
    let both = and_parts (x == y) (leads items query) h in
    All-cons (λ i. i < n) x items (subst (λ i. i < n) (sym (eqb-true x y both.0)) (All-head (λ i. i < n) y query fits)) (front_fits n items query both.1 (All-tail (λ i. i < n) y query fits))

follow_leads : (query items : List ℕ) (kind : VerdictKind) → follow query items kind ≡ true → leads items query ≡ true
follow_leads query items Accept h = (and_parts _ _ h).0
follow_leads query items (Abort item cycle clash) h = (and_parts _ _ (and_parts _ _ h).0).0
follow_leads query items (Aged item cycle) h = (and_parts _ _ h).0
follow_leads query items Unfinished h = (and_parts _ _ h).0

-- The next item of a query is below n if the query's items are.
next_fits : (n : ℕ) (query : List ℕ) (k item : ℕ) → option_map_or (λ next. next == item) (slice_get query k) false ≡ true → All (λ i. i < n) query → item < n
next_fits n query k item h fits =
    let next = told (λ next. next == item) (slice_get query k) h in
    let at : get_or query k 0 ≡ next.0 = get_or_from_slice_get query k next.0 0 next.1 in
    let below : get_or query k 0 < n = fits k 0 (slice_get_within query k next.0 next.1) in
    let same : next.0 ≡ item = eqb-true next.0 item next.2 in
    omega arith

end_fits : (n starts : ℕ) (query items : List ℕ) (kind : VerdictKind) → follow query items kind ≡ true → All (λ i. i < n) query → end_begun starts kind ≡ true → EndFits n starts kind
end_fits n starts query items Accept asked fits h = tt
end_fits n starts query items (Abort item cycle clash) asked fits h =
    let both = and_parts (nat_le 1 cycle) (nat_le cycle starts) h in
    (next_fits n query (length items) item (and_parts _ _ (and_parts _ _ asked).0).1 fits, leb-true 1 cycle both.0, leb-true cycle starts both.1)
end_fits n starts query items (Aged item cycle) asked fits h = leb-true cycle starts (and_parts _ _ h).1
end_fits n starts query items Unfinished asked fits h = tt

unmapped : (n : ℕ) (reads : List ReadOf) → All (λ i. i < n) (map read_item reads) → All (λ r. r.item < n) reads
unmapped n [] h = All-nil (λ r. r.item < n)
unmapped n (r ∷ reads) h = All-cons (λ r. r.item < n) r reads (All-head (λ i. i < n) r.item (map read_item reads) h) (unmapped n reads (All-tail (λ i. i < n) r.item (map read_item reads) h))

begun_reads : (starts : ℕ) (reads : List ReadOf) → list_all (λ read. has_begun starts read.cycle) reads ≡ true → All IsRead (places_read reads)
begun_reads starts reads h = All-map IsRead place_of_line reads (λ k d l. leb-true 1 (get_or reads k d).cycle (and_parts _ _ (AllPass-from_list_all (λ read. has_begun starts read.cycle) reads h k d l)).0)

reads_within : (starts : ℕ) (reads : List ReadOf) → list_all (λ read. has_begun starts read.cycle) reads ≡ true → All (λ r. r.cycle ≤ starts) reads
reads_within starts reads h = λ k d l. leb-true (get_or reads k d).cycle starts (and_parts _ _ (AllPass-from_list_all (λ read. has_begun starts read.cycle) reads h k d l)).1

item_reads : (n starts : ℕ) (reads : List ReadOf) → All (λ r. r.item < n) reads → list_all (λ read. has_begun starts read.cycle) reads ≡ true → All (IsItemRead n) reads
item_reads n starts reads items h = λ k d l. record {
  item = items k d l;
  begun = leb-true 1 (get_or reads k d).cycle (and_parts _ _ (AllPass-from_list_all (λ read. has_begun starts read.cycle) reads h k d l)).0;
}

line_fits : (deck : Deck) (starts : ℕ) (line : VerdictLine) → IsDeck deck → IsRight deck starts (l.Verdict line) → LineFits (length deck.items) starts line
line_fits deck starts line is right =
    let n = length deck.items in
    let queries = get_or deck.queries line.reader [] in
    let asked = told (λ query. follow query (map read_item line.reads) line.verdict.kind) (slice_get queries line.verdict.query) (and_parts _ _ (and_parts _ _ right.known).0).1 in
    let at : get_or queries line.verdict.query [] ≡ asked.0 = get_or_from_slice_get queries line.verdict.query asked.0 [] asked.1 in
    let some = slice_get_within queries line.verdict.query asked.0 asked.1 in
    let fits : All (λ i. i < n) asked.0 = (subst (IsQuery n) at (is.queries line.reader [] (reader_within line.reader some) line.verdict.query [] some)).within in
    let items : All (λ r. r.item < n) line.reads = unmapped n line.reads (front_fits n (map read_item line.reads) asked.0 (follow_leads asked.0 (map read_item line.reads) line.verdict.kind asked.2) fits) in
    record {
      items = items;
      reads = item_reads n starts line.reads items (and_parts _ _ right.begun).0;
      begun = begun_reads starts line.reads (and_parts _ _ right.begun).0;
      within = reads_within starts line.reads (and_parts _ _ right.begun).0;
      end = end_fits n starts asked.0 (map read_item line.reads) line.verdict.kind asked.2 fits (and_parts _ _ right.begun).1;
    }
  where
    reader_within : (r : ℕ) → line.verdict.query < length (get_or deck.queries r []) → r < length deck.queries
    reader_within r l = elim (cases_lt r (length deck.queries)) as (λ _. r < length deck.queries) [
      | inl below ↦ below
      | inr past ↦ absurd (let none = ap length (get_or_past deck.queries r [] past) in omega arith)
    ]

pub grammar_fits : (deck : Deck) (report : Report) → IsDeck deck → InGrammar deck (lines_in report) → All (LineFits (length deck.items) (starts report.history)) report.verdicts
grammar_fits deck report is g = λ k d l. subst (λ n. LineFits (length deck.items) n (get_or report.verdicts k d)) (starts_of report.history) (line_fits deck (starts_in (lines_in report).events) (get_or report.verdicts k d) is (g.verdicts k d l))

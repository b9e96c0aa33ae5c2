-- The rows of a report are those printed of its lines, section by section; and these rows determine its lines.
use Rattle.std.proofs.Common.{◌≡◌, ◌++◌, ◌∷◌, [], ℕ, List, All, Option, Some, None, Ok, refl, sym, ap, ◌∙◌, codes, map}
use Rattle.std.specs.List.{filter_map}
use Rattle.std.proofs.lemmas.List.{append-nil, map-append}
use Rattle.std.proofs.lemmas.List.Elements.{All-append, All-cons, All-head, All-nil, All-tail, filter_map-append}
use Rattle.air_history.specs.declared.histories.Event.{Event}
use Rattle.air_history.specs.declared.histories.Event.TheVariants as e
use Rattle.air_model.specs.Decks.{Deck}
use Rattle.air_model.specs.Reports.{Report, counts_row, event_row, look_row, report_rows, verdict_row}
use Rattle.air_model.specs.declared.reports.CountsLine.{CountsLine}
use Rattle.air_model.specs.declared.reports.LookLine.{LookLine}
use Rattle.air_model.specs.declared.reports.VerdictLine.{VerdictLine}
use Rattle.air_report.specs.LineRules.{LineWide, LinesWide}
use Rattle.air_report.specs.LineTexts.{spelled_line}
use Rattle.air_report.specs.ReportGrammar.{IsOneRow, joined}
use Rattle.air_report.specs.ReportLines.{ReportLines, event_in, its_counts, its_event, its_glance, its_line, its_look, its_verdict, lines_in, report_in, sections_of}
use Rattle.air_report.specs.ReportRules.{CountsWide, EventWide, HasWidths, LookWide, VerdictWide}
use Rattle.air_report.specs.Private.RecordAnswers.{with_one_line}
use Rattle.air_report.specs.declared.reading.lines.EventLine.{EventLine}
use Rattle.air_report.specs.declared.reading.lines.EventLine.TheVariants.{Commit, Start}
use Rattle.air_report.specs.declared.reading.lines.ReportLine.{ReportLine}
use Rattle.air_report.specs.declared.reading.lines.ReportLine.TheVariants as l
use Rattle.air_report.proofs.LineOrder.{together}
use Rattle.air_report.proofs.PrintedFields.{Printed, Row, Wide, all_told, line_row, line_spelled}
use Rattle.air_report.proofs.PrintedReads.{same_append, same_cons}
use Rattle.air_report.proofs.PrintedRows.{printed}

-- ---- rows

mapped : {L : Type 0} (wrap : L → ReportLine) (row : L → Row) → ((x : L) → line_row (wrap x) ≡ row x) → (xs : List L) → map line_row (map wrap xs) ≡ map row xs
mapped wrap row same [] = refl
mapped wrap row same (x ∷ xs) = same_cons (same x) (mapped wrap row same xs)

events_mapped : (H : List Event) → map line_row (map l.Event (map its_line H)) ≡ map event_row H
events_mapped [] = refl
events_mapped (e.Commit by seq update ∷ H) = ap (λ rs. event_row (e.Commit by seq update) ∷ rs) (events_mapped H)
events_mapped (e.Start ∷ H) = ap (λ rs. event_row e.Start ∷ rs) (events_mapped H)

-- The rows of the lines of a report are the report's.
pub rows_of_lines : (r : Report) → map line_row (together (lines_in r)) ≡ report_rows r
rows_of_lines r =
    let E = map l.Event (map its_line r.history) in let V = map l.Verdict r.verdicts in let C = map l.Counts r.counts in
    let G = map l.Glance r.glances in let K = map l.Look r.looks in
    map-append line_row (E ++ V ++ C ++ G) K
    ∙ same_append (map-append line_row (E ++ V ++ C) G
    ∙ same_append (map-append line_row (E ++ V) C
    ∙ same_append (map-append line_row E V ∙ same_append (events_mapped r.history) (mapped l.Verdict verdict_row (λ x. refl) r.verdicts))
    (mapped l.Counts counts_row (λ x. refl) r.counts))
    (mapped l.Glance (look_row (codes "glance")) (λ x. refl) r.glances))
    (mapped l.Look (look_row (codes "look")) (λ x. refl) r.looks)

-- Records that spell lines are the rows of these.
pub lines_of_rows : (version : ℕ) (rows : List Row) (lines : List ReportLine) → map (spelled_line version) rows ≡ map Ok lines → (rows ≡ map line_row lines) × All Wide lines
lines_of_rows version [] [] h = (refl, All-nil Wide)
lines_of_rows version [] (x ∷ lines) h = cc h
lines_of_rows version (row ∷ rows) [] h = cc h
lines_of_rows version (row ∷ rows) (x ∷ lines) h =
    let here : spelled_line version row ≡ Ok x = cc h in let more : map (spelled_line version) rows ≡ map Ok lines = cc h in
    let one = printed version row x here in let rest = lines_of_rows version rows lines more in
    (same_cons one.row_is rest.0, All-cons Wide x lines one.wide rest.1)

-- A line's row determines the line: in version 2 the row spells it.
pub row_tells : (x y : ReportLine) → Wide x → Wide y → line_row x ≡ line_row y → x ≡ y
row_tells x y a b h = let told = sym (line_spelled 2 x a (all_told x)) ∙ ap (spelled_line 2) h ∙ line_spelled 2 y b (all_told y) in cc told

-- Rows determine their lines.
pub rows_tell : (xs ys : List ReportLine) → All Wide xs → All Wide ys → map line_row xs ≡ map line_row ys → xs ≡ ys
rows_tell [] [] a b h = refl
rows_tell [] (y ∷ ys) a b h = cc h
rows_tell (x ∷ xs) [] a b h = cc h
rows_tell (x ∷ xs) (y ∷ ys) a b h =
    let here : line_row x ≡ line_row y = cc h in let more : map line_row xs ≡ map line_row ys = cc h in
    same_cons (row_tells x y (All-head Wide x xs a) (All-head Wide y ys b) here) (rows_tell xs ys (All-tail Wide x xs a) (All-tail Wide y ys b) more)

-- ---- widths

wrapped : {L : Type 0} (P : L → Type 0) (wrap : L → ReportLine) → ((x : L) → P x → Wide (wrap x)) → (xs : List L) → All P xs → All Wide (map wrap xs)
wrapped P wrap fits [] a = All-nil Wide
wrapped P wrap fits (x ∷ xs) a = All-cons Wide (wrap x) (map wrap xs) (fits x (All-head P x xs a)) (wrapped P wrap fits xs (All-tail P x xs a))

unwrapped : {L : Type 0} (P : L → Type 0) (wrap : L → ReportLine) → ((x : L) → Wide (wrap x) → P x) → (xs : List L) → All Wide (map wrap xs) → All P xs
unwrapped P wrap fits [] a = All-nil P
unwrapped P wrap fits (x ∷ xs) a = All-cons P x xs (fits x (All-head Wide (wrap x) (map wrap xs) a)) (unwrapped P wrap fits xs (All-tail Wide (wrap x) (map wrap xs) a))

line_wide : (x : Event) → EventWide x → LineWide (its_line x)
line_wide (e.Commit by seq update) w = w
line_wide e.Start w = w

event_wide : (deck : Deck) (x : EventLine) → LineWide x → EventWide (event_in deck x)
event_wide deck (Commit by seq) w = w
event_wide deck Start w = w

lines_wide : (H : List Event) → All EventWide H → All LineWide (map its_line H)
lines_wide [] a = All-nil LineWide
lines_wide (x ∷ H) a = All-cons LineWide (its_line x) (map its_line H) (line_wide x (All-head EventWide x H a)) (lines_wide H (All-tail EventWide x H a))

events_wide : (deck : Deck) (xs : List EventLine) → All LineWide xs → All EventWide (map (event_in deck) xs)
events_wide deck [] a = All-nil EventWide
events_wide deck (x ∷ xs) a =
    All-cons EventWide (event_in deck x) (map (event_in deck) xs) (event_wide deck x (All-head LineWide x xs a)) (events_wide deck xs (All-tail LineWide x xs a))

pub wide_lines : (r : Report) → HasWidths r → LinesWide (lines_in r)
wide_lines r w = record { events = lines_wide r.history w.events; verdicts = w.verdicts; counts = w.counts; glances = w.glances; looks = w.looks }

pub all_wide : (r : Report) → HasWidths r → All Wide (together (lines_in r))
all_wide r w =
    let E = map l.Event (map its_line r.history) in let V = map l.Verdict r.verdicts in let C = map l.Counts r.counts in
    let G = map l.Glance r.glances in let K = map l.Look r.looks in
    All-append Wide (E ++ V ++ C ++ G) K
    (All-append Wide (E ++ V ++ C) G
    (All-append Wide (E ++ V) C
    (All-append Wide E V (wrapped LineWide l.Event (λ x h. h) (map its_line r.history) (lines_wide r.history w.events)) (wrapped VerdictWide l.Verdict (λ x h. h) r.verdicts w.verdicts))
    (wrapped CountsWide l.Counts (λ x h. h) r.counts w.counts))
    (wrapped LookWide l.Glance (λ x h. h) r.glances w.glances))
    (wrapped LookWide l.Look (λ x h. h) r.looks w.looks)

all_left : {X : Type 0} (P : X → Type 0) (xs ys : List X) → All P (xs ++ ys) → All P xs
all_left P [] ys h = All-nil P
all_left P (x ∷ xs) ys h = All-cons P x xs (All-head P x (xs ++ ys) h) (all_left P xs ys (All-tail P x (xs ++ ys) h))

all_right : {X : Type 0} (P : X → Type 0) (xs ys : List X) → All P (xs ++ ys) → All P ys
all_right P [] ys h = h
all_right P (x ∷ xs) ys h = all_right P xs ys (All-tail P x (xs ++ ys) h)

pub widths_of : (deck : Deck) (r : ReportLines) → All Wide (together r) → HasWidths (report_in deck r)
widths_of deck r w =
    let E = map l.Event r.events in let V = map l.Verdict r.verdicts in let C = map l.Counts r.counts in let G = map l.Glance r.glances in let K = map l.Look r.looks in
    let four = all_left Wide (E ++ V ++ C ++ G) K w in let three = all_left Wide (E ++ V ++ C) G four in let two = all_left Wide (E ++ V) C three in
    record {
      events = events_wide deck r.events (unwrapped LineWide l.Event (λ x h. h) r.events (all_left Wide E V two));
      verdicts = unwrapped VerdictWide l.Verdict (λ x h. h) r.verdicts (all_right Wide E V two);
      counts = unwrapped CountsWide l.Counts (λ x h. h) r.counts (all_right Wide (E ++ V) C three);
      glances = unwrapped LookWide l.Glance (λ x h. h) r.glances (all_right Wide (E ++ V ++ C) G four);
      looks = unwrapped LookWide l.Look (λ x h. h) r.looks (all_right Wide (E ++ V ++ C ++ G) K w);
    }

pub joined_wide : (r s : Report) → HasWidths r → HasWidths s → HasWidths (joined r s)
joined_wide r s v w = record {
  events = All-append EventWide r.history s.history v.events w.events;
  verdicts = All-append VerdictWide r.verdicts s.verdicts v.verdicts w.verdicts;
  counts = All-append CountsWide r.counts s.counts v.counts w.counts;
  glances = All-append LookWide r.glances s.glances v.glances w.glances;
  looks = All-append LookWide r.looks s.looks v.looks w.looks;
}

-- ---- sections

own : {L : Type 0} (its : ReportLine → Option L) (wrap : L → ReportLine) → ((x : L) → its (wrap x) ≡ Some x) → (xs : List L) → filter_map its (map wrap xs) ≡ xs
own its wrap some [] = refl
own its wrap some (x ∷ xs) = rw (some x, own its wrap some xs) refl

others : {L M : Type 0} (its : ReportLine → Option M) (wrap : L → ReportLine) → ((x : L) → its (wrap x) ≡ None) → (xs : List L) → filter_map its (map wrap xs) ≡ []
others its wrap none [] = refl
others its wrap none (x ∷ xs) = rw (none x) (others its wrap none xs)

by_parts : {X : Type 0} (its : ReportLine → Option X) (r : ReportLines) (e v c g k : List X) → filter_map its (map l.Event r.events) ≡ e → filter_map its (map l.Verdict r.verdicts) ≡ v
    → filter_map its (map l.Counts r.counts) ≡ c → filter_map its (map l.Glance r.glances) ≡ g → filter_map its (map l.Look r.looks) ≡ k → filter_map its (together r) ≡ e ++ v ++ c ++ g ++ k
by_parts its r e v c g k he hv hc hg hk =
    let E = map l.Event r.events in let V = map l.Verdict r.verdicts in let C = map l.Counts r.counts in let G = map l.Glance r.glances in let K = map l.Look r.looks in
    filter_map-append its (E ++ V ++ C ++ G) K
    ∙ same_append (filter_map-append its (E ++ V ++ C) G ∙ same_append (filter_map-append its (E ++ V) C ∙ same_append (filter_map-append its E V ∙ same_append he hv) hc) hg) hk

same_sections : {e1 e2 : List EventLine} {v1 v2 : List VerdictLine} {c1 c2 : List CountsLine} {g1 g2 l1 l2 : List LookLine} → e1 ≡ e2 → v1 ≡ v2 → c1 ≡ c2 → g1 ≡ g2 → l1 ≡ l2
    → ◌≡◌ {A = ReportLines} (record { events = e1; verdicts = v1; counts = c1; glances = g1; looks = l1 }) (record { events = e2; verdicts = v2; counts = c2; glances = g2; looks = l2 })
same_sections h1 h2 h3 h4 h5 = cc

ended : {X : Type 0} (xs : List X) → xs ++ [] ++ [] ++ [] ++ [] ≡ xs
ended xs = append-nil (xs ++ [] ++ [] ++ []) ∙ append-nil (xs ++ [] ++ []) ∙ append-nil (xs ++ []) ∙ append-nil xs

-- The sections of a report's lines are its own.
pub sections_back : (r : ReportLines) → sections_of (together r) ≡ r
sections_back r = same_sections
    (by_parts its_event r r.events [] [] [] [] (own its_event l.Event (λ x. refl) r.events) (others its_event l.Verdict (λ x. refl) r.verdicts) (others its_event l.Counts (λ x. refl) r.counts)
    (others its_event l.Glance (λ x. refl) r.glances) (others its_event l.Look (λ x. refl) r.looks) ∙ ended r.events)
    (by_parts its_verdict r [] r.verdicts [] [] [] (others its_verdict l.Event (λ x. refl) r.events) (own its_verdict l.Verdict (λ x. refl) r.verdicts) (others its_verdict l.Counts (λ x. refl) r.counts)
    (others its_verdict l.Glance (λ x. refl) r.glances) (others its_verdict l.Look (λ x. refl) r.looks) ∙ append-nil (r.verdicts ++ [] ++ []) ∙ append-nil (r.verdicts ++ []) ∙ append-nil r.verdicts)
    (by_parts its_counts r [] [] r.counts [] [] (others its_counts l.Event (λ x. refl) r.events) (others its_counts l.Verdict (λ x. refl) r.verdicts) (own its_counts l.Counts (λ x. refl) r.counts)
    (others its_counts l.Glance (λ x. refl) r.glances) (others its_counts l.Look (λ x. refl) r.looks) ∙ append-nil (r.counts ++ []) ∙ append-nil r.counts)
    (by_parts its_glance r [] [] [] r.glances [] (others its_glance l.Event (λ x. refl) r.events) (others its_glance l.Verdict (λ x. refl) r.verdicts) (others its_glance l.Counts (λ x. refl) r.counts)
    (own its_glance l.Glance (λ x. refl) r.glances) (others its_glance l.Look (λ x. refl) r.looks) ∙ append-nil r.glances)
    (by_parts its_look r [] [] [] [] r.looks (others its_look l.Event (λ x. refl) r.events) (others its_look l.Verdict (λ x. refl) r.verdicts) (others its_look l.Counts (λ x. refl) r.counts)
    (others its_look l.Glance (λ x. refl) r.glances) (own its_look l.Look (λ x. refl) r.looks))

-- The lines of the events that lines name are these lines.
pub named_back : (deck : Deck) (lines : List EventLine) → map its_line (map (event_in deck) lines) ≡ lines
named_back deck [] = refl
named_back deck (Commit by seq ∷ lines) = ap (λ es. Commit by seq ∷ es) (named_back deck lines)
named_back deck (Start ∷ lines) = ap (λ es. Start ∷ es) (named_back deck lines)

pub lines_back : (deck : Deck) (lines : ReportLines) → lines_in (report_in deck lines) ≡ lines
lines_back deck lines = ap (λ es. record lines { events = es }) (named_back deck lines.events)

-- ---- single lines

-- The row of a line is printed of one line, which is all that the report's sections have.
pub line_is : (row : Row) (line : Report) → IsOneRow row line → (x : ReportLine) × Printed row x × (lines_in line ≡ sections_of (x ∷ []))
line_is row line is = by (together (lines_in line)) refl (rows_of_lines line ∙ is.rows) (all_wide line is.widths)
  where
    by : (ls : List ReportLine) → together (lines_in line) ≡ ls → map line_row ls ≡ row ∷ [] → All Wide ls → (x : ReportLine) × Printed row x × (lines_in line ≡ sections_of (x ∷ []))
    by [] e h w = cc h
    by (x ∷ []) e h w =
        let here : line_row x ≡ row = cc h in
        (x, record { row_is = sym here; wide = All-head Wide x [] w }, sym (sections_back (lines_in line)) ∙ ap sections_of e)
    by (x ∷ y ∷ ls) e h w = cc h

-- The report of a line alone, with the deck's updates.
abbrev pub own_line : Deck → ReportLine → Report
own_line deck x = report_in deck (sections_of (x ∷ []))

pub own_row : (deck : Deck) (x : ReportLine) → report_rows (own_line deck x) ≡ line_row x ∷ []
own_row deck (l.Event (Commit by seq)) = refl
own_row deck (l.Event Start) = refl
own_row deck (l.Verdict x) = refl
own_row deck (l.Counts x) = refl
own_row deck (l.Glance x) = refl
own_row deck (l.Look x) = refl

one_wide : (x : ReportLine) → Wide x → All Wide (together (sections_of (x ∷ [])))
one_wide (l.Event x) w = All-cons Wide (l.Event x) [] w (All-nil Wide)
one_wide (l.Verdict x) w = All-cons Wide (l.Verdict x) [] w (All-nil Wide)
one_wide (l.Counts x) w = All-cons Wide (l.Counts x) [] w (All-nil Wide)
one_wide (l.Glance x) w = All-cons Wide (l.Glance x) [] w (All-nil Wide)
one_wide (l.Look x) w = All-cons Wide (l.Look x) [] w (All-nil Wide)

pub own_is : (deck : Deck) (row : Row) (x : ReportLine) → Printed row x → IsOneRow row (own_line deck x)
own_is deck row x is = record { rows = own_row deck x ∙ ap (λ r. r ∷ []) (sym is.row_is); widths = widths_of deck (sections_of (x ∷ [])) (one_wide x is.wide) }

-- One line more after a report.
one_joined : (r : ReportLines) (x : ReportLine) (s : ReportLines) → s ≡ sections_of (x ∷ [])
    → ◌≡◌ {A = ReportLines} (record { events = r.events ++ s.events; verdicts = r.verdicts ++ s.verdicts; counts = r.counts ++ s.counts; glances = r.glances ++ s.glances; looks = r.looks ++ s.looks }) (with_one_line r x)
one_joined r (l.Event x) s is = rw is (same_sections refl (append-nil r.verdicts) (append-nil r.counts) (append-nil r.glances) (append-nil r.looks))
one_joined r (l.Verdict x) s is = rw is (same_sections (append-nil r.events) refl (append-nil r.counts) (append-nil r.glances) (append-nil r.looks))
one_joined r (l.Counts x) s is = rw is (same_sections (append-nil r.events) (append-nil r.verdicts) refl (append-nil r.glances) (append-nil r.looks))
one_joined r (l.Glance x) s is = rw is (same_sections (append-nil r.events) (append-nil r.verdicts) (append-nil r.counts) refl (append-nil r.looks))
one_joined r (l.Look x) s is = rw is (same_sections (append-nil r.events) (append-nil r.verdicts) (append-nil r.counts) (append-nil r.glances) refl)

pub lines_joined : (r line : Report) (x : ReportLine) → lines_in line ≡ sections_of (x ∷ []) → lines_in (joined r line) ≡ with_one_line (lines_in r) x
lines_joined r line x is =
    let J = joined r line in
    ap (λ es. let lines : ReportLines = record { events = es; verdicts = J.verdicts; counts = J.counts; glances = J.glances; looks = J.looks } in lines) (map-append its_line r.history line.history)
    ∙ one_joined (lines_in r) x (lines_in line) is

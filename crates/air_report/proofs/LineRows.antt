-- What each record of a text without fault gives, by its row and its line, is given section by section.
use Rattle.std.proofs.Common.{◌≡◌, ℕ, ◌+◌, Option, Some, None, Result, Ok, List, [], ◌∷◌, ◌++◌, length, length-append, map, refl, ◌∙◌, ap, arith}
use Rattle.std.specs.List.{cons_option, enumerate_from, filter_map, range_with_len}
use Rattle.std.proofs.lemmas.List.{append-nil, length-map}
use Rattle.item_catalog.specs.Records.{records_of}
use Rattle.air_model.specs.Decks.{Deck}
use Rattle.air_report.specs.LineTexts.{spelled_line}
use Rattle.air_report.specs.LineGrammar.{SpellsLines}
use Rattle.air_report.specs.ReportLines.{ReportLines, its_glance, its_look, its_verdict}
use Rattle.air_report.specs.declared.reading.kinds.ReportFaultKind.{ReportFaultKind}
use Rattle.air_report.specs.declared.reading.lines.ReportLine.{ReportLine}
use Rattle.air_report.specs.declared.reading.lines.ReportLine.TheVariants as l
use Rattle.air_report.proofs.RecordRows.{row_in, rows_of}
use Rattle.air_report.proofs.LineOrder.{in_order, together}

-- What a record gives depends on what it spells.
by_lines : {X : Type 0} (f : ℕ → Result ReportLine ReportFaultKind → Option X) (version n : ℕ) (rows : List (List (List ℕ))) (lines : List ReportLine) → map (spelled_line version) rows ≡ map Ok lines →
    filter_map (λ p. f p.0 (spelled_line version p.1)) (enumerate_from n rows) ≡ filter_map (λ p. f p.0 (Ok p.1)) (enumerate_from n lines)
by_lines f version n [] [] e = refl
by_lines f version n [] (line ∷ lines) e = cc e
by_lines f version n (row ∷ rows) [] e = cc e
by_lines f version n (row ∷ rows) (line ∷ lines) e =
    let here : spelled_line version row ≡ Ok line = cc e in
    let more : map (spelled_line version) rows ≡ map Ok lines = cc e in
    rw (here, by_lines f version (n + 1) rows lines more) refl

module _ {X : Type 0} (f : ℕ → ReportLine → Option X) where
  abbrev pub all_of : ℕ → List ReportLine → List X
  all_of n lines = filter_map (λ p. f p.0 p.1) (enumerate_from n lines)

  one_then : (o : Option X) (xs ys : List X) → cons_option o (xs ++ ys) ≡ cons_option o xs ++ ys
  one_then None xs ys = refl
  one_then (Some x) xs ys = refl

  joined : (n : ℕ) (xs ys : List ReportLine) → all_of n (xs ++ ys) ≡ all_of n xs ++ all_of (n + length xs) ys
  joined n [] ys = ap (λ m. all_of m ys) (omega arith)
  joined n (x ∷ xs) ys =
      let place : n + 1 + length xs ≡ n + length (x ∷ xs) = omega arith in
      ap (cons_option (f n x)) (joined (n + 1) xs ys ∙ ap (λ m. all_of (n + 1) xs ++ all_of m ys) place)
      ∙ one_then (f n x) (all_of (n + 1) xs) (all_of (n + length (x ∷ xs)) ys)

  module _ {L : Type 0} (wrap : L → ReportLine) where
    pub nothing : (n : ℕ) (xs : List L) → ((row : ℕ) (x : L) → f row (wrap x) ≡ None) → all_of n (map wrap xs) ≡ []
    nothing n [] none = refl
    nothing n (x ∷ xs) none = rw (none n x) (nothing (n + 1) xs none)

    pub each : (g : ℕ → L → X) (n : ℕ) (xs : List L) → ((row : ℕ) (x : L) → f row (wrap x) ≡ Some (g row x)) →
        all_of n (map wrap xs) ≡ map (λ p. g p.0 p.1) (enumerate_from n xs)
    each g n [] some = refl
    each g n (x ∷ xs) some = rw (some n x, each g (n + 1) xs some) refl

  -- What the lines of a report give, section by section.
  pub by_sections : (lines : ReportLines) → all_of 1 (together lines)
      ≡ all_of 1 (map l.Event lines.events)
      ++ all_of (1 + length lines.events) (map l.Verdict lines.verdicts)
      ++ all_of (1 + length lines.events + length lines.verdicts) (map l.Counts lines.counts)
      ++ all_of (1 + length lines.events + length lines.verdicts + length lines.counts) (map l.Glance lines.glances)
      ++ all_of (1 + length lines.events + length lines.verdicts + length lines.counts + length lines.glances) (map l.Look lines.looks)
  by_sections lines =
      let E = map l.Event lines.events in let V = map l.Verdict lines.verdicts in let C = map l.Counts lines.counts in
      let G = map l.Glance lines.glances in let K = map l.Look lines.looks in
      let n = 1 + length lines.events in let m = n + length lines.verdicts in let g = m + length lines.counts in let k = g + length lines.glances in
      let en : 1 + length E ≡ n = ap (λ x. 1 + x) (length-map lines.events l.Event) in
      let em : 1 + length (E ++ V) ≡ m = omega (arith, length-append E V, length-map lines.verdicts l.Verdict, en) in
      let eg : 1 + length (E ++ V ++ C) ≡ g = omega (arith, length-append (E ++ V) C, length-map lines.counts l.Counts, em) in
      let ek : 1 + length (E ++ V ++ C ++ G) ≡ k = omega (arith, length-append (E ++ V ++ C) G, length-map lines.glances l.Glance, eg) in
      let e2 : all_of 1 (E ++ V) ≡ all_of 1 E ++ all_of n V = joined 1 E V ∙ ap (λ x. all_of 1 E ++ all_of x V) en in
      let e3 : all_of 1 (E ++ V ++ C) ≡ all_of 1 E ++ all_of n V ++ all_of m C = joined 1 (E ++ V) C ∙ ap (λ x. all_of 1 (E ++ V) ++ all_of x C) em ∙ ap (λ xs. xs ++ all_of m C) e2 in
      let e4 : all_of 1 (E ++ V ++ C ++ G) ≡ all_of 1 E ++ all_of n V ++ all_of m C ++ all_of g G =
      joined 1 (E ++ V ++ C) G ∙ ap (λ x. all_of 1 (E ++ V ++ C) ++ all_of x G) eg ∙ ap (λ xs. xs ++ all_of g G) e3 in
      joined 1 (E ++ V ++ C ++ G) K ∙ ap (λ x. all_of 1 (E ++ V ++ C ++ G) ++ all_of x K) ek ∙ ap (λ xs. xs ++ all_of k K) e4

-- What the records of a text give is what the lines that it spells give, in their order.
pub by_records : {X : Type 0} (f : ℕ → Result ReportLine ReportFaultKind → Option X) (deck : Deck) (text : List ℕ) (lines : ReportLines) → SpellsLines deck text lines →
    filter_map (λ p. f p.0 (spelled_line deck.settings.version p.1)) (enumerate_from 1 (records_of text)) ≡ all_of (λ row line. f row (Ok line)) 1 (together lines)
unfolding SpellsLines
by_records f deck text lines spelled = by_lines f deck.settings.version 1 (records_of text) (together lines) (in_order deck (records_of text) lines spelled)

-- ---- rows

numbers : {L : Type 0} (n : ℕ) (xs : List L) → map (λ p. p.0) (enumerate_from n xs) ≡ range_with_len n (length xs)
numbers n [] = refl
numbers n (x ∷ xs) = ap (λ ns. n ∷ ns) (numbers (n + 1) xs)

front_none : {X : Type 0} (xs ys : List X) → xs ≡ [] → xs ++ ys ≡ ys
front_none xs ys none = ap (λ zs. zs ++ ys) none

back_none : {X : Type 0} (xs ys : List X) → ys ≡ [] → xs ++ ys ≡ xs
back_none xs ys none = ap (λ zs. xs ++ zs) none ∙ append-nil xs

module _ (deck : Deck) (text : List ℕ) (lines : ReportLines) (spelled : SpellsLines deck text lines) where
  abbrev told : {L : Type 0} → (ReportLine → Option L) → ℕ → ReportLine → Option ℕ
  told its row line = row_in its row (Ok line)

  -- The rows of each section are those from the number of lines before it on.
  pub verdict_rows : rows_of its_verdict deck.settings.version (records_of text) ≡ range_with_len (1 + length lines.events) (length lines.verdicts)
  verdict_rows =
      let f = told its_verdict in
      let n = 1 + length lines.events in let m = n + length lines.verdicts in let g = m + length lines.counts in let k = g + length lines.glances in
      let E = all_of f 1 (map l.Event lines.events) in let V = all_of f n (map l.Verdict lines.verdicts) in let C = all_of f m (map l.Counts lines.counts) in
      let G = all_of f g (map l.Glance lines.glances) in let K = all_of f k (map l.Look lines.looks) in
      by_records (row_in its_verdict) deck text lines spelled ∙ by_sections f lines
      ∙ back_none (E ++ V ++ C ++ G) K (nothing f l.Look k lines.looks (λ row x. refl))
      ∙ back_none (E ++ V ++ C) G (nothing f l.Glance g lines.glances (λ row x. refl))
      ∙ back_none (E ++ V) C (nothing f l.Counts m lines.counts (λ row x. refl))
      ∙ front_none E V (nothing f l.Event 1 lines.events (λ row x. refl))
      ∙ each f l.Verdict (λ row x. row) n lines.verdicts (λ row x. refl) ∙ numbers n lines.verdicts

  pub glance_rows : rows_of its_glance deck.settings.version (records_of text) ≡ range_with_len (1 + length lines.events + length lines.verdicts + length lines.counts) (length lines.glances)
  glance_rows =
      let f = told its_glance in
      let n = 1 + length lines.events in let m = n + length lines.verdicts in let g = m + length lines.counts in let k = g + length lines.glances in
      let E = all_of f 1 (map l.Event lines.events) in let V = all_of f n (map l.Verdict lines.verdicts) in let C = all_of f m (map l.Counts lines.counts) in
      let G = all_of f g (map l.Glance lines.glances) in let K = all_of f k (map l.Look lines.looks) in
      by_records (row_in its_glance) deck text lines spelled ∙ by_sections f lines
      ∙ back_none (E ++ V ++ C ++ G) K (nothing f l.Look k lines.looks (λ row x. refl))
      ∙ front_none (E ++ V ++ C) G
      (back_none (E ++ V) C (nothing f l.Counts m lines.counts (λ row x. refl)) ∙ back_none E V (nothing f l.Verdict n lines.verdicts (λ row x. refl))
      ∙ nothing f l.Event 1 lines.events (λ row x. refl))
      ∙ each f l.Glance (λ row x. row) g lines.glances (λ row x. refl) ∙ numbers g lines.glances

  pub look_rows : rows_of its_look deck.settings.version (records_of text) ≡ range_with_len (1 + length lines.events + length lines.verdicts + length lines.counts + length lines.glances) (length lines.looks)
  look_rows =
      let f = told its_look in
      let n = 1 + length lines.events in let m = n + length lines.verdicts in let g = m + length lines.counts in let k = g + length lines.glances in
      let E = all_of f 1 (map l.Event lines.events) in let V = all_of f n (map l.Verdict lines.verdicts) in let C = all_of f m (map l.Counts lines.counts) in
      let G = all_of f g (map l.Glance lines.glances) in let K = all_of f k (map l.Look lines.looks) in
      by_records (row_in its_look) deck text lines spelled ∙ by_sections f lines
      ∙ front_none (E ++ V ++ C ++ G) K
      (back_none (E ++ V ++ C) G (nothing f l.Glance g lines.glances (λ row x. refl)) ∙ back_none (E ++ V) C (nothing f l.Counts m lines.counts (λ row x. refl))
      ∙ back_none E V (nothing f l.Verdict n lines.verdicts (λ row x. refl)) ∙ nothing f l.Event 1 lines.events (λ row x. refl))
      ∙ each f l.Look (λ row x. row) k lines.looks (λ row x. refl) ∙ numbers k lines.looks

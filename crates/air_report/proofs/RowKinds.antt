-- Which kinds of fault apply to a row after a report: the least is the one that the reader answers; if it answers none, none applies.
use Rattle.std.proofs.Common.{◌≡◌, ◌<◌, ◌≤◌, ◌++◌, ◌∷◌, ◌∙◌, [], List, Some, None, Result, Ok, Err, Bool, true, false, not, refl, sym, ap, subst, append_assoc, inl, inr, map, arith}
use Rattle.std.specs.Prelude.{⊤}
use Rattle.std.proofs.lemmas.Bool.{cases_lt, true≢false}
use Rattle.std.proofs.lemmas.List.{append-nil, map-append}
use Rattle.std.proofs.lemmas.List.Elements.{All-append, All-cons, All-nil}
use Rattle.air_history.specs.Histories.{starts}
use Rattle.air_history.specs.declared.histories.Event.{Event}
use Rattle.air_model.specs.Decks.{Deck, IsLegal}
use Rattle.air_model.specs.Reports.{Report, report_rows}
use Rattle.item_catalog.specs.RecordKinds.{first_of}
use Rattle.air_report.specs.Kinds.{report_kind_number}
use Rattle.air_report.specs.LineFaults.{comes_after_later_section, comes_next, is_begun, is_known, is_next, line_tests}
use Rattle.air_report.specs.LineRules.{EachNext}
use Rattle.air_report.specs.LineTexts.{spelled_line}
use Rattle.air_report.specs.ReportGrammar.{Applies, IsOneRow, NoSuchReport, joined}
use Rattle.air_report.specs.ReportLines.{ReportLines, event_in, its_line, lines_in, sections_of, starts_in}
use Rattle.air_report.specs.ReportRules.{IsReport}
use Rattle.air_report.specs.Private.RecordAnswers.{line_record_kind, with_one_line}
use Rattle.air_report.specs.declared.reading.kinds.ReportFaultKind.{ReportFaultKind}
use Rattle.air_report.specs.declared.reading.kinds.ReportFaultKind.TheVariants as fault
use Rattle.air_report.specs.declared.reading.lines.EventLine.{EventLine}
use Rattle.air_report.specs.declared.reading.lines.EventLine.TheVariants.{Commit, Start}
use Rattle.air_report.specs.declared.reading.lines.ReportLine.{ReportLine}
use Rattle.air_report.specs.declared.reading.lines.ReportLine.TheVariants as l
use Rattle.air_report.proofs.KeptLines.{next_more}
use Rattle.air_report.proofs.LineOrder.{one_more, together}
use Rattle.air_report.proofs.LineRanks.{in_time}
use Rattle.air_report.proofs.OneLines.{begun_one, begun_told, known_one, known_told}
use Rattle.air_report.proofs.PrintedGrammar.{starts_of}
use Rattle.air_report.proofs.PrintedReports.{all_wide, joined_wide, line_is, lines_back, lines_joined, own_is, own_line, own_row, row_tells, rows_of_lines, rows_tell}
use Rattle.air_report.proofs.PrintedFields.{Printed, Row, Wide, line_row, spelled_or_untold}
use Rattle.air_report.proofs.PrintedReads.{same_append}
use Rattle.air_report.proofs.PrintedRows.{RowTold, spelled_told}
use Rattle.air_report.proofs.SameHistories.{legal_next, legal_same, same_legal}

event_named : (deck : Deck) (x : EventLine) → its_line (event_in deck x) ≡ x
event_named deck (Commit by seq) = refl
event_named deck Start = refl

next_last : (deck : Deck) (done xs : List EventLine) (x : EventLine) → EachNext deck done (xs ++ x ∷ []) → is_next deck (done ++ xs) x ≡ true
next_last deck done [] x each = ap (λ es. is_next deck es x) (append-nil done) ∙ each.0
next_last deck done (y ∷ xs) x each = ap (λ es. is_next deck es x) (sym (append_assoc done (y ∷ []) xs)) ∙ next_last deck (done ++ y ∷ []) xs x each.1

module _ (deck : Deck) (before : Report) (rep : IsReport deck before) where
  abbrev lines : ReportLines
  lines = lines_in before

  abbrev H : List Event
  H = before.history

  abbrev Legal : List Event → Type 0
  Legal events = IsLegal deck events

  -- ---- the history

  next_holds : (x : EventLine) → is_next deck (map its_line H) x ≡ true → Legal (H ++ event_in deck x ∷ [])
  next_holds x next =
      let event = event_in deck x in
      let named : map its_line (H ++ event ∷ []) ≡ map its_line H ++ x ∷ [] = map-append its_line H (event ∷ []) ∙ ap (λ y. map its_line H ++ y ∷ []) (event_named deck x) in
      let each : EachNext deck [] (map its_line H ++ x ∷ []) = next_more deck [] (map its_line H) x (legal_next deck H rep.legal) next in
      let same : map (event_in deck) (map its_line (H ++ event ∷ [])) ≡ H ++ event ∷ [] =
      ap (map (event_in deck)) named ∙ map-append (event_in deck) (map its_line H) (x ∷ []) ∙ ap (λ es. es ++ event ∷ []) (legal_same deck H rep.legal) in
      same_legal deck (H ++ event ∷ []) (subst (λ es. EachNext deck [] es) (sym named) each) same

  update_holds : (x : ReportLine) → comes_next deck lines.events x ≡ true → Legal (H ++ (own_line deck x).history)
  update_holds (l.Event x) next = next_holds x next
  update_holds (l.Verdict x) next = subst Legal (sym (append-nil H)) rep.legal
  update_holds (l.Counts x) next = subst Legal (sym (append-nil H)) rep.legal
  update_holds (l.Glance x) next = subst Legal (sym (append-nil H)) rep.legal
  update_holds (l.Look x) next = subst Legal (sym (append-nil H)) rep.legal

  update_told : (x : ReportLine) (line : Report) → lines_in line ≡ sections_of (x ∷ []) → Legal (H ++ line.history) → comes_next deck lines.events x ≡ true
  update_told (l.Event x) line same legal =
      let events : map its_line line.history ≡ x ∷ [] = ap (λ (r : ReportLines). r.events) same in
      let each = subst (λ es. EachNext deck [] es) (map-append its_line H line.history ∙ ap (λ es. map its_line H ++ es) events) (legal_next deck (H ++ line.history) legal) in
      next_last deck [] (map its_line H) x each
  update_told (l.Verdict x) line same legal = refl
  update_told (l.Counts x) line same legal = refl
  update_told (l.Glance x) line same legal = refl
  update_told (l.Look x) line same legal = refl

  -- ---- the order

  order_holds : (x : ReportLine) → comes_after_later_section lines x ≡ false → report_rows (joined before (own_line deck x)) ≡ report_rows before ++ report_rows (own_line deck x)
  order_holds x late =
      let one = own_line deck x in
      sym (rows_of_lines (joined before one)) ∙ ap (λ r. map line_row (together r)) (lines_joined before one x (lines_back deck (sections_of (x ∷ []))))
      ∙ ap (map line_row) (one_more lines x late) ∙ map-append line_row (together lines) (x ∷ []) ∙ same_append (rows_of_lines before) (sym (own_row deck x))

  order_told : (row : Row) (x : ReportLine) → Printed row x → (line : Report) → IsOneRow row line → lines_in line ≡ sections_of (x ∷ [])
      → report_rows (joined before line) ≡ report_rows before ++ report_rows line → comes_after_later_section lines x ≡ false
  order_told row x p line is same h =
      let whole = joined before line in
      let joint : lines_in whole ≡ with_one_line lines x = lines_joined before line x same in
      let rows : map line_row (together (lines_in whole)) ≡ map line_row (together lines ++ x ∷ []) =
      rows_of_lines whole ∙ h ∙ same_append (sym (rows_of_lines before)) (is.rows ∙ ap (λ r. r ∷ []) p.row_is) ∙ sym (map-append line_row (together lines) (x ∷ [])) in
      let told = rows_tell (together (lines_in whole)) (together lines ++ x ∷ []) (all_wide whole (joined_wide before line rep.widths is.widths))
      (All-append Wide (together lines) (x ∷ []) (all_wide before rep.widths) (All-cons Wide x [] p.wide (All-nil Wide))) rows in
      in_time lines x (ap together (sym joint) ∙ told)

  -- ---- kinds

  module _ (row : Row) where
    abbrev Holds : ReportFaultKind → Type 0
    Holds kind = Applies deck before row kind

    -- A kind applies, and none that is less does.
    pub record Least (kind : ReportFaultKind) : Type 0 where
      pub applies : Applies deck before row kind
      pub least : (other : ReportFaultKind) → Applies deck before row other → report_kind_number kind ≤ report_kind_number other

    least_from : (kind : ReportFaultKind) → Holds kind → ((other : ReportFaultKind) → report_kind_number other < report_kind_number kind → Holds other → ⊥) → Least kind
    least_from kind holds none = record {
      applies = holds;
      least = λ other h. elim (cases_lt (report_kind_number other) (report_kind_number kind)) [ inl less ↦ absurd (none other less h) | inr more ↦ more ];
    }

    -- A record with a field that isn't of its form is printed of no line: the row of a line spells it, or has no tag.
    no_line : spelled_line deck.settings.version row ≡ Err fault.Form → NoSuchReport row (λ line. ⊤)
    no_line e line is any =
        let found = line_is row line is in let same = sym e ∙ ap (spelled_line deck.settings.version) found.1.row_is in
        elim (spelled_or_untold deck.settings.version found.0 found.1.wide) [ inl own ↦ let told = same ∙ own in cc told | inr none ↦ let told = same ∙ none in cc told ]

    no_first : (other : ReportFaultKind) → report_kind_number other < 1 → Holds other → ⊥
    no_first fault.Fields less h = omega (arith, less)
    no_first fault.Form less h = omega (arith, less)
    no_first fault.Tag less h = omega (arith, less)
    no_first fault.Order less h = omega (arith, less)
    no_first fault.Update less h = omega (arith, less)
    no_first fault.Deck less h = omega (arith, less)
    no_first fault.Cycle less h = omega (arith, less)

    no_second : RowTold deck.settings.version row (Err fault.Form) → (other : ReportFaultKind) → report_kind_number other < 2 → Holds other → ⊥
    no_second told fault.Fields less h = h.1 told.1
    no_second told fault.Form less h = omega (arith, less)
    no_second told fault.Tag less h = omega (arith, less)
    no_second told fault.Order less h = omega (arith, less)
    no_second told fault.Update less h = omega (arith, less)
    no_second told fault.Deck less h = omega (arith, less)
    no_second told fault.Cycle less h = omega (arith, less)

    no_third : RowTold deck.settings.version row (Err fault.Tag) → (other : ReportFaultKind) → report_kind_number other < 3 → Holds other → ⊥
    no_third told fault.Fields less h = h.0 told
    no_third told fault.Form less h = h.0 told
    no_third told fault.Tag less h = omega (arith, less)
    no_third told fault.Order less h = omega (arith, less)
    no_third told fault.Update less h = omega (arith, less)
    no_third told fault.Deck less h = omega (arith, less)
    no_third told fault.Cycle less h = omega (arith, less)

    unspelled : (kind : ReportFaultKind) → spelled_line deck.settings.version row ≡ Err kind → RowTold deck.settings.version row (Err kind) → Least kind
    unspelled fault.Fields e told = least_from fault.Fields told no_first
    unspelled fault.Form e told = least_from fault.Form (told.0, no_line e) (no_second told)
    unspelled fault.Tag e told = least_from fault.Tag told (no_third told)
    unspelled fault.Order e told = absurd told
    unspelled fault.Update e told = absurd told
    unspelled fault.Deck e told = absurd told
    unspelled fault.Cycle e told = absurd told

    -- A record that spells a line.
    module _ (x : ReportLine) (e : spelled_line deck.settings.version row ≡ Ok x) where
      told : RowTold deck.settings.version row (Ok x)
      told = spelled_told deck.settings.version row (Ok x) e

      mine : IsOneRow row (own_line deck x)
      mine = own_is deck row x told.1

      same : (line : Report) → IsOneRow row line → lines_in line ≡ sections_of (x ∷ [])
      same line is =
          let found = line_is row line is in let one : found.0 ≡ x = row_tells found.0 x found.1.wide told.1.wide (sym found.1.row_is ∙ told.1.row_is) in
          found.2 ∙ ap (λ y. sections_of (y ∷ [])) one

      abbrev late : Bool
      late = comes_after_later_section lines x

      abbrev next : Bool
      next = comes_next deck lines.events x

      abbrev known : Bool
      known = is_known deck x

      abbrev begun : Bool
      begun = is_begun (starts_in lines.events) x

      order_applies : late ≡ true → Holds fault.Order
      order_applies t line is h = true≢false (sym t ∙ order_told row x told.1 line is (same line is) h)

      update_applies : next ≡ false → Holds fault.Update
      update_applies t line is h = true≢false (sym (update_told x line (same line is) h) ∙ t)

      deck_applies : known ≡ false → Holds fault.Deck
      deck_applies t line is h = true≢false (sym (known_told deck x line (same line is) h) ∙ t)

      cycle_applies : begun ≡ false → Holds fault.Cycle
      cycle_applies t line is h =
          true≢false (sym (begun_told deck (starts H) x line (same line is) h) ∙ ap (λ n. is_begun n x) (sym (starts_of H)) ∙ t)

      no_less : (kind : ReportFaultKind) → report_kind_number kind ≤ 8 → (4 < report_kind_number kind → late ≡ false) → (5 < report_kind_number kind → next ≡ true)
          → (6 < report_kind_number kind → known ≡ true) → (7 < report_kind_number kind → begun ≡ true) → (other : ReportFaultKind) → report_kind_number other < report_kind_number kind → Holds other → ⊥
      no_less kind most a b c d fault.Fields less h = h.1 told.0
      no_less kind most a b c d fault.Form less h = h.1 (own_line deck x) mine tt
      no_less kind most a b c d fault.Tag less h = let both = sym h ∙ told.0 in cc both
      no_less kind most a b c d fault.Order less h = h (own_line deck x) mine (order_holds x (a less))
      no_less kind most a b c d fault.Update less h = h (own_line deck x) mine (update_holds x (b less))
      no_less kind most a b c d fault.Deck less h = h (own_line deck x) mine (known_one deck x (c less))
      no_less kind most a b c d fault.Cycle less h = h (own_line deck x) mine (begun_one deck (starts H) x (ap (λ n. is_begun n x) (sym (starts_of H)) ∙ d less))

      tested : (kind : ReportFaultKind) → first_of (line_tests deck lines x) ≡ Some kind → Least kind
      tested kind h = by late next known begun refl refl refl refl h
        where
          by : (a n k b : Bool) → late ≡ a → next ≡ n → known ≡ k → begun ≡ b → first_of ((fault.Order, a) ∷ (fault.Update, not n) ∷ (fault.Deck, not k) ∷ (fault.Cycle, not b) ∷ []) ≡ Some kind → Least kind
          by true n k b ea en ek eb h =
              let one : fault.Order ≡ kind = cc h in
              subst Least one (least_from fault.Order (order_applies ea) (no_less fault.Order (omega arith) (λ m. absurd (omega (arith, m))) (λ m. absurd (omega (arith, m))) (λ m. absurd (omega (arith, m))) (λ m. absurd (omega (arith, m)))))
          by false false k b ea en ek eb h =
              let one : fault.Update ≡ kind = cc h in
              subst Least one (least_from fault.Update (update_applies en) (no_less fault.Update (omega arith) (λ m. ea) (λ m. absurd (omega (arith, m))) (λ m. absurd (omega (arith, m))) (λ m. absurd (omega (arith, m)))))
          by false true false b ea en ek eb h =
              let one : fault.Deck ≡ kind = cc h in
              subst Least one (least_from fault.Deck (deck_applies ek) (no_less fault.Deck (omega arith) (λ m. ea) (λ m. en) (λ m. absurd (omega (arith, m))) (λ m. absurd (omega (arith, m)))))
          by false true true false ea en ek eb h =
              let one : fault.Cycle ≡ kind = cc h in
              subst Least one (least_from fault.Cycle (cycle_applies eb) (no_less fault.Cycle (omega arith) (λ m. ea) (λ m. en) (λ m. ek) (λ m. absurd (omega (arith, m)))))
          by false true true true ea en ek eb h = cc h

      none_holds : late ≡ false → next ≡ true → known ≡ true → begun ≡ true → (other : ReportFaultKind) → Holds other → ⊥
      none_holds ea en ek eb fault.Fields h = h.1 told.0
      none_holds ea en ek eb fault.Form h = h.1 (own_line deck x) mine tt
      none_holds ea en ek eb fault.Tag h = let both = sym h ∙ told.0 in cc both
      none_holds ea en ek eb fault.Order h = h (own_line deck x) mine (order_holds x ea)
      none_holds ea en ek eb fault.Update h = h (own_line deck x) mine (update_holds x en)
      none_holds ea en ek eb fault.Deck h = h (own_line deck x) mine (known_one deck x ek)
      none_holds ea en ek eb fault.Cycle h = h (own_line deck x) mine (begun_one deck (starts H) x (ap (λ n. is_begun n x) (sym (starts_of H)) ∙ eb))

      untested : first_of (line_tests deck lines x) ≡ None → (other : ReportFaultKind) → Holds other → ⊥
      untested h = by late next known begun refl refl refl refl h
        where
          by : (a n k b : Bool) → late ≡ a → next ≡ n → known ≡ k → begun ≡ b → first_of ((fault.Order, a) ∷ (fault.Update, not n) ∷ (fault.Deck, not k) ∷ (fault.Cycle, not b) ∷ []) ≡ None → (other : ReportFaultKind) → Holds other → ⊥
          by true n k b ea en ek eb h = cc h
          by false false k b ea en ek eb h = cc h
          by false true false b ea en ek eb h = cc h
          by false true true false ea en ek eb h = cc h
          by false true true true ea en ek eb h = none_holds ea en ek eb

    -- The kind that the reader answers on a record.
    pub least_kind_is : (kind : ReportFaultKind) → line_record_kind deck lines (spelled_line deck.settings.version row) ≡ Some kind → Least kind
    least_kind_is kind h = by (spelled_line deck.settings.version row) refl h
      where
        by : (o : Result ReportLine ReportFaultKind) → spelled_line deck.settings.version row ≡ o → line_record_kind deck lines o ≡ Some kind → Least kind
        by (Err other) e h = let one : other ≡ kind = cc h in subst Least one (unspelled other e (spelled_told deck.settings.version row (Err other) e))
        by (Ok x) e h = tested x e kind h

    pub no_kind_is : line_record_kind deck lines (spelled_line deck.settings.version row) ≡ None → (other : ReportFaultKind) → Applies deck before row other → ⊥
    no_kind_is h = by (spelled_line deck.settings.version row) refl h
      where
        by : (o : Result ReportLine ReportFaultKind) → spelled_line deck.settings.version row ≡ o → line_record_kind deck lines o ≡ None → (other : ReportFaultKind) → Holds other → ⊥
        by (Err other) e h = cc h
        by (Ok x) e h = untested x e h

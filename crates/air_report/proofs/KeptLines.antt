-- The lines that a text spells are in the grammar, line by line.
use Rattle.std.proofs.Common.{◌≡◌, ◌++◌, ◌∷◌, [], ℕ, List, None, Result, Ok, Err, Bool, true, false, not, refl, sym, ap, ◌∙◌, subst, append_assoc, arith}
use Rattle.std.specs.Prelude.{◌||◌, All}
use Rattle.std.proofs.lemmas.List.{append-nil}
use Rattle.std.proofs.lemmas.List.Elements.{All-cons, All-head, All-nil, All-tail}
use Rattle.air_model.specs.Decks.{Deck}
use Rattle.item_catalog.specs.RecordKinds.{first_of}
use Rattle.item_catalog.proofs.KindLemmas.{none_first}
use Rattle.item_catalog.proofs.RecordPlaces.{along}
use Rattle.air_report.specs.Kinds.{report_kind_number}
use Rattle.air_report.specs.LineTexts.{spelled_line}
use Rattle.air_report.specs.LineFaults.{comes_after_later_section, comes_next, is_begun, is_filled, is_known, is_next, line_kinds_after, line_kinds_at, line_tests, spelled_lines}
use Rattle.air_report.specs.LineGrammar.{RecordsSpellLines}
use Rattle.air_report.specs.ReportLines.{ReportLines, sections_of, starts_in}
use Rattle.air_report.specs.Private.RecordAnswers.{with_one_line}
use Rattle.air_report.specs.declared.reading.kinds.ReportFaultKind.{ReportFaultKind}
use Rattle.air_report.specs.declared.reading.kinds.ReportFaultKind.TheVariants as fault
use Rattle.air_report.specs.declared.reading.lines.EventLine.{EventLine}
use Rattle.air_report.specs.declared.reading.lines.ReportLine.{ReportLine}
use Rattle.air_report.specs.declared.reading.lines.ReportLine.TheVariants as l
use Rattle.air_report.proofs.PlaceLemmas.{judge, lines_more, sections_more}
use Rattle.air_report.specs.LineRules.{EachNext, InGrammar, IsRight}

all_more : {A : Type 0} (P : A → Type 0) (xs : List A) (x : A) → All P xs → P x → All P (xs ++ x ∷ [])
all_more P [] x all here = All-cons P x [] here (All-nil P)
all_more P (y ∷ xs) x all here = All-cons P y (xs ++ x ∷ []) (All-head P y xs all) (all_more P xs x (All-tail P y xs all) here)

empty : {A : Type 0} (xs : List A) → is_filled xs ≡ false → xs ≡ []
empty [] h = refl
empty (x ∷ xs) h = let some : is_filled (x ∷ xs) ≡ true = grind arith in cc (sym some ∙ h)

none_of : (a b c d : Bool) → (a || b || c || d) ≡ false → (a ≡ false) × (b ≡ false) × (c ≡ false) × (d ≡ false)
none_of true b c d h = cc h
none_of false true c d h = cc h
none_of false false true d h = cc h
none_of false false false true h = cc h
none_of false false false false h = (refl, refl, refl, refl)

four : (a b c d : ReportFaultKind) (p q r s : Bool) → first_of ((a, p) ∷ (b, q) ∷ (c, r) ∷ (d, s) ∷ []) ≡ None → (p ≡ false) × (q ≡ false) × (r ≡ false) × (s ≡ false)
four a b c d true q r s h = cc h
four a b c d false true r s h = cc h
four a b c d false false true s h = cc h
four a b c d false false false true h = cc h
four a b c d false false false false h = (refl, refl, refl, refl)

not_false : (b : Bool) → not b ≡ false → b ≡ true
not_false true h = refl
not_false false h = cc h

module _ (deck : Deck) where
  pub next_more : (before xs : List EventLine) (x : EventLine) → EachNext deck before xs → is_next deck (before ++ xs) x ≡ true → EachNext deck before (xs ++ x ∷ [])
  next_more before [] x each next = (ap (λ es. is_next deck es x) (sym (append-nil before)) ∙ next, tt)
  next_more before (y ∷ xs) x each next = (each.0, next_more (before ++ y ∷ []) xs x each.1 (ap (λ es. is_next deck es x) (append_assoc before (y ∷ []) xs) ∙ next))

  abbrev AreRight : {L : Type 0} → ℕ → (L → ReportLine) → List L → Type 0
  AreRight starts wrap lines = All (λ line. IsRight deck starts (wrap line)) lines

  none_right : {L : Type 0} (starts : ℕ) (wrap : L → ReportLine) (lines : List L) → is_filled lines ≡ false → AreRight starts wrap lines
  none_right starts wrap lines none = let P : List _ → Type 0 = AreRight starts wrap in subst P (sym (empty lines none)) (All-nil (λ line. IsRight deck starts (wrap line)))

  facts : (r : ReportLines) (x : ReportLine) → first_of (line_tests deck r x) ≡ None
      → (comes_after_later_section r x ≡ false) × (comes_next deck r.events x ≡ true) × (is_known deck x ≡ true) × (is_begun (starts_in r.events) x ≡ true)
  facts r x none =
      let t = four fault.Order fault.Update fault.Deck fault.Cycle (comes_after_later_section r x) (not (comes_next deck r.events x)) (not (is_known deck x)) (not (is_begun (starts_in r.events) x)) none in
      (t.0, not_false (comes_next deck r.events x) t.1, not_false (is_known deck x) t.2, not_false (is_begun (starts_in r.events) x) t.3)

  kept_more : (r : ReportLines) (x : ReportLine) → InGrammar deck r → first_of (line_tests deck r x) ≡ None → InGrammar deck (with_one_line r x)
  kept_more r (l.Event line) k none =
      let t = facts r (l.Event line) none in
      let late = none_of (is_filled r.verdicts) (is_filled r.counts) (is_filled r.glances) (is_filled r.looks) t.0 in
      let starts = starts_in (r.events ++ line ∷ []) in
      record {
        events = next_more [] r.events line k.events t.1;
        verdicts = none_right starts l.Verdict r.verdicts late.0;
        counts = none_right starts l.Counts r.counts late.1;
        glances = none_right starts l.Glance r.glances late.2;
        looks = none_right starts l.Look r.looks late.3;
      }
  kept_more r (l.Verdict line) k none =
      let t = facts r (l.Verdict line) none in
      let right : IsRight deck (starts_in r.events) (l.Verdict line) = record { known = t.2; begun = t.3 } in
      record { events = k.events; verdicts = all_more (λ line. IsRight deck (starts_in r.events) (l.Verdict line)) r.verdicts line k.verdicts right; counts = k.counts; glances = k.glances; looks = k.looks }
  kept_more r (l.Counts line) k none =
      let t = facts r (l.Counts line) none in
      let right : IsRight deck (starts_in r.events) (l.Counts line) = record { known = t.2; begun = t.3 } in
      record { events = k.events; verdicts = k.verdicts; counts = all_more (λ line. IsRight deck (starts_in r.events) (l.Counts line)) r.counts line k.counts right; glances = k.glances; looks = k.looks }
  kept_more r (l.Glance line) k none =
      let t = facts r (l.Glance line) none in
      let right : IsRight deck (starts_in r.events) (l.Glance line) = record { known = t.2; begun = t.3 } in
      record { events = k.events; verdicts = k.verdicts; counts = k.counts; glances = all_more (λ line. IsRight deck (starts_in r.events) (l.Glance line)) r.glances line k.glances right; looks = k.looks }
  kept_more r (l.Look line) k none =
      let t = facts r (l.Look line) none in
      let right : IsRight deck (starts_in r.events) (l.Look line) = record { known = t.2; begun = t.3 } in
      record { events = k.events; verdicts = k.verdicts; counts = k.counts; glances = k.glances; looks = all_more (λ line. IsRight deck (starts_in r.events) (l.Look line)) r.looks line k.looks right }

  kept_none : InGrammar deck (sections_of [])
  kept_none = record { events = tt; verdicts = All-nil _; counts = All-nil _; glances = All-nil _; looks = All-nil _ }

  kept_row : (rows : List (List (List ℕ))) (row : List (List ℕ)) → line_kinds_after deck (sections_of (spelled_lines deck.settings.version rows)) (spelled_line deck.settings.version row) ≡ [] → InGrammar deck (sections_of (spelled_lines deck.settings.version rows)) → InGrammar deck (sections_of (spelled_lines deck.settings.version (rows ++ row ∷ [])))
  kept_row rows row none k = by (spelled_line deck.settings.version row) refl none
    where
      by : (r : Result ReportLine ReportFaultKind) → spelled_line deck.settings.version row ≡ r → line_kinds_after deck (sections_of (spelled_lines deck.settings.version rows)) r ≡ [] → InGrammar deck (sections_of (spelled_lines deck.settings.version (rows ++ row ∷ [])))
      by (Err kind) e h = cc h
      by (Ok x) e h = rw (lines_more deck.settings.version rows row x e, sections_more (spelled_lines deck.settings.version rows) x) (kept_more (sections_of (spelled_lines deck.settings.version rows)) x k (none_first report_kind_number (line_tests deck (sections_of (spelled_lines deck.settings.version rows)) x) h))

  pub spelled_kept : (rows : List (List (List ℕ))) (lines : ReportLines) → RecordsSpellLines deck rows lines → InGrammar deck lines
  unfolding line_kinds_at
  spelled_kept rows lines s =
      let P : ReportLines → Type 0 = InGrammar deck in
      subst P (sym s.sections) (along (judge deck) (λ rows. InGrammar deck (sections_of (spelled_lines deck.settings.version rows))) kept_none (λ rows row none k. kept_row rows row none k) rows s.faultless)

-- A record that spells a line is the row that is printed of it. One that spells none has another length than its tag asks for, or a field
-- that isn't of its form, or an unknown tag.
use Rattle.std.proofs.Common.{◌≡◌, ◌≢◌, ◌∷◌, [], ℕ, List, Option, Some, None, Result, Ok, Err, Bool, true, false, cond, refl, sym, ap, ◌∙◌, subst, codes, length, option_map}
use Rattle.std.specs.Cmp.Lexicographic.{bytes_decides}
use Rattle.std.specs.List.{find}
use Rattle.air_base.specs.Parts.{three_of, two_of}
use Rattle.air_base.specs.declared.verdicts.VerdictKind.TheVariants as kind
use Rattle.air_model.specs.Buckets.{has_ages}
use Rattle.air_model.specs.Reports.{kind_row}
use Rattle.item_catalog.specs.RecordFields.{◌is◌, five_of, four_of, seven_of, six_of}
use Rattle.air_report.specs.LineTexts.{abort_by, aged_by, aged_tag, as_line, commit_by, counts_by, ended_by, line_tag, seen_by, spelled_line, spelled_line_by, start_by}
use Rattle.air_report.specs.ReportGrammar.{due_length}
use Rattle.air_report.specs.declared.reading.kinds.ReportFaultKind.{ReportFaultKind}
use Rattle.air_report.specs.declared.reading.kinds.ReportFaultKind.TheVariants as fault
use Rattle.air_report.specs.declared.reading.lines.ReportLine.{ReportLine}
use Rattle.air_report.specs.declared.reading.lines.ReportLine.TheVariants as l
use Rattle.air_report.specs.declared.reading.tags.LineTag.{LineTag}
use Rattle.air_report.specs.declared.reading.tags.LineTag.TheVariants as t
use Rattle.air_report.proofs.PrintedFields.{Printed, Row, Told, abort_told, aged_told, commit_told, counts_told, ended_told, seen_told, start_told}

-- ---- tags

abbrev tag_text : LineTag → List ℕ
tag_text t.Commit = codes "commit"
tag_text t.Start = codes "start"
tag_text t.Accept = codes "accept"
tag_text t.Abort = codes "abort"
tag_text t.Aged = codes "aged"
tag_text t.Unfinished = codes "unfinished"
tag_text t.Counts = codes "counts"
tag_text t.Glance = codes "glance"
tag_text t.Look = codes "look"

abbrev tag_count : LineTag → ℕ
tag_count t.Commit = 3
tag_count t.Start = 1
tag_count t.Accept = 5
tag_count t.Abort = 7
tag_count t.Aged = 6
tag_count t.Unfinished = 5
tag_count t.Counts = 8
tag_count t.Glance = 4
tag_count t.Look = 4

-- A text that is tested against a name, and then against others.
named : (name text : List ℕ) (first s : LineTag) (rest : Option LineTag) → name ≡ tag_text first → (rest ≡ Some s → text ≡ tag_text s) → cond (text is name) (Some first) rest ≡ Some s → text ≡ tag_text s
named name text first s rest own others h = by (text is name) refl h
  where
    by : (b : Bool) → (text is name) ≡ b → cond b (Some first) rest ≡ Some s → text ≡ tag_text s
    by true e h = let same : first ≡ s = cc h in (bytes_decides text name).0 e ∙ own ∙ ap tag_text same
    by false e h = others h

-- A text that is tested against the tag of some versions.
aged_named : (version : ℕ) (text : List ℕ) (s : LineTag) → cond (text is codes "aged") (aged_tag version) None ≡ Some s → text ≡ tag_text s
aged_named version text s h = by (text is codes "aged") (has_ages version) refl h
  where
    by : (b v : Bool) → (text is codes "aged") ≡ b → cond b (cond v (Some t.Aged) None) None ≡ Some s → text ≡ tag_text s
    by true true e h = let same : t.Aged ≡ s = cc h in (bytes_decides text (codes "aged")).0 e ∙ ap tag_text same
    by true false e h = cc h
    by false v e h = cc h

tag_named : (version : ℕ) (text : List ℕ) (s : LineTag) → line_tag version text ≡ Some s → text ≡ tag_text s
tag_named version text s h =
    let r9 : Option LineTag = cond (text is codes "aged") (aged_tag version) None in
    let r8 : Option LineTag = cond (text is codes "look") (Some t.Look) r9 in
    let r7 : Option LineTag = cond (text is codes "glance") (Some t.Glance) r8 in
    let r6 : Option LineTag = cond (text is codes "counts") (Some t.Counts) r7 in
    let r5 : Option LineTag = cond (text is codes "unfinished") (Some t.Unfinished) r6 in
    let r4 : Option LineTag = cond (text is codes "abort") (Some t.Abort) r5 in
    let r3 : Option LineTag = cond (text is codes "accept") (Some t.Accept) r4 in
    let r2 : Option LineTag = cond (text is codes "start") (Some t.Start) r3 in
    named (codes "commit") text t.Commit s r2 refl (named (codes "start") text t.Start s r3 refl (named (codes "accept") text t.Accept s r4 refl (named (codes "abort") text t.Abort s r5 refl
    (named (codes "unfinished") text t.Unfinished s r6 refl (named (codes "counts") text t.Counts s r7 refl (named (codes "glance") text t.Glance s r8 refl (named (codes "look") text t.Look s r9 refl (aged_named version text s)))))))) h

-- The tag determines how many fields a row must have.
due_is : (version : ℕ) (tag : List ℕ) (fields : Row) → due_length version (tag ∷ fields) ≡ option_map tag_count (line_tag version tag)
due_is version tag fields = by (tag is codes "commit") (tag is codes "start") (tag is codes "accept") (tag is codes "abort") (tag is codes "unfinished") (tag is codes "counts") (tag is codes "glance") (tag is codes "look")
    (find (λ (entry : List ℕ × ℕ). tag is entry.0) (cond (has_ages version) ((codes "aged", 6) ∷ []) [])) (cond (tag is codes "aged") (aged_tag version) None) (rest (has_ages version) (tag is codes "aged") refl)
  where
    rest : (v b : Bool) → (tag is codes "aged") ≡ b
        → option_map (λ (entry : List ℕ × ℕ). entry.1) (find (λ (entry : List ℕ × ℕ). tag is entry.0) (cond v ((codes "aged", 6) ∷ []) [])) ≡ option_map tag_count (cond b (cond v (Some t.Aged) None) None)
    rest true true e = rw e refl
    rest true false e = rw e refl
    rest false true e = refl
    rest false false e = refl

    by : (a b c d e f g h : Bool) (o : Option (List ℕ × ℕ)) (p : Option LineTag) → option_map (λ (entry : List ℕ × ℕ). entry.1) o ≡ option_map tag_count p
        → option_map (λ (entry : List ℕ × ℕ). entry.1) (cond a (Some (codes "commit", 3)) (cond b (Some (codes "start", 1)) (cond c (Some (codes "accept", 5)) (cond d (Some (codes "abort", 7)) (cond e (Some (codes "unfinished", 5)) (cond f (Some (codes "counts", 8)) (cond g (Some (codes "glance", 4)) (cond h (Some (codes "look", 4)) o))))))))
        ≡ option_map tag_count (cond a (Some t.Commit) (cond b (Some t.Start) (cond c (Some t.Accept) (cond d (Some t.Abort) (cond e (Some t.Unfinished) (cond f (Some t.Counts) (cond g (Some t.Glance) (cond h (Some t.Look) p))))))))
    by true b c d e f g h o p same = refl
    by false true c d e f g h o p same = refl
    by false false true d e f g h o p same = refl
    by false false false true e f g h o p same = refl
    by false false false false true f g h o p same = refl
    by false false false false false true g h o p same = refl
    by false false false false false false true h o p same = refl
    by false false false false false false false true o p same = refl
    by false false false false false false false false o p same = same

tag_told : (version : ℕ) (tag : List ℕ) (fields : Row) (s : LineTag) → line_tag version tag ≡ Some s → Told (tag ∷ fields) (tag_count s) (spelled_line_by (Some s) fields)
tag_told version tag fields t.Commit e = subst (λ x. Told (x ∷ fields) 3 (commit_by (two_of fields))) (sym (tag_named version tag t.Commit e)) (commit_told fields)
tag_told version tag fields t.Start e = subst (λ x. Told (x ∷ fields) 1 (start_by fields)) (sym (tag_named version tag t.Start e)) (start_told fields)
tag_told version tag fields t.Accept e = subst (λ x. Told (x ∷ fields) 5 (ended_by kind.Accept (four_of fields))) (sym (tag_named version tag t.Accept e))
    (ended_told kind.Accept (codes "accept") (λ x ended. ap (λ e. kind_row e x) (sym ended)) tt fields)
tag_told version tag fields t.Abort e = subst (λ x. Told (x ∷ fields) 7 (abort_by (six_of fields))) (sym (tag_named version tag t.Abort e)) (abort_told fields)
tag_told version tag fields t.Aged e = subst (λ x. Told (x ∷ fields) 6 (aged_by (five_of fields))) (sym (tag_named version tag t.Aged e)) (aged_told fields)
tag_told version tag fields t.Unfinished e = subst (λ x. Told (x ∷ fields) 5 (ended_by kind.Unfinished (four_of fields))) (sym (tag_named version tag t.Unfinished e))
    (ended_told kind.Unfinished (codes "unfinished") (λ x ended. ap (λ e. kind_row e x) (sym ended)) tt fields)
tag_told version tag fields t.Counts e = subst (λ x. Told (x ∷ fields) 8 (counts_by (seven_of fields))) (sym (tag_named version tag t.Counts e)) (counts_told fields)
tag_told version tag fields t.Glance e = subst (λ x. Told (x ∷ fields) 4 (as_line l.Glance (seen_by (three_of fields)))) (sym (tag_named version tag t.Glance e))
    (seen_told (codes "glance") l.Glance (λ x. refl) (λ x w. w) fields)
tag_told version tag fields t.Look e = subst (λ x. Told (x ∷ fields) 4 (as_line l.Look (seen_by (three_of fields)))) (sym (tag_named version tag t.Look e))
    (seen_told (codes "look") l.Look (λ x. refl) (λ x w. w) fields)

-- ---- rows

-- What a record that spells this is: the row of a line, with the number of fields of its tag; or it has another number of fields, a field that isn't
-- of its form, or no tag.
abbrev pub RowTold : ℕ → Row → Result ReportLine ReportFaultKind → Type 0
RowTold version row (Ok x) = (due_length version row ≡ Some (length row)) × Printed row x
RowTold version row (Err fault.Fields) = (due_length version row ≢ None) × (due_length version row ≢ Some (length row))
RowTold version row (Err fault.Form) = (due_length version row ≢ None) × (due_length version row ≡ Some (length row))
RowTold version row (Err fault.Tag) = due_length version row ≡ None
RowTold version row (Err other) = ⊥

module _ (version : ℕ) where
  by_tag_told : (row : Row) (n : ℕ) (o : Result ReportLine ReportFaultKind) → due_length version row ≡ Some n → Told row n o → RowTold version row o
  by_tag_told row n (Ok x) due h = (due ∙ ap Some (sym h.0), h.1)
  by_tag_told row n (Err fault.Fields) due h = (λ none. cc (sym due ∙ none), λ some. let same : length row ≡ n = cc (sym some ∙ due) in h same)
  by_tag_told row n (Err fault.Form) due h = (λ none. cc (sym due ∙ none), due ∙ ap Some (sym h))
  by_tag_told row n (Err fault.Tag) due h = absurd h
  by_tag_told row n (Err fault.Order) due h = absurd h
  by_tag_told row n (Err fault.Update) due h = absurd h
  by_tag_told row n (Err fault.Deck) due h = absurd h
  by_tag_told row n (Err fault.Cycle) due h = absurd h

  no_due : due_length version [] ≡ None
  no_due = by (has_ages version)
    where
      by : (v : Bool) → option_map (λ (entry : List ℕ × ℕ). entry.1) (find (λ (entry : List ℕ × ℕ). [] is entry.0) (cond v ((codes "aged", 6) ∷ []) [])) ≡ None
      by true = refl
      by false = refl

  row_told : (row : Row) → RowTold version row (spelled_line version row)
  row_told [] = no_due
  row_told (tag ∷ fields) = by (line_tag version tag) refl
    where
      by : (o : Option LineTag) → line_tag version tag ≡ o → RowTold version (tag ∷ fields) (spelled_line_by o fields)
      by None e = due_is version tag fields ∙ ap (option_map tag_count) e
      by (Some s) e = by_tag_told (tag ∷ fields) (tag_count s) (spelled_line_by (Some s) fields) (due_is version tag fields ∙ ap (option_map tag_count) e) (tag_told version tag fields s e)

  -- A record that spells a line, or a kind.
  pub spelled_told : (row : Row) (o : Result ReportLine ReportFaultKind) → spelled_line version row ≡ o → RowTold version row o
  spelled_told row o e = subst (RowTold version row) e (row_told row)

  pub printed : (row : Row) (x : ReportLine) → spelled_line version row ≡ Ok x → Printed row x
  printed row x e = (spelled_told row (Ok x) e).1

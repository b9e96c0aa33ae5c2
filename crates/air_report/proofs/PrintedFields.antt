-- A record that spells a line is the row that is printed of it, and the numbers of the line fit their types: the fields after each tag. They may
-- spell no line, with another number of fields or a field that isn't of its form.
use Rattle.std.proofs.Common.{◌≡◌, ◌≢◌, ◌∷◌, ◌⊎◌, [], ℕ, List, Option, Some, None, Result, Ok, Err, Bool, true, false, inl, inr, refl, ap, ◌∙◌, subst, codes, length, arith}
use Rattle.air_base.specs.NumberLists.{list_of}
use Rattle.air_base.specs.Numbers.{number_of, number_text}
use Rattle.air_base.specs.Parts.{three_of, two_of}
use Rattle.air_base.specs.declared.verdicts.ReadOf.{ReadOf}
use Rattle.air_base.specs.declared.verdicts.VerdictKind.{VerdictKind}
use Rattle.air_base.specs.declared.verdicts.VerdictKind.TheVariants as kind
use Rattle.air_model.specs.Buckets.{has_ages}
use Rattle.air_model.specs.Reports.{attempt_row, counts_row, kind_row, look_row, place_text, verdict_row}
use Rattle.air_model.specs.declared.reports.LookLine.{LookLine}
use Rattle.air_model.specs.declared.reports.VerdictLine.{VerdictLine}
use Rattle.item_catalog.specs.RecordFields.{◌is◌, five_of, four_of, seven_of, six_of}
use Rattle.item_catalog.specs.Spelled.{or_fault, spelled_then}
use Rattle.air_report.specs.LineFaults.{may_end}
use Rattle.air_report.specs.LineRules.{LineWide}
use Rattle.air_report.specs.LineTexts.{abort_by, abort_of, aged_by, aged_of, as_line, commit_by, counts_by, ended_by, seen_by, short_of, spelled_item, spelled_line, spelled_place, spelled_read, start_by}
use Rattle.air_report.specs.ReportRules.{CountsWide, EndWide, LookWide, VerdictWide}
use Rattle.air_report.specs.declared.reading.kinds.ReportFaultKind.{ReportFaultKind}
use Rattle.air_report.specs.declared.reading.kinds.ReportFaultKind.TheVariants as fault
use Rattle.air_report.specs.declared.reading.lines.EventLine.{EventLine}
use Rattle.air_report.specs.declared.reading.lines.EventLine.TheVariants.{Commit, Start}
use Rattle.air_report.specs.declared.reading.lines.ReportLine.{ReportLine}
use Rattle.air_report.specs.declared.reading.lines.ReportLine.TheVariants as l
use Rattle.air_report.proofs.PrintedReads.{item_is, number_is, place_is, reads_are, same_cons, short_is}
use Rattle.air_report.proofs.TextLemmas.{aged_untold, counts_spelled, glance_spelled, look_spelled, short_text, verdict_spelled}

-- ---- the row of a line

abbrev pub Row : Type 0
Row = List (List ℕ)

abbrev pub event_line_row : EventLine → Row
event_line_row (Commit by seq) = codes "commit" ∷ number_text by ∷ number_text seq ∷ []
event_line_row Start = codes "start" ∷ []

abbrev pub line_row : ReportLine → Row
line_row (l.Event x) = event_line_row x
line_row (l.Verdict x) = verdict_row x
line_row (l.Counts x) = counts_row x
line_row (l.Glance x) = look_row (codes "glance") x
line_row (l.Look x) = look_row (codes "look") x

abbrev pub Wide : ReportLine → Type 0
Wide (l.Event x) = LineWide x
Wide (l.Verdict x) = VerdictWide x
Wide (l.Counts x) = CountsWide x
Wide (l.Glance x) = LookWide x
Wide (l.Look x) = LookWide x

-- The row is that of the line, whose numbers fit.
pub record Printed (row : Row) (x : ReportLine) : Type 0 where
  pub row_is : row ≡ line_row x
  pub wide : Wide x

-- The version has the tag of the line.
abbrev pub is_told : ℕ → ReportLine → Bool
is_told version (l.Verdict x) = may_end version x.verdict.kind
is_told version line = true

-- What the row of a line spells.
pub line_spelled : (version : ℕ) (x : ReportLine) → Wide x → is_told version x ≡ true → spelled_line version (line_row x) ≡ Ok x
line_spelled version (l.Event (Commit by seq)) w told = rw (short_text by w.0, short_text seq w.1) refl
line_spelled version (l.Event Start) w told = refl
line_spelled version (l.Verdict x) w told = verdict_spelled version x w told
line_spelled version (l.Counts x) w told = counts_spelled version x w
line_spelled version (l.Glance x) w told = glance_spelled version x w
line_spelled version (l.Look x) w told = look_spelled version x w

-- In version 2 each line has its tag.
pub all_told : (x : ReportLine) → is_told 2 x ≡ true
all_told (l.Event x) = refl
all_told (l.Verdict x) = by x.verdict.kind
  where
    by : (end : VerdictKind) → may_end 2 end ≡ true
    by kind.Accept = refl
    by (kind.Abort item cycle clash) = refl
    by (kind.Aged item cycle) = refl
    by kind.Unfinished = refl
all_told (l.Counts x) = refl
all_told (l.Glance x) = refl
all_told (l.Look x) = refl

-- The row of a line spells it, or has no tag.
pub spelled_or_untold : (version : ℕ) (x : ReportLine) → Wide x → (spelled_line version (line_row x) ≡ Ok x) ⊎ (spelled_line version (line_row x) ≡ Err fault.Tag)
spelled_or_untold version (l.Event x) w = inl (line_spelled version (l.Event x) w refl)
spelled_or_untold version (l.Verdict x) w = by x.verdict.kind refl
  where
    aged : (item cycle : ℕ) (b : Bool) → x.verdict.kind ≡ kind.Aged item cycle → has_ages version ≡ b → (spelled_line version (verdict_row x) ≡ Ok (l.Verdict x)) ⊎ (spelled_line version (verdict_row x) ≡ Err fault.Tag)
    aged item cycle true same e = inl (verdict_spelled version x w (ap (may_end version) same ∙ e))
    aged item cycle false same e = inr (aged_untold version item cycle x same e)

    by : (end : VerdictKind) → x.verdict.kind ≡ end → (spelled_line version (verdict_row x) ≡ Ok (l.Verdict x)) ⊎ (spelled_line version (verdict_row x) ≡ Err fault.Tag)
    by kind.Accept same = inl (verdict_spelled version x w (ap (may_end version) same))
    by (kind.Abort item cycle clash) same = inl (verdict_spelled version x w (ap (may_end version) same))
    by (kind.Aged item cycle) same = aged item cycle (has_ages version) same refl
    by kind.Unfinished same = inl (verdict_spelled version x w (ap (may_end version) same))
spelled_or_untold version (l.Counts x) w = inl (line_spelled version (l.Counts x) w refl)
spelled_or_untold version (l.Glance x) w = inl (line_spelled version (l.Glance x) w refl)
spelled_or_untold version (l.Look x) w = inl (line_spelled version (l.Look x) w refl)

-- ---- the fields after a tag

-- The fields after a tag whose rows have this number of fields: a line, whose row it is; or another number of fields; or a field that isn't of its
-- form.
abbrev pub Told : Row → ℕ → Result ReportLine ReportFaultKind → Type 0
Told row n (Ok x) = (length row ≡ n) × Printed row x
Told row n (Err fault.Fields) = length row ≢ n
Told row n (Err fault.Form) = length row ≡ n
Told row n (Err other) = ⊥

pub commit_told : (fields : Row) → Told (codes "commit" ∷ fields) 3 (commit_by (two_of fields))
commit_told [] = λ h. omega (arith, h)
commit_told (a ∷ []) = λ h. omega (arith, h)
commit_told (a ∷ b ∷ c ∷ more) = λ h. omega (arith, h)
commit_told (a ∷ b ∷ []) = by (short_of a) (short_of b) refl refl
  where
    by : (p q : Option ℕ) → short_of a ≡ p → short_of b ≡ q → Told (codes "commit" ∷ a ∷ b ∷ []) 3 (or_fault fault.Form (spelled_then p λ by. spelled_then q λ seq. Some (l.Event (Commit by seq))))
    by None q ep eq = refl
    by (Some m) None ep eq = refl
    by (Some m) (Some n) ep eq =
        let first = short_is a m ep in let second = short_is b n eq in
        (refl, record { row_is = same_cons refl (same_cons first.0 (same_cons second.0 refl)); wide = (first.1, second.1) })

pub start_told : (fields : Row) → Told (codes "start" ∷ fields) 1 (start_by fields)
start_told [] = (refl, record { row_is = refl; wide = tt })
start_told (f ∷ fields) = λ h. omega (arith, h)

pub ended_told : (end : VerdictKind) (tag : List ℕ) → ((x : VerdictLine) → x.verdict.kind ≡ end → attempt_row tag x ≡ verdict_row x) → EndWide end → (fields : Row) → Told (tag ∷ fields) 5 (ended_by end (four_of fields))
ended_told end tag own fits [] = λ h. omega (arith, h)
ended_told end tag own fits (f ∷ []) = λ h. omega (arith, h)
ended_told end tag own fits (f ∷ g ∷ []) = λ h. omega (arith, h)
ended_told end tag own fits (f ∷ g ∷ i ∷ []) = λ h. omega (arith, h)
ended_told end tag own fits (f ∷ g ∷ i ∷ j ∷ k ∷ more) = λ h. omega (arith, h)
ended_told end tag own fits (f ∷ g ∷ i ∷ j ∷ []) = by (short_of f) (short_of g) (short_of i) (list_of spelled_read j) refl refl refl refl
  where
    by : (r q a : Option ℕ) (rs : Option (List ReadOf)) → short_of f ≡ r → short_of g ≡ q → short_of i ≡ a → list_of spelled_read j ≡ rs
        → Told (tag ∷ f ∷ g ∷ i ∷ j ∷ []) 5 (or_fault fault.Form (spelled_then r λ r. spelled_then q λ q. spelled_then a λ a. spelled_then rs λ rs. spelled_then (Some end) λ end. Some (l.Verdict (record { reader = r; verdict = record { query = q; attempt = a; kind = end }; reads = rs }))))
    by None q a rs er eq ea ers = refl
    by (Some r) None a rs er eq ea ers = refl
    by (Some r) (Some q) None rs er eq ea ers = refl
    by (Some r) (Some q) (Some a) None er eq ea ers = refl
    by (Some r) (Some q) (Some a) (Some rs) er eq ea ers =
        let x : VerdictLine = record { reader = r; verdict = record { query = q; attempt = a; kind = end }; reads = rs } in
        let reader = short_is f r er in let query = short_is g q eq in let attempt = short_is i a ea in let reads = reads_are j rs ers in (
          refl,
          record {
            row_is = same_cons refl (same_cons reader.0 (same_cons query.0 (same_cons attempt.0 (same_cons reads.0 refl)))) ∙ own x refl;
            wide = record { reader = reader.1; query = query.1; attempt = attempt.1; reads = reads.1; end = fits };
          },
        )

-- The fields of the end of an attempt by an abort.
record AbortText (place clash : List ℕ) (end : VerdictKind) : Type 0 where
  item : ℕ
  cycle : ℕ
  other : ℕ
  end_is : kind.Abort item cycle other ≡ end
  place_is : place ≡ place_text item cycle
  clash_is : clash ≡ number_text other
  fits : EndWide (kind.Abort item cycle other)

abort_is : (place clash : List ℕ) (end : VerdictKind) → abort_of place clash ≡ Some end → AbortText place clash end
abort_is place clash end h = by (spelled_place place) (spelled_item clash) refl refl h
  where
    by : (p : Option (ℕ × ℕ)) (c : Option ℕ) → spelled_place place ≡ p → spelled_item clash ≡ c → (spelled_then p λ p. spelled_then c λ c. Some (kind.Abort p.0 p.1 c)) ≡ Some end → AbortText place clash end
    by None c ep ec h = cc h
    by (Some p) None ep ec h = cc h
    by (Some p) (Some c) ep ec h =
        let first = place_is place p ep in let second = item_is clash c ec in
        record { item = p.0; cycle = p.1; other = c; end_is = cc h; place_is = first.0; clash_is = second.0; fits = (first.1, first.2, second.1) }

pub abort_told : (fields : Row) → Told (codes "abort" ∷ fields) 7 (abort_by (six_of fields))
abort_told [] = λ h. omega (arith, h)
abort_told (f ∷ []) = λ h. omega (arith, h)
abort_told (f ∷ g ∷ []) = λ h. omega (arith, h)
abort_told (f ∷ g ∷ i ∷ []) = λ h. omega (arith, h)
abort_told (f ∷ g ∷ i ∷ j ∷ []) = λ h. omega (arith, h)
abort_told (f ∷ g ∷ i ∷ j ∷ k ∷ []) = λ h. omega (arith, h)
abort_told (f ∷ g ∷ i ∷ j ∷ k ∷ m ∷ n ∷ more) = λ h. omega (arith, h)
abort_told (f ∷ g ∷ i ∷ j ∷ k ∷ m ∷ []) = by (short_of f) (short_of g) (short_of i) (list_of spelled_read j) (abort_of k m) refl refl refl refl refl
  where
    by : (r q a : Option ℕ) (rs : Option (List ReadOf)) (e : Option VerdictKind) → short_of f ≡ r → short_of g ≡ q → short_of i ≡ a → list_of spelled_read j ≡ rs → abort_of k m ≡ e
        → Told (codes "abort" ∷ f ∷ g ∷ i ∷ j ∷ k ∷ m ∷ []) 7 (or_fault fault.Form (spelled_then r λ r. spelled_then q λ q. spelled_then a λ a. spelled_then rs λ rs. spelled_then e λ end. Some (l.Verdict (record { reader = r; verdict = record { query = q; attempt = a; kind = end }; reads = rs }))))
    by None q a rs e er eq ea ers ee = refl
    by (Some r) None a rs e er eq ea ers ee = refl
    by (Some r) (Some q) None rs e er eq ea ers ee = refl
    by (Some r) (Some q) (Some a) None e er eq ea ers ee = refl
    by (Some r) (Some q) (Some a) (Some rs) None er eq ea ers ee = refl
    by (Some r) (Some q) (Some a) (Some rs) (Some end) er eq ea ers ee =
        let x : VerdictLine = record { reader = r; verdict = record { query = q; attempt = a; kind = end }; reads = rs } in
        let reader = short_is f r er in let query = short_is g q eq in let attempt = short_is i a ea in let reads = reads_are j rs ers in
        let ended = abort_is k m end ee in (
          refl,
          record {
            row_is = same_cons refl (same_cons reader.0 (same_cons query.0 (same_cons attempt.0 (same_cons reads.0 (same_cons ended.place_is (same_cons ended.clash_is refl))))))
                ∙ ap (λ e. kind_row e x) ended.end_is;
            wide = record { reader = reader.1; query = query.1; attempt = attempt.1; reads = reads.1; end = subst EndWide ended.end_is ended.fits };
          },
        )

-- The field of the end of an attempt whose next read was too far.
record AgedText (place : List ℕ) (end : VerdictKind) : Type 0 where
  item : ℕ
  cycle : ℕ
  end_is : kind.Aged item cycle ≡ end
  place_is : place ≡ place_text item cycle
  fits : EndWide (kind.Aged item cycle)

aged_is : (place : List ℕ) (end : VerdictKind) → aged_of place ≡ Some end → AgedText place end
aged_is place end h = by (spelled_place place) refl h
  where
    by : (p : Option (ℕ × ℕ)) → spelled_place place ≡ p → (spelled_then p λ p. Some (kind.Aged p.0 p.1)) ≡ Some end → AgedText place end
    by None ep h = cc h
    by (Some p) ep h = let first = place_is place p ep in record { item = p.0; cycle = p.1; end_is = cc h; place_is = first.0; fits = (first.1, first.2) }

pub aged_told : (fields : Row) → Told (codes "aged" ∷ fields) 6 (aged_by (five_of fields))
aged_told [] = λ h. omega (arith, h)
aged_told (f ∷ []) = λ h. omega (arith, h)
aged_told (f ∷ g ∷ []) = λ h. omega (arith, h)
aged_told (f ∷ g ∷ i ∷ []) = λ h. omega (arith, h)
aged_told (f ∷ g ∷ i ∷ j ∷ []) = λ h. omega (arith, h)
aged_told (f ∷ g ∷ i ∷ j ∷ k ∷ m ∷ more) = λ h. omega (arith, h)
aged_told (f ∷ g ∷ i ∷ j ∷ k ∷ []) = by (short_of f) (short_of g) (short_of i) (list_of spelled_read j) (aged_of k) refl refl refl refl refl
  where
    by : (r q a : Option ℕ) (rs : Option (List ReadOf)) (e : Option VerdictKind) → short_of f ≡ r → short_of g ≡ q → short_of i ≡ a → list_of spelled_read j ≡ rs → aged_of k ≡ e
        → Told (codes "aged" ∷ f ∷ g ∷ i ∷ j ∷ k ∷ []) 6 (or_fault fault.Form (spelled_then r λ r. spelled_then q λ q. spelled_then a λ a. spelled_then rs λ rs. spelled_then e λ end. Some (l.Verdict (record { reader = r; verdict = record { query = q; attempt = a; kind = end }; reads = rs }))))
    by None q a rs e er eq ea ers ee = refl
    by (Some r) None a rs e er eq ea ers ee = refl
    by (Some r) (Some q) None rs e er eq ea ers ee = refl
    by (Some r) (Some q) (Some a) None e er eq ea ers ee = refl
    by (Some r) (Some q) (Some a) (Some rs) None er eq ea ers ee = refl
    by (Some r) (Some q) (Some a) (Some rs) (Some end) er eq ea ers ee =
        let x : VerdictLine = record { reader = r; verdict = record { query = q; attempt = a; kind = end }; reads = rs } in
        let reader = short_is f r er in let query = short_is g q eq in let attempt = short_is i a ea in let reads = reads_are j rs ers in
        let ended = aged_is k end ee in (
          refl,
          record {
            row_is = same_cons refl (same_cons reader.0 (same_cons query.0 (same_cons attempt.0 (same_cons reads.0 (same_cons ended.place_is refl))))) ∙ ap (λ e. kind_row e x) ended.end_is;
            wide = record { reader = reader.1; query = query.1; attempt = attempt.1; reads = reads.1; end = subst EndWide ended.end_is ended.fits };
          },
        )

pub counts_told : (fields : Row) → Told (codes "counts" ∷ fields) 8 (counts_by (seven_of fields))
counts_told [] = λ h. omega (arith, h)
counts_told (f ∷ []) = λ h. omega (arith, h)
counts_told (f ∷ g ∷ []) = λ h. omega (arith, h)
counts_told (f ∷ g ∷ i ∷ []) = λ h. omega (arith, h)
counts_told (f ∷ g ∷ i ∷ j ∷ []) = λ h. omega (arith, h)
counts_told (f ∷ g ∷ i ∷ j ∷ k ∷ []) = λ h. omega (arith, h)
counts_told (f ∷ g ∷ i ∷ j ∷ k ∷ m ∷ []) = λ h. omega (arith, h)
counts_told (f ∷ g ∷ i ∷ j ∷ k ∷ m ∷ n ∷ o ∷ more) = λ h. omega (arith, h)
counts_told (f ∷ g ∷ i ∷ j ∷ k ∷ m ∷ n ∷ []) = by (short_of f) (number_of g) (number_of i) (number_of j) (number_of k) (number_of m) (number_of n) refl refl refl refl refl refl refl
  where
    by : (r o d a e g' c : Option ℕ) → short_of f ≡ r → number_of g ≡ o → number_of i ≡ d → number_of j ≡ a → number_of k ≡ e → number_of m ≡ g' → number_of n ≡ c
        → Told (codes "counts" ∷ f ∷ g ∷ i ∷ j ∷ k ∷ m ∷ n ∷ []) 8 (or_fault fault.Form (spelled_then r λ reader. spelled_then o λ opened. spelled_then d λ dozed. spelled_then a λ late. spelled_then e λ refused. spelled_then g' λ foreign. spelled_then c λ copied. Some (l.Counts (record { reader = reader; counts = record { opened = opened; dozed = dozed; late = late; refused = refused; foreign = foreign; copied = copied } }))))
    by None o d a e g' c h1 h2 h3 h4 h5 h6 h7 = refl
    by (Some r) None d a e g' c h1 h2 h3 h4 h5 h6 h7 = refl
    by (Some r) (Some o) None a e g' c h1 h2 h3 h4 h5 h6 h7 = refl
    by (Some r) (Some o) (Some d) None e g' c h1 h2 h3 h4 h5 h6 h7 = refl
    by (Some r) (Some o) (Some d) (Some a) None g' c h1 h2 h3 h4 h5 h6 h7 = refl
    by (Some r) (Some o) (Some d) (Some a) (Some e) None c h1 h2 h3 h4 h5 h6 h7 = refl
    by (Some r) (Some o) (Some d) (Some a) (Some e) (Some g') None h1 h2 h3 h4 h5 h6 h7 = refl
    by (Some r) (Some o) (Some d) (Some a) (Some e) (Some g') (Some c) h1 h2 h3 h4 h5 h6 h7 =
        let w1 = short_is f r h1 in let w2 = number_is g o h2 in let w3 = number_is i d h3 in let w4 = number_is j a h4 in let w5 = number_is k e h5 in let w6 = number_is m g' h6 in let w7 = number_is n c h7 in (
          refl,
          record {
            row_is = same_cons refl (same_cons w1.0 (same_cons w2.0 (same_cons w3.0 (same_cons w4.0 (same_cons w5.0 (same_cons w6.0 (same_cons w7.0 refl)))))));
            wide = record { reader = w1.1; opened = w2.1; dozed = w3.1; late = w4.1; refused = w5.1; foreign = w6.1; copied = w7.1 };
          },
        )

pub seen_told : (tag : List ℕ) (wrap : LookLine → ReportLine) → ((x : LookLine) → look_row tag x ≡ line_row (wrap x)) → ((x : LookLine) → LookWide x → Wide (wrap x)) → (fields : Row)
    → Told (tag ∷ fields) 4 (as_line wrap (seen_by (three_of fields)))
seen_told tag wrap own fits [] = λ h. omega (arith, h)
seen_told tag wrap own fits (f ∷ []) = λ h. omega (arith, h)
seen_told tag wrap own fits (f ∷ g ∷ []) = λ h. omega (arith, h)
seen_told tag wrap own fits (f ∷ g ∷ i ∷ j ∷ more) = λ h. omega (arith, h)
seen_told tag wrap own fits (f ∷ g ∷ i ∷ []) = by (short_of f) (short_of g) (number_of i) refl refl refl
  where
    by : (m c n : Option ℕ) → short_of f ≡ m → short_of g ≡ c → number_of i ≡ n
        → Told (tag ∷ f ∷ g ∷ i ∷ []) 4 (as_line wrap (or_fault fault.Form (spelled_then m λ monitor. spelled_then c λ cycle. spelled_then n λ total. Some (record { monitor = monitor; cycle = cycle; total = total }))))
    by None c n em ec en = refl
    by (Some m) None n em ec en = refl
    by (Some m) (Some c) None em ec en = refl
    by (Some m) (Some c) (Some n) em ec en =
        let x : LookLine = record { monitor = m; cycle = c; total = n } in
        let monitor = short_is f m em in let cycle = short_is g c ec in let total = number_is i n en in (
          refl,
          record {
            row_is = same_cons refl (same_cons monitor.0 (same_cons cycle.0 (same_cons total.0 refl))) ∙ own x;
            wide = fits x (record { monitor = monitor.1; cycle = cycle.1; total = total.1 });
          },
        )

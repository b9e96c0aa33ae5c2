-- What the rules of a line say: the reads of a query so far, a commit that is its updater's next, and the counts after it.
use Rattle.std.proofs.Common.{◌≡◌, ◌<◌, ◌≤◌, ◌+◌, ◌++◌, ◌∷◌, [], ℕ, zero, suc, List, None, Ok, Bool, true, false, cond, not, drop, get_or, length, map, nat_lt, set, refl, ap, ◌∙◌, arith, inl, inr}
use Rattle.std.specs.Prelude.{◌==◌}
use Rattle.std.proofs.lemmas.Bool.{and_parts, cases_eq, cases_lt}
use Rattle.std.proofs.lemmas.Bool.Decides.{nat_tests}
use Rattle.std.proofs.lemmas.List.{get_or-set_same, get_or-set_other, get_or_past}
use Rattle.std.proofs.lemmas.List.Sums.{sum_by-append}
use Rattle.air_base.specs.declared.limits.TheConstants.{MOST_UPDATERS}
use Rattle.air_base.specs.declared.verdicts.ReadOf.{ReadOf}
use Rattle.air_model.specs.Decks.{Deck, updates_by}
use Rattle.item_catalog.specs.RecordKinds.{first_of}
use Rattle.air_report.specs.LineFaults.{comes_after_later_section, is_begun, is_known, is_next, leads, read_item}
use Rattle.air_report.specs.ReportLines.{ReportLines, commits_by, commits_of, starts_in, starts_cycle}
use Rattle.air_report.specs.Private.RecordAnswers.{CanPush, line_record_kind}
use Rattle.air_report.specs.declared.reading.kinds.ReportFaultKind.{ReportFaultKind}
use Rattle.air_report.specs.declared.reading.kinds.ReportFaultKind.TheVariants as fault
use Rattle.air_report.specs.declared.reading.lines.EventLine.{EventLine}
use Rattle.air_report.specs.declared.reading.lines.EventLine.TheVariants.{Commit, Start}
use Rattle.air_report.specs.declared.reading.lines.ReportLine.{ReportLine}
use Rattle.air_report.specs.declared.reading.lines.ReportLine.TheVariants as l

-- A query that is read to its end has no item for a further read.
pub leads_none : (reads : List ReadOf) (i : ℕ) (left : List ℕ) → i < length reads → left ≡ [] → leads (map read_item (drop i reads)) left ≡ false
leads_none [] i left below none = absurd (omega arith)
leads_none (r ∷ reads) zero left below none = rw none refl
leads_none (r ∷ reads) (suc i) left below none = leads_none reads i left (omega arith) none

-- ---- counts

pub commits_all : (by : ℕ) (events more : List EventLine) → commits_by by (events ++ more) ≡ commits_by by events + commits_by by more
commits_all by events more = sum_by-append (λ x. cond (commits_of by x) 1 0) events more

pub starts_all : (events more : List EventLine) → starts_in (events ++ more) ≡ starts_in events + starts_in more
starts_all events more = sum_by-append (λ x. cond (starts_cycle x) 1 0) events more

-- The counts with one more commit.
pub commits_more : (made : List ℕ) (events : List EventLine) (by seq k n : ℕ) → by < length made → get_or made k 0 ≡ commits_by k events → commits_by by events ≡ seq → n ≡ seq + 1
    → get_or (set made by n) k 0 ≡ commits_by k (events ++ Commit by seq ∷ [])
commits_more made events by seq k n below at own next = elim (cases_eq k by) [
  | inl e ↦ let one : commits_by by (Commit by seq ∷ []) ≡ 1 = own_line by in
      rw e (get_or-set_same made by n 0 below ∙ omega (arith, commits_all by events (Commit by seq ∷ [])))
  | inr differs ↦ let none = other_line by k differs in
      get_or-set_other made by k n 0 differs ∙ omega (arith, commits_all k events (Commit by seq ∷ []))
]
  where
    own_line : (by : ℕ) → commits_by by (Commit by seq ∷ []) ≡ 1
    own_line by = let e : (by == by) ≡ true = grind arith in rw e refl

    other_line : (by k : ℕ) → (k ≡ by → ⊥) → commits_by k (Commit by seq ∷ []) ≡ 0
    other_line by k differs = let e : (by == k) ≡ false = grind arith in rw e refl

-- ---- a line to which no kind applies

second : (a b : ReportFaultKind) (p q : Bool) (rest : List (ReportFaultKind × Bool)) → first_of ((a, p) ∷ (b, q) ∷ rest) ≡ None → q ≡ false
second a b true q rest h = cc h
second a b false true rest h = cc h
second a b false false rest h = refl

not_false : (b : Bool) → not b ≡ false → b ≡ true
not_false true h = refl
not_false false h = cc h

next_parts : (deck : Deck) (before : List EventLine) (by seq : ℕ) → length deck.updates ≤ MOST_UPDATERS → is_next deck before (Commit by seq) ≡ true → (by < MOST_UPDATERS) × (seq ≡ commits_by by before)
next_parts deck before by seq few h =
    let both = and_parts (seq == commits_by by before) (nat_lt seq (length (updates_by deck by))) h in
    let less : seq < length (updates_by deck by) = grind (arith, nat_tests, both.1) in
    let same : seq ≡ commits_by by before = grind (arith, nat_tests, both.0) in
    (elim (cases_lt by (length deck.updates)) [ inl below ↦ omega arith | inr past ↦ absurd (omega (arith, less, ap length (get_or_past deck.updates by [] past))) ], same)

pub can_push : (deck : Deck) (before : ReportLines) (line : ReportLine) → length deck.updates ≤ MOST_UPDATERS → line_record_kind deck before (Ok line) ≡ None → CanPush before line
can_push deck before (l.Event (Commit by seq)) few none =
    let line : ReportLine = l.Event (Commit by seq) in
    next_parts deck before.events by seq few (not_false (is_next deck before.events (Commit by seq))
    (second fault.Order fault.Update (comes_after_later_section before line) (not (is_next deck before.events (Commit by seq)))
    ((fault.Deck, not (is_known deck line)) ∷ (fault.Cycle, not (is_begun (starts_in before.events) line)) ∷ []) none))
can_push deck before (l.Event Start) few none = tt
can_push deck before (l.Verdict line) few none = tt
can_push deck before (l.Counts line) few none = tt
can_push deck before (l.Glance line) few none = tt
can_push deck before (l.Look line) few none = tt

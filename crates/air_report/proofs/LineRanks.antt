-- A line that comes after all lines of a report, though it is put into its section, comes after no later section.
use Rattle.std.proofs.Common.{◌≡◌, ◌++◌, ◌∷◌, [], ℕ, List, false, refl, sym, ap, ◌∙◌, map, arith}
use Rattle.air_report.specs.LineFaults.{comes_after_later_section, is_filled}
use Rattle.air_report.specs.ReportLines.{ReportLines}
use Rattle.air_report.specs.Private.RecordAnswers.{with_one_line}
use Rattle.air_report.specs.declared.reading.lines.ReportLine.{ReportLine}
use Rattle.air_report.specs.declared.reading.lines.ReportLine.TheVariants as l
use Rattle.air_report.proofs.LineOrder.{together}

-- The number of a line's section.
abbrev rank : ReportLine → ℕ
rank (l.Event x) = 0
rank (l.Verdict x) = 1
rank (l.Counts x) = 2
rank (l.Glance x) = 3
rank (l.Look x) = 4

-- The number of the last line's section.
last_rank : ℕ → List ReportLine → ℕ
last_rank n [] = n
last_rank n (x ∷ xs) = last_rank (rank x) xs

last_more : (n : ℕ) (xs ys : List ReportLine) → last_rank n (xs ++ ys) ≡ last_rank (last_rank n xs) ys
unfolding last_rank
last_more n [] ys = refl
last_more n (x ∷ xs) ys = last_more (rank x) xs ys

module _ {L : Type 0} (wrap : L → ReportLine) (k : ℕ) (own : (x : L) → rank (wrap x) ≡ k) where
  last_of : (n : ℕ) (x : L) (xs : List L) → last_rank n (map wrap (x ∷ xs)) ≡ k
  unfolding last_rank
  last_of n x [] = own x
  last_of n x (y ∷ ys) = last_of (rank (wrap x)) y ys

  -- If the last line is of another section, this one has no line.
  unfilled : (n j : ℕ) (xs : List L) → last_rank n (map wrap xs) ≡ j → (k ≡ j → ⊥) → (is_filled xs ≡ false) × (n ≡ j)
  unfolding last_rank
  unfilled n j [] h other = (refl, h)
  unfilled n j (x ∷ xs) h other = absurd (other (sym (last_of n x xs) ∙ h))

-- The last line, section by section.
ends : (r : ReportLines) → last_rank 0 (together r)
    ≡ last_rank (last_rank (last_rank (last_rank (last_rank 0 (map l.Event r.events)) (map l.Verdict r.verdicts)) (map l.Counts r.counts)) (map l.Glance r.glances)) (map l.Look r.looks)
ends r =
    let E = map l.Event r.events in let V = map l.Verdict r.verdicts in let C = map l.Counts r.counts in let G = map l.Glance r.glances in let K = map l.Look r.looks in
    last_more 0 (E ++ V ++ C ++ G) K
    ∙ ap (λ n. last_rank n K) (last_more 0 (E ++ V ++ C) G ∙ ap (λ n. last_rank n G) (last_more 0 (E ++ V) C ∙ ap (λ n. last_rank n C) (last_more 0 E V)))

module _ (r : ReportLines) (x : ReportLine) (behind : together (with_one_line r x) ≡ together r ++ x ∷ []) where
  last : last_rank 0 (together (with_one_line r x)) ≡ rank x
  unfolding last_rank
  last = ap (last_rank 0) behind ∙ last_more 0 (together r) (x ∷ [])

pub in_time : (r : ReportLines) (x : ReportLine) → together (with_one_line r x) ≡ together r ++ x ∷ [] → comes_after_later_section r x ≡ false
in_time r (l.Event x) h =
    let E = map l.Event (r.events ++ x ∷ []) in let V = map l.Verdict r.verdicts in let C = map l.Counts r.counts in let G = map l.Glance r.glances in
    let n1 = last_rank 0 E in let n2 = last_rank n1 V in let n3 = last_rank n2 C in let n4 = last_rank n3 G in
    let k = unfilled l.Look 4 (λ y. refl) n4 0 r.looks (sym (ends (with_one_line r (l.Event x))) ∙ last r (l.Event x) h) (λ e. omega (arith, e)) in
    let g = unfilled l.Glance 3 (λ y. refl) n3 0 r.glances k.1 (λ e. omega (arith, e)) in
    let c = unfilled l.Counts 2 (λ y. refl) n2 0 r.counts g.1 (λ e. omega (arith, e)) in
    let v = unfilled l.Verdict 1 (λ y. refl) n1 0 r.verdicts c.1 (λ e. omega (arith, e)) in
    rw (v.0, c.0, g.0, k.0) refl
in_time r (l.Verdict x) h =
    let E = map l.Event r.events in let V = map l.Verdict (r.verdicts ++ x ∷ []) in let C = map l.Counts r.counts in let G = map l.Glance r.glances in
    let n2 = last_rank (last_rank 0 E) V in let n3 = last_rank n2 C in let n4 = last_rank n3 G in
    let k = unfilled l.Look 4 (λ y. refl) n4 1 r.looks (sym (ends (with_one_line r (l.Verdict x))) ∙ last r (l.Verdict x) h) (λ e. omega (arith, e)) in
    let g = unfilled l.Glance 3 (λ y. refl) n3 1 r.glances k.1 (λ e. omega (arith, e)) in
    let c = unfilled l.Counts 2 (λ y. refl) n2 1 r.counts g.1 (λ e. omega (arith, e)) in
    rw (c.0, g.0, k.0) refl
in_time r (l.Counts x) h =
    let E = map l.Event r.events in let V = map l.Verdict r.verdicts in let C = map l.Counts (r.counts ++ x ∷ []) in let G = map l.Glance r.glances in
    let n3 = last_rank (last_rank (last_rank 0 E) V) C in let n4 = last_rank n3 G in
    let k = unfilled l.Look 4 (λ y. refl) n4 2 r.looks (sym (ends (with_one_line r (l.Counts x))) ∙ last r (l.Counts x) h) (λ e. omega (arith, e)) in
    let g = unfilled l.Glance 3 (λ y. refl) n3 2 r.glances k.1 (λ e. omega (arith, e)) in
    rw (g.0, k.0) refl
in_time r (l.Glance x) h =
    let E = map l.Event r.events in let V = map l.Verdict r.verdicts in let C = map l.Counts r.counts in let G = map l.Glance (r.glances ++ x ∷ []) in
    let n4 = last_rank (last_rank (last_rank (last_rank 0 E) V) C) G in
    let k = unfilled l.Look 4 (λ y. refl) n4 3 r.looks (sym (ends (with_one_line r (l.Glance x))) ∙ last r (l.Glance x) h) (λ e. omega (arith, e)) in
    k.0
in_time r (l.Look x) h = refl

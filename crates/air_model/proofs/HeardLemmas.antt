-- What is heard of a bucket's entries: they are what the history airs, in full or by age. Reads that aren't too far apart for
-- the air's version meet the conditions of the laws of clashes.
use Rattle.std.proofs.Common.{◌≡◌, ◌&&◌, ◌∷◌, ◌++◌, ℕ, ◌<◌, ◌≤◌, min, max, Bool, true, false, List, [], length, map, All, refl, ◌∙◌, inl, inr, arith}
use Rattle.std.proofs.lemmas.Bool.{leb-false, lt-leb}
use Rattle.std.proofs.lemmas.List.{length-map, get_or-map}
use Rattle.air_base.specs.declared.limits.TheConstants.{AGE_CAP}
use Rattle.air_history.specs.declared.histories.Event.{Event}
use Rattle.air_history.specs.Ages.{capped, span, spans_too_far}
use Rattle.air_history.specs.Columns.{Scheme, aired_entries}
use Rattle.air_history.specs.Reads.{ReadAt, newest_cycle, oldest_cycle}
use Rattle.air_history.specs.Clashes.{HeardRead, read_at}
use Rattle.air_history.specs.ClashLaws.{HasAiredEntries, HasCappedEntries, HaveAiredEntries}
use Rattle.air_history.proofs.AgeLemmas.{full_is_capped, oldest_with, span_push}
use Rattle.air_model.specs.Buckets.{capped_entries, has_ages}
use Rattle.air_model.specs.SessionLaws.{are_far}
use Rattle.air_model.proofs.AiredLemmas.{scheme_long}
use Rattle.air_model.proofs.CapLemmas.{entries_by, full_entries}

-- ---- one read

-- A read of item j in cycle c, with the entries that a bucket of this version has.
abbrev pub told_by : Scheme → ℕ → List Event → ℕ → ℕ → ℕ → HeardRead
told_by scheme n H v c j = record { item = j; cycle = c; entries = capped_entries v c (aired_entries scheme n H c j) }

-- The read has what H airs, in full or by age.
pub has_capped : (scheme : Scheme) (n : ℕ) (H : List Event) (v c j : ℕ) → 1 ≤ c → j < n → HasCappedEntries scheme n H (told_by scheme n H v c j)
has_capped scheme n H v c j one within =
    let es = aired_entries scheme n H c j in
    let long : length es ≡ n = scheme_long scheme n H c j in
    entries_by (λ l. HasCappedEntries scheme n H (record { item = j; cycle = c; entries = l })) v c es
    (record {
      cycle = one;
      within = within;
      sized = length-map es (λ e. capped e c) ∙ long;
      entries = λ i l. inr (get_or-map (λ e. capped e c) es i 0 0 (omega (arith, l, long)));
    })
    (full_is_capped scheme n H (record { item = j; cycle = c; entries = es }) (record { cycle = one; within = within; entries = refl }))

-- It has it in full if the version has no ages.
pub has_full : (scheme : Scheme) (n : ℕ) (H : List Event) (v c j : ℕ) → 1 ≤ c → j < n → has_ages v ≡ false → HasAiredEntries scheme n H (told_by scheme n H v c j)
has_full scheme n H v c j one within e = record { cycle = one; within = within; entries = full_entries v c (aired_entries scheme n H c j) e }

-- A read may be heard on an air of this version: its entries may be capped, and are in full if the version has no ages.
abbrev pub MayBeHeard : Scheme → ℕ → ℕ → List Event → HeardRead → Type 0
MayBeHeard scheme version n H r = HasCappedEntries scheme n H r × (has_ages version ≡ false → HasAiredEntries scheme n H r)

-- ---- reads together

-- Reads that may be heard and aren't too far apart for the version have what H airs.
pub have_aired : (scheme : Scheme) (version n : ℕ) (H : List Event) (R : List HeardRead) (x : HeardRead) → All (MayBeHeard scheme version n H) R → MayBeHeard scheme version n H x →
    are_far version (map read_at R ++ read_at x ∷ []) ≡ false → HaveAiredEntries scheme n H R x
have_aired scheme version n H R x are is near = by (has_ages version) refl near
  where
    by : (b : Bool) → has_ages version ≡ b → (b && spans_too_far (map read_at R ++ read_at x ∷ [])) ≡ false → HaveAiredEntries scheme n H R x
    by true ages near = inr ((λ k d l. (are k d l).0), is.0, near)
    by false full near = inl ((λ k d l. (are k d l).1 full), is.1 full)

-- Zero reads aren't too far apart.
pub none_far : (version : ℕ) → are_far version [] ≡ false
unfolding spans_too_far span
none_far version = by (has_ages version)
  where
    by : (b : Bool) → (b && spans_too_far []) ≡ false
    by true = refl
    by false = refl

oldest_at_most : (c : ℕ) (R : List ReadAt) → oldest_with c R ≤ c
oldest_at_most c [] = omega arith
oldest_at_most c (r ∷ R) = let rest = oldest_at_most (min c r.cycle) R in omega arith

-- With one more read the oldest cycle doesn't rise.
oldest_falls : (c : ℕ) (r : ReadAt) (R : List ReadAt) → oldest_with c (r ∷ R) ≤ oldest_cycle (r ∷ R)
oldest_falls c r [] = omega arith
oldest_falls c r (s ∷ R) =
    let rest = oldest_falls (min c r.cycle) s R in
    let least = oldest_at_most (min c r.cycle) (s ∷ R) in
    omega arith

span_grows : (R : List ReadAt) (x : ReadAt) → span R ≤ span (R ++ x ∷ [])
unfolding span
span_grows [] x = omega arith
span_grows (r ∷ R) x =
    let more = span_push (r ∷ R) x (max x.cycle (newest_cycle (r ∷ R))) (oldest_with x.cycle (r ∷ R)) refl refl in
    let low = oldest_falls x.cycle r R in
    omega arith

-- If reads with one more aren't too far apart, they aren't without it.
pub nearer : (version : ℕ) (R : List ReadAt) (x : ReadAt) → are_far version (R ++ x ∷ []) ≡ false → are_far version R ≡ false
unfolding spans_too_far
nearer version R x = by (has_ages version)
  where
    by : (b : Bool) → (b && spans_too_far (R ++ x ∷ [])) ≡ false → (b && spans_too_far R) ≡ false
    by true near =
        let low = leb-false AGE_CAP (span (R ++ x ∷ [])) near in
        let grown = span_grows R x in
        lt-leb AGE_CAP (span R) (omega arith)
    by false near = refl

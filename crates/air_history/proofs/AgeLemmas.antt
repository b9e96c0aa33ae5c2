-- Entries as ages give them. The cap equals the span from which reads are too far apart. So a capped entry is below each cycle
-- that it is compared with, and 0 in its place answers the same. The entries of reads that are close together therefore answer
-- as the history's do (`answered`), which is enough for the laws of clashes.
use Rattle.std.proofs.Common.{◌≡◌, ℕ, zero, suc, ◌-◌, ◌<◌, ◌≤◌, min, max, Bool, true, false, cond, nat_le, nat_lt, List, [], ◌∷◌, ◌++◌, length, map, get_or, All, refl, sym, ◌∙◌, ap, subst, inl, inr, arith}
use Rattle.std.proofs.lemmas.Bool.{ltb-false, leb-false, lt-leb}
use Rattle.std.proofs.lemmas.List.Elements.{All-from_get_or}
use Rattle.std.proofs.lemmas.List.FromFn.{length-map-range_with_len}
use Rattle.air_base.specs.declared.limits.TheConstants.{AGE_CAP}
use Rattle.air_base.specs.declared.verdicts.Policy.{Policy}
use Rattle.air_base.specs.declared.verdicts.Policy.TheVariants.{FMatrix, Datacycle, RMatrix}
use Rattle.air_history.specs.declared.histories.Event.{Event}
use Rattle.air_history.specs.Histories.{front}
use Rattle.air_history.specs.Columns.{Scheme, aired_entries, column_entry, group_column, group_entry, has_groups, policy_entries, vector_entry}
use Rattle.air_history.specs.Reads.{ReadAt, newest_cycle, oldest_cycle}
use Rattle.air_history.specs.Ages.{capped, span, spans_too_far}
use Rattle.air_history.specs.Clashes.{HeardRead, read_at, entry_of, newest_heard}
use Rattle.air_history.specs.ClashLaws.{HasAiredEntries, HasCappedEntries, HaveAiredEntries, aired_entry}

-- ---- one entry

-- Compared with a cycle d that is less than the cap before c, a capped entry answers in cycle c as the entry itself.
pub cap_hidden : (e c d : ℕ) → 1 ≤ d → c - d < AGE_CAP → nat_le d (capped e c) ≡ nat_le d e
unfolding capped
cap_hidden e c d pos near = by (nat_lt (c - e) AGE_CAP) refl
  where
    by : (b : Bool) → nat_lt (c - e) AGE_CAP ≡ b → nat_le d (cond b e 0) ≡ nat_le d e
    by true young = refl
    by false old =
        let far : AGE_CAP ≤ c - e = ltb-false (c - e) AGE_CAP old in
        let none : nat_le d 0 ≡ false = lt-leb d 0 (omega arith) in
        let below : nat_le d e ≡ false = lt-leb d e (omega arith) in
        none ∙ sym below

-- A capped entry is below each number that the entry is below.
pub capped_less : (e c k : ℕ) → e < k → capped e c < k
unfolding capped
capped_less e c k l = by (nat_lt (c - e) AGE_CAP)
  where
    by : (b : Bool) → cond b e 0 < k
    by true = l
    by false = omega arith

-- ---- how far apart reads are

-- The oldest of cycle c and of the reads' cycles, read by read.
abbrev pub oldest_with : ℕ → List ReadAt → ℕ
oldest_with c [] = c
oldest_with c (r ∷ R) = oldest_with (min c r.cycle) R

oldest_out : (c k : ℕ) (R : List ReadAt) → oldest_with (min c k) R ≡ min k (oldest_with c R)
oldest_out c k [] = omega arith
oldest_out c k (r ∷ R) =
    let turned : min (min c k) r.cycle ≡ min (min c r.cycle) k = omega arith in
    ap (λ m. oldest_with m R) turned ∙ oldest_out (min c r.cycle) k R

oldest_push : (R : List ReadAt) (x : ReadAt) → oldest_cycle (R ++ x ∷ []) ≡ oldest_with x.cycle R
oldest_push [] x = refl
oldest_push (r ∷ []) x = omega arith
oldest_push (r ∷ s ∷ R) x = ap (min r.cycle) (oldest_push (s ∷ R) x) ∙ sym (oldest_out x.cycle r.cycle (s ∷ R))

newest_push : (R : List ReadAt) (x : ReadAt) → newest_cycle (R ++ x ∷ []) ≡ max x.cycle (newest_cycle R)
newest_push [] x = omega arith
newest_push (r ∷ R) x = let rest = newest_push R x in omega arith

-- The span of reads with one more read, from the newest and the oldest of their cycles.
pub span_push : (R : List ReadAt) (x : ReadAt) (newest oldest : ℕ) → newest ≡ max x.cycle (newest_cycle R) → oldest ≡ oldest_with x.cycle R →
    newest - oldest ≡ span (R ++ x ∷ [])
unfolding span
span_push R x newest oldest new old =
    let top : newest_cycle (R ++ x ∷ []) ≡ newest = newest_push R x ∙ sym new in
    let low : oldest_cycle (R ++ x ∷ []) ≡ oldest = oldest_push R x ∙ sym old in
    cc

oldest_at_most : (c : ℕ) (R : List ReadAt) → oldest_with c R ≤ c
oldest_at_most c [] = omega arith
oldest_at_most c (r ∷ R) = let rest = oldest_at_most (min c r.cycle) R in omega arith

-- No read is newer than the newest.
pub newest_at_least : (R : List HeardRead) → All (λ r. r.cycle ≤ newest_heard R) R
newest_at_least [] k d l = absurd (omega arith)
newest_at_least (r ∷ R) zero d l = omega arith
newest_at_least (r ∷ R) (suc k) d l = let rest = newest_at_least R k d (omega arith) in omega arith

-- No read is older than the oldest.
oldest_of_each : (c : ℕ) (R : List HeardRead) → All (λ r. oldest_with c (map read_at R) ≤ r.cycle) R
oldest_of_each c [] k d l = absurd (omega arith)
oldest_of_each c (r ∷ R) zero d l = let rest = oldest_at_most (min c r.cycle) (map read_at R) in omega arith
oldest_of_each c (r ∷ R) (suc k) d l = oldest_of_each (min c r.cycle) R k d (omega arith)

-- If the held reads and the new one aren't too far apart, each held read and the new one aren't either.
pub near_new : (R : List HeardRead) (x : HeardRead) → spans_too_far (map read_at R ++ read_at x ∷ []) ≡ false → All (λ r. (r.cycle - x.cycle < AGE_CAP) × (x.cycle - r.cycle < AGE_CAP)) R
unfolding spans_too_far
near_new R x close k d l =
    let S = map read_at R in
    let same : max x.cycle (newest_heard R) - oldest_with x.cycle S ≡ span (S ++ read_at x ∷ []) = span_push S (read_at x) (max x.cycle (newest_heard R)) (oldest_with x.cycle S) refl refl in
    let low : span (S ++ read_at x ∷ []) < AGE_CAP = leb-false AGE_CAP (span (S ++ read_at x ∷ [])) close in
    let at_most : (get_or R k d).cycle ≤ newest_heard R = newest_at_least R k d l in
    let at_least : oldest_with x.cycle S ≤ (get_or R k d).cycle = oldest_of_each x.cycle R k d l in
    let least : oldest_with x.cycle S ≤ x.cycle = oldest_at_most x.cycle S in
    (omega arith, omega arith)

-- ---- all entries of a read

-- Compared with cycle d, each entry of the read answers as the one that H airs with it.
abbrev pub Answers : Scheme → ℕ → List Event → ℕ → HeardRead → Type 0
Answers scheme n H d r = (i : ℕ) → i < n → nat_le d (entry_of r i) ≡ nat_le d (aired_entry scheme n H r i)

-- The held read r and the new read x answer this way for each other's cycles.
pub record IsAnswered (scheme : Scheme) (n : ℕ) (H : List Event) (x r : HeardRead) : Type 0 where
  pub cycle : 1 ≤ r.cycle
  pub within : r.item < n
  pub by_held : Answers scheme n H x.cycle r
  pub by_new : Answers scheme n H r.cycle x

in_full : (scheme : Scheme) (n : ℕ) (H : List Event) (r : HeardRead) → HasAiredEntries scheme n H r → (d : ℕ) → Answers scheme n H d r
in_full scheme n H r is d i l = ap (λ es. nat_le d (get_or es i 0)) is.entries

by_age : (scheme : Scheme) (n : ℕ) (H : List Event) (r : HeardRead) → HasCappedEntries scheme n H r → (d : ℕ) → 1 ≤ d → r.cycle - d < AGE_CAP → Answers scheme n H d r
by_age scheme n H r is d pos near i l = elim (is.entries i l) as (λ _. nat_le d (entry_of r i) ≡ nat_le d (aired_entry scheme n H r i)) [
  | inl same ↦ ap (nat_le d) same
  | inr cap ↦ ap (nat_le d) cap ∙ cap_hidden (aired_entry scheme n H r i) r.cycle d pos near
]

-- Reads that have what H airs answer as the history does.
pub answered : (scheme : Scheme) (n : ℕ) (H : List Event) (R : List HeardRead) (x : HeardRead) → HaveAiredEntries scheme n H R x → All (IsAnswered scheme n H x) R
answered scheme n H R x (inl full) k d l = let r = get_or R k d in record {
  cycle = (full.0 k d l).cycle;
  within = (full.0 k d l).within;
  by_held = in_full scheme n H r (full.0 k d l) x.cycle;
  by_new = in_full scheme n H x full.1 r.cycle;
}
answered scheme n H R x (inr aged) k d l = let r = get_or R k d in let near = near_new R x aged.2 k d l in record {
  cycle = (aged.0 k d l).cycle;
  within = (aged.0 k d l).within;
  by_held = by_age scheme n H r (aged.0 k d l) x.cycle aged.1.cycle near.0;
  by_new = by_age scheme n H x aged.1 r.cycle (aged.0 k d l).cycle near.1;
}

-- The new read's cycle is at least 1.
pub new_cycle : (scheme : Scheme) (n : ℕ) (H : List Event) (R : List HeardRead) (x : HeardRead) → HaveAiredEntries scheme n H R x → 1 ≤ x.cycle
new_cycle scheme n H R x (inl full) = full.1.cycle
new_cycle scheme n H R x (inr aged) = aged.1.cycle

pub new_within : (scheme : Scheme) (n : ℕ) (H : List Event) (R : List HeardRead) (x : HeardRead) → HaveAiredEntries scheme n H R x → x.item < n
new_within scheme n H R x (inl full) = full.1.within
new_within scheme n H R x (inr aged) = aged.1.within

-- ---- entries in full are a case of entries that may be capped

aired_length : (policy : Policy) (n : ℕ) (H : List Event) (c j : ℕ) → length (policy_entries policy n H c j) ≡ n
aired_length FMatrix n H c j = length-map-range_with_len (column_entry (front H c) j) 0 n
aired_length Datacycle n H c j = length-map-range_with_len (vector_entry (front H c)) 0 n
aired_length RMatrix n H c j = length-map-range_with_len (vector_entry (front H c)) 0 n

scheme_length : (scheme : Scheme) (n : ℕ) (H : List Event) (c j : ℕ) → length (aired_entries scheme n H c j) ≡ n
scheme_length scheme n H c j = by (has_groups scheme)
  where
    by : (b : Bool) → length (cond b (group_column scheme.group n (front H c) j) (policy_entries scheme.policy n H c j)) ≡ n
    by true = length-map-range_with_len (group_entry scheme.group n (front H c) j) 0 n
    by false = aired_length scheme.policy n H c j

pub full_is_capped : (scheme : Scheme) (n : ℕ) (H : List Event) (r : HeardRead) → HasAiredEntries scheme n H r → HasCappedEntries scheme n H r
full_is_capped scheme n H r is = record {
  cycle = is.cycle;
  within = is.within;
  sized = ap length is.entries ∙ scheme_length scheme n H r.cycle r.item;
  entries = λ i l. inl (ap (λ es. get_or es i 0) is.entries);
}

-- If what H airs with the read is below a number, the capped entries are below it too.
pub capped_below : (scheme : Scheme) (n : ℕ) (H : List Event) (r : HeardRead) (k : ℕ) → HasCappedEntries scheme n H r → ((i : ℕ) → i < n → aired_entry scheme n H r i < k) → All (λ e. e < k) r.entries
capped_below scheme n H r k is below = All-from_get_or (λ e. e < k) r.entries 0 (λ i l.
    let within : i < n = omega (arith, is.sized) in
    elim (is.entries i within) as (λ _. entry_of r i < k) [
      | inl same ↦ subst (λ e. e < k) (sym same) (below i within)
      | inr cap ↦ subst (λ e. e < k) (sym cap) (capped_less (aired_entry scheme n H r i) r.cycle k (below i within))
    ])

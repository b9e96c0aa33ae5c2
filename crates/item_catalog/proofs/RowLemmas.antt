-- The records that a reader has left: first the one that it reads next, and none at the end.
use Rattle.std.proofs.Common.{◌≡◌, ◌≤◌, ◌<◌, ◌+◌, ◌++◌, ◌⊎◌, ℕ, zero, suc, List, [], ◌∷◌, length, Option, Some, None, Bool, true, false, cond, refl, sym, ◌∙◌, inl, inr, ap, arith, if◌then◌else◌}
use Rattle.std.proofs.lemmas.List.{append-nil}
use Rattle.csv.specs.Machine.{Read, ends_at_end, field_after, fields_after, is_end, next_record, step}
use Rattle.csv.specs.Reading.{Reached, default_config, is_bom, records, records_from, records_next, strip_bom}
use Rattle.csv.specs.declared.parser.Config.{Config}
use Rattle.csv.specs.declared.parser.State.{State}
use Rattle.csv.specs.declared.parser.State.TheVariants as st
use Rattle.item_catalog.specs.Records.{records_of}

-- A record takes a byte, or is the last one and ends with the text.
abbrev Took : List ℕ → Read → Type 0
Took xs p = (length p.2 < length xs) ⊎ ((xs ≡ []) × (p.1 ≡ st.StartRecord) × (p.2 ≡ []))

took_last : (fields : List (List ℕ)) (p : Read) → ◌≡◌ {A = Option Read} (Some (fields, st.StartRecord, [])) (Some p) → Took [] p
took_last fields p e = grind arith

took_one : (fields : List (List ℕ)) (s : State) (c : ℕ) (rest : List ℕ) (p : Read) → ◌≡◌ {A = Option Read} (Some (fields, s, rest)) (Some p) → Took (c ∷ rest) p
took_one fields s c rest p e = grind arith

took_more : (c : ℕ) (rest : List ℕ) (p : Read) → Took rest p → Took (c ∷ rest) p
took_more c rest p (inl short) = inl (omega arith)
took_more c rest p (inr end) = inl (rw (end.0, end.2) (omega arith))

takes : (cfg : Config) (s : State) (fields : List (List ℕ)) (field xs : List ℕ) (p : Read) → next_record cfg s fields field xs ≡ Some p → Took xs p
unfolding next_record
takes cfg s fields field [] p h = at_end (ends_at_end s) h
  where
    at_end : (b : Bool) → ◌≡◌ {A = Option Read} (if b then Some (fields ++ (field ∷ []), st.StartRecord, []) else None) (Some p) → Took [] p
    at_end true e = took_last (fields ++ (field ∷ [])) p e
    at_end false e = cc e
takes cfg s fields field (c ∷ rest) p h =
    by (is_end (step cfg s c).1) h (takes cfg (step cfg s c).0 (fields_after (step cfg s c).1 fields field) (field_after (step cfg s c).1 c field) rest p)
  where
    by : (b : Bool)
        → ◌≡◌ {A = Option Read} (if b then Some (fields_after (step cfg s c).1 fields field, (step cfg s c).0, rest) else next_record cfg (step cfg s c).0 (fields_after (step cfg s c).1 fields field) (field_after (step cfg s c).1 c field) rest) (Some p)
        → (next_record cfg (step cfg s c).0 (fields_after (step cfg s c).1 fields field) (field_after (step cfg s c).1 c field) rest ≡ Some p → Took rest p)
        → Took (c ∷ rest) p
    by true e more = took_one (fields_after (step cfg s c).1 fields field) (step cfg s c).0 c rest p e
    by false e more = took_more c rest p (more e)

-- Enough turns give all records, with any number of further turns.
none_behind : (cfg : Config) (n : ℕ) → records_from cfg n st.StartRecord [] ≡ []
unfolding records_from next_record
none_behind cfg zero = refl
none_behind cfg (suc n) = refl

same_turns : (cfg : Config) (n k : ℕ) (s : State) (xs : List ℕ) → length xs < n → length xs < k → records_from cfg n s xs ≡ records_from cfg k s xs
unfolding records_from
same_turns cfg zero k s xs a b = absurd (omega arith)
same_turns cfg (suc n) zero s xs a b = absurd (omega arith)
same_turns cfg (suc n) (suc k) s xs a b = by (next_record cfg s [] [] xs) refl (λ p c d. same_turns cfg n k p.1 p.2 c d)
  where
    by : (o : Option Read) → next_record cfg s [] [] xs ≡ o → ((p : Read) → length p.2 < n → length p.2 < k → records_from cfg n p.1 p.2 ≡ records_from cfg k p.1 p.2)
        → records_next (records_from cfg n) o ≡ records_next (records_from cfg k) o
    by None e more = refl
    by (Some p) e more = ap (λ rows. p.0 ∷ rows) (elim (takes cfg s [] [] xs p e) [
      | inl short ↦ more p (omega arith) (omega arith)
      | inr end ↦ rw (end.1, end.2) (none_behind cfg n ∙ sym (none_behind cfg k))
    ])

-- A record that is read is the first that was left.
next_left : (cfg : Config) (s : State) (xs : List ℕ) (p : Read) → next_record cfg s [] [] xs ≡ Some p → records_from cfg (length xs + 1) s xs ≡ p.0 ∷ records_from cfg (length p.2 + 1) p.1 p.2
unfolding records_from
next_left cfg s xs p read =
    let turns : length xs + 1 ≡ suc (length xs) = omega arith in
    let more : records_from cfg (length xs) p.1 p.2 ≡ records_from cfg (length p.2 + 1) p.1 p.2 = elim (takes cfg s [] [] xs p read) [
      | inl short ↦ same_turns cfg (length xs) (length p.2 + 1) p.1 p.2 short (omega arith)
      | inr end ↦ rw (end.1, end.2) (none_behind cfg (length xs) ∙ sym (none_behind cfg (length {A = ℕ} [] + 1)))
    ] in
    rw (turns, read, more) refl

pub rows_left : (cfg : Config) (s : State) (xs : List ℕ) (rows : List (List (List ℕ))) (s2 : State) (ys : List ℕ) → Reached cfg s xs rows s2 ys
    → records_from cfg (length xs + 1) s xs ≡ rows ++ records_from cfg (length ys + 1) s2 ys
unfolding Reached
rows_left cfg s xs [] s2 ys h = rw (h.0, h.1) refl
rows_left cfg s xs (row ∷ rows) s2 ys (p, read, fields, rest) =
    rw fields (next_left cfg s xs p read ∙ ap (λ more. p.0 ∷ more) (rows_left cfg p.1 p.2 rows s2 ys rest))

pub none_left : (cfg : Config) (n : ℕ) (s : State) (xs : List ℕ) → next_record cfg s [] [] xs ≡ None → records_from cfg n s xs ≡ []
unfolding records_from
none_left cfg zero s xs e = refl
none_left cfg (suc n) s xs e = rw e refl

-- The rows that are read up to the end are all.
pub all_rows : (cfg : Config) (xs : List ℕ) (rows : List (List (List ℕ))) (s2 : State) (ys : List ℕ)
    → Reached cfg st.StartRecord xs rows s2 ys → next_record cfg s2 [] [] ys ≡ None → records cfg xs ≡ rows
all_rows cfg xs rows s2 ys h end = rows_left cfg st.StartRecord xs rows s2 ys h ∙ ap (λ more. rows ++ more) (none_left cfg (length ys + 1) s2 ys end) ∙ append-nil rows

-- There are no more records than turns.
few_from : (cfg : Config) (n : ℕ) (s : State) (xs : List ℕ) → length (records_from cfg n s xs) ≤ n
unfolding records_from
few_from cfg zero s xs = omega arith
few_from cfg (suc n) s xs = by (next_record cfg s [] [] xs) (λ p. few_from cfg n p.1 p.2)
  where
    by : (o : Option Read) → ((p : Read) → length (records_from cfg n p.1 p.2) ≤ n) → length (records_next (records_from cfg n) o) ≤ suc n
    by None more = omega arith
    by (Some p) more = omega (arith, more p)

-- A text without its byte order mark is no longer.
pub strip_short : (text : List ℕ) → length (strip_bom text) ≤ length text
unfolding strip_bom
strip_short [] = omega arith
strip_short (a ∷ []) = omega arith
strip_short (a ∷ b ∷ []) = omega arith
strip_short (a ∷ b ∷ c ∷ rest) = by (is_bom a b c)
  where
    by : (t : Bool) → length (cond t rest (a ∷ b ∷ c ∷ rest)) ≤ length (a ∷ b ∷ c ∷ rest)
    by true = omega arith
    by false = omega arith

-- There are at most as many records as bytes plus one.
pub few_records : (text : List ℕ) → length (records_of text) ≤ length text + 1
few_records text = omega (arith, few_from default_config (length (strip_bom text) + 1) st.StartRecord (strip_bom text), strip_short text)

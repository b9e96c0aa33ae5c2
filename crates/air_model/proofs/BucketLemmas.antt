-- The laws of the bucket: the relation and the reading agree, and no bucket's bytes begin with another's.
-- A bucket is seen as its flat fields (`BucketFields`), for which `FieldLemmas` has both directions; each reading is one chain of tests.
use Rattle.std.proofs.Common.{◌≡◌, ◌⊎◌, inl, inr, ◌≤◌, ◌+◌, ◌*◌, ◌++◌, ◌&&◌, ◌||◌, ◌==◌, not, if◌then◌else◌, nat_lt, nat_le, ℕ, Bool, true, false, Result, Ok, Err, List, [], ◌∷◌, length, drop, length-append, slice_index, refl, sym, ◌∙◌, ap, subst, arith, ◌↔◌}
use Rattle.std.specs.Prelude.{IsErr}
use Rattle.std.proofs.lemmas.Bool.{and_from, and_parts, eq-eqb, eqb-true, leb-true, ltb-false, le-leb, le-ltb, or_cases}
use Rattle.std.proofs.lemmas.List.{drop-append-le, get_or_append_left, length-drop, length-map, nil_from_length}
use Rattle.byteorder.specs.Endian.{big_number}
use Rattle.air_model.specs.Buckets.{Bucket, IsBucket, bucket_at, entries_at, entries_of, entry_count, entry_len, entry_told, is_shaped, number_at, reading, AreBytes}
use Rattle.air_model.proofs.ByteLemmas.{AllBytes, all_bytes}
use Rattle.air_model.proofs.FieldLemmas.{IsWhole, bytes_of, numbers_long, fields_of, in_range, read_back, shaped_is, spelled, whole_bytes}
use Rattle.air_model.proofs.BucketFields.{bucket_back, bucket_fields, bucket_from, bucket_in_range, bucket_is, entries_for, entries_from, fields_in_range, fields_of_back, spelling_is}

-- ---- the relation and whole bytes
pub whole_from_bucket : (bytes : List ℕ) (b : Bucket) → IsBucket bytes b → IsWhole bytes × (bucket_at bytes ≡ b)
whole_from_bucket bytes b h =
    let r = fields_in_range b h.0 in
    let e : bytes ≡ bytes_of (bucket_fields b) = h.1 ∙ spelling_is b h.0 in
    (subst IsWhole (sym e) (whole_bytes (bucket_fields b) r), bucket_is bytes ∙ ap bucket_from (ap fields_of e ∙ read_back (bucket_fields b) r) ∙ bucket_back b h.0)

-- The bucket of bytes without a fault has the fields at their places, so its numbers can be read there.
pub fields_back : (bytes : List ℕ) → IsWhole bytes → bucket_fields (bucket_at bytes) ≡ fields_of bytes
unfolding fields_of
fields_back bytes w = ap bucket_fields (bucket_is bytes) ∙ fields_of_back (fields_of bytes) w.kind (numbers_long bytes) (sym (shaped_is bytes) ∙ w.shaped)

-- Its entries are those for which the numbers at their places stand.
pub entries_read : (bytes : List ℕ) → IsWhole bytes → entries_of (bucket_at bytes).body ≡ entries_at (slice_index bytes 2) (number_at 8 4 bytes) (entry_count (slice_index bytes 3) (number_at 6 2 bytes)) bytes
unfolding fields_of entries_at
entries_read bytes w =
    let f = fields_of bytes in
    ap (λ (b : Bucket). entries_of b.body) (bucket_is bytes)
    ∙ entries_from f.kind f.count f.item f.value (entries_for f) (length-map f.numbers (entry_told f.version f.cycle) ∙ numbers_long bytes)

pub bucket_from_whole : (bytes : List ℕ) → AllBytes bytes → IsWhole bytes → IsBucket bytes (bucket_at bytes)
bucket_from_whole bytes all w =
    let r = in_range bytes all w in
    let made = bucket_in_range (fields_of bytes) r in
    subst (IsBucket bytes) (sym (bucket_is bytes))
    (made, spelled bytes all w ∙ ap bytes_of (sym (fields_of_back (fields_of bytes) r.kind r.many r.shaped)) ∙ sym (spelling_is (bucket_from (fields_of bytes)) made))

-- ---- the reading and whole bytes
ok_of : {A F : Type 0} (a b c d e g : Bool) (s m v k l h : F) (x y : A)
    → ◌≡◌ {A = Result A F} (if a then Err s else if not b then Err m else if not c then Err v else if not d then Err k else if not e then Err l else if not g then Err h else Ok x) (Ok y)
    → (a ≡ false) × (b ≡ true) × (c ≡ true) × (d ≡ true) × (e ≡ true) × (g ≡ true) × (x ≡ y)
ok_of true b c d e g s m v k l h x y z = cc z
ok_of false false c d e g s m v k l h x y z = cc z
ok_of false true false d e g s m v k l h x y z = cc z
ok_of false true true false e g s m v k l h x y z = cc z
ok_of false true true true false g s m v k l h x y z = cc z
ok_of false true true true true false s m v k l h x y z = cc z
ok_of false true true true true true s m v k l h x y z = (refl, refl, refl, refl, refl, refl, cc z)

-- A version is 1 or 2.
version_from : (n : ℕ) → ((n == 1) || (n == 2)) ≡ true → (n ≡ 1) ⊎ (n ≡ 2)
version_from n t = elim (or_cases (n == 1) (n == 2) t) as (λ _. (n ≡ 1) ⊎ (n ≡ 2)) [
  | inl one ↦ inl (eqb-true n 1 one)
  | inr two ↦ inr (eqb-true n 2 two)
]

version_test : (n : ℕ) → (n ≡ 1) ⊎ (n ≡ 2) → ((n == 1) || (n == 2)) ≡ true
version_test n (inl one) = ap (λ v. (v == 1) || (v == 2)) one
version_test n (inr two) = ap (λ v. (v == 1) || (v == 2)) two

pub whole_from_ok : (bytes : List ℕ) (b : Bucket) → reading bytes ≡ Ok b → IsWhole bytes × (bucket_at bytes ≡ b)
unfolding reading
whole_from_ok bytes b z =
    let n = ok_of (nat_lt (length bytes) 24) ((slice_index bytes 0 == 0x41) && (slice_index bytes 1 == 0x44)) ((slice_index bytes 2 == 1) || (slice_index bytes 2 == 2)) (nat_le (slice_index bytes 3) 2)
    (length bytes == 24 + entry_len (slice_index bytes 2) * entry_count (slice_index bytes 3) (number_at 6 2 bytes)) (is_shaped bytes) _ _ _ _ _ _ (bucket_at bytes) b z in
    let m = and_parts (slice_index bytes 0 == 0x41) (slice_index bytes 1 == 0x44) n.1 in
    let w : IsWhole bytes = record {
      long = ltb-false (length bytes) 24 n.0;
      magic0 = eqb-true (slice_index bytes 0) 0x41 m.0;
      magic1 = eqb-true (slice_index bytes 1) 0x44 m.1;
      version = version_from (slice_index bytes 2) n.2;
      kind = leb-true (slice_index bytes 3) 2 n.3;
      exact = eqb-true (length bytes) (24 + entry_len (slice_index bytes 2) * entry_count (slice_index bytes 3) (number_at 6 2 bytes)) n.4;
      shaped = n.5;
    } in
    (w, n.6)

ok_by : {A F : Type 0} (a b c d e g : Bool) (s m v k l h : F) (x : A) → a ≡ false → b ≡ true → c ≡ true → d ≡ true → e ≡ true → g ≡ true
    → ◌≡◌ {A = Result A F} (if a then Err s else if not b then Err m else if not c then Err v else if not d then Err k else if not e then Err l else if not g then Err h else Ok x) (Ok x)
ok_by a b c d e g s m v k l h x p1 p2 p3 p4 p5 p6 = rw (p1, p2, p3, p4, p5, p6) refl

pub ok_from_whole : (bytes : List ℕ) → IsWhole bytes → reading bytes ≡ Ok (bucket_at bytes)
unfolding reading
ok_from_whole bytes w =
    ok_by (nat_lt (length bytes) 24) ((slice_index bytes 0 == 0x41) && (slice_index bytes 1 == 0x44)) ((slice_index bytes 2 == 1) || (slice_index bytes 2 == 2)) (nat_le (slice_index bytes 3) 2)
    (length bytes == 24 + entry_len (slice_index bytes 2) * entry_count (slice_index bytes 3) (number_at 6 2 bytes)) (is_shaped bytes) _ _ _ _ _ _ (bucket_at bytes)
    (le-ltb (length bytes) 24 w.long) (and_from _ _ (ap (λ x. x == 0x41) w.magic0) (ap (λ x. x == 0x44) w.magic1)) (version_test (slice_index bytes 2) w.version) (le-leb (slice_index bytes 3) 2 w.kind)
    (eq-eqb (length bytes) _ w.exact) w.shaped

-- ---- the laws
pub reading_agrees : (bytes : List ℕ) (b : Bucket) → AreBytes bytes → IsBucket bytes b ↔ (reading bytes ≡ Ok b)
reading_agrees bytes b are = (
  λ h. let w = whole_from_bucket bytes b h in ok_from_whole bytes w.0 ∙ ap Ok w.1,
  λ z. let w = whole_from_ok bytes b z in subst (IsBucket bytes) w.1 (bucket_from_whole bytes (all_bytes bytes are) w.0),
)

pub fault_exactly : (bytes : List ℕ) → AreBytes bytes → IsErr (reading bytes) ↔ ((b : Bucket) → IsBucket bytes b → ⊥)
fault_exactly bytes are = (λ bad b h. no_ok (reading bytes) b bad ((reading_agrees bytes b are).0 h), λ none. by (reading bytes) refl none)
  where
    no_ok : {A F : Type 0} (r : Result A F) (x : A) → IsErr r → r ≡ Ok x → ⊥
    no_ok r x bad e = cc (bad, e)

    by : (r : Result Bucket _) → reading bytes ≡ r → ((b : Bucket) → IsBucket bytes b → ⊥) → IsErr r
    by (Ok b) e none = absurd (none b ((reading_agrees bytes b are).1 e))
    by (Err f) e none = refl

pub one_bucket : (bytes : List ℕ) (a b : Bucket) → IsBucket bytes a → IsBucket bytes b → a ≡ b
one_bucket bytes a b h g = sym (whole_from_bucket bytes a h).1 ∙ (whole_from_bucket bytes b g).1

pub no_prefix : (bytes rest : List ℕ) (a b : Bucket) → IsBucket bytes a → IsBucket (bytes ++ rest) b → rest ≡ []
no_prefix bytes rest a b h g =
    let w = (whole_from_bucket bytes a h).0 in
    let v = (whole_from_bucket (bytes ++ rest) b g).0 in
    let long = w.long in
    let version : slice_index (bytes ++ rest) 2 ≡ slice_index bytes 2 = get_or_append_left bytes rest 0 2 (omega arith) in
    let kind : slice_index (bytes ++ rest) 3 ≡ slice_index bytes 3 = get_or_append_left bytes rest 0 3 (omega arith) in
    let count : number_at 6 2 (bytes ++ rest) ≡ number_at 6 2 bytes =
    ap (big_number 2) (drop-append-le 6 bytes rest (omega arith)) ∙ number_left (drop 6 bytes) rest (omega (arith, length-drop 6 bytes)) in
    let same : length (bytes ++ rest) ≡ length bytes = v.exact ∙ (rw (version, kind, count) (sym w.exact)) in
    nil_from_length rest (omega (arith, length-append bytes rest))
  where
    number_left : (xs ys : List ℕ) → 2 ≤ length xs → big_number 2 (xs ++ ys) ≡ big_number 2 xs
    number_left [] ys h = absurd (omega arith)
    number_left (x ∷ []) ys h = absurd (omega arith)
    number_left (x ∷ y ∷ xs) ys h = refl

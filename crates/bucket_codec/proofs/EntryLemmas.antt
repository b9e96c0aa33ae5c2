-- The entries of bytes: their tests one by one, entries in full and by age, and what the test of a version says of them. The
-- loops of `entries` use `tests_more`, `raw_is` and `entry_is`; its choices by version use the lemmas of the last two parts.
use Rattle.std.proofs.Common.{◌≡◌, ◌<◌, ◌≤◌, ◌+◌, ◌-◌, ◌*◌, ◌++◌, ◌&&◌, ◌||◌, ◌==◌, ◌≢◌, cond, if◌then◌else◌, min, ℕ, Bool, true, false, List, [], ◌∷◌, length, map, drop, get_or, slice_index, nat_le, nat_lt, refl, sym, ◌∙◌, ap, subst, arith}
use Rattle.std.specs.List.{list_all, range_with_len}
use Rattle.std.proofs.lemmas.Bool.{and_parts, eqb-false, le-ltb, lt-ltb, ltb-false, ltb-true, ne_eqb}
use Rattle.std.proofs.lemmas.List.{get_or-drop, get_or-map, length-map}
use Rattle.std.proofs.lemmas.List.Folds.{list_all-append}
use Rattle.std.proofs.lemmas.List.FromFn.{get_or-map-range_with_len, length-map-range_with_len, map-range_with_len_more}
use Rattle.air_base.specs.declared.limits.TheConstants.{AGE_CAP}
use Rattle.air_history.specs.Ages.{capped}
use Rattle.air_model.proofs.EntryLemmas.{each_test}
use Rattle.air_model.specs.Buckets.{age_of, entries_at, entry_len, entry_told, has_ages, is_entry, number_at, raw_entries, raw_entry}

-- ---- one by one

raw_more : (v i : ℕ) (bytes : List ℕ) → raw_entries v (i + 1) bytes ≡ raw_entries v i bytes ++ raw_entry v i bytes ∷ []
unfolding raw_entries
raw_more v i bytes = map-range_with_len_more (λ i. raw_entry v i bytes) 0 i i (omega arith)

pub tests_none : (v c : ℕ) (bytes : List ℕ) → list_all (is_entry v c) (raw_entries v 0 bytes) ≡ true
unfolding raw_entries
tests_none v c bytes = refl

-- One more entry is tested.
pub tests_more : (v c i : ℕ) (bytes : List ℕ) → list_all (is_entry v c) (raw_entries v (i + 1) bytes) ≡ (list_all (is_entry v c) (raw_entries v i bytes) && is_entry v c (raw_entry v i bytes))
tests_more v c i bytes =
    let x = raw_entry v i bytes in
    ap (list_all (is_entry v c)) (raw_more v i bytes) ∙ list_all-append (is_entry v c) (raw_entries v i bytes) (x ∷ [])
    ∙ ap (λ b. list_all (is_entry v c) (raw_entries v i bytes) && b) (one (is_entry v c x))
  where
    one : (b : Bool) → (b && true) ≡ b
    one true = refl
    one false = refl

pub raw_is : (v n i : ℕ) (bytes : List ℕ) → i < n → get_or (raw_entries v n bytes) i 0 ≡ raw_entry v i bytes
unfolding raw_entries
raw_is v n i bytes under = get_or-map-range_with_len (λ i. raw_entry v i bytes) 0 n i i 0 under (omega arith)

pub length_raw : (v n : ℕ) (bytes : List ℕ) → length (raw_entries v n bytes) ≡ n
unfolding raw_entries
length_raw v n bytes = length-map-range_with_len (λ i. raw_entry v i bytes) 0 n

pub entry_is : (v c n i : ℕ) (bytes : List ℕ) → i < n → get_or (entries_at v c n bytes) i 0 ≡ entry_told v c (raw_entry v i bytes)
unfolding entries_at
entry_is v c n i bytes under = get_or-map (entry_told v c) (raw_entries v n bytes) i 0 0 (omega (arith, length_raw v n bytes)) ∙ ap (entry_told v c) (raw_is v n i bytes under)

pub length_entries : (v c n : ℕ) (bytes : List ℕ) → length (entries_at v c n bytes) ≡ n
unfolding entries_at
length_entries v c n bytes = length-map (raw_entries v n bytes) (entry_told v c) ∙ length_raw v n bytes

-- Each of the tested entries passes.
pub test_is : (v c n i : ℕ) (bytes : List ℕ) → list_all (is_entry v c) (raw_entries v n bytes) ≡ true → i < n → is_entry v c (raw_entry v i bytes) ≡ true
test_is v c n i bytes t under =
    ap (is_entry v c) (sym (raw_is v n i bytes under)) ∙ each_test (is_entry v c) (raw_entries v n bytes) t i 0 (omega (arith, length_raw v n bytes))

-- ---- in full, and by age

pub entry_in_full : (c i : ℕ) (bytes : List ℕ) → entry_told 1 c (raw_entry 1 i bytes) ≡ number_at (24 + 4 * i) 4 bytes
unfolding entry_told
entry_in_full c i bytes = refl

pub test_in_full : (c a : ℕ) → is_entry 1 c a ≡ nat_lt a c
unfolding is_entry
test_in_full c a = refl

-- The number that stands for an age is its byte.
pub age_is : (i : ℕ) (bytes : List ℕ) → raw_entry 2 i bytes ≡ slice_index bytes (24 + i)
age_is i bytes =
    let byte : raw_entry 2 i bytes ≡ slice_index (drop (24 + 1 * i) bytes) 0 = omega arith in
    let place : 24 + 1 * i + 0 ≡ 24 + i = omega arith in
    byte ∙ get_or-drop (24 + 1 * i) bytes 0 0 ∙ ap (slice_index bytes) place

-- A byte is an age in a cycle if and only if it is one in the lesser of the cycle and the cap.
pub age_test : (c d a : ℕ) → a < 256 → d ≡ min c AGE_CAP → is_entry 2 d a ≡ is_entry 2 c a
unfolding is_entry
age_test c d a small earlier = by (a == AGE_CAP) refl
  where
    by : (b : Bool) → (a == AGE_CAP) ≡ b → (b || (nat_le 1 a && nat_lt a d)) ≡ (b || (nat_le 1 a && nat_lt a c))
    by true same = refl
    by false other = ap (λ b. nat_le 1 a && b) (tried (nat_lt a c) refl)
      where
        apart : a ≢ AGE_CAP
        apart = eqb-false a AGE_CAP other

        tried : (b : Bool) → nat_lt a c ≡ b → nat_lt a d ≡ nat_lt a c
        tried true below = let less = ltb-true a c below in let no : a ≢ AGE_CAP = apart in lt-ltb a d (omega arith) ∙ sym below
        tried false over = let most = ltb-false a c over in le-ltb a d (omega arith) ∙ sym over

-- The age of an entry that is 0, and of another.
pub age_none : (c e : ℕ) → e ≡ 0 → AGE_CAP ≡ age_of c (capped e c)
unfolding capped
age_none c e none = subst (λ n. AGE_CAP ≡ age_of c (capped n c)) (sym none) (by (nat_lt (c - 0) AGE_CAP))
  where
    by : (b : Bool) → AGE_CAP ≡ age_of c (cond b 0 0)
    by true = refl
    by false = refl

pub age_some : (c e : ℕ) → e ≢ 0 → min (c - e) AGE_CAP ≡ age_of c (capped e c)
unfolding capped
age_some c e some = by (nat_lt (c - e) AGE_CAP) refl
  where
    by : (b : Bool) → nat_lt (c - e) AGE_CAP ≡ b → min (c - e) AGE_CAP ≡ age_of c (cond b e 0)
    by true young =
        let less = ltb-true (c - e) AGE_CAP young in
        let same : min (c - e) AGE_CAP ≡ c - e = omega arith in
        same ∙ sym (ap (λ (b : Bool). if b then AGE_CAP else c - e) (ne_eqb e 0 some))
    by false old = let most = ltb-false (c - e) AGE_CAP old in omega arith

-- An age that isn't the cap is below the cycle.
pub age_below : (c a : ℕ) → is_entry 2 c a ≡ true → a ≢ AGE_CAP → a < c
unfolding is_entry
age_below c a t other = ltb-true a c (and_parts (nat_le 1 a) (nat_lt a c) (by (a == AGE_CAP) (ne_eqb a AGE_CAP other) t)).1
  where
    by : (b : Bool) → b ≡ false → (b || (nat_le 1 a && nat_lt a c)) ≡ true → (nat_le 1 a && nat_lt a c) ≡ true
    by true e t = cc
    by false e t = t

-- ---- two versions that both have ages, or both don't, read alike

pub same_len : (v w : ℕ) → has_ages v ≡ has_ages w → entry_len v ≡ entry_len w
same_len v w e = ap (λ (b : Bool). if b then 1 else 4) e

pub same_raw : (v w i : ℕ) (bytes : List ℕ) → has_ages v ≡ has_ages w → raw_entry v i bytes ≡ raw_entry w i bytes
same_raw v w i bytes e = ap (λ (b : Bool). let n : ℕ = if b then 1 else 4 in number_at (24 + n * i) n bytes) e

pub same_test : (v w c a : ℕ) → has_ages v ≡ has_ages w → is_entry v c a ≡ is_entry w c a
unfolding is_entry
same_test v w c a e = ap (λ (b : Bool). if b then (a == AGE_CAP) || (nat_le 1 a && nat_lt a c) else nat_lt a c) e

pub same_told : (v w c a : ℕ) → has_ages v ≡ has_ages w → entry_told v c a ≡ entry_told w c a
unfolding entry_told
same_told v w c a e = ap (λ (b : Bool). if b then (if a == AGE_CAP then 0 else c - a) else a) e

pub same_tests : (v w c n : ℕ) (bytes : List ℕ) → has_ages v ≡ has_ages w → list_all (is_entry v c) (raw_entries v n bytes) ≡ list_all (is_entry w c) (raw_entries w n bytes)
unfolding is_entry raw_entries
same_tests v w c n bytes e =
    ap (λ (b : Bool). list_all (λ a. if b then (a == AGE_CAP) || (nat_le 1 a && nat_lt a c) else nat_lt a c) (map (λ i. let n : ℕ = if b then 1 else 4 in number_at (24 + n * i) n bytes) (range_with_len 0 n))) e

pub same_entries : (v w c n : ℕ) (bytes : List ℕ) → has_ages v ≡ has_ages w → entries_at v c n bytes ≡ entries_at w c n bytes
unfolding entries_at entry_told raw_entries
same_entries v w c n bytes e =
    ap (λ (b : Bool). map (λ a. if b then (if a == AGE_CAP then 0 else c - a) else a) (map (λ i. let n : ℕ = if b then 1 else 4 in number_at (24 + n * i) n bytes) (range_with_len 0 n))) e

-- ---- what is known after a choice by version

-- The bytes are long enough.
pub room_by_age : (v n m : ℕ) → has_ages v ≡ true → 24 + entry_len v * n ≤ m → 24 + n ≤ m
room_by_age v n m ages room = let known = subst (λ w. 24 + w * n ≤ m) (same_len v 2 ages) room in omega arith

pub room_in_full : (v n m : ℕ) → has_ages v ≡ false → 24 + entry_len v * n ≤ m → 24 + 4 * n ≤ m
room_in_full v n m full room = subst (λ w. 24 + w * n ≤ m) (same_len v 1 full) room

pub test_by_age : (v c i : ℕ) (bytes : List ℕ) → has_ages v ≡ true → is_entry v c (raw_entry v i bytes) ≡ is_entry 2 c (slice_index bytes (24 + i))
test_by_age v c i bytes ages = same_test v 2 c (raw_entry v i bytes) ages ∙ ap (is_entry 2 c) (same_raw v 2 i bytes ages ∙ age_is i bytes)

pub told_by_age : (v c i : ℕ) (bytes : List ℕ) → has_ages v ≡ true → entry_told v c (raw_entry v i bytes) ≡ entry_told 2 c (slice_index bytes (24 + i))
told_by_age v c i bytes ages = same_told v 2 c (raw_entry v i bytes) ages ∙ ap (entry_told 2 c) (same_raw v 2 i bytes ages ∙ age_is i bytes)

pub told_in_full : (v c i : ℕ) (bytes : List ℕ) → has_ages v ≡ false → entry_told v c (raw_entry v i bytes) ≡ number_at (24 + 4 * i) 4 bytes
told_in_full v c i bytes full = same_told v 1 c (raw_entry v i bytes) full ∙ ap (entry_told 1 c) (same_raw v 1 i bytes full) ∙ entry_in_full c i bytes

-- Entries in full are the numbers that stand for them.
pub entries_in_full : (v c n : ℕ) (bytes : List ℕ) → has_ages v ≡ false → entries_at v c n bytes ≡ raw_entries 1 n bytes
unfolding entries_at entry_told
entries_in_full v c n bytes full = same_entries v 1 c n bytes full ∙ same (raw_entries 1 n bytes)
  where
    same : (xs : List ℕ) → map (entry_told 1 c) xs ≡ xs
    same [] = refl
    same (x ∷ xs) = ap (λ l. x ∷ l) (same xs)

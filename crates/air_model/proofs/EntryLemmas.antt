-- An entry and the number that stands for it in a bucket's bytes, which is its age or the entry itself: each gives the other,
-- and they are in range together.
use Rattle.std.proofs.Common.{◌≡◌, ℕ, zero, suc, ◌-◌, ◌^◌, ◌<◌, ◌≤◌, Bool, true, false, cond, ◌==◌, ◌&&◌, ◌||◌, if◌then◌else◌, nat_le, nat_lt, List, [], ◌∷◌, ◌++◌, map, refl, sym, ◌∙◌, ap, arith, All}
use Rattle.std.specs.Prelude.{IsTrue}
use Rattle.std.specs.List.{flat_map, list_all}
use Rattle.std.proofs.lemmas.Bool.{and_from, and_parts, eqb-false, eqb-true, false≢true, le-leb, leb-true, lt-ltb, ltb-true, ltb-false}
use Rattle.std.proofs.Math.Nat.{mod-eq_of_lt}
use Rattle.std.proofs.lemmas.List.Elements.{All-head, All-tail}
use Rattle.byteorder.specs.Endian.{big_bytes}
use Rattle.air_base.specs.declared.limits.TheConstants.{AGE_CAP}
use Rattle.air_history.specs.Ages.{capped}
use Rattle.air_model.specs.Buckets.{age_of, entry_bytes, entry_len, entry_told, has_ages, is_entry}

-- The number that stands for an entry of cycle c.
abbrev pub raw_of : ℕ → ℕ → ℕ → ℕ
raw_of version c e = if has_ages version then age_of c e else e

-- The entry is below the cycle and, if the version has ages, an age gives it.
pub record IsTold (version c e : ℕ) : Type 0 where
  pub below : e < c
  pub young : IsTrue (has_ages version) → capped e c ≡ e

-- ---- by age

-- An entry that an age gives is 0, or less than the cap ago.
young_entry : (e c : ℕ) → capped e c ≡ e → (e == 0) ≡ false → c - e < AGE_CAP
unfolding capped
young_entry e c told some = by (nat_lt (c - e) AGE_CAP) refl told
  where
    by : (b : Bool) → nat_lt (c - e) AGE_CAP ≡ b → cond b e 0 ≡ e → c - e < AGE_CAP
    by true young told = ltb-true (c - e) AGE_CAP young
    by false old told = absurd (let apart = eqb-false e 0 some in apart (sym told))

-- The entry that an age gives.
abbrev from_age : ℕ → ℕ → ℕ
from_age c a = if a == AGE_CAP then 0 else c - a

age_back : (c e : ℕ) → e < c → capped e c ≡ e → from_age c (age_of c e) ≡ e
age_back c e less told = by (e == 0) refl
  where
    by : (b : Bool) → (e == 0) ≡ b → from_age c (if b then AGE_CAP else c - e) ≡ e
    by true none = sym (eqb-true e 0 none)
    by false some = other (c - e == AGE_CAP) refl
      where
        other : (b : Bool) → (c - e == AGE_CAP) ≡ b → (if b then 0 else c - (c - e)) ≡ e
        other true old = absurd (let young = young_entry e c told some in let cap = eqb-true (c - e) AGE_CAP old in omega arith)
        other false young = omega arith

age_is_entry : (c e : ℕ) → e < c → capped e c ≡ e → ((age_of c e == AGE_CAP) || (nat_le 1 (age_of c e) && nat_lt (age_of c e) c)) ≡ true
age_is_entry c e less told = by (e == 0) refl
  where
    by : (b : Bool) → (e == 0) ≡ b → (((if b then AGE_CAP else c - e) == AGE_CAP) || (nat_le 1 (if b then AGE_CAP else c - e) && nat_lt (if b then AGE_CAP else c - e) c)) ≡ true
    by true none = refl
    by false some =
        let apart : e ≡ 0 → ⊥ = eqb-false e 0 some in
        let here : (nat_le 1 (c - e) && nat_lt (c - e) c) ≡ true = and_from _ _ (le-leb 1 (c - e) (omega arith)) (lt-ltb (c - e) c (positive e apart)) in
        either (c - e == AGE_CAP) (nat_le 1 (c - e) && nat_lt (c - e) c) here
      where
        positive : (e : ℕ) → (e ≡ 0 → ⊥) → c - e < c
        positive zero apart = absurd (apart refl)
        positive (suc n) apart = omega arith

        either : (b x : Bool) → x ≡ true → (b || x) ≡ true
        either true x h = refl
        either false x h = h

age_small : (c e : ℕ) → capped e c ≡ e → age_of c e < 256
age_small c e told = by (e == 0) refl
  where
    by : (b : Bool) → (e == 0) ≡ b → (if b then AGE_CAP else c - e) < 256
    by true none = omega arith
    by false some = let young = young_entry e c told some in omega arith

-- An age that isn't the cap gives an entry that isn't 0.
record IsAge (c a : ℕ) : Type 0 where
  some : 1 ≤ a
  below : a < c

age_from : (c a : ℕ) → (nat_le 1 a && nat_lt a c) ≡ true → IsAge c a
age_from c a t = let p = and_parts (nat_le 1 a) (nat_lt a c) t in record { some = leb-true 1 a p.0; below = ltb-true a c p.1 }

entry_back : (c a : ℕ) → ((a == AGE_CAP) || (nat_le 1 a && nat_lt a c)) ≡ true → age_of c (from_age c a) ≡ a
entry_back c a t = by (a == AGE_CAP) refl t
  where
    by : (b : Bool) → (a == AGE_CAP) ≡ b → (b || (nat_le 1 a && nat_lt a c)) ≡ true → age_of c (if b then 0 else c - a) ≡ a
    by true cap t = sym (eqb-true a AGE_CAP cap)
    by false apart t = let is = age_from c a t in later (c - a == 0) refl is
      where
        later : (b : Bool) → (c - a == 0) ≡ b → IsAge c a → (if b then AGE_CAP else c - (c - a)) ≡ a
        later true none is = absurd (let none = eqb-true (c - a) 0 none in let below = is.below in omega arith)
        later false some is = let below = is.below in omega arith

entry_below : (c a : ℕ) → 1 ≤ c → ((a == AGE_CAP) || (nat_le 1 a && nat_lt a c)) ≡ true → from_age c a < c
entry_below c a one t = by (a == AGE_CAP) t
  where
    by : (b : Bool) → (b || (nat_le 1 a && nat_lt a c)) ≡ true → (if b then 0 else c - a) < c
    by true t = one
    by false t = let is = age_from c a t in let some = is.some in omega arith

-- An age below 256 is the cap, or below the cap.
entry_young : (c a : ℕ) → a < 256 → ((a == AGE_CAP) || (nat_le 1 a && nat_lt a c)) ≡ true → capped (from_age c a) c ≡ from_age c a
unfolding capped
entry_young c a small t = by (a == AGE_CAP) refl t
  where
    none : (b : Bool) → ◌≡◌ {A = ℕ} (cond b 0 0) 0
    none true = refl
    none false = refl

    by : (b : Bool) → (a == AGE_CAP) ≡ b → (b || (nat_le 1 a && nat_lt a c)) ≡ true →
        cond (nat_lt (c - (if b then 0 else c - a)) AGE_CAP) (if b then 0 else c - a) 0 ≡ (if b then 0 else c - a)
    by true cap t = none (nat_lt (c - 0) AGE_CAP)
    by false other t =
        let is = age_from c a t in
        let below = is.below in
        let less : a < AGE_CAP = under a small (eqb-false a AGE_CAP other) in
        ap (λ (b : Bool). cond b (c - a) 0) (lt-ltb (c - (c - a)) AGE_CAP (omega arith))
      where
        under : (a : ℕ) → a < 256 → (a ≡ AGE_CAP → ⊥) → a < AGE_CAP
        under a small apart = least (nat_lt a AGE_CAP) refl
          where
            least : (b : Bool) → nat_lt a AGE_CAP ≡ b → a < AGE_CAP
            least true less = ltb-true a AGE_CAP less
            least false over = absurd (let most = ltb-false a AGE_CAP over in apart (omega arith))

-- ---- by version

pub told_back : (v c e : ℕ) → IsTold v c e → entry_told v c (raw_of v c e) ≡ e
unfolding entry_told
told_back v c e is = by (has_ages v) is.young
  where
    by : (b : Bool) → (IsTrue b → capped e c ≡ e) → (if b then from_age c (if b then age_of c e else e) else (if b then age_of c e else e)) ≡ e
    by true young = age_back c e is.below (young refl)
    by false young = refl

pub raw_is_entry : (v c e : ℕ) → IsTold v c e → is_entry v c (raw_of v c e) ≡ true
unfolding is_entry
raw_is_entry v c e is = by (has_ages v) is.young
  where
    by : (b : Bool) → (IsTrue b → capped e c ≡ e) →
        (if b then ((if b then age_of c e else e) == AGE_CAP) || (nat_le 1 (if b then age_of c e else e) && nat_lt (if b then age_of c e else e) c) else nat_lt (if b then age_of c e else e) c) ≡ true
    by true young = age_is_entry c e is.below (young refl)
    by false young = lt-ltb e c is.below

pub raw_small : (v c e : ℕ) → c < 2 ^ 32 → IsTold v c e → raw_of v c e < 256 ^ entry_len v
raw_small v c e few is = by (has_ages v) is.young
  where
    by : (b : Bool) → (IsTrue b → capped e c ≡ e) → (if b then age_of c e else e) < 256 ^ (if b then 1 else 4)
    by true young = age_small c e (young refl)
    by false young = let below = is.below in omega arith

one_byte : (a : ℕ) → a < 256 → a ∷ [] ≡ big_bytes 1 a
one_byte a small = ap (λ x. x ∷ []) (sym (mod-eq_of_lt small))

pub raw_bytes : (v c e : ℕ) → IsTold v c e → entry_bytes v c e ≡ big_bytes (entry_len v) (raw_of v c e)
unfolding entry_bytes
raw_bytes v c e is = by (has_ages v) is.young
  where
    by : (b : Bool) → (IsTrue b → capped e c ≡ e) → (if b then age_of c e ∷ [] else big_bytes 4 e) ≡ big_bytes (if b then 1 else 4) (if b then age_of c e else e)
    by true young = one_byte (age_of c e) (age_small c e (young refl))
    by false young = refl

pub raw_back : (v c a : ℕ) → is_entry v c a ≡ true → raw_of v c (entry_told v c a) ≡ a
unfolding is_entry entry_told
raw_back v c a t = by (has_ages v) t
  where
    by : (b : Bool) → (if b then (a == AGE_CAP) || (nat_le 1 a && nat_lt a c) else nat_lt a c) ≡ true →
        (if b then age_of c (if b then from_age c a else a) else (if b then from_age c a else a)) ≡ a
    by true t = entry_back c a t
    by false t = refl

pub told_is : (v c a : ℕ) → 1 ≤ c → a < 256 ^ entry_len v → is_entry v c a ≡ true → IsTold v c (entry_told v c a)
unfolding is_entry entry_told
told_is v c a one small t = let is = by (has_ages v) small t in record { below = is.0; young = is.1 }
  where
    by : (b : Bool) → a < 256 ^ (if b then 1 else 4) → (if b then (a == AGE_CAP) || (nat_le 1 a && nat_lt a c) else nat_lt a c) ≡ true →
        ((if b then from_age c a else a) < c) × (IsTrue b → capped (if b then from_age c a else a) c ≡ (if b then from_age c a else a))
    by true small t = (entry_below c a one t, λ _. entry_young c a small t)
    by false small t = (ltb-true a c t, λ no. absurd (false≢true no))

-- ---- all entries

pub lists_back : (f g : ℕ → ℕ) (es : List ℕ) → All (λ e. g (f e) ≡ e) es → map g (map f es) ≡ es
lists_back f g [] h = refl
lists_back f g (e ∷ es) h =
    let here : g (f e) ≡ e = All-head (λ e. g (f e) ≡ e) e es h in
    let rest : map g (map f es) ≡ es = lists_back f g es (All-tail (λ e. g (f e) ≡ e) e es h) in
    cc

pub flat_spelled : (f : ℕ → List ℕ) (g : ℕ → List ℕ) (r : ℕ → ℕ) (es : List ℕ) → All (λ e. f e ≡ g (r e)) es → flat_map f es ≡ flat_map g (map r es)
flat_spelled f g r [] h = refl
flat_spelled f g r (e ∷ es) h =
    ap (λ l. l ++ flat_map f es) (All-head (λ e. f e ≡ g (r e)) e es h)
    ∙ ap (λ l. g (r e) ++ l) (flat_spelled f g r es (All-tail (λ e. f e ≡ g (r e)) e es h))

pub all_tests : (p : ℕ → Bool) (es : List ℕ) → All (λ e. p e ≡ true) es → list_all p es ≡ true
all_tests p [] h = refl
all_tests p (e ∷ es) h = and_from _ _ (All-head (λ e. p e ≡ true) e es h) (all_tests p es (All-tail (λ e. p e ≡ true) e es h))

pub each_test : (p : ℕ → Bool) (es : List ℕ) → list_all p es ≡ true → All (λ e. p e ≡ true) es
each_test p [] t k d l = absurd (omega arith)
each_test p (e ∷ es) t zero d l = (and_parts (p e) (list_all p es) t).0
each_test p (e ∷ es) t (suc k) d l = each_test p es (and_parts (p e) (list_all p es) t).1 k d (omega arith)

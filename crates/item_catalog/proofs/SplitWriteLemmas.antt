-- The leading write of a list, by the numbers and signs at its front.
--
-- `value_number`, `value_plus`, `value_minus` and `value_other` say what follows `=`, by its first number and what comes after
-- that. `write_equals`, `write_other` and `write_digits` say the same of a whole write.
use Rattle.std.proofs.Common.{◌≡◌, ◌≢◌, ◌++◌, ◌∷◌, [], ℕ, List, Option, Some, None, Bool, true, false, not, refl, sym, ap, ◌∙◌, arith}
use Rattle.std.specs.Prelude.{◌==◌}
use Rattle.std.specs.Char.{is_ascii_digit}
use Rattle.std.specs.List.{list_all}
use Rattle.std.proofs.lemmas.List.{append-nil}
use Rattle.std.proofs.lemmas.List.Folds.{list_all-append}
use Rattle.std.proofs.lemmas.Bool.{and_parts}
use Rattle.std.proofs.lemmas.Bool.Decides.{nat_tests}
use Rattle.air_base.specs.Numbers.{number_of}
use Rattle.air_base.specs.LeadingParts.{leading_part, behind}
use Rattle.air_base.specs.Parts.{parts_at, two_of}
use Rattle.air_base.proofs.PartsAt.{Two, is_not, one_part, part_first, part_then, two_parts}
use Rattle.air_base.proofs.LeadingPartLemmas.{leading_all, leading_behind}
use Rattle.air_base.proofs.LeadingNumberLemmas.{all_such, digits_then, no_number, spelled_digits}
use Rattle.item_catalog.specs.Writes.{constant, spelled_value_write, spelled_write, write_by, write_from, write_on_base}

-- If texts that begin with digits and then another byte are equal, they have equal digits, that byte, and what comes after it.
pub same_split : (a b : List ℕ) (x y : ℕ) (q r : List ℕ) → list_all is_ascii_digit a ≡ true → list_all is_ascii_digit b ≡ true
    → is_ascii_digit x ≡ false → is_ascii_digit y ≡ false → a ++ x ∷ q ≡ b ++ y ∷ r → (a ≡ b) × (x ≡ y) × (q ≡ r)
same_split [] [] x y q r da db dx dy e = (refl, cc e, cc e)
same_split [] (c ∷ b) x y q r da db dx dy e =
    let same : x ≡ c = cc e in let both = and_parts (is_ascii_digit c) (list_all is_ascii_digit b) db in
    absurd (clash (is_ascii_digit x) dx (ap is_ascii_digit same ∙ both.0))
  where
    clash : (t : Bool) → t ≡ false → t ≡ true → ⊥
    clash true f g = cc f
    clash false f g = cc g
same_split (c ∷ a) [] x y q r da db dx dy e =
    let same : c ≡ y = cc e in let both = and_parts (is_ascii_digit c) (list_all is_ascii_digit a) da in
    absurd (clash (is_ascii_digit c) (ap is_ascii_digit same ∙ dy) both.0)
  where
    clash : (t : Bool) → t ≡ false → t ≡ true → ⊥
    clash true f g = cc f
    clash false f g = cc g
same_split (c ∷ a) (d ∷ b) x y q r da db dx dy e =
    let first : c ≡ d = cc e in let more : a ++ x ∷ q ≡ b ++ y ∷ r = cc e in
    let both = and_parts (is_ascii_digit c) (list_all is_ascii_digit a) da in let other = and_parts (is_ascii_digit d) (list_all is_ascii_digit b) db in
    let rest = same_split a b x y q r both.1 other.1 dx dy more in (cc (first, rest.0), rest.1, rest.2)

digit_is_not : (s : ℕ) → is_ascii_digit s ≡ false → (c : ℕ) → is_ascii_digit c ≡ true → is_not s c ≡ true
digit_is_not s other c digit = by (c == s) refl
  where
    by : (b : Bool) → (c == s) ≡ b → not b ≡ true
    by false e = refl
    by true e = let same : c ≡ s = grind (arith, nat_tests) in cc (ap is_ascii_digit same, other, digit)

digits_are_not : (s : ℕ) → is_ascii_digit s ≡ false → (a : List ℕ) → list_all is_ascii_digit a ≡ true → list_all (is_not s) a ≡ true
digits_are_not s other a digits = all_such is_ascii_digit (is_not s) (digit_is_not s other) a digits

on_base_none : (minus : Bool) (item base : Option ℕ) → write_on_base minus item base None ≡ None
on_base_none minus None base = refl
on_base_none minus (Some i) None = refl
on_base_none minus (Some i) (Some b) = refl

on_base_no_base : (minus : Bool) (item amount : Option ℕ) → write_on_base minus item None amount ≡ None
on_base_no_base minus None amount = refl
on_base_no_base minus (Some i) amount = refl

constant_none : (item : Option ℕ) → constant item None ≡ None
constant_none None = refl
constant_none (Some i) = refl

-- A value has no write if no two parts of it give one.
abbrev Never : ℕ → Bool → Option ℕ → List ℕ → Type 0
Never s minus item v = (p q : List ℕ) → v ≡ p ++ s ∷ q → write_on_base minus item (number_of p) (number_of q) ≡ None

value_none : (item : Option ℕ) (v : List ℕ) → Never 43 false item v → Never 45 true item v → number_of v ≡ None → spelled_value_write item v ≡ None
unfolding spelled_value_write
value_none item v plus minus whole = by (two_of (parts_at 43 v)) (two_of (parts_at 45 v)) (two_parts 43 v) (two_parts 45 v)
  where
    by : (a b : Option (List ℕ × List ℕ)) → Two 43 v a → Two 45 v b → write_by item a b v ≡ None
    by (Some f) b e m = plus f.0 f.1 e
    by None (Some f) e m = minus f.0 f.1 m
    by None None e m = rw whole (constant_none item)

-- The two parts at one byte of a text that begins with digits and another byte, or with that byte.
module _ (item : Option ℕ) (a : List ℕ) (x : ℕ) (c : List ℕ) (digits : list_all is_ascii_digit a ≡ true) (other : is_ascii_digit x ≡ false) where
  never_else : (s : ℕ) (minus : Bool) → is_ascii_digit s ≡ false → x ≢ s → Never s minus item (a ++ x ∷ c)
  never_else s minus sign differs p q e = by (number_of p) refl
    where
      by : (n : Option ℕ) → number_of p ≡ n → write_on_base minus item n (number_of q) ≡ None
      by None h = on_base_no_base minus item (number_of q)
      by (Some n) h = absurd (differs (same_split a p x s c q digits (spelled_digits p n h) other sign e).1)

  never_here : (s : ℕ) (minus : Bool) → is_ascii_digit s ≡ false → number_of c ≡ None → Never s minus item (a ++ x ∷ c)
  never_here s minus sign none p q e = by (number_of p) refl
    where
      by : (n : Option ℕ) → number_of p ≡ n → write_on_base minus item n (number_of q) ≡ None
      by None h = on_base_no_base minus item (number_of q)
      by (Some n) h = let same = same_split a p x s c q digits (spelled_digits p n h) other sign e in rw (← same.2, none) (on_base_none minus item (Some n))

  whole_none : number_of (a ++ x ∷ c) ≡ None
  whole_none = no_number (a ++ x ∷ c) (digits_then a x c other)

  pub value_other : x ≢ 43 → x ≢ 45 → spelled_value_write item (a ++ x ∷ c) ≡ None
  value_other plus minus = value_none item (a ++ x ∷ c) (never_else 43 false refl plus) (never_else 45 true refl minus) whole_none

  value_bad : number_of c ≡ None → spelled_value_write item (a ++ x ∷ c) ≡ None
  value_bad none = value_none item (a ++ x ∷ c) (never_here 43 false refl none) (never_here 45 true refl none) whole_none

pub value_plus : (item : Option ℕ) (a c : List ℕ) → list_all is_ascii_digit a ≡ true → spelled_value_write item (a ++ 43 ∷ c) ≡ write_on_base false item (number_of a) (number_of c)
unfolding spelled_value_write
value_plus item a c digits = by (number_of c) refl
  where
    by : (n : Option ℕ) → number_of c ≡ n → spelled_value_write item (a ++ 43 ∷ c) ≡ write_on_base false item (number_of a) (number_of c)
    by None h = value_bad item a 43 c digits refl h ∙ rw h (sym (on_base_none false item (number_of a)))
    by (Some n) h = rw (part_then 43 a c (digits_are_not 43 refl a digits), one_part 43 c (digits_are_not 43 refl c (spelled_digits c n h))) refl

pub value_minus : (item : Option ℕ) (a c : List ℕ) → list_all is_ascii_digit a ≡ true → spelled_value_write item (a ++ 45 ∷ c) ≡ write_on_base true item (number_of a) (number_of c)
unfolding spelled_value_write
value_minus item a c digits = by (number_of c) refl
  where
    no_plus : list_all is_ascii_digit c ≡ true → list_all (is_not 43) (a ++ 45 ∷ c) ≡ true
    no_plus more = list_all-append (is_not 43) a (45 ∷ c) ∙ rw (digits_are_not 43 refl a digits, digits_are_not 43 refl c more) refl

    by : (n : Option ℕ) → number_of c ≡ n → spelled_value_write item (a ++ 45 ∷ c) ≡ write_on_base true item (number_of a) (number_of c)
    by None h = value_bad item a 45 c digits refl h ∙ rw h (sym (on_base_none true item (number_of a)))
    by (Some n) h =
        let more = spelled_digits c n h in
        rw (one_part 43 (a ++ 45 ∷ c) (no_plus more), part_then 45 a c (digits_are_not 45 refl a digits), one_part 45 c (digits_are_not 45 refl c more)) refl

pub value_number : (item : Option ℕ) (a : List ℕ) → list_all is_ascii_digit a ≡ true → spelled_value_write item a ≡ constant item (number_of a)
unfolding spelled_value_write
value_number item a digits = rw (one_part 43 a (digits_are_not 43 refl a digits), one_part 45 a (digits_are_not 45 refl a digits)) refl

-- A value with another `=` has no write.
value_again : (item : Option ℕ) (v : List ℕ) → list_all (is_not 61) v ≡ false → spelled_value_write item v ≡ None
value_again item v again = value_none item v (never 43 false refl refl) (never 45 true refl refl) (whole (number_of v) refl)
  where
    whole : (n : Option ℕ) → number_of v ≡ n → n ≡ None
    whole None h = refl
    whole (Some n) h = cc (digits_are_not 61 refl v (spelled_digits v n h), again)

    never : (s : ℕ) (minus : Bool) → is_ascii_digit s ≡ false → is_not 61 s ≡ true → Never s minus item v
    never s minus sign differs p q e = by (number_of p) (number_of q) refl refl
      where
        by : (m n : Option ℕ) → number_of p ≡ m → number_of q ≡ n → write_on_base minus item m n ≡ None
        by None n f g = on_base_no_base minus item n
        by (Some m) None f g = on_base_none minus item (Some m)
        by (Some m) (Some n) f g =
            let all : list_all (is_not 61) v ≡ true = ap (list_all (is_not 61)) e ∙ list_all-append (is_not 61) p (s ∷ q)
            ∙ rw (digits_are_not 61 refl p (spelled_digits p m f), digits_are_not 61 refl q (spelled_digits q n g), differs) refl in
            cc (all, again)

-- A write by its digits and what comes after them.
pub write_equals : (a v : List ℕ) → list_all is_ascii_digit a ≡ true → spelled_write (a ++ 61 ∷ v) ≡ spelled_value_write (number_of a) v
unfolding spelled_write
write_equals a v digits = rw (part_then 61 a v (digits_are_not 61 refl a digits)) (by (list_all (is_not 61) v) refl)
  where
    more : (y : ℕ) (ys : List ℕ) → behind (is_not 61) v ≡ y ∷ ys → write_from (two_of (a ∷ parts_at 61 v)) ≡ None
    more y ys e = rw (part_first 61 v, e, part_first 61 ys) refl

    by : (b : Bool) → list_all (is_not 61) v ≡ b → write_from (two_of (a ∷ parts_at 61 v)) ≡ spelled_value_write (number_of a) v
    by true all = rw (one_part 61 v all) refl
    by false again = at (behind (is_not 61) v) refl ∙ sym (value_again (number_of a) v again)
      where
        at : (b : List ℕ) → behind (is_not 61) v ≡ b → write_from (two_of (a ∷ parts_at 61 v)) ≡ None
        at (y ∷ ys) e = more y ys e
        at [] e =
            let end : leading_part (is_not 61) v ++ behind (is_not 61) v ≡ leading_part (is_not 61) v = rw e (append-nil (leading_part (is_not 61) v)) in
            let all : list_all (is_not 61) v ≡ true = ap (list_all (is_not 61)) (leading_behind (is_not 61) v ∙ end) ∙ leading_all (is_not 61) v in
            cc (all, again)

pub write_digits : (a : List ℕ) → list_all is_ascii_digit a ≡ true → spelled_write a ≡ None
unfolding spelled_write
write_digits a digits = rw (one_part 61 a (digits_are_not 61 refl a digits)) refl

pub value_no_item : (v : List ℕ) → spelled_value_write None v ≡ None
unfolding spelled_value_write
value_no_item v = by (two_of (parts_at 43 v)) (two_of (parts_at 45 v))
  where
    by : (a b : Option (List ℕ × List ℕ)) → write_by None a b v ≡ None
    by (Some f) b = refl
    by None (Some f) = refl
    by None None = refl

pub write_other : (a : List ℕ) (x : ℕ) (c : List ℕ) → list_all is_ascii_digit a ≡ true → is_ascii_digit x ≡ false → x ≢ 61 → spelled_write (a ++ x ∷ c) ≡ None
unfolding spelled_write
write_other a x c digits other differs = by (two_of (parts_at 61 (a ++ x ∷ c))) (two_parts 61 (a ++ x ∷ c))
  where
    at : (p q : List ℕ) → a ++ x ∷ c ≡ p ++ 61 ∷ q → (n : Option ℕ) → number_of p ≡ n → spelled_value_write n q ≡ None
    at p q e None h = value_no_item q
    at p q e (Some n) h = absurd (differs (same_split a p x 61 c q digits (spelled_digits p n h) other refl e).1)

    by : (s : Option (List ℕ × List ℕ)) → Two 61 (a ++ x ∷ c) s → write_from s ≡ None
    by None e = refl
    by (Some s) e = at s.0 s.1 e (number_of s.0) refl

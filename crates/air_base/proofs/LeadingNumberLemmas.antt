-- The leading number of a text, by the digits there and what follows them.
--
-- `part_ends` and `part_goes_on` are for the call that reads the first part, `whole_number` and `no_whole` for the one that
-- reads a whole text. `part_with`, `after_byte` and `leading_moved` continue after a byte that is between two numbers of one
-- part.
use Rattle.std.proofs.Common.{◌≡◌, ◌<◌, ◌^◌, ◌++◌, ◌∷◌, [], ℕ, List, Option, Some, None, Bool, true, false, cond, not, length, nat_lt, refl, sym, ap, ◌∙◌, arith}
use Rattle.std.specs.Prelude.{◌&&◌, ◌||◌, ◌==◌}
use Rattle.std.specs.Char.{is_ascii_digit}
use Rattle.std.specs.List.{list_all}
use Rattle.std.specs.Str.Parse.{digits_value}
use Rattle.std.proofs.lemmas.List.{append-nil}
use Rattle.std.proofs.lemmas.List.Folds.{list_all-append}
use Rattle.std.proofs.lemmas.Bool.{and_parts}
use Rattle.std.proofs.lemmas.Bool.Decides.{nat_tests}
use Rattle.air_base.specs.Numbers.{is_numeral, number_of}
use Rattle.air_base.specs.LeadingParts.{LeadingIs, leading_part, behind, is_no_space, first_part, after_part, begins, digits_of, after_digits, ends_part}
use Rattle.air_base.proofs.LeadingPartLemmas.{leading_past, behind_past, leading_all, leading_behind}

-- A number's text is digits, and its value fits 64 bits.
pub spelled_digits : (text : List ℕ) (n : ℕ) → number_of text ≡ Some n → list_all is_ascii_digit text ≡ true
unfolding number_of
spelled_digits [] n h = cc h
spelled_digits (c ∷ cs) n h = by (list_all is_ascii_digit (c ∷ cs)) refl
  where
    by : (b : Bool) → list_all is_ascii_digit (c ∷ cs) ≡ b → b ≡ true
    by true e = refl
    by false e = none (not (c == 48) || length cs == 0) (rw e at h)
      where
        none : (z : Bool) → cond ((z && false) && nat_lt (digits_value 10 (c ∷ cs)) (2 ^ 64)) (Some (digits_value 10 (c ∷ cs))) None ≡ Some n → false ≡ true
        none true h = cc h
        none false h = cc h

pub spelled_fits : (text : List ℕ) (n : ℕ) → number_of text ≡ Some n → n < 2 ^ 64
unfolding number_of
spelled_fits text n h = by (is_numeral text) (nat_lt (digits_value 10 text) (2 ^ 64)) refl h
  where
    by : (a b : Bool) → nat_lt (digits_value 10 text) (2 ^ 64) ≡ b → cond (a && b) (Some (digits_value 10 text)) None ≡ Some n → n < 2 ^ 64
    by true true e h = let same : digits_value 10 text ≡ n = cc h in grind (arith, nat_tests)
    by true false e h = cc h
    by false b e h = cc h

-- What isn't all digits is no number.
pub no_number : (text : List ℕ) → list_all is_ascii_digit text ≡ false → number_of text ≡ None
no_number text other = by (number_of text) refl
  where
    by : (o : Option ℕ) → number_of text ≡ o → o ≡ None
    by None e = refl
    by (Some n) e = cc (spelled_digits text n e, other)

pub digits_then : (a : List ℕ) (c : ℕ) (rest : List ℕ) → is_ascii_digit c ≡ false → list_all is_ascii_digit (a ++ c ∷ rest) ≡ false
digits_then a c rest other = list_all-append is_ascii_digit a (c ∷ rest) ∙ rw other (and_false (list_all is_ascii_digit a))
  where
    and_false : (b : Bool) → (b && false) ≡ false
    and_false true = refl
    and_false false = refl

-- Digits are no spaces.
digit_no_space : (c : ℕ) → is_ascii_digit c ≡ true → is_no_space c ≡ true
digit_no_space c h = grind (arith, nat_tests)

pub all_such : (p q : ℕ → Bool) → ((c : ℕ) → p c ≡ true → q c ≡ true) → (xs : List ℕ) → list_all p xs ≡ true → list_all q xs ≡ true
all_such p q such [] h = refl
all_such p q such (x ∷ xs) h = let both = and_parts (p x) (list_all p xs) h in rw (such x both.0, all_such p q such xs both.1) refl

digits_no_spaces : (text : List ℕ) → list_all is_no_space (digits_of text) ≡ true
unfolding digits_of
digits_no_spaces text = all_such is_ascii_digit is_no_space digit_no_space (leading_part is_ascii_digit text) (leading_all is_ascii_digit text)

-- The first part is the leading digits and the first part of what follows them.
pub part_by_digits : (text : List ℕ) → first_part text ≡ digits_of text ++ first_part (after_digits text)
unfolding first_part digits_of after_digits
part_by_digits text =
    ap (leading_part is_no_space) (leading_behind is_ascii_digit text)
    ∙ leading_past is_no_space (leading_part is_ascii_digit text) (behind is_ascii_digit text) (unfold digits_of in digits_no_spaces text)

pub after_by_digits : (text : List ℕ) → after_part text ≡ after_part (after_digits text)
unfolding after_part digits_of after_digits
after_by_digits text =
    ap (behind is_no_space) (leading_behind is_ascii_digit text)
    ∙ behind_past is_no_space (leading_part is_ascii_digit text) (behind is_ascii_digit text) (unfold digits_of in digits_no_spaces text)

-- Before a space or the end the first part is empty.
pub ended : (text : List ℕ) → ends_part text ≡ true → (first_part text ≡ []) × (after_part text ≡ text)
unfolding first_part after_part
ended [] h = (refl, refl)
ended (c ∷ cs) h = rw h (refl, refl)

-- What follows digits begins with no digit.
pub behind_digits : (text : List ℕ) (c : ℕ) (rest : List ℕ) → after_digits text ≡ c ∷ rest → is_ascii_digit c ≡ false
unfolding after_digits
behind_digits [] c rest h = cc h
behind_digits (x ∷ xs) c rest h = by (is_ascii_digit x) refl h (behind_digits xs c rest)
  where
    by : (b : Bool) → is_ascii_digit x ≡ b → cond b (behind is_ascii_digit xs) (x ∷ xs) ≡ c ∷ rest → (behind is_ascii_digit xs ≡ c ∷ rest → is_ascii_digit c ≡ false) → is_ascii_digit c ≡ false
    by true e h more = more h
    by false e h more = let same : x ≡ c = cc h in ap is_ascii_digit (sym same) ∙ e

-- A part that continues after its digits.
pub goes_on : (c : ℕ) (rest : List ℕ) → is_no_space c ≡ true → first_part (c ∷ rest) ≡ c ∷ first_part rest
unfolding first_part
goes_on c rest h = rw h refl

-- Digits up to a space or the end are the first part.
pub part_ends : (text : List ℕ) → ends_part (after_digits text) ≡ true → first_part text ≡ digits_of text
part_ends text ends = part_by_digits text ∙ ap (λ l. digits_of text ++ l) ((ended (after_digits text) ends).0) ∙ append-nil (digits_of text)

pub after_ends : (text : List ℕ) → ends_part (after_digits text) ≡ true → after_digits text ≡ after_part text
after_ends text ends = sym (after_by_digits text ∙ (ended (after_digits text) ends).1)

-- Digits and something else are no number.
pub part_goes_on : (text : List ℕ) → ends_part (after_digits text) ≡ false → number_of (first_part text) ≡ None
part_goes_on text on = by (after_digits text) refl on
  where
    by : (rest : List ℕ) → after_digits text ≡ rest → ends_part rest ≡ false → number_of (first_part text) ≡ None
    by [] e on = cc on
    by (c ∷ cs) e on =
        ap number_of (part_by_digits text ∙ ap (λ l. digits_of text ++ first_part l) e ∙ ap (λ l. digits_of text ++ l) (goes_on c cs (ap not on)))
        ∙ no_number (digits_of text ++ c ∷ first_part cs) (digits_then (digits_of text) c (first_part cs) (behind_digits text c cs e))

-- If the leading digits spell no number, the first part spells none either.
pub no_digits : (text : List ℕ) → number_of (digits_of text) ≡ None → number_of (first_part text) ≡ None
no_digits text none = by (ends_part (after_digits text)) refl
  where
    by : (b : Bool) → ends_part (after_digits text) ≡ b → number_of (first_part text) ≡ None
    by true ends = ap number_of (part_ends text ends) ∙ none
    by false on = part_goes_on text on

-- A part that begins with what is neither a digit nor a space.
pub other_part : (c : ℕ) (rest : List ℕ) → is_ascii_digit c ≡ false → is_no_space c ≡ true → number_of (first_part (c ∷ rest)) ≡ None
other_part c rest other no_space = ap number_of (goes_on c rest no_space) ∙ no_number (c ∷ first_part rest) (digits_then [] c (first_part rest) other)

-- A text that is its first digits spells their number.
pub whole_number : (text : List ℕ) → after_digits text ≡ [] → number_of (digits_of text) ≡ number_of text
unfolding digits_of after_digits
whole_number text none = ap number_of (sym (leading_behind is_ascii_digit text ∙ rw none (append-nil (leading_part is_ascii_digit text))))

-- A text spells no number if more than digits is in it, or if its first digits spell none.
digits_and_more : (text : List ℕ) (c : ℕ) (cs : List ℕ) → after_digits text ≡ c ∷ cs → text ≡ digits_of text ++ c ∷ cs
unfolding digits_of after_digits
digits_and_more text c cs more = leading_behind is_ascii_digit text ∙ ap (λ l. leading_part is_ascii_digit text ++ l) more

pub more_whole : (text : List ℕ) (c : ℕ) (cs : List ℕ) → after_digits text ≡ c ∷ cs → number_of text ≡ None
more_whole text c cs more = no_number text (ap (list_all is_ascii_digit) (digits_and_more text c cs more) ∙ digits_then (digits_of text) c cs (behind_digits text c cs more))

pub no_whole : (text : List ℕ) → number_of (digits_of text) ≡ None → number_of text ≡ None
no_whole text none = by (after_digits text) refl
  where
    by : (rest : List ℕ) → after_digits text ≡ rest → number_of text ≡ None
    by [] e = sym (whole_number text e) ∙ none
    by (c ∷ cs) e = more_whole text c cs e

-- The first part, if a byte other than a space follows the digits.
pub part_with : (text : List ℕ) (c : ℕ) (more : List ℕ) → after_digits text ≡ c ∷ more → (c == 32) ≡ false → first_part text ≡ digits_of text ++ c ∷ first_part more
part_with text c more e space = part_by_digits text ∙ ap (λ l. digits_of text ++ first_part l) e ∙ ap (λ l. digits_of text ++ l) (goes_on c more (ap not space))

pub after_byte : (text : List ℕ) (c : ℕ) (more : List ℕ) → after_digits text ≡ c ∷ more → (c == 32) ≡ false → after_part more ≡ after_part text
unfolding after_part
after_byte text c more e space = sym (after_by_digits text ∙ ap after_part e ∙ rw space refl)

-- The text after a byte that follows the digits.
pub behind_byte : (text : List ℕ) (byte : ℕ) → begins byte (after_digits text) ≡ true → (more : List ℕ) × (after_digits text ≡ byte ∷ more)
behind_byte text byte h = by (after_digits text) h
  where
    by : (rest : List ℕ) → begins byte rest ≡ true → (more : List ℕ) × (rest ≡ byte ∷ more)
    by [] h = cc h
    by (c ∷ more) h = let same : c ≡ byte = grind (arith, nat_tests, h) in (more, ap (λ x. x ∷ more) same)

-- What is read after such a byte is what is read of the whole, if both values are equal.
pub leading_moved : {A : Type 0} (f g : List ℕ → Option A) (text more : List ℕ) (r : Option (A × List ℕ))
    → f (first_part text) ≡ g (first_part more) → after_part more ≡ after_part text → LeadingIs g more r → LeadingIs f text r
leading_moved f g text more None same after h = same ∙ h
leading_moved f g text more (Some x) same after h = (same ∙ h.0, h.1 ∙ after)

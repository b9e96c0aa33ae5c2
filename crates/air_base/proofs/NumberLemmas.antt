-- Which number a text spells, digit by digit, and the laws of spelling.
--
-- `value_more` and `digits_more_read` read one more digit. `number_text-decimal` ties a number's text to what the library
-- prints. `text_spells` and `one_spelling` are the two laws. Proofs about reading and printing numbers cite them.
use Rattle.std.proofs.Common.{◌≡◌, ◌+◌, ◌-◌, ◌*◌, ◌^◌, ◌<◌, ◌≤◌, ◌∷◌, [], ℕ, zero, suc, List, Some, None, Bool, true, false, refl, cond, arith, rules, nat_lt, length, take, not, sym, ap, ◌∙◌, get_or}
use Rattle.std.specs.Prelude.{◌&&◌, ◌||◌, ◌==◌}
use Rattle.std.specs.Char.{is_ascii_digit, IsAsciiDigit}
use Rattle.std.specs.Fmt.{decimal}
use Rattle.std.specs.List.{list_all}
use Rattle.std.specs.Str.Parse.{digits_value}
use Rattle.std.proofs.lemmas.Bool.{and_from, and_parts, both_ways, false_from_ne_true, ltb-true}
use Rattle.std.proofs.lemmas.Bool.Decides.{nat_tests}
use Rattle.std.proofs.lemmas.Fmt.{AppendsLastDigit, decimal_digit, decimal_from_appends, decimal_nonempty, decimal-digits_value, digits_decimal, digits_value-decimal, first_decimal, length-decimal-le}
use Rattle.std.proofs.lemmas.Int.Digits.{digits_value_more}
use Rattle.std.proofs.lemmas.List.Folds.{list_all_at, list_all_more}
use Rattle.std.proofs.lemmas.Str.{digit_value_digit}
use Rattle.std.proofs.lemmas.Str.Parse.{IsNumeralModel, digits_value-take-le, numerals_by_value}
use Rattle.air_base.specs.LeadingParts.{DigitsRead}
use Rattle.air_base.specs.Numbers.{is_numeral, number_of, number_text, last_digits}

-- The library's laws on digits, at this test of digits.
own : IsNumeralModel (λ ds. list_all is_ascii_digit ds ≡ true) (digits_value 10)
own = numerals_by_value (λ ds. list_all is_ascii_digit ds ≡ true) (search rules)

-- What makes a text a numeral.
record NumeralParts (text : List ℕ) : Type 0 where
  digits : list_all is_ascii_digit text ≡ true
  some : 0 < length text
  zero_alone : get_or text 0 0 ≡ 48 → length text ≡ 1

parts_of_numeral : (text : List ℕ) → is_numeral text ≡ true → NumeralParts text
parts_of_numeral [] h = cc h
parts_of_numeral (c ∷ cs) h = record { digits = both.1; some = omega arith; zero_alone = alone }
  where
    both : (not (c == 48) || length cs == 0 ≡ true) × (list_all is_ascii_digit (c ∷ cs) ≡ true)
    both = and_parts (not (c == 48) || length cs == 0) (list_all is_ascii_digit (c ∷ cs)) h

    alone : c ≡ 48 → length (c ∷ cs) ≡ 1
    alone e = grind (arith, nat_tests, both.0)

numeral_from_parts : (text : List ℕ) → NumeralParts text → is_numeral text ≡ true
numeral_from_parts [] parts = absurd (omega (arith, parts.some))
numeral_from_parts (c ∷ cs) parts = rw parts.digits (grind (arith, nat_tests, parts.zero_alone))

pub no_numeral : (text : List ℕ) → is_numeral text ≡ false → None ≡ number_of text
unfolding number_of
no_numeral text h = rw h refl

-- A text spells no number if it is empty, or if it begins with a zero and has more bytes.
pub bad_leading : (text : List ℕ) → ((0 < length text) × (get_or text 0 0 ≡ 48 → length text ≡ 1) → ⊥) → None ≡ number_of text
bad_leading text bad = no_numeral text (false_from_ne_true (is_numeral text) (λ is. let parts = parts_of_numeral text is in bad (parts.some, parts.zero_alone)))

-- A text with a byte that is no digit spells no number.
pub no_digit : (text : List ℕ) (i : ℕ) → i < length text → is_ascii_digit (get_or text i 0) ≡ false → None ≡ number_of text
no_digit text i within other = no_numeral text (false_from_ne_true (is_numeral text) (λ is.
    both_ways (list_all is_ascii_digit text) (list_all_at is_ascii_digit text i 0 within other) (parts_of_numeral text is).digits))

-- A text whose first digits have a value above the greatest spells no number.
pub too_great : (text : List ℕ) (i : ℕ) → 2 ^ 64 ≤ digits_value 10 (take i text) → None ≡ number_of text
unfolding number_of
too_great text i above = by (is_numeral text) (nat_lt (digits_value 10 text) (2 ^ 64)) refl
  where
    by : (a b : Bool) → nat_lt (digits_value 10 text) (2 ^ 64) ≡ b → None ≡ cond (a && b) (Some (digits_value 10 text)) None
    by false b fits = refl
    by true false fits = refl
    by true true fits = absurd (let below = ltb-true (digits_value 10 text) (2 ^ 64) fits in omega (arith, digits_value-take-le 10 text i (omega arith)))

-- A numeral spells the value of its digits.
pub spelled : (text : List ℕ) (n : ℕ) → 0 < length text → (get_or text 0 0 ≡ 48 → length text ≡ 1) → list_all is_ascii_digit text ≡ true → n ≡ digits_value 10 text → n < 2 ^ 64 → Some n ≡ number_of text
unfolding number_of
spelled text n some alone digits value below =
    let numeral = numeral_from_parts text (record { digits = digits; some = some; zero_alone = alone }) in
    let fits : nat_lt n (2 ^ 64) ≡ true = grind (arith, below) in
    rw (numeral, ← value, fits) refl

-- ---- digit by digit

-- The value with one more digit.
pub value_more : (text : List ℕ) (i n : ℕ) → i < length text → is_ascii_digit (get_or text i 0) ≡ true → DigitsRead text i n → digits_value 10 (take (i + 1) text) ≡ n * 10 + (get_or text i 0 - 48)
value_more text i n within digit reading =
    let range : IsAsciiDigit (get_or text i 0) = grind (arith, nat_tests, digit) in
    omega (arith, digits_value_more 10 text i within, digit_value_digit (get_or text i 0) range, reading.value)

pub digits_more_read : (text : List ℕ) (i n m : ℕ) → i < length text → is_ascii_digit (get_or text i 0) ≡ true → m ≡ n * 10 + (get_or text i 0 - 48) → n * 10 + (get_or text i 0 - 48) < 2 ^ 64 → DigitsRead text i n → DigitsRead text (i + 1) m
digits_more_read text i n m within digit is below reading = record {
  digits = list_all_more is_ascii_digit text i 0 within ∙ and_from _ _ reading.digits digit;
  value = is ∙ sym (value_more text i n within digit reading);
  below = omega (arith, is, below);
}

appends : AppendsLastDigit last_digits
appends = search rules

-- The text of a number is what the library prints of it.
pub number_text-decimal : (n : ℕ) → n < 2 ^ 64 → number_text n ≡ decimal n
unfolding number_text
number_text-decimal n below = decimal_from_appends last_digits appends 20 n below (length-decimal-le 20 n (omega arith) (omega arith) below)

decimal_numeral : (n : ℕ) → n < 2 ^ 64 → is_numeral (decimal n) ≡ true
decimal_numeral n below =
    numeral_from_parts (decimal n) (record {
      digits = digits_decimal own n below;
      some = decimal_nonempty n below;
      zero_alone = alone n below;
    })
  where
    alone : (n : ℕ) → n < 2 ^ 64 → get_or (decimal n) 0 0 ≡ 48 → length (decimal n) ≡ 1
    alone zero below e = ap length (decimal_digit 0 (omega arith))
    alone (suc n) below e = absurd (omega (arith, first_decimal (suc n) (omega arith) below))

pub text_spells : (n : ℕ) → n < 2 ^ 64 → number_of (number_text n) ≡ Some n
unfolding number_of
text_spells n below =
    let value : digits_value 10 (decimal n) ≡ n = digits_value-decimal own n below in
    let fits : nat_lt n (2 ^ 64) ≡ true = grind arith in
    rw (number_text-decimal n below, decimal_numeral n below, value, fits) refl

pub one_spelling : (text : List ℕ) (n : ℕ) → number_of text ≡ Some n → text ≡ number_text n
unfolding number_of
one_spelling text n spelled = by (is_numeral text) (nat_lt (digits_value 10 text) (2 ^ 64)) refl refl spelled
  where
    by : (a b : Bool) → is_numeral text ≡ a → nat_lt (digits_value 10 text) (2 ^ 64) ≡ b → cond (a && b) (Some (digits_value 10 text)) None ≡ Some n → text ≡ number_text n
    by false b numeral fits told = cc told
    by true false numeral fits told = cc told
    by true true numeral fits told =
        let value : digits_value 10 text ≡ n = cc told in
        let parts = parts_of_numeral text numeral in
        let below : digits_value 10 text < 2 ^ 64 = grind arith in
        sym (decimal-digits_value own text parts.digits parts.some parts.zero_alone below) ∙ ap decimal value ∙ sym (number_text-decimal n (rw value at below))

-- A text that spells a number has only digits, and at least one.
pub number_digits : (text : List ℕ) (n : ℕ) → number_of text ≡ Some n → (0 < length text) × (list_all is_ascii_digit text ≡ true)
unfolding number_of
number_digits text n spelled = by (is_numeral text) (nat_lt (digits_value 10 text) (2 ^ 64)) refl spelled
  where
    by : (a b : Bool) → is_numeral text ≡ a → cond (a && b) (Some (digits_value 10 text)) None ≡ Some n → (0 < length text) × (list_all is_ascii_digit text ≡ true)
    by false b numeral told = cc told
    by true b numeral told = let parts = parts_of_numeral text numeral in (parts.some, parts.digits)

-- Numbers with more digits at their end, told by the digits' bytes.
-- `with_four` and `with_fours` of `digits` cite these.
use Rattle.std.proofs.Common.{◌≡◌, ◌<◌, ◌≤◌, ◌+◌, ◌*◌, ◌-◌, ◌^◌, ℕ, List, true, get_or, length, take, sym, subst, arith, rules}
use Rattle.std.specs.Char.{IsAsciiDigit, is_ascii_digit}
use Rattle.std.specs.List.{list_all}
use Rattle.std.specs.Str.Parse.{digits_value}
use Rattle.std.proofs.lemmas.Bool.Decides.{nat_tests}
use Rattle.std.proofs.lemmas.List.{length-take-le}
use Rattle.std.proofs.lemmas.Str.Parse.{IsNumeralModel, digits_value_short, numerals_by_value}
use Rattle.air_base.specs.LeadingParts.{DigitsRead}
use Rattle.air_base.proofs.NumberLemmas.{digits_more_read}

-- A byte of a text, which is a digit's.
pub record IsDigit (text : List ℕ) (place byte : ℕ) : Type 0 where
  pub digit : is_ascii_digit (get_or text place 0) ≡ true
  pub is : byte ≡ get_or text place 0
  pub least : 48 ≤ byte
  pub most : byte ≤ 57

pub digit_is : (text : List ℕ) (place byte : ℕ) → is_ascii_digit byte ≡ true → byte ≡ get_or text place 0 → IsDigit text place byte
digit_is text place byte digit is =
    let range : IsAsciiDigit byte = grind (arith, nat_tests, digit) in
    record { digit = subst (λ b. is_ascii_digit b ≡ true) is digit; is = is; least = omega (arith, range); most = omega (arith, range) }

-- The library's laws on digits, for this test of digits. By them fewer than fifteen digits have a value below 10 ^ 15.
decimal_digits : IsNumeralModel (λ ds. list_all is_ascii_digit ds ≡ true) (digits_value 10)
decimal_digits = numerals_by_value (λ ds. list_all is_ascii_digit ds ≡ true) (search rules)

pub few_small : (text : List ℕ) (place n : ℕ) → DigitsRead text place n → place ≤ length text → place < 15 → n < 10 ^ 15
few_small text place n read within few =
    let short : length (take place text) ≤ 15 = omega (arith, length-take-le place text within, few) in
    omega (arith, read.value, digits_value_short decimal_digits (take place text) 15 read.digits short)

-- One more digit.
digit_more : (text : List ℕ) (i j n m byte : ℕ) → j ≡ i + 1 → i < length text → IsDigit text i byte → n < 10 ^ 18 → m + 48 ≡ n * 10 + byte → DigitsRead text i n → DigitsRead text j m
digit_more text i j n m byte next within digit small is read =
    subst (λ k. DigitsRead text k m) (sym next)
    (digits_more_read text i n m within digit.digit (omega (arith, is, digit.is, digit.least)) (omega (arith, small, digit.is, digit.most)) read)

-- Up to four more digits, at a place that has four bytes left.
module _ (text : List ℕ) (place n : ℕ) (within : place + 4 ≤ length text) (small : n < 10 ^ 15) (read : DigitsRead text place n) where
  pub one_more : (a : ℕ) → IsDigit text place a → DigitsRead text (place + 1) (n * 10 + a - 48)
  one_more a first = digit_more text place (place + 1) n (n * 10 + a - 48) a (omega arith) (omega (arith, within)) first (omega (arith, small)) (omega (arith, first.least)) read

  pub two_more : (a b : ℕ) → IsDigit text place a → IsDigit text (place + 1) b → DigitsRead text (place + 2) ((n * 10 + a) * 10 + b - 528)
  two_more a b first second =
      digit_more text (place + 1) (place + 2) (n * 10 + a - 48) ((n * 10 + a) * 10 + b - 528) b (omega arith) (omega (arith, within)) second
      (omega (arith, small, first.most)) (omega (arith, first.least, second.least)) (one_more a first)

  pub three_more : (a b d : ℕ) → IsDigit text place a → IsDigit text (place + 1) b → IsDigit text (place + 2) d → DigitsRead text (place + 3) (((n * 10 + a) * 10 + b) * 10 + d - 5328)
  three_more a b d first second third =
      digit_more text (place + 2) (place + 3) ((n * 10 + a) * 10 + b - 528) (((n * 10 + a) * 10 + b) * 10 + d - 5328) d (omega arith) (omega (arith, within)) third
      (omega (arith, small, first.most, second.most)) (omega (arith, first.least, second.least, third.least)) (two_more a b first second)

  pub four_more : (a b d e : ℕ) → IsDigit text place a → IsDigit text (place + 1) b → IsDigit text (place + 2) d → IsDigit text (place + 3) e → DigitsRead text (place + 4) ((((n * 10 + a) * 10 + b) * 10 + d) * 10 + e - 53328)
  four_more a b d e first second third fourth =
      digit_more text (place + 3) (place + 4) (((n * 10 + a) * 10 + b) * 10 + d - 5328) ((((n * 10 + a) * 10 + b) * 10 + d) * 10 + e - 53328) e (omega arith) (omega (arith, within)) fourth
      (omega (arith, small, first.most, second.most, third.most)) (omega (arith, first.least, second.least, third.least, fourth.least)) (three_more a b d first second third)

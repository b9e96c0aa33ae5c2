-- The number that the leading digits of a text spell, read digit by digit.
-- `numbered` and `one_by_one` cite these.
use Rattle.std.proofs.Common.{◌≡◌, ◌<◌, ◌≤◌, ◌^◌, ◌+◌, ◌*◌, ◌-◌, ◌++◌, ℕ, List, Some, None, true, false, length, get_or, take, drop, inl, inr, sym, ap, subst, ◌∙◌, arith}
use Rattle.std.specs.Char.{is_ascii_digit}
use Rattle.std.specs.Str.Parse.{digits_value}
use Rattle.std.proofs.lemmas.Bool.{cases_lt}
use Rattle.std.proofs.lemmas.List.{get_or-take, length-take-le, take-append-drop, take-append-le, take_all}
use Rattle.air_base.specs.Numbers.{number_of}
use Rattle.air_base.proofs.NumberLemmas.{bad_leading, spelled, too_great, value_more}
use Rattle.air_base.specs.LeadingParts.{DigitsRead, after_digits, behind, digits_of, leading_part}
use Rattle.air_base.proofs.LeadingPartLemmas.{end_behind, end_leading, leading_past, scan_behind, scan_leading, scan_more}

-- All leading digits were read: the byte after them, if there is one, is no digit.
module _ (text : List ℕ) (len n : ℕ) (read : DigitsRead text len n) (within : len ≤ length text) (stop : is_ascii_digit (get_or text len 0) ≡ false) where
  long : length (take len text) ≡ len
  long = length-take-le len text within

  digits : take len text ≡ digits_of text
  unfolding digits_of
  digits = elim (cases_lt len (length text)) as (λ _. take len text ≡ leading_part is_ascii_digit text) [
    | inl less ↦ scan_leading is_ascii_digit text len read.digits 0 less stop
    | inr end ↦ end_leading is_ascii_digit text len read.digits len end end
  ]

  pub rest_read : drop len text ≡ after_digits text
  unfolding after_digits
  rest_read = elim (cases_lt len (length text)) as (λ _. drop len text ≡ behind is_ascii_digit text) [
    | inl less ↦ scan_behind is_ascii_digit text len read.digits 0 less stop
    | inr end ↦ end_behind is_ascii_digit text len read.digits len end end
  ]

  pub digits_number : 0 < len → (get_or text 0 0 ≡ 48 → len ≡ 1) → number_of (digits_of text) ≡ Some n
  digits_number some alone =
      ap number_of (sym digits)
      ∙ sym (spelled (take len text) n (omega (arith, long)) (λ zero. long ∙ alone (sym (get_or-take len text 0 0 some) ∙ zero)) read.digits read.value read.below)

  pub no_leading : len ≡ 0 → number_of (digits_of text) ≡ None
  no_leading none = ap number_of (sym digits) ∙ sym (bad_leading (take len text) (λ well. absurd (let some = well.0 in omega (arith, long))))

  pub zero_leading : get_or text 0 0 ≡ 48 → 1 < len → number_of (digits_of text) ≡ None
  zero_leading zero more =
      let first : get_or (take len text) 0 0 ≡ 48 = get_or-take len text 0 0 (omega arith) ∙ zero in
      ap number_of (sym digits) ∙ sym (bad_leading (take len text) (λ well. absurd (let one = well.1 first in omega (arith, long))))

-- With one more digit the value is above the greatest.
pub too_long : (text : List ℕ) (i n : ℕ) → i < length text → is_ascii_digit (get_or text i 0) ≡ true → DigitsRead text i n → 2 ^ 64 ≤ n * 10 + (get_or text i 0 - 48)
    → number_of (digits_of text) ≡ None
unfolding digits_of
too_long text i n within digit read above =
    let all = scan_more is_ascii_digit text i read.digits 0 within digit in
    let taken = take (i + 1) text in
    let rest = leading_part is_ascii_digit (drop (i + 1) text) in
    let past : leading_part is_ascii_digit text ≡ taken ++ rest = ap (leading_part is_ascii_digit) (sym (take-append-drop (i + 1) text)) ∙ leading_past is_ascii_digit taken (drop (i + 1) text) all in
    let many : length taken ≡ i + 1 = length-take-le (i + 1) text (omega arith) in
    let same : taken ≡ take (i + 1) (leading_part is_ascii_digit text) =
    sym (ap (take (i + 1)) past ∙ take-append-le (i + 1) taken rest (omega (arith, many)) ∙ take_all (i + 1) taken (omega (arith, many))) in
    let value = value_more text i n within digit read in
    sym (too_great (leading_part is_ascii_digit text) (i + 1) (subst (λ l. 2 ^ 64 ≤ digits_value 10 l) same (omega (arith, value, above))))

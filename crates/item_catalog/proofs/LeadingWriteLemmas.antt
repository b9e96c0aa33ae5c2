-- The write of the first part of a text, by its leading digits and what follows them.
use Rattle.std.proofs.Common.{◌≡◌, ◌≢◌, ◌∷◌, [], ℕ, List, Option, Some, None, Bool, true, false, refl, sym, ap, ◌∙◌, arith}
use Rattle.std.specs.Prelude.{◌==◌}
use Rattle.std.specs.Char.{is_ascii_digit}
use Rattle.std.specs.List.{list_all}
use Rattle.air_base.specs.Numbers.{number_of}
use Rattle.air_base.specs.LeadingParts.{after_digits, after_part, begins, digits_of, ends_part, first_part}
use Rattle.air_base.proofs.LeadingPartLemmas.{leading_all}
use Rattle.air_base.proofs.LeadingNumberLemmas.{after_byte, after_ends, behind_byte, behind_digits, part_ends, part_with}
use Rattle.item_catalog.specs.Writes.{constant, spelled_value_write, spelled_write, write_on_base}
use Rattle.item_catalog.specs.Private.WriteParts.{sign_of}
use Rattle.item_catalog.proofs.SplitWriteLemmas.{value_minus, value_number, value_other, value_no_item, value_plus, write_digits, write_equals, write_other}

digits : (text : List ℕ) → list_all is_ascii_digit (digits_of text) ≡ true
unfolding digits_of
digits text = leading_all is_ascii_digit text

unlike : (c s : ℕ) → (c == s) ≡ false → c ≢ s
unlike c s other same = cc (other, let t : (c == s) ≡ true = grind arith in t)

no_base : (minus : Bool) (item amount : Option ℕ) → write_on_base minus item None amount ≡ None
no_base minus None amount = refl
no_base minus (Some i) amount = refl

no_amount : (item : Option ℕ) → constant item None ≡ None
no_amount None = refl
no_amount (Some i) = refl

-- What follows the digits is the end of the part, or a byte.
module _ (text : List ℕ) where
  pub value_other_leading : (item : Option ℕ) → begins 43 (after_digits text) ≡ false → begins 45 (after_digits text) ≡ false → ends_part (after_digits text) ≡ false
      → spelled_value_write item (first_part text) ≡ None
  value_other_leading item plus minus ends = by (after_digits text) refl plus minus ends
    where
      by : (rest : List ℕ) → after_digits text ≡ rest → begins 43 rest ≡ false → begins 45 rest ≡ false → ends_part rest ≡ false → spelled_value_write item (first_part text) ≡ None
      by [] e plus minus ends = cc ends
      by (c ∷ more) e plus minus ends =
          ap (spelled_value_write item) (part_with text c more e ends)
          ∙ value_other item (digits_of text) c (first_part more) (digits text) (behind_digits text c more e) (unlike c 43 plus) (unlike c 45 minus)

  pub value_plus_leading : (item : Option ℕ) (more : List ℕ) → after_digits text ≡ 43 ∷ more
      → spelled_value_write item (first_part text) ≡ write_on_base false item (number_of (digits_of text)) (number_of (first_part more))
  value_plus_leading item more e = ap (spelled_value_write item) (part_with text 43 more e refl) ∙ value_plus item (digits_of text) (first_part more) (digits text)

  pub value_minus_leading : (item : Option ℕ) (more : List ℕ) → after_digits text ≡ 45 ∷ more
      → spelled_value_write item (first_part text) ≡ write_on_base true item (number_of (digits_of text)) (number_of (first_part more))
  value_minus_leading item more e = ap (spelled_value_write item) (part_with text 45 more e refl) ∙ value_minus item (digits_of text) (first_part more) (digits text)

  pub value_signed_leading : (minus : Bool) (item : Option ℕ) (more : List ℕ) → after_digits text ≡ sign_of minus ∷ more
      → (spelled_value_write item (first_part text) ≡ write_on_base minus item (number_of (digits_of text)) (number_of (first_part more))) × (after_part more ≡ after_part text)
  value_signed_leading true item more e = (value_minus_leading item more e, after_byte text 45 more e refl)
  value_signed_leading false item more e = (value_plus_leading item more e, after_byte text 43 more e refl)

  pub value_number_leading : (item : Option ℕ) → ends_part (after_digits text) ≡ true → spelled_value_write item (first_part text) ≡ constant item (number_of (digits_of text))
  value_number_leading item ends = ap (spelled_value_write item) (part_ends text ends) ∙ value_number item (digits_of text) (digits text)

  pub value_no_number : (item : Option ℕ) → number_of (digits_of text) ≡ None → spelled_value_write item (first_part text) ≡ None
  value_no_number item none = by (begins 43 (after_digits text)) (begins 45 (after_digits text)) (ends_part (after_digits text)) refl refl refl
    where
      by : (p m t : Bool) → begins 43 (after_digits text) ≡ p → begins 45 (after_digits text) ≡ m → ends_part (after_digits text) ≡ t → spelled_value_write item (first_part text) ≡ None
      by true m t p_is m_is t_is = let more = behind_byte text 43 p_is in value_plus_leading item more.0 more.1 ∙ rw none (no_base false item _)
      by false true t p_is m_is t_is = let more = behind_byte text 45 m_is in value_minus_leading item more.0 more.1 ∙ rw none (no_base true item _)
      by false false true p_is m_is t_is = value_number_leading item t_is ∙ rw none (no_amount item)
      by false false false p_is m_is t_is = value_other_leading item p_is m_is t_is

  -- A whole write.
  pub write_value_leading : (more : List ℕ) → after_digits text ≡ 61 ∷ more → spelled_write (first_part text) ≡ spelled_value_write (number_of (digits_of text)) (first_part more)
  write_value_leading more e = ap spelled_write (part_with text 61 more e refl) ∙ write_equals (digits_of text) (first_part more) (digits text)

  pub write_other_leading : begins 61 (after_digits text) ≡ false → spelled_write (first_part text) ≡ None
  write_other_leading other = by (ends_part (after_digits text)) refl (after_digits text) refl
    where
      by : (t : Bool) → ends_part (after_digits text) ≡ t → (rest : List ℕ) → after_digits text ≡ rest → spelled_write (first_part text) ≡ None
      by true ends rest e = ap spelled_write (part_ends text ends) ∙ write_digits (digits_of text) (digits text)
      by false ends [] e = cc (ap ends_part e, ends)
      by false ends (c ∷ more) e =
          let space : (c == 32) ≡ false = sym (ap ends_part e) ∙ ends in
          let differs : (c == 61) ≡ false = sym (ap (begins 61) e) ∙ other in
          ap spelled_write (part_with text c more e space) ∙ write_other (digits_of text) c (first_part more) (digits text) (behind_digits text c more e) (unlike c 61 differs)

  pub write_no_number : number_of (digits_of text) ≡ None → spelled_write (first_part text) ≡ None
  write_no_number none = by (begins 61 (after_digits text)) refl
    where
      by : (b : Bool) → begins 61 (after_digits text) ≡ b → spelled_write (first_part text) ≡ None
      by true h = let more = behind_byte text 61 h in write_value_leading more.0 more.1 ∙ rw none (value_no_item (first_part more.0))
      by false h = write_other_leading h

-- What follows a part of only digits, and one of digits and a byte. The lemmas of numbers serve writes unchanged.
pub after_digits_alone : (text : List ℕ) → ends_part (after_digits text) ≡ true → after_digits text ≡ after_part text
after_digits_alone = after_ends

pub after_digits_byte : (text : List ℕ) (c : ℕ) (more : List ℕ) → after_digits text ≡ c ∷ more → (c == 32) ≡ false → after_part more ≡ after_part text
after_digits_byte = after_byte

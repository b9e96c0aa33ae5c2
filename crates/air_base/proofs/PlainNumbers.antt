-- Parts read by their places: a number's digits at a place, what follows them, and the text from the place on at which the part
-- ends.
use Rattle.std.proofs.Common.{◌≡◌, ◌<◌, ◌≤◌, ◌+◌, ◌-◌, ◌++◌, ◌∷◌, [], cond, ℕ, List, Option, Some, None, IfSome, Bool, true, false, length, get_or, take, drop, refl, sym, ap, subst, ◌∙◌, arith, length-drop, replicate, zero, suc}
use Rattle.std.specs.Char.{is_ascii_digit}
use Rattle.std.proofs.lemmas.List.{append_cancel_right, drop-append-le, drop-drop, drop_more, get_or-drop, length-append, take_all}
use Rattle.air_base.specs.Numbers.{number_of}
use Rattle.air_base.specs.LeadingParts.{DigitsRead, after_digits, after_part, behind, digits_of, ends_part, first_part, is_no_space}
use Rattle.air_base.specs.ReadParts.{PlainAt}
use Rattle.air_base.proofs.LeadingNumbers.{digits_number, rest_read}
use Rattle.air_base.proofs.LeadingNumberLemmas.{after_ends, ended, part_ends}

-- The text from a place on, as a slice.
pub from_place : (text : List ℕ) (place : ℕ) → take (length text - place) (drop place text) ≡ drop place text
from_place text place = take_all (length text - place) (drop place text) (omega (arith, length-drop place text))

-- A part ends at a space, and at the text's end.
pub ends_space : (text : List ℕ) (place : ℕ) → place < length text → get_or text place 0 ≡ 32 → ends_part (drop place text) ≡ true
ends_space text place inside space = ap ends_part (drop_more text place 0 inside ∙ ap (λ b. b ∷ drop (place + 1) text) space)

-- A number's digits were read at a place, and no digit follows them.
module _ (whole : List ℕ) (place behind len n : ℕ) (there : behind ≡ place + len) (read : DigitsRead (drop place whole) len n) (inside : behind ≤ length whole) (some : 0 < len)
    (alone : get_or (drop place whole) 0 0 ≡ 48 → len ≡ 1) where
  abbrev pub text : List ℕ
  text = drop place whole

  within : len ≤ length text
  within = omega (arith, there, inside, length-drop place whole)

  stop_at : is_ascii_digit (get_or whole behind 0) ≡ false → is_ascii_digit (get_or text len 0) ≡ false
  stop_at stop = ap is_ascii_digit (get_or-drop place whole len 0 ∙ ap (λ i. get_or whole i 0) (sym there)) ∙ stop

  pub number_then : is_ascii_digit (get_or whole behind 0) ≡ false → number_of (digits_of text) ≡ Some n
  number_then stop = digits_number text len n read within (stop_at stop) some alone

  rest_then : is_ascii_digit (get_or whole behind 0) ≡ false → after_digits text ≡ drop behind whole
  rest_then stop = sym (rest_read text len n read within (stop_at stop)) ∙ drop-drop len place whole ∙ ap (λ i. drop i whole) (sym there)

  pub byte_then : (byte : ℕ) → behind < length whole → get_or whole behind 0 ≡ byte → is_ascii_digit byte ≡ false → after_digits text ≡ byte ∷ drop (behind + 1) whole
  byte_then byte more is other = rest_then (ap is_ascii_digit is ∙ other) ∙ drop_more whole behind 0 more ∙ ap (λ b. b ∷ drop (behind + 1) whole) is

  pub number_plain : is_ascii_digit (get_or whole behind 0) ≡ false → ends_part (drop behind whole) ≡ true → PlainAt number_of whole place (n, behind)
  number_plain stop end =
      let ends : ends_part (after_digits text) ≡ true = ap ends_part (rest_then stop) ∙ end in
      ((ap number_of (part_ends text ends) ∙ number_then stop, sym (rest_then stop) ∙ after_ends text ends), inside)

-- A text with spaces added at its end has the same first part, and what follows that part has the spaces at its end too.
module _ (spaces : List ℕ) (ends : ends_part spaces ≡ true) where
  first_spaced : (text : List ℕ) → first_part (text ++ spaces) ≡ first_part text
  unfolding first_part
  first_spaced [] = (ended spaces ends).0
  first_spaced (c ∷ cs) = ap (λ l. cond (is_no_space c) (c ∷ l) []) (first_spaced cs)

  after_spaced : (text : List ℕ) → after_part (text ++ spaces) ≡ after_part text ++ spaces
  unfolding after_part
  after_spaced [] = (ended spaces ends).1
  after_spaced (c ∷ cs) = by (is_no_space c) (after_spaced cs)
    where
      by : (b : Bool) → behind is_no_space (cs ++ spaces) ≡ behind is_no_space cs ++ spaces
          → cond b (behind is_no_space (cs ++ spaces)) (c ∷ cs ++ spaces) ≡ cond b (behind is_no_space cs) (c ∷ cs) ++ spaces
      by true h = h
      by false h = refl

  pub spaced_plain : {A : Type 0} (value : List ℕ → Option A) (text : List ℕ) (f : A × ℕ) → PlainAt value (text ++ spaces) 0 f → PlainAt value text 0 f
  spaced_plain value text f plain =
      let after : drop f.1 (text ++ spaces) ≡ after_part text ++ spaces = plain.0.1 ∙ after_spaced text in
      let within : f.1 ≤ length text = omega (arith, ap length after, length-drop f.1 (text ++ spaces), length-append text spaces, length-append (after_part text) spaces, plain.1) in
      ((ap value (sym (first_spaced text)) ∙ plain.0.0, append_cancel_right (drop f.1 text) (after_part text) spaces (sym (drop-append-le f.1 text spaces within) ∙ after)), within)

  pub last_plain : {A B : Type 0} (value : List ℕ → Option A) (said : B → A) (whole copy : List ℕ) → copy ≡ whole → (r : Option (B × ℕ))
      → IfSome r (λ f. PlainAt value (copy ++ spaces) 0 (said f.0, f.1)) → IfSome r (λ f. PlainAt value whole 0 (said f.0, f.1))
  last_plain value said whole copy same None plain = plain
  last_plain value said whole copy same (Some f) plain = spaced_plain value whole (said f.0, f.1) (subst (λ l. PlainAt value (l ++ spaces) 0 (said f.0, f.1)) same plain)

-- The rest of a text of spaces is empty or begins with a space.
pub spaces_end : (n k : ℕ) → ends_part (drop n (replicate k 32)) ≡ true
spaces_end zero zero = refl
spaces_end zero (suc k) = refl
spaces_end (suc n) zero = refl
spaces_end (suc n) (suc k) = spaces_end n k

-- What a text begins with: its first part and its first digits, and what follows them.
--
-- Contracts of calls that read a text part by part use these definitions, in this crate and in those above it. What a whole
-- text spells is defined without them.
use Rattle.std.specs.Prelude.{◌≡◌, ◌==◌, ◌<◌, ◌^◌, ℕ, List, [], ◌∷◌, Bool, true, false, not, Option, Some, None, take, if◌then◌else◌}
use Rattle.std.specs.Char.{is_ascii_digit}
use Rattle.std.specs.List.{list_all}
use Rattle.std.specs.Str.Parse.{digits_value}

-- The elements before the first one that fails the test.
abbrev pub leading_part : (ℕ → Bool) → List ℕ → List ℕ
leading_part test [] = []
leading_part test (x ∷ xs) = if test x then x ∷ leading_part test xs else []

-- The elements from the first one on that fails the test.
abbrev pub behind : (ℕ → Bool) → List ℕ → List ℕ
behind test [] = []
behind test (x ∷ xs) = if test x then behind test xs else x ∷ xs

-- The byte is no space.
abbrev pub is_no_space : ℕ → Bool
is_no_space byte = not (byte == 32)

-- The first part of a list.
unfoldable pub first_part : List ℕ → List ℕ
first_part text = leading_part is_no_space text

-- What follows the first part of a list: a space and the other parts, or nothing.
unfoldable pub after_part : List ℕ → List ℕ
after_part text = behind is_no_space text

-- A text is empty or begins with a space.
abbrev pub ends_part : List ℕ → Bool
ends_part [] = true
ends_part (byte ∷ bytes) = byte == 32

-- A text begins with this byte.
abbrev pub begins : ℕ → List ℕ → Bool
begins byte [] = false
begins byte (c ∷ cs) = c == byte

-- The leading digits of a text.
unfoldable pub digits_of : List ℕ → List ℕ
digits_of text = leading_part is_ascii_digit text

-- What follows the leading digits of a text.
unfoldable pub after_digits : List ℕ → List ℕ
after_digits text = behind is_ascii_digit text

-- The first i bytes of a text are digits, and their value is n, which fits in 64 bits.
pub record DigitsRead (text : List ℕ) (i n : ℕ) : Type 0 where
  pub digits : list_all is_ascii_digit (take i text) ≡ true
  pub value : n ≡ digits_value 10 (take i text)
  pub below : n < 2 ^ 64

-- The value of the first part of a list, with what follows it; None if the part has no value.
abbrev pub LeadingIs : {A : Type 0} → (List ℕ → Option A) → List ℕ → Option (A × List ℕ) → Type 0
LeadingIs value text None = value (first_part text) ≡ None
LeadingIs value text (Some f) = (value (first_part text) ≡ Some f.0) × (f.1 ≡ after_part text)

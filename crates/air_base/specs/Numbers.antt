-- Numbers as texts: decimal digits without sign and without a leading zero except for `0` itself.
--
-- `number_of` says which number a text spells, and `number_text` how a number is spelled. The laws in `src/texts.rt` say that
-- they are inverse to each other, so each number of 64 bits has one text. Everything that is read or printed depends on them.
use Rattle.std.specs.Prelude.{◌==◌, ◌&&◌, ◌||◌, ◌+◌, ◌/◌, ◌%◌, ◌^◌, ◌++◌, ℕ, zero, suc, List, [], ◌∷◌, Bool, false, not, Option, Some, None, length, nat_lt, if◌then◌else◌}
use Rattle.std.specs.Char.{is_ascii_digit}
use Rattle.std.specs.List.{list_all}
use Rattle.std.specs.Str.Parse.{digits_value}

-- The text has only digits, at least one, and begins with a zero only if it is `0`.
abbrev pub is_numeral : List ℕ → Bool
is_numeral [] = false
is_numeral (first ∷ rest) = (not (first == 48) || length rest == 0) && list_all is_ascii_digit (first ∷ rest)

-- The number of 64 bits that the text spells, if it spells one.
unfoldable pub number_of : List ℕ → Option ℕ
number_of text = if is_numeral text && nat_lt (digits_value 10 text) (2 ^ 64) then Some (digits_value 10 text) else None

-- The last digits of n, at most this many, the highest first.
abbrev pub last_digits : ℕ → ℕ → List ℕ
last_digits zero n = []
last_digits (suc many) n = if nat_lt n 10 then (48 + n) ∷ [] else last_digits many (n / 10) ++ (48 + n % 10) ∷ []

-- The text of a number of 64 bits: its digits, of which there are at most 20.
unfoldable pub number_text : ℕ → List ℕ
number_text n = last_digits 20 n

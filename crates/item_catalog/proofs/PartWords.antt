-- A byte alone at the front of a list, the `s` of a start or the `-` of a frequency, and the other case: a number.
use Rattle.std.proofs.Common.{◌≡◌, ◌∷◌, [], ℕ, suc, List, Some, None, Bool, true, false, cond, not, length, refl, sym, ap, ◌∙◌, arith, option_map, take, drop, ◌-◌}
use Rattle.std.specs.Prelude.{◌&&◌, ◌==◌}
use Rattle.std.proofs.lemmas.List.{take_all}
use Rattle.std.proofs.lemmas.Bool.{and_parts}
use Rattle.std.proofs.lemmas.Bool.Decides.{nat_tests}
use Rattle.air_base.specs.Numbers.{number_of}
use Rattle.air_base.specs.LeadingParts.{leading_part, is_no_space, first_part, after_part, ends_part}
use Rattle.air_base.proofs.LeadingNumberLemmas.{ended, goes_on}
use Rattle.item_catalog.specs.RecordFields.{◌is◌}
use Rattle.item_catalog.specs.Fields.{freq_of, spelled_event}
use Rattle.item_catalog.specs.Private.ScriptFields.{stands_alone}

ends_is : (rest : List ℕ) → ends_part rest ≡ (first_part rest is [])
unfolding first_part
ends_is [] = refl
ends_is (x ∷ xs) = by (x == 32) refl
  where
    by : (b : Bool) → (x == 32) ≡ b → (x == 32) ≡ (cond (not (x == 32)) (x ∷ leading_part is_no_space xs) [] is [])
    by true e = rw e refl
    by false e = rw e refl

-- The first part is the byte, or isn't.
module _ (word : ℕ) where
  word_part : is_no_space word ≡ true → (text : List ℕ) → stands_alone word text ≡ true → first_part text ≡ word ∷ []
  word_part solid [] h = cc h
  word_part solid (c ∷ rest) h =
      let both = and_parts (c == word) (ends_part rest) h in
      let same : c ≡ word = grind (arith, nat_tests, both.0) in
      rw same (goes_on word rest solid ∙ ap (λ l. word ∷ l) ((ended rest both.1).0))

  word_after : is_no_space word ≡ true → (text : List ℕ) → stands_alone word text ≡ true → take (length text - 1) (drop 1 text) ≡ after_part text
  unfolding after_part
  word_after solid [] h = cc h
  word_after solid (c ∷ rest) h =
      let both = and_parts (c == word) (ends_part rest) h in
      let same : c ≡ word = grind (arith, nat_tests, both.0) in
      let all : take (suc (length rest) - 1) rest ≡ rest = take_all (suc (length rest) - 1) rest (omega arith) in
      rw (same, solid) (all ∙ sym ((ended rest both.1).1))

  no_word : (text : List ℕ) → stands_alone word text ≡ false → (first_part text is (word ∷ [])) ≡ false
  unfolding first_part
  no_word [] h = refl
  no_word (c ∷ rest) h = by (is_no_space c) (c == word) refl refl (rw (ends_is rest) at h)
    where
      by : (a b : Bool) → is_no_space c ≡ a → (c == word) ≡ b → (b && (first_part rest is [])) ≡ false → (cond a (c ∷ leading_part is_no_space rest) [] is (word ∷ [])) ≡ false
      by true b e f h = rw f h
      by false b e f h = refl

-- ---- the `s` of a start

pub start_event : (text : List ℕ) → stands_alone 115 text ≡ true → spelled_event (first_part text) ≡ Some None
unfolding spelled_event
start_event text h = rw (word_part 115 refl text h) refl

pub number_event : (text : List ℕ) → stands_alone 115 text ≡ false → spelled_event (first_part text) ≡ option_map Some (number_of (first_part text))
unfolding spelled_event
number_event text h = rw (no_word 115 text h) refl

pub after_start : (text : List ℕ) → stands_alone 115 text ≡ true → take (length text - 1) (drop 1 text) ≡ after_part text
after_start text h = word_after 115 refl text h

-- ---- the `-` of a frequency

pub dash_freq : (text : List ℕ) → stands_alone 45 text ≡ true → freq_of (first_part text) ≡ Some None
unfolding freq_of
dash_freq text h = rw (word_part 45 refl text h) refl

pub number_freq : (text : List ℕ) → stands_alone 45 text ≡ false → freq_of (first_part text) ≡ option_map Some (number_of (first_part text))
unfolding freq_of
number_freq text h = rw (no_word 45 text h) refl

pub after_dash : (text : List ℕ) → stands_alone 45 text ≡ true → take (length text - 1) (drop 1 text) ≡ after_part text
after_dash text h = word_after 45 refl text h

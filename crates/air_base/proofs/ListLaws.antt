-- The laws of lists as texts: a list is what its parts spell, and has one text.
--
-- `parts_of-list_text` and `list_text-parts_of` take parts and text into each other, for any items that the parts spell. The
-- four laws on lists of numbers follow from them. Proofs about printing and reading other lists cite them.
use Rattle.std.proofs.Common.{◌≡◌, ◌↔◌, ◌<◌, ◌^◌, ◌+◌, ◌∷◌, [], ℕ, suc, List, Option, Some, None, Bool, true, false, cond, eqb, nat_lt, refl, arith, length, map, get_or, sym, ap, ◌∙◌}
use Rattle.std.specs.Prelude.{not, is_none, is_some, IsNone, IsSome, option_map}
use Rattle.std.specs.Char.{is_ascii_digit}
use Rattle.std.specs.List.{All, list_all, position_or_len}
use Rattle.std.proofs.lemmas.Bool.Decides.{nat_tests}
use Rattle.std.proofs.lemmas.List.Elements.{All-cons, All-head, All-nil, All-tail}
use Rattle.std.proofs.lemmas.List.Sums.{AllPass-from_list_all}
use Rattle.std.proofs.lemmas.List.Splits.{join_with_byte-slice_split, slice_split_at, slice_split_none}
use Rattle.air_base.specs.Numbers.{number_of, number_text}
use Rattle.air_base.specs.NumberLists.{all_some, bad_part_at, list_of, list_text, part_start, parts_of}
use Rattle.air_base.proofs.NumberLemmas.{number_digits, one_spelling, text_spells}
use Rattle.air_base.proofs.PartLemmas.{all_some-Some, between_spaces, parts_of-between}

-- A part of a list has a byte, and no space.
pub record IsPart (part : List ℕ) : Type 0 where
  pub some : 0 < length part
  pub no_space : All (λ b. eqb b 32 ≡ false) part

part_alone : (part : List ℕ) → IsPart part → between_spaces part ≡ part ∷ []
part_alone part is = slice_split_none (λ b. eqb b 32) part is.no_space

-- The parts of a text that is made of parts are those parts.
between_spaces-list_text : (part : List ℕ) (parts : List (List ℕ)) → All IsPart (part ∷ parts) → between_spaces (list_text (part ∷ parts)) ≡ part ∷ parts
between_spaces-list_text part [] are = part_alone part (All-head IsPart part [] are)
between_spaces-list_text part (next ∷ parts) are =
    slice_split_at (λ b. eqb b 32) part 32 (list_text (next ∷ parts)) (All-head IsPart part (next ∷ parts) are).no_space refl
    ∙ ap (λ l. part ∷ l) (between_spaces-list_text next parts (All-tail IsPart part (next ∷ parts) are))

list_text_some : (part : List ℕ) (parts : List (List ℕ)) → 0 < length part → 0 < length (list_text (part ∷ parts))
list_text_some part [] some = some
list_text_some [] (next ∷ parts) some = absurd (omega arith)
list_text_some (b ∷ bs) (next ∷ parts) some = omega arith

pub parts_of-list_text : (parts : List (List ℕ)) → All IsPart parts → parts_of (list_text parts) ≡ parts
parts_of-list_text [] are = refl
parts_of-list_text (part ∷ parts) are =
    parts_of-between (list_text (part ∷ parts)) (list_text_some part parts (All-head IsPart part parts are).some) ∙ between_spaces-list_text part parts are

-- A text is the text of its parts.
pub list_text-parts_of : (text : List ℕ) → list_text (parts_of text) ≡ text
list_text-parts_of [] = refl
list_text-parts_of (b ∷ bs) = join_with_byte-slice_split 32 (b ∷ bs)

-- If all items are there, the list is these items.
pub Some-all_some : {A : Type 0} (xs : List (Option A)) (items : List A) → all_some xs ≡ Some items → xs ≡ map Some items
unfolding all_some
Some-all_some [] [] e = refl
Some-all_some [] (item ∷ items) e = cc e
Some-all_some (None ∷ xs) items e = cc e
Some-all_some {A = A} (Some x ∷ xs) items e = by (all_some xs) (Some-all_some xs) items e
  where
    by : (more : Option (List A)) → ((ys : List A) → more ≡ Some ys → xs ≡ map Some ys) → (items : List A) → option_map (λ l. x ∷ l) more ≡ Some items → Some x ∷ xs ≡ map Some items
    by None rest items e = cc e
    by (Some ys) rest items e = let same : x ∷ ys ≡ items = cc e in ap (λ l. Some x ∷ l) (rest ys refl) ∙ ap (map Some) same

pub list_is_its_parts : (text ns : List ℕ) → (list_of number_of text ≡ Some ns) ↔ (map number_of (parts_of text) ≡ map Some ns)
list_is_its_parts text ns = (Some-all_some (map number_of (parts_of text)) ns, all_some-Some (map number_of (parts_of text)) ns)

module _ {A : Type 0} (item : List ℕ → Option A) where
  first_bad : List (List ℕ) → ℕ
  first_bad parts = position_or_len (λ p. is_none (item p)) parts

  none_from_bad : (parts : List (List ℕ)) → first_bad parts < length parts → all_some (map item parts) ≡ None
  unfolding first_bad all_some
  none_from_bad [] h = absurd (omega arith)
  none_from_bad (part ∷ parts) h = by (item part) (none_from_bad parts) h
    where
      by : (o : Option A) → (first_bad parts < length parts → all_some (map item parts) ≡ None)
          → cond (not (is_none o)) (1 + first_bad parts) 0 < suc (length parts) → all_some (o ∷ map item parts) ≡ None
      by None rest h = refl
      by (Some x) rest h = ap (option_map (λ l. x ∷ l)) (rest (omega arith))

  bad_from_none : (parts : List (List ℕ)) → all_some (map item parts) ≡ None → first_bad parts < length parts
  unfolding first_bad all_some
  bad_from_none [] h = cc h
  bad_from_none (part ∷ parts) h = by (item part) (bad_from_none parts) h
    where
      without : (o : Option (List A)) (x : A) → option_map (λ l. x ∷ l) o ≡ None → o ≡ None
      without None x e = refl
      without (Some l) x e = cc e

      by : (o : Option A) → (all_some (map item parts) ≡ None → first_bad parts < length parts)
          → all_some (o ∷ map item parts) ≡ None → cond (not (is_none o)) (1 + first_bad parts) 0 < suc (length parts)
      by None rest h = omega arith
      by (Some x) rest h = let more = rest (without (all_some (map item parts)) x h) in omega arith

  pub none-bad_part_at : (text : List ℕ) → IsNone (list_of item text) ↔ IsSome (bad_part_at item text)
  unfolding bad_part_at first_bad
  none-bad_part_at text = (to, from)
    where
      none : {X : Type 0} (o : Option X) → is_some o ≡ false → o ≡ None
      none None e = refl
      none (Some x) e = cc e

      found : (b : Bool) (at : ℕ) → is_some (option_map (part_start (parts_of text)) (cond b (Some at) None)) ≡ true → b ≡ true
      found true at e = refl
      found false at e = cc e

      to : IsNone (list_of item text) → IsSome (bad_part_at item text)
      to e =
          let below = bad_from_none (parts_of text) (none (list_of item text) e) in
          let test : nat_lt (first_bad (parts_of text)) (length (parts_of text)) ≡ true = grind (arith, below) in
          rw test refl

      from : IsSome (bad_part_at item text) → IsNone (list_of item text)
      from e =
          let test = found (nat_lt (first_bad (parts_of text)) (length (parts_of text))) (first_bad (parts_of text)) e in
          ap is_some (none_from_bad (parts_of text) (grind (arith, nat_tests, test)))

pub list_or_bad_part : (text : List ℕ) → IsNone (list_of number_of text) ↔ IsSome (bad_part_at number_of text)
list_or_bad_part text = none-bad_part_at number_of text

no_space : (b : ℕ) → is_ascii_digit b ≡ true → eqb b 32 ≡ false
no_space b h = grind (arith, nat_tests)

digits_no_space : (ds : List ℕ) → list_all is_ascii_digit ds ≡ true → All (λ b. eqb b 32 ≡ false) ds
digits_no_space ds h k d below = no_space (get_or ds k d) (AllPass-from_list_all is_ascii_digit ds h k d below)

-- The text of a number is a part of a list.
number_part : (n : ℕ) → n < 2 ^ 64 → IsPart (number_text n)
number_part n below =
    let digits = number_digits (number_text n) n (text_spells n below) in
    record { some = digits.0; no_space = digits_no_space (number_text n) digits.1 }

number_parts : (ns : List ℕ) → All (λ n. n < 2 ^ 64) ns → All IsPart (map number_text ns)
number_parts [] below = All-nil IsPart
number_parts (n ∷ ns) below =
    All-cons IsPart (number_text n) (map number_text ns) (number_part n (All-head (λ n. n < 2 ^ 64) n ns below)) (number_parts ns (All-tail (λ n. n < 2 ^ 64) n ns below))

numbers_spelled : (ns : List ℕ) → All (λ n. n < 2 ^ 64) ns → map number_of (map number_text ns) ≡ map Some ns
numbers_spelled [] below = refl
numbers_spelled (n ∷ ns) below =
    rw (text_spells n (All-head (λ n. n < 2 ^ 64) n ns below), numbers_spelled ns (All-tail (λ n. n < 2 ^ 64) n ns below)) refl

pub list_text_spells : (ns : List ℕ) → All (λ n. n < 2 ^ 64) ns → list_of number_of (list_text (map number_text ns)) ≡ Some ns
list_text_spells ns below =
    all_some-Some (map number_of (parts_of (list_text (map number_text ns)))) ns
    (ap (map number_of) (parts_of-list_text (map number_text ns) (number_parts ns below)) ∙ numbers_spelled ns below)

parts_spelled : (parts : List (List ℕ)) (ns : List ℕ) → map number_of parts ≡ map Some ns → parts ≡ map number_text ns
parts_spelled [] [] e = refl
parts_spelled [] (n ∷ ns) e = cc e
parts_spelled (part ∷ parts) [] e = cc e
parts_spelled (part ∷ parts) (n ∷ ns) e =
    let first : number_of part ≡ Some n = cc e in
    let rest : map number_of parts ≡ map Some ns = cc e in
    let text = one_spelling part n first in
    let more = parts_spelled parts ns rest in
    cc

pub one_list_spelling : (text ns : List ℕ) → list_of number_of text ≡ Some ns → text ≡ list_text (map number_text ns)
one_list_spelling text ns e =
    sym (list_text-parts_of text) ∙ ap list_text (parts_spelled (parts_of text) ns (Some-all_some (map number_of (parts_of text)) ns e))

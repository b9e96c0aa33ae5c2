-- A list is read from its beginning: the values read so far and what the rest spells are together what the whole text spells.
use Rattle.std.proofs.Common.{◌≡◌, ◌<◌, ◌≤◌, ◌++◌, ◌∷◌, [], ℕ, List, Option, Some, None, Bool, true, false, cond, refl, sym, ap, ◌∙◌, map, length, append_assoc, option_map, arith}
use Rattle.air_base.specs.NumberLists.{all_some, list_of}
use Rattle.air_base.specs.Parts.{parts_at}
use Rattle.air_base.specs.LeadingParts.{after_part, behind, first_part, is_no_space}
use Rattle.air_base.specs.ReadParts.{part_values, prepend}
use Rattle.air_base.proofs.PartsAt.{part_first, parts_behind}

pub parts_leading : (text : List ℕ) → parts_at 32 text ≡ first_part text ∷ parts_behind 32 (after_part text)
unfolding first_part after_part
parts_leading text = part_first 32 text

pub list_spelled : {A : Type 0} (value : List ℕ → Option A) (text : List ℕ) → 0 < length text → list_of value text ≡ part_values value text
list_spelled value [] some = absurd (omega arith)
list_spelled value (c ∷ cs) some = refl

pub list_empty : {A : Type 0} (value : List ℕ → Option A) (text : List ℕ) → length text ≡ 0 → list_of value text ≡ Some []
unfolding all_some
list_empty value [] none = refl
list_empty value (c ∷ cs) none = absurd (omega arith)

prepend_some : {A : Type 0} (done : List A) (x : A) (more : Option (List A)) → prepend done (option_map (λ xs. x ∷ xs) more) ≡ prepend (done ++ x ∷ []) more
prepend_some done x None = refl
prepend_some done x (Some xs) = ap Some (sym (append_assoc done (x ∷ []) xs))

module _ {A : Type 0} (value : List ℕ → Option A) (all : Option (List A)) (done : List A) (rest : List ℕ) (told : prepend done (part_values value rest) ≡ all) where
  -- One more part, after which the list continues.
  pub list_more : (x : A) (space : ℕ) (more : List ℕ) → value (first_part rest) ≡ Some x → after_part rest ≡ space ∷ more → prepend (done ++ x ∷ []) (part_values value more) ≡ all
  unfolding all_some
  list_more x space more one after = sym (prepend_some done x (part_values value more)) ∙ sym (ap (λ ps. prepend done (all_some (map value ps))) (parts_leading rest) ∙ rw (one, after) refl) ∙ told

  -- The last part.
  pub list_last : (x : A) → value (first_part rest) ≡ Some x → after_part rest ≡ [] → all ≡ Some (done ++ x ∷ [])
  unfolding all_some
  list_last x one after = sym told ∙ ap (λ ps. prepend done (all_some (map value ps))) (parts_leading rest) ∙ rw (one, after) refl

  -- A part that spells nothing.
  pub list_bad : value (first_part rest) ≡ None → all ≡ None
  unfolding all_some
  list_bad none = sym told ∙ ap (λ ps. prepend done (all_some (map value ps))) (parts_leading rest) ∙ rw none refl

-- What follows a part is no longer than the text.
pub after_short : (text : List ℕ) → length (after_part text) ≤ length text
unfolding after_part
after_short [] = omega arith
after_short (c ∷ cs) = by (is_no_space c) (after_short cs)
  where
    by : (b : Bool) → length (behind is_no_space cs) ≤ length cs → length (cond b (behind is_no_space cs) (c ∷ cs)) ≤ length (c ∷ cs)
    by true h = omega arith
    by false h = omega arith

pub prepend_none : {A : Type 0} (all : Option (List A)) → prepend [] all ≡ all
prepend_none None = refl
prepend_none (Some xs) = refl

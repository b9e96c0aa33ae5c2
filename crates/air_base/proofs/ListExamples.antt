-- Lists of numbers as texts on small examples: what a text spells, where its first bad part begins, and the text of a list.
use Rattle.std.specs.Prelude.{◌≡◌, ℕ, [], ◌∷◌, Some, None, codes, refl}
use Rattle.air_base.specs.Numbers.{number_of}
use Rattle.air_base.specs.NumberLists.{all_some, bad_part_at, list_of, list_text}

empty_list : list_of number_of ([]) ≡ Some []
unfolding all_some number_of
empty_list = refl

two_numbers : list_of number_of (codes "1 2") ≡ Some (1 ∷ 2 ∷ [])
unfolding all_some number_of
two_numbers = refl

leading_space : list_of number_of (codes " 1") ≡ None
unfolding all_some number_of
leading_space = refl

leading_space_at : bad_part_at number_of (codes " 1") ≡ Some 0
unfolding bad_part_at number_of
leading_space_at = refl

double_space : list_of number_of (codes "1  2") ≡ None
unfolding all_some number_of
double_space = refl

double_space_at : bad_part_at number_of (codes "1  2") ≡ Some 2
unfolding bad_part_at number_of
double_space_at = refl

trailing_space : list_of number_of (codes "1 ") ≡ None
unfolding all_some number_of
trailing_space = refl

trailing_space_at : bad_part_at number_of (codes "1 ") ≡ Some 2
unfolding bad_part_at number_of
trailing_space_at = refl

no_number : list_of number_of (codes "1 x 2") ≡ None
unfolding all_some number_of
no_number = refl

no_number_at : bad_part_at number_of (codes "1 x 2") ≡ Some 2
unfolding bad_part_at number_of
no_number_at = refl

two_bad_parts_at : bad_part_at number_of (codes "1 x y") ≡ Some 2
unfolding bad_part_at number_of
two_bad_parts_at = refl

zero_first : list_of number_of (codes "10 01") ≡ None
unfolding all_some number_of
zero_first = refl

zero_first_at : bad_part_at number_of (codes "10 01") ≡ Some 3
unfolding bad_part_at number_of
zero_first_at = refl

one_above : list_of number_of (codes "18446744073709551616") ≡ None
unfolding all_some number_of
one_above = refl

one_above_at : bad_part_at number_of (codes "18446744073709551616") ≡ Some 0
unfolding bad_part_at number_of
one_above_at = refl

parts_joined : list_text (codes "10" ∷ codes "2" ∷ codes "x" ∷ []) ≡ codes "10 2 x"
parts_joined = refl

part_alone : list_text (codes "10" ∷ []) ≡ codes "10"
part_alone = refl

no_part : list_text [] ≡ []
no_part = refl

-- Two items that are there, and none at the second of three places.
all_there : all_some {A = ℕ} (Some 1 ∷ Some 2 ∷ []) ≡ Some (1 ∷ 2 ∷ [])
unfolding all_some
all_there = refl

one_missing : all_some {A = ℕ} (Some 1 ∷ None ∷ Some 3 ∷ []) ≡ None
unfolding all_some
one_missing = refl

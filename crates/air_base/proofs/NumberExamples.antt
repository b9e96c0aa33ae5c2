-- Numbers as texts on small examples: which number a text spells, and how a number is spelled.
use Rattle.std.specs.Prelude.{◌≡◌, [], Some, None, codes, refl}
use Rattle.air_base.specs.Numbers.{number_of, number_text}

zero_alone : number_of (codes "0") ≡ Some 0
unfolding number_of
zero_alone = refl

zero_first : number_of (codes "01") ≡ None
unfolding number_of
zero_first = refl

plus_first : number_of (codes "+1") ≡ None
unfolding number_of
plus_first = refl

no_digit : number_of [] ≡ None
unfolding number_of
no_digit = refl

greatest : number_of (codes "18446744073709551615") ≡ Some 18446744073709551615
unfolding number_of
greatest = refl

one_more : number_of (codes "18446744073709551616") ≡ None
unfolding number_of
one_more = refl

zero_text : number_text 0 ≡ codes "0"
unfolding number_text
zero_text = refl

small_text : number_text 1200 ≡ codes "1200"
unfolding number_text
small_text = refl

greatest_text : number_text 18446744073709551615 ≡ codes "18446744073709551615"
unfolding number_text
greatest_text = refl

-- Of a greater number than one of 64 bits the last 20 digits are the text.
last_twenty : number_text 123456789012345678901 ≡ codes "23456789012345678901"
unfolding number_text
last_twenty = refl

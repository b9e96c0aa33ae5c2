-- Where tapes end: before a record, inside its length, inside its bytes, and after it.
use Rattle.std.specs.Prelude.{◌≡◌, [], ◌∷◌, Some, true, false, refl}
use Rattle.air_model.specs.Tapes.{ends_inside, read_from, tape_read}

pub record TapeEnds : Type 0 where
  before_a_record : ends_inside [] ≡ false
  inside_a_length : ends_inside (7 ∷ []) ≡ true
  behind_an_empty_record : ends_inside (0 ∷ 0 ∷ 0 ∷ 0 ∷ []) ≡ false
  before_the_bytes : ends_inside (0 ∷ 0 ∷ 0 ∷ 1 ∷ []) ≡ true
  behind_a_record : ends_inside (0 ∷ 0 ∷ 0 ∷ 1 ∷ 9 ∷ []) ≡ false
  -- a tape of one byte is cut there
  one_byte : tape_read (7 ∷ []) ≡ record { records = []; cut = Some 0 }

tape_ends : TapeEnds
unfolding ends_inside read_from
tape_ends = record {
  before_a_record = refl;
  inside_a_length = refl;
  behind_an_empty_record = refl;
  before_the_bytes = refl;
  behind_a_record = refl;
  one_byte = refl;
}

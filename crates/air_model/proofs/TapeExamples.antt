-- The tape of the two buckets of two items, whole and cut.
use Rattle.std.specs.Prelude.{◌≡◌, ℕ, List, [], ◌∷◌, length, take, true, false, Some, None, refl}
use Rattle.air_model.proofs.BucketExamples.{first_bytes, second_bytes}
use Rattle.air_model.specs.Tapes.{ends_inside, read_from, record_bytes, tape_of, tape_read}

abbrev pub both : List (List ℕ)
both = first_bytes ∷ second_bytes ∷ []

whole : (length (tape_of both) ≡ 72) × (tape_read (tape_of both) ≡ record { records = both; cut = None })
unfolding tape_of record_bytes read_from ends_inside
whole = (refl, refl)

-- Cut inside the second record, inside its length, and before it.
cut_short : (tape_read (take 60 (tape_of both)) ≡ record { records = first_bytes ∷ []; cut = Some 36 })
    × (tape_read (take 38 (tape_of both)) ≡ record { records = first_bytes ∷ []; cut = Some 36 })
    × (tape_read (take 36 (tape_of both)) ≡ record { records = first_bytes ∷ []; cut = None })
unfolding tape_of record_bytes read_from ends_inside
cut_short = (refl, refl, refl)

-- A record may have no bytes; four bytes of a great length with nothing after them are cut.
empty_record : (tape_read (0 ∷ 0 ∷ 0 ∷ 0 ∷ []) ≡ record { records = [] ∷ []; cut = None }) × (tape_read (255 ∷ 255 ∷ 255 ∷ 255 ∷ []) ≡ record { records = []; cut = Some 0 })
unfolding read_from ends_inside
empty_record = (refl, refl)

-- One byte is cut inside the length.
one_byte : tape_read (0 ∷ []) ≡ record { records = []; cut = Some 0 }
unfolding read_from ends_inside
one_byte = refl

-- No byte is left, or a record without bytes, or one of one byte: nothing is cut. One byte of a length, or a length alone: cut.
inside : (ends_inside [] ≡ false) × (ends_inside (0 ∷ 0 ∷ 0 ∷ 0 ∷ []) ≡ false) × (ends_inside (0 ∷ 0 ∷ 0 ∷ 1 ∷ 7 ∷ []) ≡ false)
    × (ends_inside (0 ∷ []) ≡ true) × (ends_inside (0 ∷ 0 ∷ 0 ∷ 1 ∷ []) ≡ true)
unfolding ends_inside
inside = (refl, refl, refl, refl, refl)

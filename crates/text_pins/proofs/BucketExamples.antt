-- Buckets of a deck of one item, and one of a late cycle that has no item.
use Rattle.std.specs.Prelude.{◌≡◌, ℕ, List, [], ◌∷◌, ◌++◌, Ok, Err, refl}
use Rattle.air_model.specs.declared.bucket.BucketFault.TheVariants.{Shape}
use Rattle.air_model.specs.Buckets.{Column, Idle, body_at, bucket_at, entries_at, entry_count, entry_told, is_entry, is_placed, is_shaped, raw_entries, reading}

-- The first bytes of a bucket of this kind and count in cycle 1, in slot 0 of edition 0.
abbrev begins_with : ℕ → ℕ → List ℕ
begins_with kind count = 0x41 ∷ 0x44 ∷ 1 ∷ kind ∷ 0 ∷ 0 ∷ 0 ∷ count ∷ 0 ∷ 0 ∷ 0 ∷ 1 ∷ 0 ∷ 0 ∷ []

-- Eight bytes of the number 7, and four of the number 0.
abbrev seven_of_eight : List ℕ
seven_of_eight = 0 ∷ 0 ∷ 0 ∷ 0 ∷ 0 ∷ 0 ∷ 0 ∷ 7 ∷ []

abbrev nought_of_four : List ℕ
nought_of_four = 0 ∷ 0 ∷ 0 ∷ 0 ∷ []

-- The same as an idle bucket of cycle 2^24 whose count is 0.
abbrev of_no_item : List ℕ
of_no_item = 0x41 ∷ 0x44 ∷ 1 ∷ 0 ∷ 0 ∷ 0 ∷ 0 ∷ 0 ∷ 1 ∷ 0 ∷ 0 ∷ 0 ∷ 0 ∷ 0 ∷ 0xff ∷ 0xff ∷ nought_of_four ++ nought_of_four

of_one_item : reading (begins_with 1 1 ++ 0 ∷ 0 ∷ seven_of_eight ++ nought_of_four) ≡ Ok (record { version = 1; edition = 0; cycle = 1; slot = 0; body = Column 0 7 (0 ∷ []) })
unfolding reading is_shaped is_entry is_placed entry_count entries_at raw_entries entry_told bucket_at body_at
of_one_item = refl

idle_of_one : reading (begins_with 0 1 ++ 0xff ∷ 0xff ∷ nought_of_four ++ nought_of_four) ≡ Ok (record { version = 1; edition = 0; cycle = 1; slot = 0; body = Idle 1 })
unfolding reading is_shaped is_entry is_placed entry_count entries_at raw_entries entry_told bucket_at body_at
idle_of_one = refl

no_item_in_a_late_cycle : reading of_no_item ≡ Err Shape
unfolding reading is_shaped is_entry is_placed entry_count entries_at raw_entries entry_told bucket_at body_at
no_item_in_a_late_cycle = refl

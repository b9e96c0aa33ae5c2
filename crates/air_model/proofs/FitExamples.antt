-- Which buckets fit a small deck: two items, their slots, and an idle one.
use Rattle.std.specs.Prelude.{◌≡◌, ℕ, Bool, true, false, [], ◌∷◌, Some, None, refl}
use Rattle.air_base.specs.declared.verdicts.Policy.{Policy}
use Rattle.air_base.specs.declared.verdicts.Policy.TheVariants.{FMatrix, Datacycle}
use Rattle.air_history.specs.Columns.{scheme_of}
use Rattle.air_model.specs.Aired.{Air, body_fits, fits}
use Rattle.air_model.specs.Buckets.{Body, Bucket, Column, Idle, Vector}

-- Two items in the slots 0 and 1, and an idle slot 2.
abbrev two : Policy → Air
two policy = record { scheme = scheme_of policy; version = 1; items = 2; replans = []; slots = (Some 0 ∷ Some 1 ∷ None ∷ []) ∷ []; pix = (1 ∷ 1 ∷ []) ∷ [] }

-- A bucket of an edition and a slot in cycle 1.
abbrev of_slot : ℕ → ℕ → Body → Bucket
of_slot edition slot body = record { version = 1; edition = edition; cycle = 1; slot = slot; body = body }

-- Whether it fits under F-Matrix.
abbrev fits_two : ℕ → ℕ → Body → Bool
fits_two edition slot body = fits (two FMatrix) (of_slot edition slot body)

-- An item's own bucket fits its slot, and an idle one the idle slot.
own_fits : (fits_two 0 0 (Column 0 10 (0 ∷ 0 ∷ [])) ≡ true) × (fits_two 0 1 (Column 1 20 (0 ∷ 0 ∷ [])) ≡ true) × (fits_two 0 2 (Idle 2) ≡ true)
unfolding fits body_fits
own_fits = (refl, refl, refl)

-- A bucket of another edition doesn't fit, nor does one of a slot after the program's last.
other_place : (fits_two 1 0 (Column 0 10 (0 ∷ 0 ∷ [])) ≡ false) × (fits_two 1 2 (Idle 2) ≡ false)
    × (fits_two 0 3 (Idle 2) ≡ false) × (fits_two 0 3 (Column 0 10 (0 ∷ 0 ∷ [])) ≡ false)
unfolding fits body_fits
other_place = (refl, refl, refl, refl)

-- Another item doesn't fit, nor does an item in the idle slot, or an idle bucket in an item's slot.
other_item : (fits_two 0 0 (Column 1 20 (0 ∷ 0 ∷ [])) ≡ false) × (fits_two 0 2 (Column 0 10 (0 ∷ 0 ∷ [])) ≡ false) × (fits_two 0 0 (Idle 2) ≡ false)
unfolding fits body_fits
other_item = (refl, refl, refl)

-- Another number of items doesn't fit.
other_count : (fits_two 0 0 (Column 0 10 (0 ∷ 0 ∷ 0 ∷ [])) ≡ false) × (fits_two 0 2 (Idle 3) ≡ false)
unfolding fits body_fits
other_count = (refl, refl)

-- Columns fit only under F-Matrix, and vectors only under the other policies.
other_kind : (fits_two 0 0 (Vector 0 10 (0 ∷ 0 ∷ [])) ≡ false) × (fits (two Datacycle) (of_slot 0 0 (Vector 0 10 (0 ∷ 0 ∷ []))) ≡ true)
    × (fits (two Datacycle) (of_slot 0 0 (Column 0 10 (0 ∷ 0 ∷ []))) ≡ false)
unfolding fits body_fits
other_kind = (refl, refl, refl)

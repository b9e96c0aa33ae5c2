-- When a bucket fits, from what its head tells.
use Rattle.std.proofs.Common.{◌≡◌, ◌≢◌, ℕ, ◌<◌, ◌≤◌, ◌==◌, Bool, true, false, ◌&&◌, nat_le, nat_lt, List, length, get_or, Option, None, refl, sym, ◌∙◌, ap, arith}
use Rattle.std.proofs.lemmas.Bool.{eq-eqb, le-leb, le-ltb, lt-leb, lt-ltb, ne_eqb}
use Rattle.air_model.specs.Aired.{Air, body_fits, edition_at, fits, slots_at}
use Rattle.air_model.specs.Airings.{slot_item}
use Rattle.air_model.specs.Buckets.{Body, Bucket, Idle, Column, Vector, count_of, item_of, kind_of}
use Rattle.receiver_core.specs.Private.SlotKinds.{kind_fits}

and_false : (b : Bool) → (b && false) ≡ false
and_false true = refl
and_false false = refl

body_is : (air : Air) (slot : Option ℕ) (body : Body) →
    body_fits air slot body ≡ (kind_fits air.scheme.policy slot (kind_of body) (item_of body) && (count_of body == air.items))
unfolding body_fits kind_fits kind_of item_of count_of
body_is air slot (Idle count) = refl
body_is air slot (Column item value entries) = refl
body_is air slot (Vector item value entries) = refl

module _ (air : Air) (b : Bucket) where
  -- The body against its slot, in the program in force in the bucket's cycle.
  abbrev body_right : Bool
  body_right = body_fits air (get_or (slots_at air b.cycle) b.slot None) b.body

  -- In a version that isn't above the deck's, in the edition of its cycle and within that edition's program the body decides.
  fits_in_slot : b.version ≤ air.version → b.edition ≡ edition_at air b.cycle → b.slot < length (slots_at air b.cycle) → fits air b ≡ body_right
  unfolding fits
  fits_in_slot v e l =
      ap (λ t. t && (b.edition == edition_at air b.cycle) && nat_lt b.slot (length (slots_at air b.cycle)) && body_right) (le-leb b.version air.version v)
      ∙ ap (λ t. t && nat_lt b.slot (length (slots_at air b.cycle)) && body_right) (eq-eqb b.edition (edition_at air b.cycle) e)
      ∙ ap (λ t. t && body_right) (lt-ltb b.slot (length (slots_at air b.cycle)) l)

  pub newer_version : air.version < b.version → fits air b ≡ false
  unfolding fits
  newer_version v = ap (λ t. t && (b.edition == edition_at air b.cycle) && nat_lt b.slot (length (slots_at air b.cycle)) && body_right) (lt-leb b.version air.version v)

  pub other_edition : b.edition ≢ edition_at air b.cycle → fits air b ≡ false
  unfolding fits
  other_edition e =
      ap (λ t. nat_le b.version air.version && t && nat_lt b.slot (length (slots_at air b.cycle)) && body_right) (ne_eqb b.edition (edition_at air b.cycle) e)
      ∙ ap (λ t. t && nat_lt b.slot (length (slots_at air b.cycle)) && body_right) (and_false (nat_le b.version air.version))

  pub no_such_slot : length (slots_at air b.cycle) ≤ b.slot → fits air b ≡ false
  unfolding fits
  no_such_slot l =
      ap (λ t. nat_le b.version air.version && (b.edition == edition_at air b.cycle) && t && body_right) (le-ltb b.slot (length (slots_at air b.cycle)) l)
      ∙ ap (λ t. t && body_right) (and_false (nat_le b.version air.version && (b.edition == edition_at air b.cycle)))

  -- The same by the answer of the slot's test and the number of items.
  pub in_slot : (slots : List (Option ℕ)) (s : ℕ) (item : Option ℕ) (right : Bool) (n : ℕ) → slots_at air b.cycle ≡ slots → s ≡ b.slot → b.version ≤ air.version → b.edition ≡ edition_at air b.cycle →
      s < length slots → item ≡ slot_item slots s → right ≡ kind_fits air.scheme.policy item (kind_of b.body) (item_of b.body) → n ≡ count_of b.body → (right && (n == air.items)) ≡ fits air b
  in_slot slots s item right n are at old own within carried stands counted =
      let here : item ≡ get_or (slots_at air b.cycle) b.slot None = carried ∙ ap (slot_item slots) at ∙ ap (λ l. slot_item l b.slot) (sym are) in
      let long = ap length are in
      ap (λ t. t && (n == air.items)) stands ∙ ap (λ m. kind_fits air.scheme.policy item (kind_of b.body) (item_of b.body) && (m == air.items)) counted
      ∙ ap (λ o. kind_fits air.scheme.policy o (kind_of b.body) (item_of b.body) && (count_of b.body == air.items)) here
      ∙ sym (fits_in_slot old own (omega arith) ∙ body_is air (get_or (slots_at air b.cycle) b.slot None) b.body)

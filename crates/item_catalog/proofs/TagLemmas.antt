-- What a record spells, by its first field.
use Rattle.std.proofs.Common.{◌≡◌, ◌∷◌, [], ℕ, List, Option, Some, None, drop, refl}
use Rattle.csv.specs.Records.{field_at}
use Rattle.item_catalog.specs.Tags.{by_tag}

module _ {T X : Type 0} (tag_of : List ℕ → Option T) (spelled : Option T → List (List ℕ) → X) where
  pub tagged : (fields : List (List ℕ)) (text : List ℕ) → Some text ≡ field_at fields 0 → by_tag tag_of spelled fields ≡ spelled (tag_of text) (drop 1 fields)
  unfolding field_at
  tagged [] text e = cc e
  tagged (a ∷ fields) text e = let same : text ≡ a = cc e in rw same refl

  pub untagged : (fields : List (List ℕ)) → None ≡ field_at fields 0 → by_tag tag_of spelled fields ≡ spelled None (drop 1 fields)
  unfolding field_at
  untagged [] e = refl
  untagged (a ∷ fields) e = cc e

-- What is done with a newcomer to small caches: where it finds room, and where it is the least.
use Rattle.std.proofs.Common.{◌<◌, ◌≤◌, ℕ, List, [], ◌∷◌, IsTrue, false, true, refl, arith}
use Rattle.std.proofs.lemmas.Bool.{false≢true}
use Rattle.std.proofs.lemmas.List.Elements.{All-from_recursion}
use Rattle.air_model.specs.Copies.{goes_before}
use Rattle.air_model.specs.Reads.{Read, read_with}
use Rattle.pix_cache.specs.Caches.{FindsRoom, HasCopy, IsLeastCopy, copy_among}

-- PIX numbers of four items: 1 and 2 have the greatest.
abbrev pix : List ℕ
pix = 5 ∷ 9 ∷ 9 ∷ 7 ∷ []

-- A copy of an item.
abbrev of_item : ℕ → Read
of_item item = read_with item 1 10 []

-- Two copies.
abbrev two : List Read
two = of_item 1 ∷ of_item 3 ∷ []

finds_room : FindsRoom 3 two (of_item 2)
unfolding copy_among
finds_room = (refl, omega arith)

-- Two copies fill a cache of two, and a kept item finds no further room.
no_room : (FindsRoom 2 two (of_item 2) → ⊥) × (FindsRoom 3 two (of_item 3) → ⊥)
unfolding copy_among
no_room = (λ h. let full : 2 < 2 = h.1 in omega arith, λ h. let kept = h.0 in cc)

has_copy : HasCopy two (of_item 3)
unfolding copy_among
has_copy = refl

-- Item 0 has the least PIX number of the three, and there is no copy slot.
is_least : IsLeastCopy 2 pix two (of_item 0)
unfolding copy_among
is_least = ((refl, omega arith), All-from_recursion (λ r. IsTrue (goes_before pix r (of_item 0))) two (refl, (refl, tt)))

-- Item 2 isn't the least: it goes before item 3; and if there is room, no copy is.
not_least : (IsLeastCopy 2 pix two (of_item 2) → ⊥) × (IsLeastCopy 3 pix two (of_item 0) → ⊥)
not_least = (λ h. false≢true (h.1 1 (of_item 0) (omega arith)), λ h. let full : 3 ≤ 2 = h.0.1 in omega arith)

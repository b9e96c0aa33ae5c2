-- The four answers exclude one another, so each is given if and only if its condition holds.
use Rattle.std.proofs.Common.{◌≡◌, ℕ, true, ◌==◌, ◌↔◌, List, [], ◌∷◌, All, Some, None, IsTrue, refl, sym, ◌∙◌, ap, subst, arith, ◌⊎◌, inl, inr}
use Rattle.std.specs.Option.{is_some}
use Rattle.std.proofs.lemmas.Bool.{cases_eq, eqb-true, false≢true}
use Rattle.air_model.specs.Reads.{Read}
use Rattle.air_model.specs.Copies.{goes_before}
use Rattle.air_model.proofs.CopyOrders.{rank_less}
use Rattle.air_model.proofs.MomentLemmas.{find_is}
use Rattle.pix_cache.specs.declared.cache.KeepAnswer.{KeepAnswer}
use Rattle.pix_cache.specs.declared.cache.KeepAnswer.TheVariants.{Replaced, Placed, Declined, Evicted}
use Rattle.pix_cache.specs.Caches.{FindsRoom, GivesWay, HasCopy, IsLeastCopy, copy_among}
use Rattle.pix_cache.specs.Private.KeepAnswers.{IsKeepAnswer}

-- Of two copies, at most one goes before the other.
not_both : (pix : List ℕ) (a b : Read) → goes_before pix b a ≡ true → goes_before pix a b ≡ true → ⊥
not_both pix a b first second =
    let less = rank_less pix (a ∷ b ∷ []) 1 a a (omega arith) first in
    let more = rank_less pix (a ∷ b ∷ []) 0 a b (omega arith) second in
    omega arith

-- What holds of all copies holds of an item's copy, and that copy is of the item.
of_copy : (Q : Read → Type 0) (item : ℕ) (copies : List Read) (r : Read) → All Q copies → copy_among item copies ≡ Some r → Q r × (r.item ≡ item)
unfolding copy_among
of_copy Q item copies r all e = let f = find_is Q (λ r. r.item == item) copies all (Some r) e in (f.0, eqb-true r.item item f.1)

module _ (room : ℕ) (pix : List ℕ) (copies : List Read) (x : Read) where
  -- An item's copy is kept, or there is none.
  one_of_two : HasCopy copies x → copy_among x.item copies ≡ None → ⊥
  one_of_two has none = false≢true (sym (ap is_some none) ∙ has)

  -- The newcomer isn't the least of all if another copy gives way.
  not_least : (item : ℕ) → IsLeastCopy room pix copies x → GivesWay room pix copies x item → ⊥
  not_least item least gives = not_both pix x gives.1 (of_copy (λ r. IsTrue (goes_before pix r x)) item copies gives.1 least.1 gives.2).0 gives.3

  -- Only one copy gives way.
  same_item : (m n : ℕ) → GivesWay room pix copies x m → GivesWay room pix copies x n → m ≡ n
  same_item m n g h = by (cases_eq m n)
    where
      r : Read
      r = g.1

      s : Read
      s = h.1

      s_left : ((s.item == m) ≡ true ⊎ (goes_before pix s r ≡ true)) × (s.item ≡ n)
      s_left = of_copy (λ q. IsTrue (q.item == m) ⊎ IsTrue (goes_before pix q r)) n copies s g.4 h.2

      r_left : ((r.item == n) ≡ true ⊎ (goes_before pix r s ≡ true)) × (r.item ≡ m)
      r_left = of_copy (λ q. IsTrue (q.item == n) ⊎ IsTrue (goes_before pix q s)) m copies r h.4 g.2

      ordered : (m ≡ n → ⊥) → ((s.item == m) ≡ true) ⊎ (goes_before pix s r ≡ true) → ((r.item == n) ≡ true) ⊎ (goes_before pix r s ≡ true) → ⊥
      ordered ne (inl e) b = ne (sym (eqb-true s.item m e) ∙ s_left.1)
      ordered ne (inr a) (inl e) = ne (sym r_left.1 ∙ eqb-true r.item n e)
      ordered ne (inr a) (inr b) = not_both pix r s a b

      by : (m ≡ n) ⊎ (m ≡ n → ⊥) → m ≡ n
      by (inl e) = e
      by (inr ne) = absurd (ordered ne s_left.0 r_left.0)

  -- The answer is `Replaced` if and only if a copy of the item is kept.
  pub exactly_replaced : (a : KeepAnswer) → IsKeepAnswer room pix copies x a → (a ≡ Replaced) ↔ HasCopy copies x
  exactly_replaced Replaced h = ((λ _. h), (λ _. refl))
  exactly_replaced Placed h = ((λ e. cc), (λ has. absurd (one_of_two has h.0)))
  exactly_replaced Declined h = ((λ e. cc), (λ has. absurd (one_of_two has h.0.0)))
  exactly_replaced (Evicted m) h = ((λ e. cc), (λ has. absurd (one_of_two has h.0.0)))

  -- The answer is `Placed` if and only if the newcomer finds room.
  pub exactly_placed : (a : KeepAnswer) → IsKeepAnswer room pix copies x a → (a ≡ Placed) ↔ FindsRoom room copies x
  exactly_placed Replaced h = ((λ e. cc), (λ finds. absurd (one_of_two h finds.0)))
  exactly_placed Placed h = ((λ _. h), (λ _. refl))
  exactly_placed Declined h = ((λ e. cc), (λ finds. absurd (let a = finds.1 in let b = h.0.1 in omega arith)))
  exactly_placed (Evicted m) h = ((λ e. cc), (λ finds. absurd (let a = finds.1 in let b = h.0.1 in omega arith)))

  -- The answer is `Declined` if and only if the newcomer is the least of all.
  pub exactly_declined : (a : KeepAnswer) → IsKeepAnswer room pix copies x a → (a ≡ Declined) ↔ IsLeastCopy room pix copies x
  exactly_declined Replaced h = ((λ e. cc), (λ least. absurd (one_of_two h least.0.0)))
  exactly_declined Placed h = ((λ e. cc), (λ least. absurd (let a = h.1 in let b = least.0.1 in omega arith)))
  exactly_declined Declined h = ((λ _. h), (λ _. refl))
  exactly_declined (Evicted m) h = ((λ e. cc), (λ least. absurd (not_least m least h)))

  -- The answer is `Evicted` of an item if and only if that item's copy gives way.
  pub exactly_evicted : (a : KeepAnswer) → IsKeepAnswer room pix copies x a → (item : ℕ) → (a ≡ Evicted item) ↔ GivesWay room pix copies x item
  exactly_evicted Replaced h item = ((λ e. cc), (λ gives. absurd (one_of_two h gives.0.0)))
  exactly_evicted Placed h item = ((λ e. cc), (λ gives. absurd (let a = h.1 in let b = gives.0.1 in omega arith)))
  exactly_evicted Declined h item = ((λ e. cc), (λ gives. absurd (not_least item h gives)))
  exactly_evicted (Evicted m) h item = ((λ e. (let f : m ≡ item = cc in subst (GivesWay room pix copies x) f h)), (λ gives. ap Evicted (same_item m item h gives)))

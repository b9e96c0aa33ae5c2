-- What holds of a sound seat outside a turn, and inside one.
use Rattle.std.proofs.Common.{◌≡◌, ℕ, Bool, true, false, cond, List, [], ◌∷◌, refl, subst}
use Rattle.std.specs.Prelude.{Option, Some, None, IsSome}
use Rattle.atomic_table.specs.Table.{Me}
use Rattle.turnstile.specs.declared.views.View.{View}
use Rattle.turnstile.specs.SeatFields.{IsPlaced, IsSeated}

module _ {K E B : Type 0} where
  pub rests_outside : (me : Me (Option K) (View E B)) → IsSeated me → me.0.noted ≡ None → (me.0.ticket ≡ None) × (me.1 ≡ [])
  rests_outside me s is = subst (λ (o : Option (List (ℕ × E))). IsPlaced o me.0.ticket me.1) is s.placed

  pub holds_inside : (me : Me (Option K) (View E B)) (l : List (ℕ × E)) → IsSeated me → me.0.noted ≡ Some l → me.1 ≡ (0, None) ∷ []
  holds_inside me l s is = subst (λ (o : Option (List (ℕ × E))). IsPlaced o me.0.ticket me.1) is s.placed

never : false ≡ true → ⊥
never e = subst (λ (b : Bool). cond b ⊥ (Unit {0})) e tt

-- An option that is some has a value.
pub some_of : {A : Type 0} (o : Option A) → IsSome o → (a : A) × (o ≡ Some a)
some_of None s = absurd (never s)
some_of (Some a) s = (a, refl)

-- The two searches together name the clash by the entries. Each names the least of the reads that pass its test, and the lesser
-- of both is the least of the reads that pass either.
use Rattle.std.proofs.Common.{◌≡◌, ◌||◌, ◌⊎◌, inl, inr, Bool, true, false, cond, nat_le, List, Option, Some, None, refl, sym, ◌∙◌, subst, arith}
use Rattle.std.specs.Prelude.{Any}
use Rattle.std.proofs.lemmas.Bool.{leb-true, leb-false, both_ways}
use Rattle.air_base.specs.declared.verdicts.Clash.{Clash}
use Rattle.air_base.specs.declared.verdicts.Policy.TheVariants.{FMatrix}
use Rattle.air_history.specs.Clashes.{HeardRead, heard_clash, clash_by_entries}
use Rattle.held_reads.specs.Searches.{has_since, is_reached}
use Rattle.held_reads.specs.HeldCycles.{held_cycle, AreHeldOnce}
use Rattle.held_reads.proofs.LeastLemmas.{IsLeastOf}
use Rattle.held_reads.proofs.ReachedLemmas.{NamesLeastOf, search_names, names_one}
use Rattle.column_check.specs.Searches.{disagree}
use Rattle.column_check.specs.Private.LesserOfTwo.{lesser_of_both}
use Rattle.column_check.proofs.LeastLemmas.{least_is}

or_left : (a b : Bool) → a ≡ true → (a || b) ≡ true
or_left true b e = refl
or_left false b e = absurd (both_ways false refl e)

or_right : (a b : Bool) → b ≡ true → (a || b) ≡ true
or_right true b e = refl
or_right false b e = e

or_none : (a b : Bool) → a ≡ false → b ≡ false → (a || b) ≡ false
or_none true b e f = e
or_none false b e f = f

or_first : (a b : Bool) → b ≡ false → (a || b) ≡ true → a ≡ true
or_first true b e t = refl
or_first false b e t = absurd (both_ways b e t)

or_second : (a b : Bool) → a ≡ false → (a || b) ≡ true → b ≡ true
or_second true b e t = absurd (both_ways true e refl)
or_second false b e t = t

either : (a b : Bool) → (a || b) ≡ true → (a ≡ true) ⊎ (b ≡ true)
either true b t = inl refl
either false b t = inr t

any_more : {X : Type 0} (P Q : X → Type 0) (xs : List X) → ((x : X) → P x → Q x) → Any P xs → Any Q xs
any_more P Q xs f a = (a.0, a.1, a.2, a.3, f a.1 a.4)

both_names : (p q : HeardRead → Bool) (R : List HeardRead) (a b : Option Clash) → NamesLeastOf p R a → NamesLeastOf q R b → NamesLeastOf (λ r. p r || q r) R (lesser_of_both a b)
both_names p q R None None n m = λ k d l. or_none _ _ (n k d l) (m k d l)
both_names p q R (Some c) None n m = record {
  held = any_more _ _ R (λ r h. (or_left _ _ h.0, h.1)) n.held;
  least = λ k d l t. n.least k d l (or_first _ _ (m k d l) t);
}
both_names p q R None (Some c) n m = record {
  held = any_more _ _ R (λ r h. (or_right _ _ h.0, h.1)) m.held;
  least = λ k d l t. m.least k d l (or_second _ _ (n k d l) t);
}
both_names p q R (Some c) (Some e) n m = by (nat_le c.item e.item) refl
  where
    by : (b : Bool) → nat_le c.item e.item ≡ b → IsLeastOf (λ r. p r || q r) R (cond b c e)
    by true le = record {
      held = any_more _ _ R (λ r h. (or_left _ _ h.0, h.1)) n.held;
      least = λ k d l t. let low = leb-true _ _ le in elim (either _ _ t) [ inl passes ↦ n.least k d l passes | inr passes ↦ let other = m.least k d l passes in omega arith ];
    }
    by false le = record {
      held = any_more _ _ R (λ r h. (or_right _ _ h.0, h.1)) m.held;
      least = λ k d l t. let low = leb-false _ _ le in elim (either _ _ t) [ inl passes ↦ let other = n.least k d l passes in omega arith | inr passes ↦ m.least k d l passes ];
    }

-- The lesser of the two searches' answers is the clash by the entries.
pub both_is : (R : List HeardRead) (x : HeardRead) (a b o : Option Clash) → AreHeldOnce R → a ≡ heard_clash (is_reached x.entries) R →
    b ≡ heard_clash (has_since x.item x.cycle) R → o ≡ lesser_of_both a b → o ≡ clash_by_entries FMatrix R x
both_is R x a b o once by_new by_held lesser =
    let new : NamesLeastOf (is_reached x.entries) R a = subst (NamesLeastOf (is_reached x.entries) R) (sym by_new) (search_names (is_reached x.entries) R) in
    let held : NamesLeastOf (has_since x.item x.cycle) R b = subst (NamesLeastOf (has_since x.item x.cycle) R) (sym by_held) (search_names (has_since x.item x.cycle) R) in
    let both = both_names (is_reached x.entries) (has_since x.item x.cycle) R a b new held in
    lesser ∙ names_one (held_cycle R) (disagree x) R (lesser_of_both a b) (heard_clash (disagree x) R) once both (search_names (disagree x) R) ∙ least_is R x

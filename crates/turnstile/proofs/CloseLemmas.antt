-- A pass that stands for all numbers finds the value at home, with the list that it has seen.
use Rattle.std.proofs.Common.{◌≡◌, ℕ, ◌<◌, List, [], ◌∷◌, length, sym, refl, ap, ◌∙◌, subst}
use Rattle.std.specs.Prelude.{Option, Some, None, Contains}
use Rattle.std.proofs.lemmas.Option.{none-some}
use mathlib.Core.Option.{some, some-injective}
use mathlib.Core.Logic.{dite}
use native.Mathlib.Decide.{ℕ_discrete}
use lib.ListN.{get_elem?}
use Rattle.atomic_table.specs.Table.{State, Final, Seen}
use Rattle.turnstile.specs.declared.views.View.{View}
use Rattle.turnstile.specs.Private.TurnstileRule.{Phase, home, out, InPhase, IsByRule}
use Rattle.turnstile.proofs.Numbers.{some_number}
use Rattle.turnstile.proofs.EntryLists.{seen_whole}
use Rattle.turnstile.proofs.RuleLemmas.{below_of, shared_no}

module _ {K E B : Type 0} (entries : K → List (ℕ × E)) (base : K → B) where
  abbrev V : Type 0
  V = View E B

  at_home : (s : State (Option K) V) (r : IsByRule entries base s) (id : ℕ) (v : V) → get_elem? s.views id ≡ some v → v.ticket ≡ None → 0 < length v.sight.numbers → ((m : ℕ) → m < v.passes → Contains v.sight.numbers m)
      → (ph : Phase) → InPhase entries base s.homes s.views r.now r.based ph → r.phase ≡ ph → (x : K) × (s.homes ≡ some (Some x) ∷ []) × (entries x ≡ r.now) × (base x ≡ r.based)
  at_home s r id v at free live all home p is = p
  at_home s r id v at free live all (out j) p is = absurd (
      let u : V = p.1.0 in let k = r.each_seat j u p.1.1 in let t = k.turns r.now p.1.2 in let n = some_number u.sight.numbers (k.queues r.serving t.2).0 in
      let m : ℕ = n.0 in let below = below_of entries base s r j u m p.1.1 n.1 in let known = (r.each_seat id v at).live live in let mine = all m (subst (λ z. m < z) (sym known.1) below) in
      dite (ℕ_discrete j id) (λ same. none-some r.serving (sym free ∙ (ap (λ (z : V). z.ticket) (some-injective v u (sym at ∙ (ap (get_elem? s.views) (sym same) ∙ p.1.1))) ∙ t.2)))
      (λ differs. shared_no entries base s r j id u v m differs p.1.1 at n.1 mine))

  -- if one seat has all numbers, the slot is at home, and the value's list is the one that was seen
  pub closes : (id : ℕ) (v : V) (ws : List ℕ) (xs : List (Option K)) → v.ticket ≡ None → 0 < length v.sight.numbers → ((m : ℕ) → m < v.passes → Contains v.sight.numbers m)
      → Final (Seen (IsByRule entries base) id v) ws xs → (x : K) × (get_elem? xs 0 ≡ some (Some x)) × (entries x ≡ v.sight.entries) × (v.base ≡ Some (base x))
  closes id v ws xs free live all f =
      let s : State (Option K) V = f.0 in let r : IsByRule entries base s = f.1.0 in let at = f.1.1 in let h = at_home s r id v at free live all r.phase r.in_phase refl in
      let known = r.each_seat id v at in let x : K = h.0 in (
        x,
        f.4 0 (Some x) (ap (λ l. get_elem? l 0) h.1),
        h.2 ∙ seen_whole v.sight.numbers r.passes v.sight.entries r.now (λ m b. all m (subst (λ z. m < z) (sym (known.live live).1) b)) r.numbered known.sees,
        (known.live live).0 ∙ ap Some (sym h.3),
      )

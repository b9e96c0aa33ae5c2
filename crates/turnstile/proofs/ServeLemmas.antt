-- A pass reads which ticket is served. If it is its own, the slot is at home, and the pass takes it.
use Rattle.std.proofs.Common.{◌≡◌, ℕ, suc, List, [], ◌∷◌, get_or, set, sym, refl, ap, ◌∙◌, subst, arith}
use Rattle.std.specs.Prelude.{Option, Some, None}
use Rattle.std.proofs.lemmas.List.{set-get_or}
use Rattle.std.proofs.lemmas.Option.{none-some, same_Some}
use mathlib.Core.Option.{some, none, some-injective}
use mathlib.Core.Logic.{dite}
use native.Mathlib.Decide.{ℕ_discrete}
use lib.ListN.{get_elem?}
use Rattle.atomic_table.specs.Table.{State, Me, step, keeps, takes, stepped, Allows}
use Rattle.turnstile.specs.declared.views.View.{View}
use Rattle.turnstile.specs.PassEntries.{Continues}
use Rattle.turnstile.specs.Private.SeatViews.{times, waits, share}
use Rattle.turnstile.specs.Private.TurnstileRule.{total, Phase, home, out, Knows, InPhase, IsByRule}
use Rattle.turnstile.specs.Private.SeatSteps.{IsServed, Opens}
use Rattle.turnstile.proofs.Totals.{total_set, set_at}
use Rattle.turnstile.proofs.ViewSteps.{seats, apart_set}
use Rattle.turnstile.proofs.RuleLemmas.{stays, seat_of, reseated}

module _ {K E B : Type 0} (entries : K → List (ℕ × E)) (base : K → B) where
  abbrev V : Type 0
  V = View E B

  abbrev M : Type 0
  M = Me (Option K) V

  -- the pass whose turn it is finds the slot at home
  opens : (s : State (Option K) V) (r : IsByRule entries base s) (id : ℕ) (v : V) → get_elem? s.views id ≡ some v → v.noted ≡ None → v.ticket ≡ Some r.serving → (ph : Phase) → r.phase ≡ ph → InPhase entries base s.homes s.views r.now r.based ph
      → (w : V) × (x : K) × (get_elem? s.homes 0 ≡ some (some (Some x))) × IsByRule entries base (stepped s 1 (get_or s.words 1 0) id [] w (takes 0 (Some x))) × Opens entries base (v, []) (w, (0, Some x) ∷ [])
  opens s r id v at rests mine (out j) is p = absurd (let u = p.1.0 in let t = (r.each_seat j u p.1.1).turns r.now p.1.2 in let same = r.apart j id u v r.serving p.1.1 at t.2 mine in
      none-some r.now (sym rests ∙ (ap (λ (z : V). z.noted) (some-injective v u (sym at ∙ (ap (get_elem? s.views) (sym same) ∙ p.1.1))) ∙ p.1.2)))
  opens s r id v at rests mine home is p =
      let x : K = p.0 in
      let w : V = record v { noted = Some (entries x) } in
      let known = r.each_seat id v at in
      let q : total waits (set s.views id w) ≡ total waits s.views = let h = total_set waits s.views id v w at in omega arith in
      let live = (known.queues r.serving mine).0 in (
        w,
        x,
        ap (λ h. get_elem? h 0) p.1,
        reseated entries base s r (set s.words 1 (get_or s.words 1 0)) (set s.homes 0 none) (set s.views id w) (out id) (set-get_or s.words 1 0) q
            (let h = total_set share s.views id v w at in let d = r.dealt in omega arith)
            (λ m. let h = total_set (λ (z : V). times m z.sight.numbers) s.views id v w at in let d = r.once m in omega arith)
            (seats (Knows entries base r.now r.based r.passes r.serving (total waits s.views) (out id)) s.views id w
            record {
              sees = known.sees;
              live = known.live;
              queues = known.queues;
              turns = λ l e. (refl, sym (same_Some (entries x) l e) ∙ p.2, mine);
              olds = known.olds;
              old_rests = known.old_rests;
            }
            (λ j u other e. let k = r.each_seat j u e in record {
              sees = k.sees;
              live = k.live;
              queues = k.queues;
              turns = λ l e. absurd (let h : 0 ≡ suc j = ap seat_of (sym is ∙ (k.turns l e).0) in omega arith);
              olds = k.olds;
              old_rests = k.old_rests;
            }))
            (apart_set s.views id w r.apart (λ j u t other e k same. other (r.apart j id u v t e at k same)))
            (ap (λ h. set h 0 none) p.1, (w, set_at s.views id v w at, ap Some p.2)),
        (x, refl, (known.live live).0 ∙ ap Some (sym p.3), subst (Continues v.sight.numbers v.sight.entries) (sym p.2) known.sees),
      )

  -- a load of the word that is served
  serves_at : (slots id : ℕ) (v : V) → v.noted ≡ None → (tk : Option ℕ) → v.ticket ≡ tk → Allows (IsByRule entries base) slots id (v, []) 1 (λ n. n) (IsServed entries base (step slots 1 0 0 none) (v, []))
  serves_at slots id v rests None is s r wide at small = (v, keeps, tt, stays entries base s 1 id [] v r at, λ t e. absurd (none-some t (sym is ∙ e)))
  serves_at slots id v rests (Some t) is s r wide at small = let n : ℕ = get_or s.words 1 0 in let serving : n ≡ r.serving = ap (λ l. get_or l 1 0) r.words_are in dite (ℕ_discrete n t)
      (λ hit. let o = opens s r id v at rests (is ∙ ap Some (sym hit ∙ serving)) r.phase refl r.in_phase in
      (o.0, takes 0 (Some o.1), o.2, o.3, λ u e. ((λ _. o.4), λ miss. absurd (miss (hit ∙ same_Some t u (sym is ∙ e))))))
      (λ miss. (v, keeps, tt, stays entries base s 1 id [] v r at, λ u e. ((λ hit. absurd (miss (hit ∙ sym (same_Some t u (sym is ∙ e))))), λ _. refl)))

  pub serves : (slots id : ℕ) (me : M) → me.1 ≡ [] → me.0.noted ≡ None → Allows (IsByRule entries base) slots id me 1 (λ n. n) (IsServed entries base (step slots 1 0 0 none) me)
  serves slots id me empty rests = subst (λ c. Allows (IsByRule entries base) slots id (me.0, c) 1 (λ n. n) (IsServed entries base (step slots 1 0 0 none) (me.0, c))) (sym empty) (serves_at slots id me.0 rests me.0.ticket refl)

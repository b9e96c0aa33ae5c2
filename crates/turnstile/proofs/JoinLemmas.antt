-- A pass takes in another, and the load that follows tells how the two lists are related.
use Rattle.std.proofs.Common.{◌≡◌, ℕ, zero, suc, ◌+◌, ◌<◌, List, [], ◌∷◌, ◌++◌, length, get_or, set, sym, refl, ap, ◌∙◌, subst, arith, length-append}
use Rattle.std.specs.Prelude.{Option, None, Contains}
use Rattle.std.proofs.lemmas.List.{set-get_or}
use Rattle.std.proofs.lemmas.List.Elements.{Contains-append_left, Contains-append_right}
use Rattle.std.proofs.lemmas.Option.{none-some}
use mathlib.Core.Option.{some, none, some-injective, some-ne-none}
use lib.ListN.{get_elem?}
use Rattle.atomic_table.specs.Table.{State, Me, step, keeps, Allows, Joins}
use Rattle.atomic_table.proofs.Lists.{set_else}
use Rattle.turnstile.specs.declared.views.Sight.{Sight}
use Rattle.turnstile.specs.declared.views.View.{View}
use Rattle.turnstile.specs.PassEntries.{Continues}
use Rattle.turnstile.specs.Private.SeatViews.{times, ticket_count, waits, share, union_of, spent_view}
use Rattle.turnstile.specs.Private.TurnstileRule.{total, Knows, IsByRule}
use Rattle.turnstile.specs.Private.SeatSteps.{HasCompared}
use Rattle.turnstile.proofs.Totals.{total_set}
use Rattle.turnstile.proofs.Numbers.{times_append}
use Rattle.turnstile.proofs.EntryLists.{foreign_none, longer_goes_on}
use Rattle.turnstile.proofs.ViewSteps.{seats, apart_set}
use Rattle.turnstile.proofs.RuleLemmas.{phase_set, reseated}

module _ {K E B : Type 0} (entries : K → List (ℕ × E)) (base : K → B) where
  abbrev V : Type 0
  V = View E B

  abbrev M : Type 0
  M = Me (Option K) V

  olds_of : (s : State (Option K) V) (r : IsByRule entries base s) (id : ℕ) (v : V) (other : ℕ) (w : V) → get_elem? s.views id ≡ some v → get_elem? s.views other ≡ some w → (k : ℕ) (o : Sight E) → get_elem? (v.sight ∷ w.sight ∷ []) k ≡ some o
      → Continues o.numbers o.entries r.now × ((n : ℕ) → Contains o.numbers n → Contains (v.sight.numbers ++ w.sight.numbers) n)
  olds_of s r id v other w at here zero o e = subst (λ (o : Sight E). Continues o.numbers o.entries r.now × ((n : ℕ) → Contains o.numbers n → Contains (v.sight.numbers ++ w.sight.numbers) n)) (some-injective v.sight o e)
      ((r.each_seat id v at).sees, λ n h. Contains-append_left v.sight.numbers w.sight.numbers n h)
  olds_of s r id v other w at here (suc zero) o e = subst (λ (o : Sight E). Continues o.numbers o.entries r.now × ((n : ℕ) → Contains o.numbers n → Contains (v.sight.numbers ++ w.sight.numbers) n)) (some-injective w.sight o e)
      ((r.each_seat other w here).sees, λ n h. Contains-append_right v.sight.numbers w.sight.numbers n h)
  olds_of s r id v other w at here (suc (suc k)) o e = absurd (some-ne-none o (sym e))

  -- a pass takes in another
  pub joins : (id : ℕ) (v : V) (other : ℕ) (w : V) → v.ticket ≡ None → v.noted ≡ None → 0 < length v.sight.numbers → w.ticket ≡ None → w.noted ≡ None → Joins (IsByRule entries base) id v other w (union_of v w) spent_view
  joins id v other w free rests live free' rests' s r at differs there =
      let u : V = union_of v w in
      let vs : List V = set s.views id u in
      let here : get_elem? s.views other ≡ some w = sym (set_else s.views id other u differs) ∙ there in
      let known = r.each_seat id v at in
      let known' = r.each_seat other w here in
      let seen = longer_goes_on v.sight.numbers w.sight.numbers v.sight.entries w.sight.entries r.now known.sees known'.sees in
      let nothing : V = spent_view in
      let q : total waits (set vs other nothing) ≡ total waits s.views = let a = total_set waits s.views id v u at in let b = total_set waits vs other w nothing there in let z : waits w ≡ 0 = ap ticket_count free' in omega arith in
      let F : ℕ → V → Type 0 = Knows entries base r.now r.based r.passes r.serving (total waits s.views) r.phase in
      reseated entries base s r s.words s.homes (set vs other nothing) r.phase refl q
      (let a = total_set share s.views id v u at in let b = total_set share vs other w nothing there in let d = r.dealt in let p = length-append v.sight.numbers w.sight.numbers in omega arith)
      (λ m. let f : V → ℕ = λ z. times m z.sight.numbers in let a = total_set f s.views id v u at in let b = total_set f vs other w nothing there in let d = r.once m in let p = times_append m v.sight.numbers w.sight.numbers in omega arith)
      (seats F vs other nothing
      record {
        sees = (r.now, refl, foreign_none r.now);
        live = λ h. absurd (omega arith);
        queues = λ t e. absurd (none-some t e);
        turns = λ k e. absurd (none-some k e);
        olds = λ k p e. absurd (some-ne-none p (sym e));
        old_rests = λ _. refl;
      }
      (λ j x _. seats F s.views id u
      record {
        sees = seen.2;
        live = λ _. known.live live;
        queues = λ t e. absurd (none-some t (sym free ∙ e));
        turns = λ k e. absurd (none-some k (sym rests ∙ e));
        olds = olds_of s r id v other w at here;
        old_rests = λ _. free;
      }
      (λ i y _ e. r.each_seat i y e) j x))
      (apart_set vs other nothing (apart_set s.views id u r.apart (λ j x t _ e k same. none-some t (sym free ∙ same))) (λ j x t _ e k same. none-some t same))
      (phase_set entries base s.homes vs r.now r.based r.phase other w nothing there rests' (phase_set entries base s.homes s.views r.now r.based r.phase id v u at rests r.in_phase))

  -- a load tells how the two old lists are related
  pub compares : (slots id : ℕ) (me : M) → me.0.noted ≡ None → Allows (IsByRule entries base) slots id me 0 (λ n. n) (HasCompared entries base (step slots 0 0 0 none) me)
  compares slots id me rests s r wide at small =
      let w : V = record me.0 { old = [] } in
      let known = r.each_seat id me.0 at in
      let q : total waits (set s.views id w) ≡ total waits s.views = let a = total_set waits s.views id me.0 w at in omega arith in
      let F : ℕ → V → Type 0 = Knows entries base r.now r.based r.passes r.serving (total waits s.views) r.phase in (
        w,
        keeps,
        tt,
        reseated entries base s r (set s.words 0 (get_or s.words 0 0)) s.homes (set s.views id w) r.phase (set-get_or s.words 0 0) q
            (let a = total_set share s.views id me.0 w at in let d = r.dealt in omega arith)
            (λ m. let a = total_set (λ (z : V). times m z.sight.numbers) s.views id me.0 w at in let d = r.once m in omega arith)
            (seats F s.views id w
            record {
              sees = known.sees;
              live = known.live;
              queues = known.queues;
              turns = known.turns;
              olds = λ k p e. absurd (some-ne-none p (sym e));
              old_rests = λ h. absurd (omega arith);
            }
            (λ j u other e. r.each_seat j u e))
            (apart_set s.views id w r.apart (λ j u t other e k same. other (r.apart j id u me.0 t e at k same)))
            (phase_set entries base s.homes s.views r.now r.based r.phase id me.0 w at rests r.in_phase),
        (refl, (r.now, λ k o e. (known.olds k o e).0)),
      )

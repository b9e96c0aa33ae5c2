-- A pass lets the next ticket be served and gives back the slot, whose list it has lengthened by entries of its own.
use Rattle.std.proofs.Common.{◌≡◌, ℕ, suc, ◌+◌, ◌%◌, List, [], ◌∷◌, ◌++◌, get_or, set, sym, refl, ap, ◌∙◌, subst, arith, mod-lt}
use Rattle.std.specs.Prelude.{Option, Some, None}
use Rattle.std.proofs.lemmas.Option.{none-some, same_Some}
use mathlib.Core.Option.{some, none}
use Rattle.atomic_table.specs.Table.{Me, step, gives, Allows, rest}
use Rattle.turnstile.specs.declared.views.View.{View}
use Rattle.turnstile.specs.PassEntries.{Own, Below}
use Rattle.turnstile.specs.Private.SeatViews.{times, ticket_count, waits, share, give_back}
use Rattle.turnstile.specs.Private.TurnstileRule.{total, home, Knows, IsByRule}
use Rattle.turnstile.specs.Private.SeatSteps.{HasLeft}
use Rattle.turnstile.proofs.Totals.{total_set, none_in}
use Rattle.turnstile.proofs.EntryLists.{goes_on, all_seen, below_append, own_below, own_foreign}
use Rattle.turnstile.proofs.Tickets.{nearer, closer, mod_here}
use Rattle.turnstile.proofs.ViewSteps.{seats, apart_set}
use Rattle.turnstile.proofs.RuleLemmas.{below_of, shared_no, seat_of, out_of}

module _ {K E B : Type 0} (entries : K → List (ℕ × E)) (base : K → B) where
  abbrev V : Type 0
  V = View E B

  abbrev M : Type 0
  M = Me (Option K) V

  abbrev of_slot : Option K → List (ℕ × E)
  of_slot None = []
  of_slot (Some x) = entries x

  abbrev carried_entries : List (ℕ × Option K) → List (ℕ × E)
  carried_entries [] = []
  carried_entries (y ∷ ys) = of_slot y.1

  leaves_at : (slots id : ℕ) (v : V) (x : K) (l more : List (ℕ × E)) → v.noted ≡ Some l → entries x ≡ l ++ more → Own v.sight.numbers more → v.base ≡ Some (base x)
      → Allows (IsByRule entries base) slots id (v, (0, Some x) ∷ []) 1 (λ n. (n + 1) % 18446744073709551616) (HasLeft entries base (step slots 1 1 0 none) (v, (0, Some x) ∷ []))
  leaves_at slots id v x l more notes adds own based s r wide at small =
      let n : ℕ = get_or s.words 1 0 in
      let is : n ≡ r.serving = ap (λ l. get_or l 1 0) r.words_are in
      let known = r.each_seat id v at in
      let turn = known.turns l notes in
      let first = turn.2 in
      let w : V = give_back v (entries x) in
      let f : ℕ = (n + 1) % 18446744073709551616 in
      let f_is : f ≡ (r.serving + 1) % 18446744073709551616 = ap (λ k. (k + 1) % 18446744073709551616) is in
      let live = (known.queues r.serving first).0 in
      let then_ : entries x ≡ r.now ++ more = adds ∙ ap (λ k. k ++ more) turn.1 in
      let less : total waits (set s.views id w) + 1 ≡ total waits s.views = let h = total_set waits s.views id v w at in let z : waits v ≡ 1 = ap ticket_count first in omega arith in
      let q : ℕ = total waits (set s.views id w) in
      let gone_home = out_of entries base s r id turn.0 in (
        w,
        gives,
        tt,
        record {
          next = r.next;
          serving = f;
          now = entries x;
          based = r.based;
          passes = r.passes;
          phase = home;
          words_are = ap (λ l. set l 1 f) r.words_are;
          serving_fits = mod-lt (n + 1) (omega arith);
          next_is = r.next_is ∙ (ap (λ k. (r.serving + k) % 18446744073709551616) (let e : total waits s.views ≡ suc q = omega arith in e) ∙ (nearer r.serving q ∙ ap (λ k. (k + q) % 18446744073709551616) (sym f_is)));
          few = r.few;
          dealt = let h = total_set share s.views id v w at in let d = r.dealt in omega arith;
          once = λ m. let h = total_set (λ (z : V). times m z.sight.numbers) s.views id v w at in let d = r.once m in omega arith;
          numbered = subst (Below r.passes) (sym then_) (below_append r.passes r.now more r.numbered (own_below r.passes v.sight.numbers more (λ m h. below_of entries base s r id v m at h) own));
          each_seat = seats (Knows entries base (entries x) r.based r.passes f q home) s.views id w
              record {
                sees = all_seen v.sight.numbers (entries x);
                live = known.live;
                queues = λ t e. absurd (none-some t e);
                turns = λ l e. absurd (none-some l e);
                olds = λ k o e. absurd (none-some r.serving (sym (known.old_rests (none_in v.old k o e)) ∙ first));
                old_rests = λ _. refl;
              }
              (λ j u other e. let k = r.each_seat j u e in record {
                sees = goes_on u.sight.numbers u.sight.entries r.now more (entries x) then_ (own_foreign v.sight.numbers u.sight.numbers more (λ m a b. shared_no entries base s r id j v u m (λ e. other (sym e)) at e a b) own) k.sees;
                live = k.live;
                queues = λ t h. let d = k.queues t h in (d.0, closer r.serving f (total waits s.views) q d.1.0 t f_is less d.1.1 d.1.2 (λ zero_away. other (r.apart j id u v r.serving e at (h ∙ ap Some (d.1.2 ∙ (ap (λ k. (r.serving + k) % 18446744073709551616) zero_away ∙ mod_here r.serving r.serving_fits))) first)));
                turns = λ l e. absurd (let h : suc j ≡ suc id = ap seat_of (sym (k.turns l e).0 ∙ turn.0) in other (omega arith));
                olds = λ i o p. let b = k.olds i o p in (goes_on o.numbers o.entries r.now more (entries x) then_ (own_foreign v.sight.numbers o.numbers more (λ m a c. shared_no entries base s r id j v u m (λ e. other (sym e)) at e a (b.1 m c)) own) b.0, b.1);
                old_rests = k.old_rests;
              });
          apart = apart_set s.views id w r.apart (λ j u t other e k same. none-some t same);
          in_phase = (x, ap (λ h. set h 0 (some (Some x))) gone_home, refl, same_Some (base x) r.based (sym based ∙ (known.live live).0));
        },
        λ y e. ap (λ c. (give_back v (carried_entries c), [])) e,
      )

  -- the same for a seat whose slot was filled by an exchange
  pub leaves_filled : (slots id : ℕ) (me me' : M) (x : K) (l more : List (ℕ × E)) → me' ≡ (me.0, (0, Some x) ∷ rest me.1) → me.1 ≡ (0, None) ∷ [] → me.0.noted ≡ Some l → entries x ≡ l ++ more → Own me.0.sight.numbers more → me.0.base ≡ Some (base x)
      → Allows (IsByRule entries base) slots id me' 1 (λ n. (n + 1) % 18446744073709551616) (HasLeft entries base (step slots 1 1 0 none) me')
  leaves_filled slots id me me' x l more is empty notes adds own based =
      let full : me' ≡ (me.0, (0, Some x) ∷ []) = is ∙ ap (λ c. (me.0, (0, Some x) ∷ rest c)) empty in
      subst (λ (m : M). Allows (IsByRule entries base) slots id m 1 (λ n. (n + 1) % 18446744073709551616) (HasLeft entries base (step slots 1 1 0 none) m)) (sym full) (leaves_at slots id me.0 x l more notes adds own based)

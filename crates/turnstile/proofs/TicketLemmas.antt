-- A pass takes a ticket.
use Rattle.std.proofs.Common.{◌≡◌, ℕ, ◌+◌, ◌%◌, ◌<◌, List, [], length, get_or, set, sym, refl, ap, ◌∙◌, arith}
use Rattle.std.specs.Prelude.{Option, Some, None}
use Rattle.std.proofs.lemmas.Option.{none-some, same_Some}
use Rattle.std.proofs.Math.Nat.{mod-add-mod}
use mathlib.Core.Option.{some, none}
use lib.ListN.{get_elem?}
use Rattle.atomic_table.specs.Table.{Me, step, keeps, Allows}
use Rattle.turnstile.specs.declared.views.View.{View}
use Rattle.turnstile.specs.Private.SeatViews.{times, ticket_count, waits, share}
use Rattle.turnstile.specs.Private.TurnstileRule.{total, Knows, IsByRule}
use Rattle.turnstile.specs.Private.SeatSteps.{HasTicket}
use Rattle.turnstile.proofs.Totals.{total_set}
use Rattle.turnstile.proofs.Tickets.{far}
use Rattle.turnstile.proofs.ViewSteps.{seats, apart_set}
use Rattle.turnstile.proofs.RuleLemmas.{phase_set, few_wait}

module _ {K E B : Type 0} (entries : K → List (ℕ × E)) (base : K → B) where
  abbrev V : Type 0
  V = View E B

  abbrev M : Type 0
  M = Me (Option K) V

  pub takes : (slots id : ℕ) (me : M) → me.0.ticket ≡ None → 0 < length me.0.sight.numbers → me.0.old ≡ [] → me.0.noted ≡ None
      → Allows (IsByRule entries base) slots id me 0 (λ n. (n + 1) % 18446744073709551616) (HasTicket entries base (step slots 0 1 0 none) me)
  takes slots id me free live calm rests s r wide at small =
      let M64 : ℕ = 18446744073709551616 in
      let n : ℕ = get_or s.words 0 0 in
      let q : ℕ = total waits s.views in
      let w : V = record me.0 { ticket = Some n } in
      let is : n ≡ r.next = ap (λ l. get_or l 0 0) r.words_are in
      let few = few_wait entries base s r in let less = r.few in
      let more : total waits (set s.views id w) ≡ q + 1 = let h = total_set waits s.views id me.0 w at in let z : waits me.0 ≡ 0 = ap ticket_count free in omega arith in
      let known = r.each_seat id me.0 at in
      let fresh : (j : ℕ) (v : V) (t : ℕ) → get_elem? s.views j ≡ some v → v.ticket ≡ Some t → t ≡ n → ⊥ = λ j v t e k same. let h = ((r.each_seat j v e).queues t k).1 in
      far r.serving h.0 q h.1 (omega arith) (sym h.2 ∙ (same ∙ (is ∙ r.next_is))) in (
        w,
        keeps,
        tt,
        record {
          next = (n + 1) % 18446744073709551616;
          serving = r.serving;
          now = r.now;
          based = r.based;
          passes = r.passes;
          phase = r.phase;
          words_are = ap (λ l. set l 0 ((n + 1) % 18446744073709551616)) r.words_are;
          serving_fits = r.serving_fits;
          next_is = ap (λ k. (k + 1) % 18446744073709551616) (is ∙ r.next_is) ∙ (mod-add-mod (r.serving + q) 18446744073709551616 1 ∙ ap (λ k. k % 18446744073709551616) (let e : r.serving + q + 1 ≡ r.serving + total waits (set s.views id w) = omega arith in e));
          few = r.few;
          dealt = let h = total_set share s.views id me.0 w at in let d = r.dealt in omega arith;
          once = λ m. let h = total_set (λ (z : V). times m z.sight.numbers) s.views id me.0 w at in let d = r.once m in omega arith;
          numbered = r.numbered;
          each_seat = seats (Knows entries base r.now r.based r.passes r.serving (total waits (set s.views id w)) r.phase) s.views id w
              record {
                sees = known.sees;
                live = known.live;
                queues = λ t e. (live, (q, omega arith, sym (same_Some n t e) ∙ (is ∙ r.next_is)));
                turns = λ l e. absurd (none-some l (sym rests ∙ e));
                olds = known.olds;
                old_rests = λ some_old. absurd (let h : length me.0.old ≡ 0 = ap length calm in omega arith);
              }
              (λ j v other e. let k = r.each_seat j v e in record {
                sees = k.sees;
                live = k.live;
                queues = λ t h. let d = k.queues t h in (d.0, (d.1.0, let l = d.1.1 in omega arith, d.1.2));
                turns = k.turns;
                olds = k.olds;
                old_rests = k.old_rests;
              });
          apart = apart_set s.views id w r.apart (λ j v t other e k same. fresh j v t e k (sym (same_Some n t same)));
          in_phase = phase_set entries base s.homes s.views r.now r.based r.phase id me.0 w at rests r.in_phase;
        },
        refl,
      )

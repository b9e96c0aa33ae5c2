-- A pass gives up its first number to a new one.
use Rattle.std.proofs.Common.{◌≡◌, ℕ, ◌+◌, ◌<◌, List, [], ◌∷◌, ◌++◌, length, set, sym, refl, ap, ◌∙◌, subst, ⊎_elim, arith, take, drop}
use Rattle.std.specs.Prelude.{None, Contains}
use Rattle.std.proofs.lemmas.Option.{none-some}
use Rattle.atomic_table.specs.Table.{Splits}
use Rattle.atomic_table.proofs.Lists.{at_snoc}
use Rattle.turnstile.specs.declared.views.View.{View}
use Rattle.turnstile.specs.Private.SeatViews.{times, ticket_count, waits, share, without_one, with_one, with_numbers}
use Rattle.turnstile.specs.Private.TurnstileRule.{total, Knows, IsByRule}
use Rattle.turnstile.proofs.Totals.{total_set, total_snoc, none_in}
use Rattle.turnstile.proofs.Numbers.{part_times, part_length, taken_numbers, dropped_numbers}
use Rattle.turnstile.proofs.EntryLists.{foreign_part}
use Rattle.turnstile.proofs.ViewSteps.{seats, apart_set, apart_snoc}
use Rattle.turnstile.proofs.RuleLemmas.{phase_set, phase_snoc, reseated}

module _ {K E B : Type 0} (entries : K → List (ℕ × E)) (base : K → B) where
  abbrev V : Type 0
  V = View E B

  -- a pass gives up its first number
  pub splits : (id : ℕ) (v : V) → v.ticket ≡ None → v.noted ≡ None → v.old ≡ [] → 1 < length v.sight.numbers → Splits (IsByRule entries base) id v (without_one v) (with_one v)
  splits id v free rests calm two s r at =
      let known = r.each_seat id v at in
      let ns : List ℕ = v.sight.numbers in
      let l : V = without_one v in
      let o : V = with_one v in
      let vs : List V = set s.views id l in
      let q : total waits (vs ++ o ∷ []) ≡ total waits s.views = let a = total_set waits s.views id v l at in let b = total_snoc waits vs o in let z : waits o ≡ 0 = ap ticket_count free in omega arith in
      let live : 0 < length ns = omega arith in
      let part : (ms : List ℕ) → ((m : ℕ) → Contains ms m → Contains ns m) → (0 < length ms → 0 < length ns) → (j : ℕ) → Knows entries base r.now r.based r.passes r.serving (total waits s.views) r.phase j (with_numbers v ms) = λ ms sub some_ms j. record {
        sees = let c = known.sees in (c.0, c.1, foreign_part ns ms c.0 sub c.2);
        live = λ h. known.live live;
        queues = λ t e. absurd (none-some t (sym free ∙ e));
        turns = λ k e. absurd (none-some k (sym rests ∙ e));
        olds = λ k p e. absurd (let a = none_in v.old k p e in let b : length v.old ≡ 0 = ap length calm in omega arith);
        old_rests = λ _. free;
      } in
      reseated entries base s r s.words s.homes (vs ++ o ∷ []) r.phase refl q
      (let a = total_set share s.views id v l at in let b = total_snoc share vs o in let d = r.dealt in let p = part_length ns in omega arith)
      (λ m. let f : V → ℕ = λ z. times m z.sight.numbers in let a = total_set f s.views id v l at in let b = total_snoc f vs o in let d = r.once m in let p = part_times m ns in omega arith)
      (λ j u e. ⊎_elim
      (seats (Knows entries base r.now r.based r.passes r.serving (total waits s.views) r.phase) s.views id l (part (drop 1 ns) (dropped_numbers ns) (λ _. live) id) (λ i x _ y. r.each_seat i x y) j u)
      (λ (same : o ≡ u). subst (Knows entries base r.now r.based r.passes r.serving (total waits s.views) r.phase j) same (part (take 1 ns) (taken_numbers ns) (λ _. live) j))
      (at_snoc vs o u j e))
      (apart_snoc vs o (apart_set s.views id l r.apart (λ j x t other e k same. none-some t (sym free ∙ same))) free)
      (phase_snoc entries base s.homes vs r.now r.based r.phase o (phase_set entries base s.homes s.views r.now r.based r.phase id v l at rests r.in_phase))

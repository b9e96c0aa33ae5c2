-- What the rule says between two steps; a step that changes no word, slot or view keeps it.
use Rattle.std.proofs.Common.{◌≡◌, ℕ, suc, ◌+◌, ◌%◌, ◌<◌, ◌≤◌, ◌≢◌, List, [], ◌∷◌, ◌++◌, length, get_or, set, sym, ap, ◌∙◌, subst, arith}
use Rattle.std.specs.Prelude.{Option, None, Contains}
use Rattle.std.proofs.lemmas.List.{set-get_or}
use Rattle.std.proofs.lemmas.Option.{none-some}
use mathlib.Core.Option.{some, none, some-injective}
use lib.ListN.{get_elem?}
use Rattle.atomic_table.specs.Table.{State, keeps, stepped}
use Rattle.atomic_table.proofs.Lists.{at_longer, set_else, set_again}
use Rattle.turnstile.specs.declared.views.View.{View}
use Rattle.turnstile.specs.Private.SeatViews.{times, waits, share}
use Rattle.turnstile.specs.Private.TurnstileRule.{total, once_below, HaveOwnTickets, Phase, home, out, InPhase, Knows, IsByRule}
use Rattle.turnstile.proofs.Totals.{total_at, total_two, total_le}
use Rattle.turnstile.proofs.Numbers.{times_in, once_low, once_in}
use Rattle.turnstile.proofs.Tickets.{ticket_count_le}
use mathlib.Core.Option as maybe

-- The seat that holds the slot, by a number that is 0 at home.
abbrev pub seat_of : Phase → ℕ
seat_of home = 0
seat_of (out j) = suc j

module _ {K E B : Type 0} (entries : K → List (ℕ × E)) (base : K → B) where
  abbrev V : Type 0
  V = View E B

  -- a seat that is in no turn doesn't move a slot
  pub phase_set : (homes : List (maybe.Option (Option K))) (vs : List V) (now : List (ℕ × E)) (b : B) (ph : Phase) (id : ℕ) (v w : V) → get_elem? vs id ≡ some v → v.noted ≡ None → InPhase entries base homes vs now b ph
      → InPhase entries base homes (set vs id w) now b ph
  phase_set homes vs now b home id v w at rests p = p
  phase_set homes vs now b (out j) id v w at rests p = (p.0, (p.1.0, set_else vs id j w (λ same. none-some now (sym rests ∙ (ap (λ (z : V). z.noted) (some-injective v p.1.0 (sym at ∙ (ap (get_elem? vs) (sym same) ∙ p.1.1))) ∙ p.1.2))) ∙ p.1.1, p.1.2))

  pub phase_snoc : (homes : List (maybe.Option (Option K))) (vs : List V) (now : List (ℕ × E)) (b : B) (ph : Phase) (w : V) → InPhase entries base homes vs now b ph → InPhase entries base homes (vs ++ w ∷ []) now b ph
  phase_snoc homes vs now b home w p = p
  phase_snoc homes vs now b (out j) w p = (p.0, (p.1.0, at_longer vs (w ∷ []) j p.1.0 p.1.1, p.1.2))

  -- there are no more tickets out than passes
  pub few_wait : (s : State (Option K) V) (r : IsByRule entries base s) → total waits s.views ≤ r.passes
  few_wait s r = let a = total_le waits share s.views (λ j v at. ticket_count_le v.ticket (length v.sight.numbers) (λ t e. ((r.each_seat j v at).queues t e).0)) in let b = r.dealt in omega arith

  pub below_of : (s : State (Option K) V) (r : IsByRule entries base s) (id : ℕ) (v : V) (m : ℕ) → get_elem? s.views id ≡ some v → Contains v.sight.numbers m → m < r.passes
  below_of s r id v m at h = let a = total_at (λ (z : V). times m z.sight.numbers) s.views id v at in let t = times_in m v.sight.numbers h in let b = r.once m in once_in m r.passes (omega arith)

  -- no two seats have one number
  pub shared_no : (s : State (Option K) V) (r : IsByRule entries base s) (i j : ℕ) (v u : V) (m : ℕ) → i ≢ j → get_elem? s.views i ≡ some v → get_elem? s.views j ≡ some u → Contains v.sight.numbers m → Contains u.sight.numbers m → ⊥
  shared_no s r i j v u m apart a b h k = let t = total_two (λ (z : V). times m z.sight.numbers) s.views i j v u apart a b in let x = times_in m v.sight.numbers h in let y = times_in m u.sight.numbers k in let o = r.once m in let l = once_low m r.passes in omega arith

  -- a load that changes nothing
  pub stays : (s : State (Option K) V) (i id : ℕ) (c : List (ℕ × Option K)) (v : V) → IsByRule entries base s → get_elem? s.views id ≡ some v → IsByRule entries base (stepped s i (get_or s.words i 0) id c v keeps)
  stays s i id c v r at = subst (λ (x : List ℕ × List V). IsByRule entries base record { words = x.0; homes = s.homes; views = x.1 }) (λ k. (sym (set-get_or s.words i 0) k, sym (set_again s.views id v at) k)) r

  pub out_of : (s : State (Option K) V) (r : IsByRule entries base s) (id : ℕ) → r.phase ≡ out id → s.homes ≡ none ∷ []
  out_of s r id is = (subst (InPhase entries base s.homes s.views r.now r.based) is r.in_phase).0

  -- The rule still holds if only seats change and the number of tickets out stays: the words are as they were, each number is
  -- in one seat, and each seat knows what it must know.
  pub reseated : (s : State (Option K) V) (r : IsByRule entries base s) (words : List ℕ) (homes : List (maybe.Option (Option K))) (vs : List V) (ph : Phase)
      → words ≡ s.words → total waits vs ≡ total waits s.views → total share vs ≡ r.passes → ((m : ℕ) → total (λ v. times m v.sight.numbers) vs ≡ once_below m r.passes)
      → ((j : ℕ) (u : V) → get_elem? vs j ≡ some u → Knows entries base r.now r.based r.passes r.serving (total waits s.views) ph j u) → HaveOwnTickets vs
      → InPhase entries base homes vs r.now r.based ph → IsByRule entries base record { words = words; homes = homes; views = vs }
  reseated s r words homes vs ph same many dealt once knows apart placed = record {
    next = r.next;
    serving = r.serving;
    now = r.now;
    based = r.based;
    passes = r.passes;
    phase = ph;
    words_are = same ∙ r.words_are;
    serving_fits = r.serving_fits;
    next_is = r.next_is ∙ ap (λ k. (r.serving + k) % 18446744073709551616) (sym many);
    few = r.few;
    dealt = dealt;
    once = once;
    numbered = r.numbered;
    each_seat = subst (λ k. (j : ℕ) (u : V) → get_elem? vs j ≡ some u → Knows entries base r.now r.based r.passes r.serving k ph j u) (sym many) knows;
    apart = apart;
    in_phase = placed;
  }

-- The rule holds of a new table.
use Rattle.std.proofs.Common.{ℕ, ◌<◌, List, [], ◌∷◌, sym, refl, ap, ◌∙◌, subst, arith}
use Rattle.std.specs.Prelude.{Some}
use Rattle.std.proofs.lemmas.Option.{none-some}
use mathlib.Core.Option.{some-ne-none}
use Rattle.atomic_table.specs.Table.{opening}
use Rattle.turnstile.specs.declared.views.View.{View}
use Rattle.turnstile.specs.PassEntries.{Below}
use Rattle.turnstile.specs.Private.SeatViews.{numbers_from, first}
use Rattle.turnstile.specs.Private.TurnstileRule.{home, Knows, IsByRule}
use Rattle.turnstile.proofs.Numbers.{length_from, once_from}
use Rattle.turnstile.proofs.EntryLists.{all_seen}
use Rattle.turnstile.proofs.ViewSteps.{alone}

module _ {K E B : Type 0} (entries : K → List (ℕ × E)) (base : K → B) where
  abbrev V : Type 0
  V = View E B

  -- the rule at the start
  pub starts : (x : K) (n : ℕ) → 0 < n → n < 4294967296 → Below n (entries x) → IsByRule entries base (opening (0 ∷ 0 ∷ []) (Some x ∷ []) (first (entries x) (base x) n))
  starts x n some_pass few low =
      let all : V = first (entries x) (base x) n in
      record {
        next = 0;
        serving = 0;
        now = entries x;
        based = base x;
        passes = n;
        phase = home;
        words_are = refl;
        serving_fits = omega arith;
        next_is = refl;
        few = few;
        dealt = let h = length_from 0 n in omega arith;
        once = λ m. let h = once_from m n in omega arith;
        numbered = low;
        each_seat = λ j v e. subst (Knows entries base (entries x) (base x) n 0 0 home j) (alone all j v e) record {
          sees = all_seen (numbers_from 0 n) (entries x);
          live = λ _. (refl, refl);
          queues = λ t e. absurd (none-some t e);
          turns = λ l e. absurd (none-some l e);
          olds = λ k p e. absurd (some-ne-none p (sym e));
          old_rests = λ _. refl;
        };
        apart = λ i j u v t a b p q. absurd (none-some t (ap (λ (z : V). z.ticket) (alone all i u a) ∙ p));
        in_phase = (x, refl, refl, refl);
      }

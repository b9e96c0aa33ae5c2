-- Settling goes on from a step to where it goes from before it; a step that gives no line settles. And a step goes on from a
-- turn to where it goes from before it.
use Rattle.std.proofs.Common.{◌≡◌, ℕ, zero, suc, ◌<◌, Bool, true, false, cond, nat_lt, List, [], ◌∷◌, length, None, refl, sym, ◌∙◌, ap, subst, arith}
use Rattle.std.specs.Prelude.{sum_by}
use Rattle.std.specs.Fn.{iterate}
use Rattle.std.proofs.lemmas.Bool.{cond-false, cond-true, lt-ltb, ltb-false, ltb-true}
use Rattle.air_model.specs.Aired.{Air}
use Rattle.air_model.specs.Judges.{Judge}
use Rattle.air_model.specs.Sessions.{Reader, SessionLine, State, copy_of, settle, turn, turn_with, wanted}
use Rattle.receiver_core.specs.ReceiverSteps.{step, turn_to_line}
use Rattle.air_model.proofs.MomentLemmas.{cond_keeps}
use Rattle.air_model.proofs.SettleLemmas.{settle_is}

none_left : (L : List SessionLine) → nat_lt 0 (length L) ≡ false → L ≡ []
none_left [] e = refl
none_left (l ∷ L) e = absurd (let f = ltb-false 0 (length (l ∷ L)) e in omega arith)

-- What a step and settling have to do with each other.
pub record IsOnTheWay (judge : Judge) (air : Air) (reader : Reader) (s : State) : Type 0 where
  pub steps : settle judge air reader (step judge air reader s) ≡ settle judge air reader s
  pub no_line : (step judge air reader s).lines ≡ [] → step judge air reader s ≡ settle judge air reader s

module _ (judge : Judge) (air : Air) (reader : Reader) where
  step_on : (n : ℕ) (s : State) → settle judge air reader (turn_to_line judge air reader n s) ≡ settle judge air reader s
  unfolding turn_to_line
  step_on zero s = refl
  step_on (suc n) s = cond_keeps (λ t. settle judge air reader t ≡ settle judge air reader s) (nat_lt 0 (length s.lines)) _ _ (λ _. refl) (λ _. step_on n (turn judge air reader s) ∙ (settle_is judge air reader s).goes_on)

  all_turns : (n : ℕ) (s : State) → (turn_to_line judge air reader n s).lines ≡ [] → turn_to_line judge air reader n s ≡ iterate (turn judge air reader) n s
  unfolding turn_to_line
  all_turns zero s e = refl
  all_turns (suc n) s e = by (nat_lt 0 (length s.lines)) refl e (all_turns n (turn judge air reader s))
    where
      by : (b : Bool) → nat_lt 0 (length s.lines) ≡ b → (cond b s (turn_to_line judge air reader n (turn judge air reader s))).lines ≡ [] →
          ((turn_to_line judge air reader n (turn judge air reader s)).lines ≡ [] → turn_to_line judge air reader n (turn judge air reader s) ≡ iterate (turn judge air reader) n (turn judge air reader s)) →
          cond b s (turn_to_line judge air reader n (turn judge air reader s)) ≡ iterate (turn judge air reader) n (turn judge air reader s)
      by true t e rest = absurd (let l = ltb-true 0 (length s.lines) t in let m : length s.lines ≡ 0 = ap length e in omega arith)
      by false t e rest = rest e

  pub on_the_way : (s : State) → IsOnTheWay judge air reader s
  unfolding step settle
  on_the_way s = record { steps = step_on (sum_by length reader.queries) s; no_line = all_turns (sum_by length reader.queries) s }

  -- ---- a step, turn by turn

  -- Where the wanted item has no copy, nothing is left to do.
  turn_settled : (s : State) → copy_of (wanted reader s) s ≡ None → turn judge air reader s ≡ s
  unfolding turn turn_with
  turn_settled s e = ap (λ o. turn_with judge air reader o s) e

  turns_settled : (n : ℕ) (s : State) → copy_of (wanted reader s) s ≡ None → turn_to_line judge air reader n s ≡ s
  unfolding turn_to_line
  turns_settled zero s e = refl
  turns_settled (suc n) s e = cond_keeps (λ t. t ≡ s) (nat_lt 0 (length s.lines)) _ _ (λ _. refl) (λ _. ap (turn_to_line judge air reader n) (turn_settled s e) ∙ turns_settled n s e)

  pub step_settled : (s : State) → copy_of (wanted reader s) s ≡ None → step judge air reader s ≡ s
  unfolding step
  step_settled s e = turns_settled (sum_by length reader.queries) s e

  -- With a line a step does nothing.
  turns_given : (n : ℕ) (s : State) → 0 < length s.lines → turn_to_line judge air reader n s ≡ s
  unfolding turn_to_line
  turns_given zero s l = refl
  turns_given (suc n) s l = cond-true (nat_lt 0 (length s.lines)) _ _ (lt-ltb 0 (length s.lines) l)

  pub step_given : (s : State) → 0 < length s.lines → step judge air reader s ≡ s
  unfolding step
  step_given s l = turns_given (sum_by length reader.queries) s l

  -- One turn more, where no line came.
  turns_more : (n : ℕ) (s : State) → turn_to_line judge air reader (suc n) s
      ≡ cond (nat_lt 0 (length (turn_to_line judge air reader n s).lines)) (turn_to_line judge air reader n s) (turn judge air reader (turn_to_line judge air reader n s))
  unfolding turn_to_line
  turns_more zero s = refl
  turns_more (suc n) s = by (nat_lt 0 (length s.lines)) refl (turns_more n (turn judge air reader s))
    where
      by : (b : Bool) → nat_lt 0 (length s.lines) ≡ b → (let t = turn_to_line judge air reader n (turn judge air reader s) in
          turn_to_line judge air reader (suc n) (turn judge air reader s) ≡ cond (nat_lt 0 (length t.lines)) t (turn judge air reader t)) →
          cond b s (turn_to_line judge air reader (suc n) (turn judge air reader s)) ≡ (let t = cond b s (turn_to_line judge air reader n (turn judge air reader s)) in
          cond (nat_lt 0 (length t.lines)) t (turn judge air reader t))
      by true e rest = sym (cond-true (nat_lt 0 (length s.lines)) _ _ e)
      by false e rest = rest

  -- A turn more after a step makes no difference.
  after_step : (s : State) → (step judge air reader s).lines ≡ [] → turn judge air reader (step judge air reader s) ≡ step judge air reader s
  after_step s free =
      let settled : step judge air reader s ≡ settle judge air reader s = (on_the_way s).no_line free in
      turn_settled (step judge air reader s) (subst (λ t. copy_of (wanted reader t) t ≡ None) (sym settled) (settle_is judge air reader s).settled)

  -- A step goes on from a turn, where no line waited before it.
  pub step_on_turn : (s : State) → s.lines ≡ [] → step judge air reader (turn judge air reader s) ≡ step judge air reader s
  unfolding step turn_to_line
  step_on_turn s free =
      let n = sum_by length reader.queries in
      let none : nat_lt 0 (length s.lines) ≡ false = ap (λ L. nat_lt 0 (length L)) free in
      sym (cond-false (nat_lt 0 (length s.lines)) s (turn_to_line judge air reader n (turn judge air reader s)) none) ∙ turns_more n s
      ∙ cond_keeps (λ t. t ≡ step judge air reader s) (nat_lt 0 (length (step judge air reader s).lines)) _ _ (λ _. refl)
      (λ f. after_step s (none_left (step judge air reader s).lines f))

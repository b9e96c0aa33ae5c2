-- What a cast had sent just before its first failure.
use Rattle.std.proofs.Common.{◌≡◌, ◌≤◌, ℕ, Some, List, length, sym, ◌∙◌, subst, arith}
use Rattle.std.proofs.lemmas.List.{length-take}
use Rattle.std.specs.Prelude.{IfErr, Result, Err}
use Rattle.air_devices.specs.Masts.{Changes, MastState, nothing_sent}
use Rattle.air_model.specs.Decks.{Deck}
use Rattle.air_model.specs.Runs.{Run}
use Rattle.deck_runs.specs.Casts.{FailsFirst, IsCastAnswer, first_sent}
use Rattle.deck_runs.specs.declared.threads.RunFault.{RunFault}
use Rattle.deck_runs.specs.declared.threads.RunFault.TheVariants as fault
use Rattle.thread_pins.specs.CalmMasts.{HadSent}

module _ {M : Type 0} (state : M → MastState) (old new : M) (unsent : (state old).told ≡ Some nothing_sent) (none : (state old).faults ≡ 0) (sent : ℕ) (first : FailsFirst state old new) where
  -- It had sent the first of these buckets.
  sent_first : (bytes : List (List ℕ)) → sent ≤ length bytes → Changes (λ _. first_sent sent bytes) (state old).told (state new).told → HadSent state sent
  sent_first bytes within begins =
      let told : (state new).told ≡ Some (first_sent sent bytes) = subst (λ o. Changes (λ _. first_sent sent bytes) o (state new).told) unsent begins in
      record {
        mast = first.just_before;
        calm = first.calm ∙ none;
        buckets = first_sent sent bytes;
        told = sym first.kept ∙ told;
        count = omega (arith, length-take sent bytes, within);
      }

  pub had_sent : (deck : Deck) (r : Result Run RunFault) → IfErr r (IsCastAnswer deck (state old) (state new)) → r ≡ Err (fault.Mast sent) → HadSent state sent
  had_sent deck r answer is =
      let h : IsCastAnswer deck (state old) (state new) (fault.Mast sent) = subst (λ r. IfErr r (IsCastAnswer deck (state old) (state new))) is answer in
      sent_first _ h.1.within h.1.sent

-- What an ear or a mast told just before its first failure.
use Rattle.std.proofs.Common.{◌≡◌, ℕ, Some, List, length, drop, sym, ◌∙◌, subst, arith}
use Rattle.std.proofs.lemmas.List.{length-drop}
use Rattle.std.specs.Prelude.{IfErr, Result, Err}
use Rattle.air_devices.specs.Ears.{EarState}
use Rattle.air_devices.specs.Masts.{MastState}
use Rattle.deck_runs.specs.Casts.{FailsFirst}
use Rattle.air_cli.specs.Hearings.{EarFailsFirst, IsHearAnswer, TakesJust}
use Rattle.air_cli.specs.declared.commands.hearings.HearFault.{HearFault}
use Rattle.air_cli.specs.declared.commands.hearings.HearFault.TheVariants as fault
use Rattle.command_pins.specs.CalmDevices.{HadLeft, ToldByCalmEar, ToldByCalmMast}

pub had_left : {E T : Type 0} (state : E → EarState) (most : ℕ) (waiting : List (List ℕ)) (old new : E) (r : Result T HearFault) (heard : ℕ) → (state old).told ≡ Some waiting → (state old).faults ≡ 0
    → IfErr r (IsHearAnswer most (state old) (state new)) → r ≡ Err (fault.Ear heard) → EarFailsFirst state old new → HadLeft state heard (length waiting)
had_left state most waiting old new r heard told none answer is first =
    let h : IsHearAnswer most (state old) (state new) (fault.Ear heard) = subst (λ r. IfErr r (IsHearAnswer most (state old) (state new))) is answer in
    let taken : TakesJust heard (Some waiting) (state new).told = subst (λ o. TakesJust heard o (state new).told) told h.2 in
    let within = taken.0 in
    record {
      ear = first.just_before;
      calm = first.calm ∙ none;
      left = drop heard waiting;
      told = sym first.kept ∙ taken.1;
      count = omega (arith, length-drop heard waiting, within);
    }

pub told_by_calm_ear : {E : Type 0} (state : E → EarState) (old new : E) → (state old).faults ≡ 0 → EarFailsFirst state old new → ToldByCalmEar state new
told_by_calm_ear state old new none first = record { ear = first.just_before; calm = first.calm ∙ none; same = first.kept }

pub told_by_calm_mast : {M : Type 0} (state : M → MastState) (old new : M) → (state old).faults ≡ 0 → FailsFirst state old new → ToldByCalmMast state new
told_by_calm_mast state old new none first = record { mast = first.just_before; calm = first.calm ∙ none; same = first.kept }

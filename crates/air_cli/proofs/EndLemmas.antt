-- From how a command ended to what its status means, and to what the command leaves.
use Rattle.std.proofs.Common.{◌≡◌, ℕ, List, Option, Result, Ok, Err, sym, ◌∙◌, subst, inl, inr}
use Rattle.std.specs.Prelude.{IfErr, IfOk, MatchResult}
use Rattle.air_devices.specs.Shelves.{ShelfState}
use Rattle.air_report.specs.declared.status.Status.{Status}
use Rattle.air_report.specs.declared.status.Status.TheVariants as status
use Rattle.air_cli.specs.ReportsAndTapes.{ReportAndTape}
use Rattle.air_cli.specs.Deliveries.{Delivers}
use Rattle.air_cli.specs.Refusals.{Refuses}
use Rattle.air_cli.specs.Answers.{Leaves, QuietAnswers}
use Rattle.air_cli.specs.Meanings.{Meaning}
use Rattle.air_cli.specs.Private.Endings.{EndsGiven, EndsUnmade}
use Rattle.air_cli.specs.Private.BeforeDelivery.{IsMade, IsUnmade, ReadsInputs}
use Rattle.air_cli.proofs.AnswerLemmas.{answers_made}
use Rattle.air_cli.proofs.ReadLemmas.{falls_twice}
use Rattle.air_cli.proofs.RefusalLemmas.{IsSound, answers_refused, leaves_refused, untouched}

-- How it ended, by what was made, if its output is this one.
abbrev pub EndsAt : Option (List ℕ) → Result ReportAndTape Status → ShelfState → ShelfState → Status → Type 0
EndsAt output made mid now s = MatchResult made (λ given. EndsGiven output given mid now s) (λ why. EndsUnmade why mid now s)

-- A command for which nothing was made.
pub answers_unmade : (command : Meaning) → IsSound command → (before mid now : ShelfState) (why s : Status) → IsUnmade command before mid why → ReadsInputs command before mid → EndsUnmade why mid now s
    → QuietAnswers command before now s
answers_unmade command sound before mid now why s unmade reads (inl (none, same, still)) =
    let h = untouched command before mid reads.printed reads.outputs (inl (unmade.kept (λ e. cc (none, e)))) in
    subst (λ shelf. QuietAnswers command before shelf s) (sym still) (subst (QuietAnswers command before mid) (sym same) h)
answers_unmade command sound before mid now why s unmade reads (inr ends) =
    answers_refused command sound before mid now why s ends.some reads (unmade.cause ends.some) unmade.kept ends.gives ends.rest ends.counts

pub leaves_unmade : (command : Meaning) (before mid now : ShelfState) (why s : Status) → ReadsInputs command before mid → EndsUnmade why mid now s → Leaves command before now
leaves_unmade command before mid now why s reads (inl (none, same, still)) =
    subst (Leaves command before) (sym still) (record { files = reads.files; left = reads.left; outputs = λ name other. reads.outputs name; counts = reads.counts })
leaves_unmade command before mid now why s reads (inr ends) = leaves_refused command before mid now reads ends.rest ends.counts

pub answers_ended : (command : Meaning) → IsSound command → (made : Result ReportAndTape Status) (before mid now : ShelfState) (s : Status) → IfOk made (IsMade command before mid)
    → IfErr made (IsUnmade command before mid) → ReadsInputs command before mid → EndsAt command.output made mid now s → QuietAnswers command before now s
answers_ended command sound (Ok given) before mid now s made unmade reads ends = answers_made command given before mid now s made reads ends.gives ends.rest
answers_ended command sound (Err why) before mid now s made unmade reads ends = answers_unmade command sound before mid now why s unmade reads ends

pub leaves_ended : (command : Meaning) (made : Result ReportAndTape Status) (before mid now : ShelfState) (s : Status) → ReadsInputs command before mid → EndsAt command.output made mid now s
    → Leaves command before now
leaves_ended command (Ok given) before mid now s reads ends = record {
  files = λ name. ends.rest.files name ∙ reads.files name;
  left = λ name other. ends.rest.left name ∙ reads.left name other;
  outputs = λ name other. ends.rest.outputs name other ∙ reads.outputs name;
  counts = falls_twice before.faults mid.faults now.faults reads.counts ends.counts;
}
leaves_ended command (Err why) before mid now s reads ends = leaves_unmade command before mid now why s reads ends

-- ---- a failed call of the air

same_refusal : (why s : Status) (before now : ShelfState) (at : ℕ) → Refuses why before now s → s ≡ status.AirFault at → why ≡ status.AirFault at
same_refusal why s before now at (inl h) is = sym h.0 ∙ is
same_refusal why s before now at (inr h) is = cc (h.0, is)

not_given : (output : Option (List ℕ)) (given : ReportAndTape) (mid now : ShelfState) (s : Status) (at : ℕ) → Delivers output given mid now s → s ≡ status.AirFault at → ⊥
unfolding Delivers
not_given output given mid now s at h is = subst (Delivers output given mid now) is h

unmade_air : (why s : Status) (mid now : ShelfState) (at : ℕ) → EndsUnmade why mid now s → s ≡ status.AirFault at → why ≡ status.AirFault at
unmade_air why s mid now at (inl h) is = let same = h.1 in cc (same, is)
unmade_air why s mid now at (inr ends) is = same_refusal why s mid now at ends.gives is

-- It is told only if nothing was made for that reason: then what holds of that reason holds.
pub air_ended : {P : Type 0} (output : Option (List ℕ)) (made : Result ReportAndTape Status) (mid now : ShelfState) (s : Status) → IfErr made (λ why. (at : ℕ) → why ≡ status.AirFault at → P)
    → EndsAt output made mid now s → (at : ℕ) → s ≡ status.AirFault at → P
air_ended output (Ok given) mid now s holds ends at is = absurd (not_given output given mid now s at ends.gives is)
air_ended output (Err why) mid now s holds ends at is = holds at (unmade_air why s mid now at ends is)

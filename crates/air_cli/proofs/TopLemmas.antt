-- What the top calls answer, by the facts of the command that the words ask for.
use Rattle.std.proofs.Common.{◌≡◌, ℕ, List, Option, Some, refl, ap, sym, ◌∙◌, subst, inl, inr}
use Rattle.air_devices.specs.Ears.{EarState}
use Rattle.air_devices.specs.Masts.{MastState}
use Rattle.air_devices.specs.Shelves.{ShelfState}
use Rattle.air_report.specs.declared.status.Status.{Status}
use Rattle.air_report.specs.declared.status.Status.TheVariants as status
use Rattle.air_cli.specs.ReportsAndTapes.{ReportAndTape, given_status}
use Rattle.air_cli.specs.Deliveries.{IsGiven}
use Rattle.air_cli.specs.Words.{Request, AsksCast, AsksListen, AsksRun, asked_of}
use Rattle.air_cli.specs.OnAir.{words_meaning}
use Rattle.air_cli.specs.Meanings.{Meaning}
use Rattle.air_cli.specs.Commands.{quiet_meaning}
use Rattle.air_cli.specs.ToldInputs.{IsDecided, TellSameInputs}
use Rattle.air_cli.specs.Answers.{Completes, IsDone, IsSuccess, QuietAnswers}
use Rattle.air_cli.proofs.InputLemmas.{GivesOne, GoesByInputs}
use Rattle.air_cli.proofs.CommandLemmas.{quiet_facts, quiet_one, words_facts}

-- An answer that is no refusal, or one that can't be given.
completes : (command : Meaning) → GoesByInputs command → (before now : ShelfState) (s : Status) → QuietAnswers command before now s → Completes command before now s
unfolding QuietAnswers
completes command by before now status.Ok h told suits calm = inl (h.gives.0, h.gives.1, h.gives.2)
completes command by before now status.Differs h told suits calm = inl (h.gives.0, h.gives.1, h.gives.2)
completes command by before now status.NoMemory h told suits calm = inr refl
completes command by before now status.WriteFault (inl failed) told suits calm = absurd (calm.writing failed.name failed.rose)
completes command by before now status.WriteFault (inr failed) told suits calm = absurd (calm.printing failed.rose)
completes command by before now s h told suits calm = inr (by.fits before now s told suits calm h.0)

pub quiet_complete : (asked : Option Request) (before now : ShelfState) (s : Status) → QuietAnswers (quiet_meaning asked) before now s → Completes (quiet_meaning asked) before now s
quiet_complete asked = completes (quiet_meaning asked) (quiet_facts asked).inputs

-- The same with a mast and an ear.
pub words_complete : (asked : Option Request) (mast mast_now : MastState) (ear ear_now : EarState) (before now : ShelfState) (s : Status)
    → QuietAnswers (words_meaning asked mast mast_now ear ear_now) before now s → Completes (words_meaning asked mast mast_now ear ear_now) before now s
words_complete asked mast mast_now ear ear_now = completes (words_meaning asked mast mast_now ear ear_now) (words_facts asked mast mast_now ear ear_now).inputs

-- What a call that succeeded says, with either status.
pub done : (command : Meaning) (before now : ShelfState) (s : Status) → IsSuccess s → QuietAnswers command before now s → IsDone command before now s
unfolding QuietAnswers
done command before now s (inl good) h = subst (λ s. QuietAnswers command before now s → IsDone command before now s) (sym good) (λ h. h) h
done command before now s (inr good) h = subst (λ s. QuietAnswers command before now s → IsDone command before now s) (sym good) (λ h. h) h

-- Two calls of one command that succeeded gave one text and tape, with one status.
abbrev GaveOne : Meaning → ShelfState → ShelfState → ShelfState → ShelfState → Status → Status → Type 0
GaveOne command before now before2 now2 s s2 = (s ≡ s2) × ((given : ReportAndTape) × IsGiven command.output given before now × IsGiven command.output given before2 now2)

one_given : (command : Meaning) → GivesOne command → (before now before2 now2 : ShelfState) (s s2 : Status) → TellSameInputs command before before2
    → IsSuccess s → IsSuccess s2 → QuietAnswers command before now s → QuietAnswers command before2 now2 s2 → GaveOne command before now before2 now2 s s2
one_given command by before now before2 now2 s s2 same good good2 first second =
    let a = (done command before now s good first).gives in
    let b = (done command before2 now2 s2 good2 second).gives in
    let e : a.0 ≡ b.0 = by.one before before2 a.0 b.0 same a.1 b.1 in (
      a.2 ∙ ap (λ given. given_status given.differs) e ∙ sym b.2,
      (a.0, a.3, subst (λ given. IsGiven command.output given before2 now2) (sym e) b.3),
    )

pub quiet_given : (words : List (List ℕ)) (before now before2 now2 : ShelfState) (s s2 : Status) → TellSameInputs (quiet_meaning (asked_of words)) before before2
    → IsSuccess s → IsSuccess s2 → QuietAnswers (quiet_meaning (asked_of words)) before now s → QuietAnswers (quiet_meaning (asked_of words)) before2 now2 s2
    → GaveOne (quiet_meaning (asked_of words)) before now before2 now2 s s2
quiet_given words = one_given (quiet_meaning (asked_of words)) (quiet_one (asked_of words))

-- What the inputs decide means the same over every mast and ear: what it means without them.
means_quietly : (asked : Option Request) (mast mast_now : MastState) (ear ear_now : EarState) → IsDecided asked → words_meaning asked mast mast_now ear ear_now ≡ quiet_meaning asked
means_quietly (Some (AsksRun deck tape)) mast mast_now ear ear_now decided = absurd decided
means_quietly (Some (AsksCast deck port)) mast mast_now ear ear_now decided = absurd decided
means_quietly (Some (AsksListen deck port)) mast mast_now ear ear_now decided = absurd decided
means_quietly other mast mast_now ear ear_now decided = refl

pub words_given : (words : List (List ℕ)) (mast mast_now mast2 mast_now2 : MastState) (ear ear_now ear2 ear_now2 : EarState) (before now before2 now2 : ShelfState) (s s2 : Status)
    → IsDecided (asked_of words) → TellSameInputs (words_meaning (asked_of words) mast mast_now ear ear_now) before before2 → IsSuccess s → IsSuccess s2
    → QuietAnswers (words_meaning (asked_of words) mast mast_now ear ear_now) before now s → QuietAnswers (words_meaning (asked_of words) mast2 mast_now2 ear2 ear_now2) before2 now2 s2
    → GaveOne (words_meaning (asked_of words) mast mast_now ear ear_now) before now before2 now2 s s2
words_given words mast mast_now mast2 mast_now2 ear ear_now ear2 ear_now2 before now before2 now2 s s2 decided same good good2 first second =
    let asked = asked_of words in
    let a = means_quietly asked mast mast_now ear ear_now decided in
    let b = means_quietly asked mast2 mast_now2 ear2 ear_now2 decided in
    let one = subst (λ meaning. QuietAnswers meaning before now s) a first in
    let two = subst (λ meaning. QuietAnswers meaning before2 now2 s2) b second in
    subst (λ meaning. GaveOne meaning before now before2 now2 s s2) (sym a)
    (one_given (quiet_meaning asked) (quiet_one asked) before now before2 now2 s s2 (subst (λ meaning. TellSameInputs meaning before before2) a same) good good2 one two)

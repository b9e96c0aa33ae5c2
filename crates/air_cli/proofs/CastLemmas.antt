-- What the proofs of `cast` need of its definitions.
use Rattle.std.proofs.Common.{◌≡◌, ◌≢◌, ℕ, ◌≤◌, List, Result, Err, Some, refl, sym, ap, subst, inl, inr, arith}
use Rattle.std.specs.Prelude.{◌⊎◌}
use Rattle.air_base.specs.declared.limits.TheConstants.{MOST_TAPE_BYTES}
use Rattle.deck_runs.specs.Casts.{FailsFirst, IsCastAnswer, all_sent}
use Rattle.air_devices.specs.Counts.{NoCountFalls, Rose}
use Rattle.air_devices.specs.Masts.{Changes, MastState}
use Rattle.air_devices.specs.Shelves.{ShelfState}
use Rattle.air_devices.specs.Unchanged.{KeepsButPrinted}
use Rattle.air_model.specs.Decks.{Deck, IsDeck}
use Rattle.item_catalog.specs.DeckLimits.{WithinLimits}
use Rattle.air_model.specs.Outputs.{cast_output}
use Rattle.air_sender.specs.AiredBytes.{aired_bytes}
use Rattle.deck_runs.specs.declared.threads.RunFault.{RunFault}
use Rattle.deck_runs.specs.declared.threads.RunFault.TheVariants as fault
use Rattle.air_report.specs.declared.status.Status.{Status}
use Rattle.air_report.specs.declared.status.Status.TheVariants as status
use Rattle.deck_runs.specs.RunTapes.{run_tape_len}
use Rattle.deck_runs.specs.RunTruths.{IsTrueRun, TellsHistory}
use Rattle.chunk_program.specs.Plans.{AreShort}
use Rattle.air_cli.specs.NamedDecks.{DeckCause, HasDeck, SpellsDeck}
use Rattle.air_cli.proofs.CauseLemmas.{of_had}
use Rattle.air_cli.specs.NamedFiles.{UnreadCause}
use Rattle.air_cli.specs.RunnableDecks.{UnrunnableCause}
use Rattle.air_model.specs.Runs.{IsRun, Run}
use Rattle.air_cli.specs.Answers.{NoCountRose}
use Rattle.air_cli.specs.Cast.{CastCause, HasSent, IsCast, IsCastRefusal, cast_meaning}
use Rattle.air_cli.specs.Words.{AsksCast}
use Rattle.air_cli.specs.OnAir.{LeavesMast}
use Rattle.air_cli.specs.Run.{CanRun, RunCause}
use Rattle.air_cli.specs.Private.Airing.{cast_status}
use Rattle.air_cli.specs.ToldInputs.{TellsInputs}
use Rattle.air_cli.proofs.AnswerLemmas.{only_text}
use Rattle.air_cli.proofs.InputLemmas.{CommandFacts}
use Rattle.air_cli.proofs.RefusalLemmas.{IsSound}
use Rattle.air_cli.proofs.RunMeaningLemmas.{run_fits, run_still, unrunnable_run}

-- ---- why it is refused

-- A deck that can't be run isn't cast.
pub unrunnable_cast : (deck : List ℕ) (to : ℕ) (mast : MastState) (before now : ShelfState) (s : Status) → UnrunnableCause deck before now s → CastCause deck to mast mast before now s
unfolding CastCause RunCause UnrunnableCause DeckCause UnreadCause
unrunnable_cast deck to mast before now (status.AirFault at) h = absurd h
unrunnable_cast deck to mast before now s h = (unrunnable_run deck before now s h, refl)

-- A deck whose tape would be too long isn't cast either; and a mast may fail.
pub refused_cast : (deck : List ℕ) (to : ℕ) (old new : MastState) (before now : ShelfState) (d : Deck) (s : Status) → SpellsDeck deck before d → IsDeck d × WithinLimits d → AreShort d
    → IsCastRefusal d to old new s → s ≢ status.NoMemory → CastCause deck to old new before now s
unfolding CastCause RunCause UnrunnableCause DeckCause UnreadCause IsCastRefusal
refused_cast deck to old new before now d (status.TooLong bytes) spells made short h some = ((d, spells, made, (short, h.0.counted, h.0.above)), h.1)
refused_cast deck to old new before now d (status.AirFault at) spells made short h some = (d, spells, made, ((short, h.0), h.1))
refused_cast deck to old new before now d status.NoMemory spells made short h some = absurd (some refl)
refused_cast deck to old new before now d s spells made short h some = absurd h

-- Out of memory, the mast has not failed.
pub calm_cast : (d : Deck) (to : ℕ) (before now : MastState) (s : Status) → IsCastRefusal d to before now s → s ≡ status.NoMemory → now.faults ≡ before.faults
unfolding IsCastRefusal
calm_cast d to before now status.NoMemory h none = h
calm_cast d to before now s h none = absurd (cc none)

cast_still : (deck : List ℕ) (to : ℕ) (old new : MastState) (before mid now : ShelfState) (s : Status) → KeepsButPrinted mid.told now.told → NoCountFalls mid.faults now.faults
    → CastCause deck to old new before mid s → CastCause deck to old new before now s
unfolding CastCause
cast_still deck to old new before mid now (status.AirFault at) rest counts h = h
cast_still deck to old new before mid now s rest counts h = (run_still deck before mid now s rest counts h.0, h.1)

pub cast_sound : (deck : List ℕ) (to : ℕ) (old new : MastState) → IsSound (cast_meaning deck to old new)
unfolding CastCause RunCause UnrunnableCause DeckCause UnreadCause
cast_sound deck to old new = record {
  still = cast_still deck to old new;
  not_done = λ before now h. h.0;
  not_different = λ before now h. h.0;
  not_failed = λ before now h. h.0;
  input = λ before now h. record { name = deck; named = refl; rose = h.0 };
}

cast_fits : (deck : List ℕ) (to : ℕ) (old new : MastState) (before now : ShelfState) (s : Status) → TellsInputs (cast_meaning deck to old new) before
    → HasDeck deck before CanRun × (Rose old.faults new.faults → ⊥) → NoCountRose before.faults now.faults → CastCause deck to old new before now s → s ≡ status.NoMemory
unfolding CastCause
cast_fits deck to old new before now (status.AirFault at) told suits calm h = let broken = h.3.1 in absurd (suits.1 broken.rose)
cast_fits deck to old new before now s told suits calm h = run_fits deck deck before now s told (of_had deck before CanRun suits.0) calm h.0

pub cast_facts : (deck : List ℕ) (to : ℕ) (old new : MastState) → CommandFacts (cast_meaning deck to old new)
cast_facts deck to old new = record {
  sound = cast_sound deck to old new;
  inputs = record { fits = cast_fits deck to old new };
}

-- ---- what was sent

-- A count that went up didn't go down.
pub rose_later : (before now : ℕ) → Rose before now → before ≤ now
rose_later before now (inl less) = omega arith
rose_later before now (inr last) = let stays = last.1 in omega arith

-- A run that was cast sent all.
pub all_cast : (d : Deck) (to : ℕ) (before now : MastState) (run : Run) → IsRun d run → Changes (λ _. all_sent (aired_bytes d run.history)) before.told now.told
    → now.faults ≡ before.faults → now.port ≡ Some to → HasSent d to before now
all_cast d to before now run is sent calm port = record { sent = inr (run.history, is.whole, sent, calm); later = omega (arith, calm); port = port }

-- A run that wasn't cast sent the first buckets of a whole history.
pub part_cast : (d : Deck) (to : ℕ) (before now : MastState) (f : RunFault) → IsCastAnswer d before now f → now.port ≡ Some to → HasSent d to before now
part_cast d to before now (fault.Mast at) h port = record { sent = inl (at, h.1); later = rose_later before.faults now.faults h.0; port = port }
part_cast d to before now fault.NoMemory h port = record { sent = inl h.1; later = omega (arith, h.0); port = port }

-- Why a run wasn't cast.
pub fault_refused : (d : Deck) (to : ℕ) (before now : MastState) (f : RunFault) → run_tape_len d ≤ MOST_TAPE_BYTES → IsCastAnswer d before now f → now.port ≡ Some to
    → IsCastRefusal d to before now (cast_status f)
unfolding IsCastRefusal
fault_refused d to before now (fault.Mast at) few h port = (few, record { rose = h.0; sent = h.1; port = port })
fault_refused d to before now fault.NoMemory few h port = h.0

-- What a cast leaves of the mast.
pub leaves_cast : (deck : List ℕ) (to : ℕ) (shelf : ShelfState) (before now : MastState) (d : Deck) → SpellsDeck deck shelf d → IsDeck d × WithinLimits d
    → (now ≡ before) ⊎ HasSent d to before now → LeavesMast (Some (AsksCast deck to)) shelf before now
leaves_cast deck to shelf before now d spells made (inl same) = inl same
leaves_cast deck to shelf before now d spells made (inr sent) = inr (d, spells, made, sent)

-- ---- the first failure

-- A deck that can't be run isn't refused for the air.
pub no_air : {P : Type 0} (deck : List ℕ) (before now : ShelfState) (s : Status) → UnrunnableCause deck before now s → (at : ℕ) → s ≡ status.AirFault at → P
unfolding UnrunnableCause DeckCause UnreadCause
no_air deck before now s cause at is = absurd (subst (UnrunnableCause deck before now) is cause)

-- The status tells the first failure that the run's fault tells.
pub cast_first : {M T : Type 0} (state : M → MastState) (old new : M) (r : Result T RunFault) (f : RunFault) → r ≡ Err f → ((sent : ℕ) → r ≡ Err (fault.Mast sent) → FailsFirst state old new)
    → (at : ℕ) → cast_status f ≡ status.AirFault at → FailsFirst state old new
cast_first state old new r (fault.Mast sent) is first at same = first sent is
cast_first state old new r fault.NoMemory is first at same = cc

-- ---- what it gives

pub is_cast : (d : Deck) (to : ℕ) (before now : MastState) (text : List ℕ) (run : Run) → IsRun d run
    → IsTrueRun d run × TellsHistory d run.history (cast_output run.history run.glances run.looks) → text ≡ cast_output run.history run.glances run.looks
    → Changes (λ _. all_sent (aired_bytes d run.history)) before.told now.told → now.faults ≡ before.faults → now.port ≡ Some to → IsCast d to before now (only_text text) run
is_cast d to before now text run is true same sent calm port = record {
  run_is = is;
  true_is = true.0;
  given_is = ap only_text same;
  told = subst (TellsHistory d run.history) (sym same) true.1;
  sent = sent;
  calm = calm;
  port = port;
}

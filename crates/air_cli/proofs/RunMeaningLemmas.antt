-- What the proofs of `run` need of its definitions.
use Rattle.std.specs.Prelude.{◌<◌}
use Rattle.std.proofs.Common.{◌≡◌, ℕ, ◌≤◌, List, refl, arith}
use Rattle.air_base.specs.declared.limits.TheConstants.{MOST_TAPE_BYTES}
use Rattle.air_devices.specs.Counts.{NoCountFalls}
use Rattle.air_devices.specs.Unchanged.{KeepsButPrinted}
use Rattle.air_devices.specs.Shelves.{ShelfState}
use Rattle.air_report.specs.declared.status.Status.{Status}
use Rattle.air_report.specs.declared.status.Status.TheVariants as status
use Rattle.air_model.specs.Decks.{Deck, IsDeck}
use Rattle.item_catalog.specs.DeckLimits.{WithinLimits}
use Rattle.chunk_program.specs.Plans.{AreShort}
use Rattle.air_cli.specs.NamedDecks.{DeckCause, SpellsDeck}
use Rattle.air_cli.specs.NamedFiles.{UnreadCause}
use Rattle.air_cli.specs.RunnableDecks.{UnrunnableCause}
use Rattle.air_cli.proofs.CauseLemmas.{OfDeck, of_had, where_so}
use Rattle.air_cli.specs.GivenRuns.{IsRunRefusal}
use Rattle.deck_runs.specs.RunTapes.{run_tape_len}
use Rattle.air_cli.specs.Answers.{NoCountRose}
use Rattle.air_cli.specs.Run.{CanRun, RunCause, run_meaning}
use Rattle.air_cli.specs.ToldInputs.{TellsInputs}
use Rattle.air_cli.proofs.InputLemmas.{CommandFacts, both, runs_fits}
use Rattle.air_cli.proofs.RefusalLemmas.{IsSound, unrunnable_still}

-- A deck that can't be run has no run.
pub unrunnable_run : (name : List ℕ) (before now : ShelfState) (s : Status) → UnrunnableCause name before now s → RunCause name before now s
unfolding RunCause UnrunnableCause DeckCause UnreadCause
unrunnable_run name before now (status.TooLong bytes) h = absurd h
unrunnable_run name before now s h = h

-- A deck whose tape would be too long has no run either.
pub long_run_cause : (name : List ℕ) (before now : ShelfState) (d : Deck) (s : Status) → SpellsDeck name before d → IsDeck d × WithinLimits d → AreShort d → IsRunRefusal d s → RunCause name before now s
unfolding RunCause UnrunnableCause DeckCause UnreadCause IsRunRefusal
long_run_cause name before now d (status.TooLong bytes) spells made short h = (d, spells, made, (short, h.counted, h.above))
long_run_cause name before now d status.NoMemory spells made short h = tt
long_run_cause name before now d s spells made short h = absurd h

pub run_still : (name : List ℕ) (before mid now : ShelfState) (s : Status) → KeepsButPrinted mid.told now.told → NoCountFalls mid.faults now.faults → RunCause name before mid s → RunCause name before now s
unfolding RunCause
run_still name before mid now (status.TooLong bytes) rest counts h = h
run_still name before mid now s rest counts h = unrunnable_still name before mid now s rest counts h

pub run_sound : (deck tape : List ℕ) → IsSound (run_meaning deck tape)
unfolding RunCause UnrunnableCause DeckCause UnreadCause
run_sound deck tape = record {
  still = run_still deck;
  not_done = λ before now h. h;
  not_different = λ before now h. h;
  not_failed = λ before now h. h;
  input = λ before now h. record { name = deck; named = refl; rose = h };
}

-- ---- what its input decides

-- A run's tape isn't both short enough and too long.
abbrev LongRun : ℕ → Deck → Type 0
LongRun bytes d = AreShort d × (bytes ≡ run_tape_len d) × (MOST_TAPE_BYTES < bytes)

not_both : (d : Deck) (bytes : ℕ) → run_tape_len d ≤ MOST_TAPE_BYTES → LongRun bytes d → ⊥
not_both d bytes few long = let same = long.1 in let above = long.2 in omega arith

can_run : (deck : List ℕ) (before : ShelfState) → OfDeck deck before CanRun → OfDeck deck before AreShort
can_run deck before suits = where_so (before.told.file deck) _ _ (λ bytes h. (h.0, (h.1.0, h.1.1, h.1.2.0))) suits

pub run_fits : (deck tape : List ℕ) (before now : ShelfState) (s : Status) → TellsInputs (run_meaning deck tape) before → OfDeck deck before CanRun
    → NoCountRose before.faults now.faults → RunCause deck before now s → s ≡ status.NoMemory
unfolding RunCause
run_fits deck tape before now (status.TooLong bytes) told suits calm h =
    let known = told deck refl in
    let two = both deck before known.0 CanRun (LongRun bytes) known.1 suits (of_had deck before (LongRun bytes) h) in
    absurd (not_both two.0 bytes two.1.1 two.2)
run_fits deck tape before now s told suits calm h =
    let known = told deck refl in
    runs_fits deck before now s known.0 known.1 (can_run deck before suits) calm h

pub run_facts : (deck tape : List ℕ) → CommandFacts (run_meaning deck tape)
run_facts deck tape = record { sound = run_sound deck tape; inputs = record { fits = λ before now s told suits. run_fits deck tape before now s told (of_had deck before CanRun suits) } }

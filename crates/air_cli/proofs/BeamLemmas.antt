-- What the proofs of `beam` need of its definitions.
use Rattle.std.specs.Prelude.{◌<◌}
use Rattle.std.proofs.Common.{◌≡◌, ℕ, ◌≤◌, List, length, refl, sym, ap, ◌∙◌, arith}
use Rattle.air_base.specs.declared.limits.TheConstants.{MOST_TAPE_BYTES}
use Rattle.air_devices.specs.Counts.{NoCountFalls}
use Rattle.air_devices.specs.Unchanged.{KeepsButPrinted}
use Rattle.air_devices.specs.Shelves.{ShelfState}
use Rattle.air_index.specs.IndexedTapes.{beam_tape_of}
use Rattle.air_model.specs.Decks.{Deck}
use Rattle.air_report.specs.declared.status.Status.{Status}
use Rattle.air_report.specs.declared.status.Status.TheVariants as status
use Rattle.item_catalog.proofs.GrammarLemmas.{one_deck}
use Rattle.chunk_program.specs.Plans.{AreShort}
use Rattle.air_cli.specs.Answers.{NoCountRose}
use Rattle.air_cli.specs.Beam.{BeamCause, BeamGives, beam_given, beam_meaning}
use Rattle.air_cli.specs.NamedDecks.{DeckCause}
use Rattle.air_cli.specs.NamedFiles.{UnreadCause}
use Rattle.air_cli.specs.ReportsAndTapes.{ReportAndTape}
use Rattle.air_cli.specs.RunnableDecks.{UnrunnableCause}
use Rattle.air_cli.specs.ToldInputs.{TellSameInputs, TellsInputs}
use Rattle.air_cli.proofs.CauseLemmas.{OfDeck, of_had, where_so}
use Rattle.air_cli.proofs.InputLemmas.{CommandFacts, both, deck_told, runs_fits}
use Rattle.air_cli.proofs.RefusalLemmas.{IsSound, unrunnable_still}

-- ---- why it is refused

-- The script of a deck that can't be run isn't beamed.
pub unrunnable_beam : (name : List ℕ) (before now : ShelfState) (s : Status) → UnrunnableCause name before now s → BeamCause name before now s
unfolding BeamCause UnrunnableCause DeckCause UnreadCause
unrunnable_beam name before now (status.TooLong bytes) h = absurd h
unrunnable_beam name before now s h = h

beam_still : (name : List ℕ) (before mid now : ShelfState) (s : Status) → KeepsButPrinted mid.told now.told → NoCountFalls mid.faults now.faults → BeamCause name before mid s → BeamCause name before now s
unfolding BeamCause
beam_still name before mid now (status.TooLong bytes) rest counts h = h
beam_still name before mid now s rest counts h = unrunnable_still name before mid now s rest counts h

beam_sound : (deck tape : List ℕ) → IsSound (beam_meaning deck tape)
unfolding BeamCause UnrunnableCause DeckCause UnreadCause
beam_sound deck tape = record {
  still = beam_still deck;
  not_done = λ before now h. h;
  not_different = λ before now h. h;
  not_failed = λ before now h. h;
  input = λ before now h. record { name = deck; named = refl; rose = h };
}

-- ---- what its input decides

-- A deck that can be run, and whose indexed tape is short enough.
abbrev HasShortBeam : Deck → Type 0
HasShortBeam d = AreShort d × (length (beam_tape_of d) ≤ MOST_TAPE_BYTES)

abbrev HasLongBeam : ℕ → Deck → Type 0
HasLongBeam bytes d = AreShort d × (bytes ≡ length (beam_tape_of d)) × (MOST_TAPE_BYTES < bytes)

-- No indexed tape is both.
long_beam : (d : Deck) (bytes : ℕ) → length (beam_tape_of d) ≤ MOST_TAPE_BYTES → HasLongBeam bytes d → ⊥
long_beam d bytes few long = let counted = long.1 in let above = long.2 in omega arith

beam_runs : (deck : List ℕ) (before : ShelfState) → OfDeck deck before HasShortBeam → OfDeck deck before AreShort
beam_runs deck before suits = where_so (before.told.file deck) _ _ (λ bytes h. (h.0, (h.1.0, h.1.1, h.1.2.0))) suits

beam_fits : (deck tape : List ℕ) (before now : ShelfState) (s : Status) → TellsInputs (beam_meaning deck tape) before → OfDeck deck before HasShortBeam → NoCountRose before.faults now.faults
    → BeamCause deck before now s → s ≡ status.NoMemory
unfolding BeamCause
beam_fits deck tape before now (status.TooLong bytes) told suits calm h =
    let known = told deck refl in
    let two = both deck before known.0 HasShortBeam (HasLongBeam bytes) known.1 suits (of_had deck before (HasLongBeam bytes) h) in
    absurd (long_beam two.0 bytes two.1.1 two.2)
beam_fits deck tape before now s told suits calm h =
    let known = told deck refl in
    runs_fits deck before now s known.0 known.1 (beam_runs deck before suits) calm h

pub beam_one : (deck tape : List ℕ) (before other : ShelfState) (a b : ReportAndTape) → TellSameInputs (beam_meaning deck tape) before other → BeamGives deck before a → BeamGives deck other b → a ≡ b
unfolding BeamGives
beam_one deck tape before other a b same first second =
    let told = same deck refl in
    let x = deck_told deck before told.0 (λ d. AreShort d × (length (beam_tape_of d) ≤ MOST_TAPE_BYTES) × (a ≡ beam_given d)) told.1 (of_had deck before _ first.1) in
    let y = deck_told deck other told.0 (λ d. AreShort d × (length (beam_tape_of d) ≤ MOST_TAPE_BYTES) × (b ≡ beam_given d)) told.2 (of_had deck other _ second.1) in
    x.1.2.2 ∙ ap beam_given (one_deck told.0 x.1.0 y.1.0 x.1.1 y.1.1) ∙ sym y.1.2.2

pub beam_facts : (deck tape : List ℕ) → CommandFacts (beam_meaning deck tape)
beam_facts deck tape = record { sound = beam_sound deck tape; inputs = record { fits = λ before now s told suits. beam_fits deck tape before now s told (of_had deck before HasShortBeam suits) } }

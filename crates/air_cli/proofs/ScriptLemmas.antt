-- What the proofs of `script` need of its definitions.
use Rattle.std.specs.Prelude.{◌<◌}
use Rattle.std.proofs.Common.{◌≡◌, ℕ, ◌≤◌, List, length, Option, None, refl, sym, ap, ◌∙◌, arith}
use Rattle.air_base.specs.declared.limits.TheConstants.{MOST_TAPE_BYTES}
use Rattle.air_devices.specs.Counts.{NoCountFalls}
use Rattle.air_devices.specs.Unchanged.{KeepsButPrinted}
use Rattle.air_devices.specs.Shelves.{ShelfState}
use Rattle.air_report.specs.declared.status.Status.{Status}
use Rattle.air_report.specs.declared.status.Status.TheVariants as status
use Rattle.item_catalog.proofs.GrammarLemmas.{one_deck}
use Rattle.chunk_program.specs.Plans.{AreShort}
use Rattle.air_cli.specs.Private.BeforeDelivery.{IsMade, IsUnmade, ReadsInputs}
use Rattle.air_cli.specs.ReportsAndTapes.{ReportAndTape}
use Rattle.air_cli.specs.NamedDecks.{DeckCause}
use Rattle.air_cli.specs.RunnableDecks.{UnrunnableCause}
use Rattle.air_cli.specs.NamedFiles.{UnreadCause}
use Rattle.air_cli.specs.Script.{ScriptCause, script_meaning}
use Rattle.air_cli.proofs.RefusalLemmas.{IsSound, unrunnable_still}
use Rattle.air_cli.proofs.CauseLemmas.{OfDeck, of_had, where_so}
use Rattle.air_model.specs.Decks.{Deck}
use Rattle.air_model.specs.Outputs.{script_tape}
use Rattle.air_cli.specs.Script.{ScriptGives}
use Rattle.air_cli.specs.Truths.{IsTrueScript}
use Rattle.air_cli.specs.ToldInputs.{TellSameInputs, TellsInputs}
use Rattle.air_cli.specs.Answers.{NoCountRose}
use Rattle.air_cli.specs.Private.GivenTexts.{script_given}
use Rattle.air_cli.proofs.InputLemmas.{CommandFacts, both, deck_told, runs_fits}

-- The script of a deck that can't be run isn't run.
pub unrunnable_script : (name : List ℕ) (before now : ShelfState) (s : Status) → UnrunnableCause name before now s → ScriptCause name before now s
unfolding ScriptCause UnrunnableCause DeckCause UnreadCause
unrunnable_script name before now (status.TooLong bytes) h = absurd h
unrunnable_script name before now s h = h

script_still : (name : List ℕ) (before mid now : ShelfState) (s : Status) → KeepsButPrinted mid.told now.told → NoCountFalls mid.faults now.faults → ScriptCause name before mid s → ScriptCause name before now s
unfolding ScriptCause
script_still name before mid now (status.TooLong bytes) rest counts h = h
script_still name before mid now s rest counts h = unrunnable_still name before mid now s rest counts h

script_sound : (deck : List ℕ) (tape : Option (List ℕ)) → IsSound (script_meaning deck tape)
unfolding ScriptCause UnrunnableCause DeckCause UnreadCause
script_sound deck tape = record {
  still = script_still deck;
  not_done = λ before now h. h;
  not_different = λ before now h. h;
  not_failed = λ before now h. h;
  input = λ before now h. record { name = deck; named = refl; rose = h };
}

-- What is made doesn't depend on the output that is named.
pub made_for : (deck : List ℕ) (tape : Option (List ℕ)) (before now : ShelfState) (given : ReportAndTape) → IsMade (script_meaning deck None) before now given → IsMade (script_meaning deck tape) before now given
made_for deck tape before now given h = record { gives = h.gives; read = h.read; calm = h.calm }

pub unmade_for : (deck : List ℕ) (tape : Option (List ℕ)) (before now : ShelfState) (s : Status) → IsUnmade (script_meaning deck None) before now s → IsUnmade (script_meaning deck tape) before now s
unmade_for deck tape before now s h = record { cause = h.cause; kept = h.kept }

pub reads_for : (deck : List ℕ) (tape : Option (List ℕ)) (before now : ShelfState) → ReadsInputs (script_meaning deck None) before now → ReadsInputs (script_meaning deck tape) before now
reads_for deck tape before now h = record { files = h.files; left = h.left; outputs = h.outputs; printed = h.printed; counts = h.counts }

-- ---- what its input decides

-- A script's tape isn't both short enough and too long.
abbrev LongTape : ℕ → Deck → Type 0
LongTape bytes d = AreShort d × (bytes ≡ length (script_tape d)) × (MOST_TAPE_BYTES < bytes)

long_tape : (d : Deck) (bytes : ℕ) → length (script_tape d) ≤ MOST_TAPE_BYTES → LongTape bytes d → ⊥
long_tape d bytes few long = let counted = long.1 in let above = long.2 in omega arith

script_runs : (deck : List ℕ) (before : ShelfState) → OfDeck deck before (λ d. AreShort d × (length (script_tape d) ≤ MOST_TAPE_BYTES)) → OfDeck deck before AreShort
script_runs deck before suits = where_so (before.told.file deck) _ _ (λ bytes h. (h.0, (h.1.0, h.1.1, h.1.2.0))) suits

script_fits : (deck : List ℕ) (tape : Option (List ℕ)) (before now : ShelfState) (s : Status) → TellsInputs (script_meaning deck tape) before
    → OfDeck deck before (λ d. AreShort d × (length (script_tape d) ≤ MOST_TAPE_BYTES)) → NoCountRose before.faults now.faults → ScriptCause deck before now s → s ≡ status.NoMemory
unfolding ScriptCause
script_fits deck tape before now (status.TooLong bytes) told suits calm h =
    let known = told deck refl in
    let two = both deck before known.0 (λ d. AreShort d × (length (script_tape d) ≤ MOST_TAPE_BYTES)) (LongTape bytes) known.1 suits (of_had deck before (LongTape bytes) h) in
    absurd (long_tape two.0 bytes two.1.1 two.2)
script_fits deck tape before now s told suits calm h =
    let known = told deck refl in
    runs_fits deck before now s known.0 known.1 (script_runs deck before suits) calm h

pub script_one : (deck : List ℕ) (tape : Option (List ℕ)) (before other : ShelfState) (a b : ReportAndTape) → TellSameInputs (script_meaning deck tape) before other
    → ScriptGives deck before a → ScriptGives deck other b → a ≡ b
unfolding ScriptGives
script_one deck tape before other a b same first second =
    let told = same deck refl in
    let x = deck_told deck before told.0 (λ d. AreShort d × (length (script_tape d) ≤ MOST_TAPE_BYTES) × IsTrueScript d × (a ≡ script_given d)) told.1 (of_had deck before _ first.1) in
    let y = deck_told deck other told.0 (λ d. AreShort d × (length (script_tape d) ≤ MOST_TAPE_BYTES) × IsTrueScript d × (b ≡ script_given d)) told.2 (of_had deck other _ second.1) in
    x.1.2.3 ∙ ap script_given (one_deck told.0 x.1.0 y.1.0 x.1.1 y.1.1) ∙ sym y.1.2.3

pub script_facts : (deck : List ℕ) (tape : Option (List ℕ)) → CommandFacts (script_meaning deck tape)
script_facts deck tape = record { sound = script_sound deck tape; inputs = record { fits = λ before now s told suits. script_fits deck tape before now s told (of_had deck before (λ d. AreShort d × (length (script_tape d) ≤ MOST_TAPE_BYTES)) suits) } }

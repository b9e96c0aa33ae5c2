-- What the proofs of `plan` need of its definitions.
use Rattle.std.proofs.Common.{◌≡◌, ℕ, List, refl, sym, ap, ◌∙◌}
use Rattle.air_devices.specs.Shelves.{ShelfState}
use Rattle.air_report.specs.declared.status.Status.{Status}
use Rattle.air_report.specs.declared.status.Status.TheVariants as status
use Rattle.chunk_program.specs.Plans.{AreShort}
use Rattle.air_cli.specs.NamedDecks.{DeckCause, HasDeck}
use Rattle.air_cli.specs.NamedFiles.{UnreadCause}
use Rattle.item_catalog.proofs.GrammarLemmas.{one_deck}
use Rattle.air_cli.specs.Plan.{plan_meaning}
use Rattle.air_cli.proofs.CauseLemmas.{OfDeck, of_deck, of_had}
use Rattle.air_cli.proofs.RefusalLemmas.{IsSound, unrunnable_still}
use Rattle.air_cli.specs.ReportsAndTapes.{ReportAndTape}
use Rattle.air_cli.specs.RunnableDecks.{UnrunnableCause}
use Rattle.air_cli.specs.Plan.{PlanGives}
use Rattle.air_cli.specs.ToldInputs.{TellSameInputs, TellsInputs}
use Rattle.air_cli.specs.Answers.{NoCountRose}
use Rattle.air_cli.specs.Private.GivenTexts.{plan_given}
use Rattle.air_cli.proofs.InputLemmas.{CommandFacts, deck_told, runs_fits}

plan_sound : (deck : List ℕ) → IsSound (plan_meaning deck)
unfolding UnrunnableCause DeckCause UnreadCause
plan_sound deck = record {
  still = unrunnable_still deck;
  not_done = λ before now h. h;
  not_different = λ before now h. h;
  not_failed = λ before now h. h;
  input = λ before now h. record { name = deck; named = refl; rose = h };
}

-- ---- what its input decides

plan_fits : (deck : List ℕ) (before now : ShelfState) (s : Status) → TellsInputs (plan_meaning deck) before → HasDeck deck before AreShort
    → NoCountRose before.faults now.faults → UnrunnableCause deck before now s → s ≡ status.NoMemory
plan_fits deck before now s told suits calm h = let known = told deck refl in runs_fits deck before now s known.0 known.1 (of_had deck before AreShort suits) calm h

-- If the deck's file is told, all of it holds of the deck that the file spells.
plan_told : (deck : List ℕ) (before : ShelfState) (given : ReportAndTape) → PlanGives deck before given → OfDeck deck before (λ d. AreShort d × (given ≡ plan_given d))
unfolding PlanGives
plan_told deck before given (same, (d, spells, made, (short, is))) = of_deck deck before d (λ d. AreShort d × (given ≡ plan_given d)) spells (short, is)

pub plan_one : (deck : List ℕ) (before other : ShelfState) (a b : ReportAndTape) → TellSameInputs (plan_meaning deck) before other → PlanGives deck before a → PlanGives deck other b → a ≡ b
plan_one deck before other a b same first second =
    let told = same deck refl in
    let x = deck_told deck before told.0 (λ d. AreShort d × (a ≡ plan_given d)) told.1 (plan_told deck before a first) in
    let y = deck_told deck other told.0 (λ d. AreShort d × (b ≡ plan_given d)) told.2 (plan_told deck other b second) in
    x.1.2.1 ∙ ap plan_given (one_deck told.0 x.1.0 y.1.0 x.1.1 y.1.1) ∙ sym y.1.2.1

pub plan_facts : (deck : List ℕ) → CommandFacts (plan_meaning deck)
plan_facts deck = record { sound = plan_sound deck; inputs = record { fits = plan_fits deck } }

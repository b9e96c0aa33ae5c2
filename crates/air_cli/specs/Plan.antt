-- The command `plan DECK`.
use Rattle.std.specs.Prelude.{◌≡◌, ℕ, false, List, []}
use Rattle.air_devices.specs.Shelves.{ShelfState}
use Rattle.air_model.specs.Outputs.{plan_output}
use Rattle.chunk_program.specs.Plans.{AreShort}
use Rattle.air_cli.specs.NamedDecks.{HasDeck}
use Rattle.air_cli.specs.RunnableDecks.{UnrunnableCause}
use Rattle.air_cli.specs.Meanings.{Meaning, no_command}
use Rattle.air_cli.specs.ReportsAndTapes.{ReportAndTape}

-- What it gives: the plan, and no tape, of some well-made deck whose programs are short enough, that of the named file if it is told. Nothing in it
-- differs.
unfoldable pub PlanGives : List ℕ → ShelfState → ReportAndTape → Type 0
PlanGives deck before given =
    (given.differs ≡ false) × HasDeck deck before (λ d. AreShort d × (given ≡ record { text = plan_output d; tape = []; differs = false }))

-- It reads its deck, which must be one that can be run, and writes no output.
abbrev pub plan_meaning : List ℕ → Meaning
plan_meaning deck = record no_command {
  IsInput = λ name. name ≡ deck;
  Suits = λ before. HasDeck deck before AreShort;
  Refuses = UnrunnableCause deck;
  Gives = PlanGives deck;
}

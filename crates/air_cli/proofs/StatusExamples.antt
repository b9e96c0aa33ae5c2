-- What statuses mean where a command was out of memory, was refused or failed, and what is said of an output or a text that isn't told.
use Rattle.std.proofs.Common.{◌≡◌, ℕ, false, List, [], Some, None, refl, inl, inr}
use Rattle.std.specs.Prelude.{codes, if◌then◌else◌, nat_eq}
use Rattle.std.specs.Cmp.Lexicographic.{pointwise}
use Rattle.air_devices.specs.Shelves.{ShelfState}
use Rattle.air_report.specs.declared.status.Status.TheVariants as status
use Rattle.air_cli.specs.Answers.{Completes, HasBegun, InputFailed, IsWanting, OutputFailed, QuietAnswers}
use Rattle.air_cli.specs.Deliveries.{IsBeginningGiven}
use Rattle.air_cli.specs.Headline.{NowHolds, NowPrints}
use Rattle.air_cli.specs.Meanings.{Meaning}
use Rattle.air_cli.specs.Outputs.{OutputHolds, OutputHoldsBeginning}
use Rattle.air_cli.specs.Plan.{plan_meaning}
use Rattle.air_cli.specs.Refusals.{IsSteady}
use Rattle.air_cli.specs.RunnableDecks.{UnrunnableCause}
use Rattle.air_cli.specs.Script.{script_meaning}
use Rattle.air_cli.specs.Untouched.{IsRefusal, IsUntouched}
use Rattle.air_cli.proofs.ToldExamples.{shelf}

abbrev plan : Meaning
plan = plan_meaning (codes "d")

abbrev script : Meaning
script = script_meaning (codes "d") (Some (codes "o"))

-- The told shelf with this text printed; with nothing told of what is printed; and with the output `o` alone told.
abbrev printed : List ℕ → ShelfState
printed text = record shelf { told = record shelf.told { printed = Some text } }

abbrev untold_print : ShelfState
untold_print = record shelf { told = record shelf.told { printed = None } }

abbrev one_output : ShelfState
one_output = record shelf { told = record shelf.told { output = λ name. if pointwise nat_eq name (codes "o") then Some [] else None } }

-- ---- statuses

pub record Statuses : Type 0 where
  -- a command whose inputs are told and suit it may still be out of memory
  memory : Completes plan shelf shelf status.NoMemory
  -- out of memory, it may have begun its output, or reading an input may have failed
  begun : (now : ShelfState) → HasBegun script shelf now → IsWanting script shelf now
  unread : (now : ShelfState) → IsUntouched shelf now → InputFailed plan shelf now → IsWanting plan shelf now
  -- what was begun, or failed, holds the first bytes of the tape, by the shelf before and after
  begun_in_part : (now : ShelfState) (h : HasBegun script shelf now) → OutputHoldsBeginning h.name h.gives.0.tape shelf now
  failed_in_part : (now : ShelfState) (h : OutputFailed script shelf now) → OutputHoldsBeginning h.name h.gives.0.tape shelf now
  -- a refusal has its cause, and left what a refusal leaves, by the shelf before and after
  read_cause : (now : ShelfState) → QuietAnswers plan shelf now status.ReadFault → UnrunnableCause (codes "d") shelf now status.ReadFault
  read_left : (now : ShelfState) → QuietAnswers plan shelf now status.ReadFault → IsRefusal status.ReadFault shelf now
  large_cause : (now : ShelfState) → QuietAnswers plan shelf now (status.TooLarge 5) → UnrunnableCause (codes "d") shelf now (status.TooLarge 5)
  large_left : (now : ShelfState) → QuietAnswers plan shelf now (status.TooLarge 5) → IsRefusal (status.TooLarge 5) shelf now × IsSteady shelf now

statuses : Statuses
unfolding QuietAnswers
statuses = record {
  memory = λ tells suits calm. inr refl;
  begun = λ now h. record { untouched = inr h; counts = inl h.calm };
  unread = λ now same h. record { untouched = inl same; counts = inr h };
  begun_in_part = λ now h. h.gives.2;
  failed_in_part = λ now h. h.gives.2;
  read_cause = λ now h. h.0;
  read_left = λ now h. h.1;
  large_cause = λ now h. h.0;
  large_left = λ now h. (h.1, h.2);
}

-- ---- outputs and texts

pub record Outputs : Type 0 where
  -- the named output, and no other, is empty before and after
  not_held : OutputHolds (Some (codes "o")) (codes "ab") one_output one_output → ⊥
  not_held_now : NowHolds (codes "o") (codes "ab") one_output one_output → ⊥
  -- where nothing is told, nothing is said
  untold : OutputHolds (Some (codes "x")) (codes "ab") one_output shelf × NowHolds (codes "x") (codes "ab") one_output shelf
  -- a text comes after what was printed before
  prints : NowPrints (codes "b") (printed (codes "a")) (printed (codes "ab"))
  -- what was told is told again
  not_printed : NowPrints (codes "b") (printed (codes "a")) untold_print → ⊥
  untold_printed : NowPrints (codes "b") untold_print shelf
  -- a print that failed added the first of two bytes
  in_part : IsBeginningGiven None (record { text = codes "ab"; tape = []; differs = false }) (printed (codes "x")) (printed (codes "xa"))

outputs : Outputs
outputs = record {
  not_held = λ h. let same : Some [] ≡ Some (codes "ab") = h in cc;
  not_held_now = λ h. let same : Some [] ≡ Some (codes "ab") = h in cc;
  untold = (tt, tt);
  prints = refl;
  not_printed = λ h. let same : None ≡ Some (codes "ab") = h in cc;
  untold_printed = tt;
  in_part = record { written = tt; printed = (1, refl) };
}

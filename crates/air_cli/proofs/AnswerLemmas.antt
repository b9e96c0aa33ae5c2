-- From what a command gave to what its status means.
use Rattle.std.proofs.Common.{◌≡◌, ℕ, false, List, [], Option, Some, None, take, ap, sym, ◌∙◌, subst, inl, inr}
use Rattle.std.specs.Io.KnownBytes.{Appends, IsAtEnd}
use Rattle.air_devices.specs.Counts.{KeepsCounts, Rose}
use Rattle.air_devices.specs.WhatIsTold.{AppendsBeginning, Becomes}
use Rattle.air_devices.specs.Shelves.{ShelfState}
use Rattle.air_report.specs.declared.status.Status.{Status}
use Rattle.air_report.specs.declared.status.Status.TheVariants as status
use Rattle.air_cli.specs.Meanings.{Meaning}
use Rattle.air_cli.specs.Private.BeforeDelivery.{IsMade, ReadsInputs}
use Rattle.air_cli.specs.ReportsAndTapes.{ReportAndTape, given_status}
use Rattle.air_cli.specs.Outputs.{OutputHolds, OutputHoldsBeginning}
use Rattle.air_cli.specs.Deliveries.{KeepsButDelivered, Delivers, IsGiven}
use Rattle.air_cli.specs.Answers.{IsDone, QuietAnswers}
use Rattle.air_cli.proofs.CountLemmas.{kept_twice}

-- What a command with this text alone gives.
abbrev pub only_text : List ℕ → ReportAndTape
only_text text = record { text = text; tape = []; differs = false }

-- ---- what was delivered since an earlier moment

holds_since : (output : Option (List ℕ)) (bytes : List ℕ) (before mid now : ShelfState) → ((name : List ℕ) → mid.told.output name ≡ before.told.output name)
    → OutputHolds output bytes mid now → OutputHolds output bytes before now
holds_since None bytes before mid now same h = tt
holds_since (Some name) bytes before mid now same h = subst (λ o. Becomes o (now.told.output name) bytes) (same name) h

holds_part_since : (name bytes : List ℕ) (before mid now : ShelfState) → mid.told.output name ≡ before.told.output name → OutputHoldsBeginning name bytes mid now → OutputHoldsBeginning name bytes before now
holds_part_since name bytes before mid now same (inl kept) = inl (kept ∙ same)
holds_part_since name bytes before mid now same (inr (n, part)) = inr (n, subst (λ o. Becomes o (now.told.output name) (take n bytes)) same part)

-- ---- statuses

-- A command that was made, and whose text and tape all went out.
is_done : (command : Meaning) (work : ReportAndTape) (before mid now : ShelfState) (s : Status) → s ≡ given_status work.differs → IsMade command before mid work → ReadsInputs command before mid
    → IsGiven command.output work mid now → KeepsCounts mid.faults now.faults → KeepsButDelivered command.output mid.told now.told → IsDone command before now s
is_done command work before mid now s ends made reads given calm keeps = record {
  gives = (
    work,
    made.gives,
    ends,
    record {
      written = holds_since command.output work.tape before mid now reads.outputs given.written;
      printed = subst (λ o. Appends o now.told.printed work.text) reads.printed given.printed;
    },
  );
  read = λ name input. subst IsAtEnd (sym (keeps.left name)) (made.read name input);
  calm = kept_twice before.faults mid.faults now.faults made.calm calm;
}

-- A command that was made and delivered.
pub answers_made : (command : Meaning) (work : ReportAndTape) (before mid now : ShelfState) (s : Status) → IsMade command before mid work → ReadsInputs command before mid
    → Delivers command.output work mid now s → KeepsButDelivered command.output mid.told now.told → QuietAnswers command before now s
unfolding QuietAnswers Delivers
answers_made command work before mid now status.Ok made reads delivers keeps =
    is_done command work before mid now status.Ok (sym (ap given_status delivers.0)) made reads delivers.1 delivers.2 keeps
answers_made command work before mid now status.Differs made reads delivers keeps =
    is_done command work before mid now status.Differs (sym (ap given_status delivers.0)) made reads delivers.1 delivers.2 keeps
answers_made command work before mid now status.WriteFault made reads (inl (fails, printed)) keeps = inl (record {
  name = fails.name;
  named = fails.named;
  rose = subst (λ n. Rose n (now.faults.writing fails.name)) (made.calm.writing fails.name) fails.rose;
  gives = (work, made.gives, holds_part_since fails.name work.tape before mid now (reads.outputs fails.name) fails.written);
  printed = printed ∙ reads.printed;
})
answers_made command work before mid now status.WriteFault made reads (inr (rose, part)) keeps = inr (record {
  rose = subst (λ n. Rose n now.faults.printing) made.calm.printing rose;
  gives = (
    work,
    made.gives,
    record {
      written = holds_since command.output work.tape before mid now reads.outputs part.written;
      printed = subst (λ o. AppendsBeginning o now.told.printed work.text) reads.printed part.printed;
    },
  );
})
answers_made command work before mid now s made reads delivers keeps = absurd delivers

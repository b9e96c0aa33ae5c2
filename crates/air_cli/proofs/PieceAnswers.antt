-- From what writing a tape piece by piece left to what the status of its command means.
use Rattle.std.proofs.Common.{◌≡◌, ℕ, true, List, length, take, Option, Some, None, refl, sym, ap, ◌∙◌, subst, inl, inr, arith}
use Rattle.std.specs.Prelude.{◌⊎◌}
use Rattle.std.specs.Io.KnownBytes.{Appends}
use Rattle.std.proofs.Math.Seq.{take-append_seam}
use Rattle.air_devices.specs.Counts.{KeepsCounts, NoCountFalls, Rose}
use Rattle.air_devices.specs.Shelves.{ShelfState}
use Rattle.air_devices.specs.WhatIsTold.{AppendsBeginning, Becomes}
use Rattle.air_devices.specs.Unchanged.{KeepsButPrinted}
use Rattle.air_report.specs.declared.status.Status.{Status}
use Rattle.air_report.specs.declared.status.Status.TheVariants as status
use Rattle.air_cli.specs.Deliveries.{Delivers, KeepsButDelivered}
use Rattle.air_cli.specs.Private.OutputPieces.{DeliversPieces, IsStopped, IsWritten}
use Rattle.air_cli.specs.Meanings.{Meaning}
use Rattle.air_cli.specs.Outputs.{OutputHoldsBeginning}
use Rattle.air_cli.specs.ReportsAndTapes.{ReportAndTape, given_status}
use Rattle.air_cli.proofs.CountLemmas.{kept_twice}
use Rattle.air_cli.proofs.DeliveryLemmas.{delivers_all, delivers_none, delivers_part}
use Rattle.air_cli.proofs.OutputLemmas.{no_fall}
use Rattle.scripts.specs.Sinks.{HasBeginning}
use Rattle.air_cli.specs.Answers.{HasBegun, IsWanting, Leaves, QuietAnswers}
use Rattle.air_cli.specs.Private.BeforeDelivery.{IsMade, ReadsInputs}
use Rattle.air_cli.specs.Untouched.{IsUntouched}
use Rattle.air_cli.proofs.AnswerLemmas.{answers_made}
use Rattle.air_cli.proofs.ReadLemmas.{falls_twice}

-- ---- out of memory

-- An output to which a beginning of the tape was written.
begun_part : (name tape : List ℕ) (before mid now : ShelfState) → mid.told.output name ≡ before.told.output name → HasBeginning (λ bytes. IsWritten (Some name) bytes mid now) tape → OutputHoldsBeginning name tape before now
begun_part name tape before mid now same part =
    let front : part.so_far ≡ take (length part.so_far) tape = sym (take-append_seam part.so_far part.left) ∙ ap (take (length part.so_far)) (sym part.joined) in
    inr (length part.so_far, subst (λ o. Becomes o (now.told.output name) (take (length part.so_far) tape)) same (subst (Becomes (mid.told.output name) (now.told.output name)) front part.taken.holds))

untouched_or_begun : (command : Meaning) (given : ReportAndTape) (output : Option (List ℕ)) (before mid now : ShelfState) → command.output ≡ output → command.by_pieces ≡ true → IsMade command before mid given
    → ReadsInputs command before mid → HasBeginning (λ bytes. IsWritten output bytes mid now) given.tape → IsUntouched before now ⊎ HasBegun command before now
untouched_or_begun command given None before mid now named pieces made reads part = inl (record {
  printed = part.taken.printed ∙ reads.printed;
  outputs = λ name. part.taken.rest.outputs name (λ e. cc) ∙ reads.outputs name;
})
untouched_or_begun command given (Some name) before mid now named pieces made reads part = inr (record {
  pieces = pieces;
  name = name;
  named = named;
  gives = (given, made.gives, begun_part name given.tape before mid now (reads.outputs name) part);
  others = λ other differs. part.taken.rest.outputs other (λ e. differs (cc)) ∙ reads.outputs other;
  printed = part.taken.printed ∙ reads.printed;
  calm = kept_twice before.faults mid.faults now.faults made.calm part.taken.calm;
})

-- ---- the answer

-- A command that delivered what it gives, or a part.
pub answers_pieces : (command : Meaning) (given : ReportAndTape) (before mid now : ShelfState) (s : Status) → command.by_pieces ≡ true → IsMade command before mid given → ReadsInputs command before mid
    → DeliversPieces command.output given mid now s → KeepsButDelivered command.output mid.told now.told → QuietAnswers command before now s
unfolding QuietAnswers
answers_pieces command given before mid now s pieces made reads (inl delivers) keeps = answers_made command given before mid now s made reads delivers keeps
answers_pieces command given before mid now s pieces made reads (inr (wanting, part)) keeps =
    let h : IsWanting command before now = record {
      untouched = untouched_or_begun command given command.output before mid now refl pieces made reads part;
      counts = inl (kept_twice before.faults mid.faults now.faults made.calm part.taken.calm);
    } in
    subst (QuietAnswers command before now) (sym wanting) h

-- Regardless of the status.
pub leaves_pieces : (command : Meaning) (before mid now : ShelfState) → ReadsInputs command before mid → KeepsButDelivered command.output mid.told now.told → NoCountFalls mid.faults now.faults
    → Leaves command before now
leaves_pieces command before mid now reads keeps counts = record {
  files = λ name. keeps.files name ∙ reads.files name;
  left = λ name other. keeps.left name ∙ reads.left name other;
  outputs = λ name other. keeps.outputs name other ∙ reads.outputs name;
  counts = falls_twice before.faults mid.faults now.faults reads.counts counts;
}

-- ---- the end of the writing

-- All of the tape was written, and then the text was printed.
pub printed_all : (output : Option (List ℕ)) (given : ReportAndTape) (text : List ℕ) (before mid now : ShelfState) → status.Ok ≡ given_status given.differs → text ≡ given.text → IsWritten output given.tape before mid
    → Appends mid.told.printed now.told.printed text → KeepsButPrinted mid.told now.told → KeepsCounts mid.faults now.faults → DeliversPieces output given before now status.Ok
printed_all output given text before mid now ends same was printed rest calm =
    inl (delivers_all output given given.tape text before mid now status.Ok refl same ends was.holds was.calm was.printed rest.outputs printed calm)

-- All of the tape was written, and then a part of the text was printed.
pub printed_part : (output : Option (List ℕ)) (given : ReportAndTape) (text : List ℕ) (before mid now : ShelfState) → text ≡ given.text → IsWritten output given.tape before mid
    → AppendsBeginning mid.told.printed now.told.printed text → KeepsButPrinted mid.told now.told → Rose mid.faults.printing now.faults.printing → DeliversPieces output given before now status.WriteFault
printed_part output given text before mid now same was printed rest rose =
    inl (delivers_part output given given.tape text before mid now refl same was.holds (omega (arith, was.calm.printing)) was.printed rest.outputs printed rose)

-- The writing stopped before.
pub stopped_delivers : (output : Option (List ℕ)) (given : ReportAndTape) (before now : ShelfState) (s : Status) → IsStopped output given.tape before now s → DeliversPieces output given before now s
stopped_delivers output given before now s (inl (wanting, part)) = inr (wanting, part)
stopped_delivers output given before now s (inr (failed, cut)) =
    inl (subst (Delivers output given before now) (sym failed) (delivers_none output given given.tape before now refl cut.fails cut.printed))

pub stopped_rest : (output : Option (List ℕ)) (tape : List ℕ) (before now : ShelfState) (s : Status) → IsStopped output tape before now s → KeepsButDelivered output before.told now.told
stopped_rest output tape before now s (inl (wanting, part)) = part.taken.rest
stopped_rest output tape before now s (inr (failed, cut)) = cut.rest

pub stopped_counts : (output : Option (List ℕ)) (tape : List ℕ) (before now : ShelfState) (s : Status) → IsStopped output tape before now s → NoCountFalls before.faults now.faults
stopped_counts output tape before now s (inl (wanting, part)) = no_fall before.faults now.faults part.taken.calm
stopped_counts output tape before now s (inr (failed, cut)) = cut.counts

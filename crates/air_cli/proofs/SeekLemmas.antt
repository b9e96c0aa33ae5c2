-- What the proofs of `seek` need of its definitions.
use Rattle.std.proofs.Common.{◌≡◌, ℕ, ◌≤◌, List, length, None, Some, refl, sym, ap, ◌∙◌}
use Rattle.air_base.specs.declared.limits.TheConstants.{MOST_TAPE_BYTES}
use Rattle.air_devices.specs.Counts.{NoCountFalls}
use Rattle.air_devices.specs.Unchanged.{KeepsButPrinted}
use Rattle.air_devices.specs.Shelves.{ShelfState}
use Rattle.air_devices.specs.WhatIsTold.{WhereTold}
use Rattle.air_index.specs.Seeks.{sought}
use Rattle.air_index.specs.declared.sought.Sought.{Sought}
use Rattle.air_model.specs.Tapes.{tape_read}
use Rattle.air_report.specs.declared.status.Status.{Status}
use Rattle.air_report.specs.declared.status.Status.TheVariants as status
use Rattle.air_cli.specs.Answers.{NoCountRose}
use Rattle.air_cli.specs.HeardTapes.{UnheardCause}
use Rattle.air_cli.specs.NamedFiles.{HasBytes, UnreadCause}
use Rattle.air_cli.specs.ReportsAndTapes.{ReportAndTape}
use Rattle.air_cli.specs.Seek.{IsSought, SeekGives, seek_meaning, sought_line}
use Rattle.air_cli.specs.ToldInputs.{TellSameInputs, TellsInputs}
use Rattle.air_cli.proofs.AnswerLemmas.{only_text}
use Rattle.air_cli.proofs.CauseLemmas.{of_bytes}
use Rattle.air_cli.proofs.InputLemmas.{CommandFacts, of_told, unread_fits}
use Rattle.air_cli.proofs.RefusalLemmas.{IsSound, unread_still}

-- ---- what it gives

-- The line of what was sought on a whole tape.
pub line_of_tape : (tape : List ℕ) (i p : ℕ) (before : ShelfState) (answer : Sought) (text : List ℕ)
    → HasBytes tape before (λ bytes. (length bytes ≤ MOST_TAPE_BYTES) × ((tape_read bytes).cut ≡ None) × (answer ≡ sought (tape_read bytes).records i p))
    → text ≡ sought_line i answer → SeekGives tape i p before (only_text text)
unfolding SeekGives
line_of_tape tape i p before answer text (bytes, told, (fits, whole, is)) line =
    (refl, (bytes, told, record { fits = fits; whole = whole; given_is = ap only_text (line ∙ ap (sought_line i) is) }))

-- ---- why it is refused

seek_still : (tape : List ℕ) (before mid now : ShelfState) (s : Status) → KeepsButPrinted mid.told now.told → NoCountFalls mid.faults now.faults
    → UnheardCause tape MOST_TAPE_BYTES before mid s → UnheardCause tape MOST_TAPE_BYTES before now s
unfolding UnheardCause
seek_still tape before mid now (status.TapeCut at) rest counts h = h
seek_still tape before mid now s rest counts h = unread_still tape MOST_TAPE_BYTES before mid now s rest counts h

seek_sound : (tape : List ℕ) (i p : ℕ) → IsSound (seek_meaning tape i p)
unfolding UnheardCause UnreadCause
seek_sound tape i p = record {
  still = seek_still tape;
  not_done = λ before now h. h;
  not_different = λ before now h. h;
  not_failed = λ before now h. h;
  input = λ before now h. record { name = tape; named = refl; rose = h };
}

-- ---- what its input decides

abbrev IsWhole : List ℕ → Type 0
IsWhole bytes = (length bytes ≤ MOST_TAPE_BYTES) × ((tape_read bytes).cut ≡ None)

abbrev IsCutAt : ℕ → List ℕ → Type 0
IsCutAt at bytes = (length bytes ≤ MOST_TAPE_BYTES) × ((tape_read bytes).cut ≡ Some at)

-- A tape that is whole isn't cut.
seek_fits : (tape : List ℕ) (i p : ℕ) (before now : ShelfState) (s : Status) → TellsInputs (seek_meaning tape i p) before → WhereTold (before.told.file tape) IsWhole
    → NoCountRose before.faults now.faults → UnheardCause tape MOST_TAPE_BYTES before now s → s ≡ status.NoMemory
unfolding UnheardCause
seek_fits tape i p before now (status.TapeCut at) told whole calm h =
    let known = told tape refl in
    let good = of_told (before.told.file tape) known.0 IsWhole known.1 whole in
    let bad = of_told (before.told.file tape) known.0 (IsCutAt at) known.1 (of_bytes tape before (IsCutAt at) h) in
    absurd (cc (good.1, bad.1))
seek_fits tape i p before now s told whole calm h =
    let known = told tape refl in
    let good = of_told (before.told.file tape) known.0 IsWhole known.1 whole in
    unread_fits tape MOST_TAPE_BYTES before now s known.0 known.1 good.0 calm h

pub seek_one : (tape : List ℕ) (i p : ℕ) (before other : ShelfState) (a b : ReportAndTape) → TellSameInputs (seek_meaning tape i p) before other
    → SeekGives tape i p before a → SeekGives tape i p other b → a ≡ b
unfolding SeekGives
seek_one tape i p before other a b same first second =
    let told = same tape refl in
    let x = of_told (before.told.file tape) told.0 (IsSought i p a) told.1 (of_bytes tape before (IsSought i p a) first.1) in
    let y = of_told (other.told.file tape) told.0 (IsSought i p b) told.2 (of_bytes tape other (IsSought i p b) second.1) in
    x.given_is ∙ sym y.given_is

pub seek_facts : (tape : List ℕ) (i p : ℕ) → CommandFacts (seek_meaning tape i p)
seek_facts tape i p = record {
  sound = seek_sound tape i p;
  inputs = record { fits = λ before now s told suits. seek_fits tape i p before now s told (of_bytes tape before IsWhole suits) };
}

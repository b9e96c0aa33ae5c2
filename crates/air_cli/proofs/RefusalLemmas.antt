-- From a cause and a printed line to what a refusal's status means; `IsSound` is what a command's refusals must have for it.
use Rattle.std.proofs.Common.{◌≡◌, ◌≢◌, ℕ, ◌≤◌, ◌+◌, List, length, drop, Option, Some, refl, sym, ◌∙◌, subst, inl, inr, arith}
use Rattle.std.specs.Prelude.{◌<◌, ◌⊎◌}
use Rattle.std.specs.Io.KnownBytes.{Appends, IsAtEnd}
use Rattle.std.proofs.lemmas.Bool.{cases_lt}
use Rattle.air_base.specs.declared.limits.TheConstants.{MOST_DECK_BYTES}
use Rattle.air_devices.specs.Counts.{KeepsCounts, NoCountFalls, Rose}
use Rattle.air_devices.specs.Unchanged.{KeepsButPrinted}
use Rattle.air_devices.specs.WhatIsTold.{AppendsBeginning, WhereTold}
use Rattle.air_devices.specs.Shelves.{ShelfState}
use Rattle.air_report.specs.declared.status.Status.{Status}
use Rattle.air_report.specs.declared.status.Status.TheVariants as status
use Rattle.air_cli.specs.Refusals.{PrintsUnlessFailed, IsSteady, Refuses}
use Rattle.air_cli.specs.Untouched.{IsRefusal}
use Rattle.air_cli.specs.NamedDecks.{DeckCause, IsFaulty}
use Rattle.air_cli.specs.RunnableDecks.{UnrunnableCause}
use Rattle.air_cli.specs.NamedFiles.{UnreadCause}
use Rattle.air_cli.specs.Meanings.{Meaning, no_command}
use Rattle.air_cli.specs.Private.BeforeDelivery.{ReadsInputs}
use Rattle.air_cli.specs.Answers.{InputFailed, Leaves, QuietAnswers}
use Rattle.air_cli.proofs.ReadLemmas.{falls_twice}
use Rattle.air_cli.proofs.CountLemmas.{kept_twice, rose_since}

-- ---- a cause that was found stays one while a line is printed

rose_still : (before mid now : ℕ) → mid ≤ now → Rose before mid → Rose before now
rose_still before mid now le (inl rose) = inl (omega arith)
rose_still before mid now le (inr last) = let top = last.0 in let stays = last.1 in elim (cases_lt before now) as (λ _. Rose before now) [
  | inl less ↦ inl less
  | inr same ↦ inr (omega arith, omega arith)
]

-- What is left of a file that was too large stays left.
large_still : (file : Option (List ℕ)) (most : ℕ) (mid now : Option (List ℕ)) → now ≡ mid
    → WhereTold file (λ bytes. (most < length bytes) × (mid ≡ Some (drop (most + 1) bytes))) → WhereTold file (λ bytes. (most < length bytes) × (now ≡ Some (drop (most + 1) bytes)))
large_still file most mid now same h = subst (λ left. WhereTold file (λ bytes. (most < length bytes) × (left ≡ Some (drop (most + 1) bytes)))) (sym same) h

pub unread_still : (name : List ℕ) (most : ℕ) (before mid now : ShelfState) (s : Status) → KeepsButPrinted mid.told now.told → NoCountFalls mid.faults now.faults → UnreadCause name most before mid s → UnreadCause name most before now s
unfolding UnreadCause
unread_still name most before mid now status.ReadFault rest counts h = rose_still (before.faults.reading name) (mid.faults.reading name) (now.faults.reading name) (counts.reading name) h
unread_still name most before mid now (status.TooLarge limit) rest counts h = (h.0, large_still (before.told.file name) most (mid.told.left name) (now.told.left name) (rest.left name) h.1)
unread_still name most before mid now s rest counts h = h

faulty_still : (name : List ℕ) (row kind : ℕ) (before mid now : ShelfState) → KeepsButPrinted mid.told now.told → IsFaulty name row kind before mid → IsFaulty name row kind before now
faulty_still name row kind before mid now rest h = record { read = subst IsAtEnd (sym (rest.left name)) h.read; fault = h.fault }

pub deck_still : (name : List ℕ) (before mid now : ShelfState) (s : Status) → KeepsButPrinted mid.told now.told → NoCountFalls mid.faults now.faults → DeckCause name before mid s → DeckCause name before now s
unfolding DeckCause
deck_still name before mid now (status.Deck row kind) rest counts h = faulty_still name row kind before mid now rest h
deck_still name before mid now s rest counts h = unread_still name MOST_DECK_BYTES before mid now s rest counts h

pub unrunnable_still : (name : List ℕ) (before mid now : ShelfState) (s : Status) → KeepsButPrinted mid.told now.told → NoCountFalls mid.faults now.faults → UnrunnableCause name before mid s → UnrunnableCause name before now s
unfolding UnrunnableCause
unrunnable_still name before mid now (status.PlanTooLong slots) rest counts h = h
unrunnable_still name before mid now s rest counts h = deck_still name before mid now s rest counts h

-- ---- what makes a command's refusals sound

-- A cause that was found stays one while a line is printed. Success, a difference and a failed write are no refusals. If reading failed, it was
-- reading a named input.
pub record IsSound (command : Meaning) : Type 0 where
  pub still : (before mid now : ShelfState) (s : Status) → KeepsButPrinted mid.told now.told → NoCountFalls mid.faults now.faults
      → command.Refuses before mid s → command.Refuses before now s
  pub not_done : (before now : ShelfState) → command.Refuses before now status.Ok → ⊥
  pub not_different : (before now : ShelfState) → command.Refuses before now status.Differs → ⊥
  pub not_failed : (before now : ShelfState) → command.Refuses before now status.WriteFault → ⊥
  pub input : (before now : ShelfState) → command.Refuses before now status.ReadFault → InputFailed command before now

pub no_command_sound : IsSound no_command
no_command_sound = record {
  still = λ before mid now s rest counts h. h;
  not_done = λ before now h. let is : status.Ok ≡ status.Words = h in cc;
  not_different = λ before now h. let is : status.Differs ≡ status.Words = h in cc;
  not_failed = λ before now h. let is : status.WriteFault ≡ status.Words = h in cc;
  input = λ before now h. let is : status.ReadFault ≡ status.Words = h in absurd (cc is);
}

-- ---- what a refusal means

-- A refusal with its cause.
refusal_says : (command : Meaning) → IsSound command → (before now : ShelfState) (s : Status) → s ≢ status.NoMemory → command.Refuses before now s → IsRefusal s before now
    → (s ≢ status.ReadFault → IsSteady before now) → QuietAnswers command before now s
unfolding QuietAnswers
refusal_says command sound before now status.Ok some h line steady = absurd (sound.not_done before now h)
refusal_says command sound before now status.Differs some h line steady = absurd (sound.not_different before now h)
refusal_says command sound before now status.WriteFault some h line steady = absurd (sound.not_failed before now h)
refusal_says command sound before now status.NoMemory some h line steady = absurd (some refl)
refusal_says command sound before now status.ReadFault some h line steady = (h, line)
refusal_says command sound before now s some h line steady = (h, line, steady (λ e. cc))

-- Nothing but what was read is touched.
pub untouched : (command : Meaning) (before now : ShelfState) → now.told.printed ≡ before.told.printed → ((name : List ℕ) → now.told.output name ≡ before.told.output name)
    → KeepsCounts before.faults now.faults ⊎ InputFailed command before now → QuietAnswers command before now status.NoMemory
unfolding QuietAnswers
untouched command before now printed outputs counts = record { untouched = inl (record { printed = printed; outputs = outputs }); counts = counts }

-- The counts if there was no memory for a refusal's line: as they were, or reading an input had failed before.
counts_wanting : (command : Meaning) → IsSound command → (before mid now : ShelfState) (s : Status) → (s ≢ status.ReadFault → KeepsCounts before.faults mid.faults) → command.Refuses before mid s
    → KeepsCounts mid.faults now.faults → KeepsCounts before.faults now.faults ⊎ InputFailed command before now
counts_wanting command sound before mid now status.ReadFault kept cause calm =
    let failed = sound.input before mid cause in
    inr (record { name = failed.name; named = failed.named; rose = subst (λ n. Rose (before.faults.reading failed.name) n) (sym (calm.reading failed.name)) failed.rose })
counts_wanting command sound before mid now s kept cause calm = inl (kept_twice before.faults mid.faults now.faults (kept (λ e. cc)) calm)

-- The counts since a moment at which they were as at first.
steady_since : (before mid now : ShelfState) → KeepsCounts before.faults mid.faults → IsSteady mid now → IsSteady before now
steady_since before mid now kept (inl calm) = inl (kept_twice before.faults mid.faults now.faults kept calm)
steady_since before mid now kept (inr rose) = inr (subst (λ n. Rose n now.faults.printing) kept.printing rose)

-- What was printed since a moment at which nothing was printed yet.
prints_since : (text : List ℕ) (before mid now : ShelfState) → mid.told.printed ≡ before.told.printed → before.faults.printing ≤ mid.faults.printing →
    PrintsUnlessFailed text mid now → PrintsUnlessFailed text before now
prints_since text before mid now same le p = record {
  part = subst (λ o. AppendsBeginning o now.told.printed text) same p.part;
  whole = λ calm. subst (λ o. Appends o now.told.printed text) same (p.whole (λ rose. calm (rose_since before.faults.printing mid.faults.printing now.faults.printing le rose)));
}

-- A refusal after reading.
pub answers_refused : (command : Meaning) → IsSound command → (before mid now : ShelfState) (s answer : Status) → s ≢ status.NoMemory → ReadsInputs command before mid → command.Refuses before mid s
    → (s ≢ status.ReadFault → KeepsCounts before.faults mid.faults) → Refuses s mid now answer → KeepsButPrinted mid.told now.told → NoCountFalls mid.faults now.faults
    → QuietAnswers command before now answer
answers_refused command sound before mid now s answer some reads cause kept refuses rest counts = elim refuses [
  | inl told ↦ subst (QuietAnswers command before now) (sym told.0) (refusal_says command sound before now s some (sound.still before mid now s rest counts cause) (record {
    line = prints_since _ before mid now reads.printed reads.counts.printing told.1;
    outputs = λ name. rest.outputs name ∙ reads.outputs name;
  }) (λ read. steady_since before mid now (kept read) told.2))
  | inr none ↦ subst (QuietAnswers command before now) (sym none.0) (untouched command before now (none.1 ∙ reads.printed) (λ name. rest.outputs name ∙ reads.outputs name)
      (counts_wanting command sound before mid now s kept cause none.2))
]

-- If nothing is read, everything is as it was.
pub reads_nothing : (command : Meaning) (before : ShelfState) → ReadsInputs command before before
reads_nothing command before = record {
  files = λ name. refl;
  left = λ name other. refl;
  outputs = λ name. refl;
  printed = refl;
  counts = record { reading = λ n. omega arith; writing = λ n. omega arith; printing = omega arith };
}

pub keeps_all : (before : ShelfState) → KeepsCounts before.faults before.faults
keeps_all before = record { reading = λ n. refl; writing = λ n. refl; printing = refl }

-- What a refusal leaves.
pub leaves_refused : (command : Meaning) (before mid now : ShelfState) → ReadsInputs command before mid → KeepsButPrinted mid.told now.told → NoCountFalls mid.faults now.faults → Leaves command before now
leaves_refused command before mid now reads rest counts = record {
  files = λ name. rest.files name ∙ reads.files name;
  left = λ name other. rest.left name ∙ reads.left name other;
  outputs = λ name other. rest.outputs name ∙ reads.outputs name;
  counts = falls_twice before.faults mid.faults now.faults reads.counts counts;
}

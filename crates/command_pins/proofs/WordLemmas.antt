-- Which statuses end words that aren't a valid command.
use Rattle.std.proofs.Common.{◌≡◌, refl, inl, inr}
use Rattle.std.specs.Prelude.{◌⊎◌}
use Rattle.air_devices.specs.Shelves.{ShelfState}
use Rattle.air_report.specs.declared.status.Status.{Status}
use Rattle.air_report.specs.declared.status.Status.TheVariants as status
use Rattle.air_cli.specs.Answers.{QuietAnswers}
use Rattle.air_cli.specs.Meanings.{no_command}

pub words_or_none : (before now : ShelfState) (s : Status) → QuietAnswers no_command before now s → (s ≡ status.Words) ⊎ (s ≡ status.NoMemory)
unfolding QuietAnswers
words_or_none before now status.Words h = inl refl
words_or_none before now status.NoMemory h = inr refl
words_or_none before now status.Ok h = absurd h.gives.1
words_or_none before now status.Differs h = absurd h.gives.1
words_or_none before now status.WriteFault (inl failed) = absurd failed.gives.1
words_or_none before now status.WriteFault (inr failed) = absurd failed.gives.1
words_or_none before now s h = absurd (cc h.0)

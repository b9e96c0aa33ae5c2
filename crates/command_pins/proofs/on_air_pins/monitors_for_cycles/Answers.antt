use Rattle.std.proofs.Common.{◌≡◌, ℕ, ◌≤◌, Option, Some, None, IfSome, MatchOption, length, ap, ◌∙◌}
use Rattle.air_base.specs.declared.limits.TheConstants.{MOST_TAPE_BYTES}
use Rattle.air_model.specs.Aired.{air_of, slots_at}
use Rattle.air_model.specs.Decks.{Deck}
use Rattle.air_sender.specs.TapeSizes.{tape_size}
use Rattle.deck_runs.proofs.HeardRunLemmas.{run_sum}
use Rattle.deck_runs.specs.RunTapes.{IsLongRun, run_tape_len}
use Rattle.command_pins.proofs.on_air_pins.monitors_for_cycles.Goals as goal

size_of_three : (deck : Deck) (bytes : Option ℕ) → deck.settings.cycles ≡ 3 → MatchOption bytes (run_tape_len deck ≤ MOST_TAPE_BYTES) (IsLongRun deck) →
    IfSome bytes (λ n. n ≡ tape_size deck.settings.version (length deck.items) (slots_at (air_of deck)) 3)
size_of_three deck None three short = tt
size_of_three deck (Some n) three long = long.counted ∙ run_sum deck ∙ ap (tape_size deck.settings.version (length deck.items) (slots_at (air_of deck))) three

pub returns : goal.returns
returns c = size_of_three c.args.planned.now c.long_run.result c.requires c.long_run.ensures

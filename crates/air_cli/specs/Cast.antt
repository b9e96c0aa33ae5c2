-- The command `cast DECK PORT`. Its meaning is also about the mast, before and after the call.
use Rattle.std.specs.Prelude.{◌≡◌, ◌⊎◌, ◌≤◌, ℕ, false, List, [], Some}
use Rattle.air_base.specs.declared.limits.TheConstants.{MOST_TAPE_BYTES}
use Rattle.deck_runs.specs.Casts.{IsCastBeginning, all_sent}
use Rattle.air_devices.specs.Counts.{Rose}
use Rattle.air_devices.specs.Masts.{Changes, MastState}
use Rattle.air_devices.specs.Shelves.{ShelfState}
use Rattle.air_history.specs.declared.histories.Event.{Event}
use Rattle.air_model.specs.Decks.{Deck, IsWhole}
use Rattle.air_model.specs.Outputs.{cast_output}
use Rattle.air_sender.specs.AiredBytes.{aired_bytes}
use Rattle.air_report.specs.declared.status.Status.{Status}
use Rattle.air_report.specs.declared.status.Status.TheVariants as status
use Rattle.deck_runs.specs.RunTapes.{IsLongRun, run_tape_len}
use Rattle.deck_runs.specs.RunTruths.{IsTrueRun, TellsHistory}
use Rattle.air_cli.specs.NamedDecks.{HasDeck}
use Rattle.air_cli.specs.ReportsAndTapes.{ReportAndTape}
use Rattle.air_model.specs.Runs.{IsRun, Run}
use Rattle.air_cli.specs.Meanings.{Meaning, no_command}
use Rattle.air_cli.specs.Run.{CanRun, RunCause}

-- This is the report of a run of the deck, and no tape. The report determines the run's history, and all that is true of a run is true of it. Exactly
-- the buckets of that history were sent to the port, and then the end. No call of the mast failed.
pub record IsCast (d : Deck) (to : ℕ) (before now : MastState) (given : ReportAndTape) (run : Run) : Type 0 where
  pub run_is : IsRun d run
  pub true_is : IsTrueRun d run
  pub given_is : given ≡ record { text = cast_output run.history run.glances run.looks; tape = []; differs = false }
  pub told : TellsHistory d run.history given.text
  pub sent : Changes (λ _. all_sent (aired_bytes d run.history)) before.told now.told
  pub calm : now.faults ≡ before.faults
  pub port : now.port ≡ Some to

-- A call of the mast failed: exactly the first `at` buckets of a whole history of the deck were sent to the port, and no end.
pub record IsBrokenCast (d : Deck) (to at : ℕ) (before now : MastState) : Type 0 where
  pub rose : Rose before.faults now.faults
  pub sent : IsCastBeginning d at before.told now.told
  pub port : now.port ≡ Some to

-- The first buckets of a whole history of the deck were sent to the port, maybe none or all, and after all maybe the end. If the mast tells that the
-- end was sent, no failure of it was counted.
pub record HasSent (d : Deck) (to : ℕ) (before now : MastState) : Type 0 where
  pub sent : ((count : ℕ) × IsCastBeginning d count before.told now.told)
      ⊎ ((H : List Event) × IsWhole d H × Changes (λ _. all_sent (aired_bytes d H)) before.told now.told × (now.faults ≡ before.faults))
  pub later : before.faults ≤ now.faults
  pub port : now.port ≡ Some to

-- Why a deck that has plans isn't cast. The tape of its run would be too long, and the mast is as it was; or it would not, and the mast failed. Out of
-- memory, no call of the mast failed.
unfoldable pub IsCastRefusal : Deck → ℕ → MastState → MastState → Status → Type 0
IsCastRefusal d to before now (status.TooLong bytes) = IsLongRun d bytes × (now ≡ before)
IsCastRefusal d to before now (status.AirFault at) = (run_tape_len d ≤ MOST_TAPE_BYTES) × IsBrokenCast d to at before now
IsCastRefusal d to before now status.NoMemory = now.faults ≡ before.faults
IsCastRefusal d to before now other = ⊥

-- Why it is refused. The mast failed, and some well-made deck can be run, that of the named file if it is told; or a run is refused for this reason,
-- and the mast is as it was.
unfoldable pub CastCause : List ℕ → ℕ → MastState → MastState → ShelfState → ShelfState → Status → Type 0
CastCause deck to old new before now (status.AirFault at) = HasDeck deck before (λ d. CanRun d × IsBrokenCast d to at old new)
CastCause deck to old new before now s = RunCause deck before now s × (new ≡ old)

-- What it gives, and what it sent: the report of a cast run of some well-made deck that can be run, that of the named file if it is told. Nothing in
-- it differs.
unfoldable pub CastGives : List ℕ → ℕ → MastState → MastState → ShelfState → ReportAndTape → Type 0
CastGives deck to old new before given =
    (given.differs ≡ false) × HasDeck deck before (λ d. CanRun d × ((run : Run) × IsCast d to old new given run))

-- It reads its deck, which must be one that can be run, and writes no output. It succeeds if no call of the mast failed.
abbrev pub cast_meaning : List ℕ → ℕ → MastState → MastState → Meaning
cast_meaning deck to old new = record no_command {
  IsInput = λ name. name ≡ deck;
  Suits = λ before. HasDeck deck before CanRun × (Rose old.faults new.faults → ⊥);
  Refuses = CastCause deck to old new;
  Gives = CastGives deck to old new;
}

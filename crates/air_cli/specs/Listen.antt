-- The command `listen DECK PORT`. Its meaning is also about the ear, before and after the call.
use Rattle.std.specs.Prelude.{◌≡◌, ◌<◌, ◌≤◌, ℕ, false, List, Some}
use Rattle.chunk_program.specs.Plans.{AreShort}
use Rattle.air_cli.specs.Hearings.{IsHeardOnEar, TakesJust, TakesUpTo}
use Rattle.air_devices.specs.Counts.{Rose}
use Rattle.air_devices.specs.Ears.{EarState}
use Rattle.air_devices.specs.Shelves.{ShelfState}
use Rattle.air_model.specs.Decks.{Deck}
use Rattle.air_report.specs.declared.status.Status.{Status}
use Rattle.air_report.specs.declared.status.Status.TheVariants as status
use Rattle.air_cli.specs.NamedDecks.{HasDeck}
use Rattle.air_cli.specs.RunnableDecks.{UnrunnableCause}
use Rattle.air_cli.specs.ReportsAndTapes.{ReportAndTape}
use Rattle.air_cli.specs.Meanings.{Meaning, no_command}
use Rattle.air_cli.specs.Truths.{IsTrueTape}
use Rattle.air_cli.specs.Tune.{tune_given}

-- The deck's readers heard this on the port: the first datagrams, as many as the deck says, or all. This is the report over it, as over a tape, and
-- the sessions in it are true. No call of the ear failed.
pub record IsListening (d : Deck) (on : ℕ) (before now : EarState) (given : ReportAndTape) (heard : List (List ℕ)) : Type 0 where
  pub heard_is : IsHeardOnEar d.settings.hears before.told now.told heard
  pub true_is : IsTrueTape d heard
  pub given_is : given ≡ tune_given d heard
  pub calm : now.faults ≡ before.faults
  pub port : now.port ≡ Some on

-- A call of the ear failed: exactly `at` datagrams were heard on the port, fewer than the deck says.
pub record IsBrokenListening (d : Deck) (on at : ℕ) (before now : EarState) : Type 0 where
  pub rose : Rose before.faults now.faults
  pub few : at < d.settings.hears
  pub taken : TakesJust at before.told now.told
  pub port : now.port ≡ Some on

-- The first datagrams were heard on the port, at most as many as the deck says.
pub record HasHeardPort (d : Deck) (on : ℕ) (before now : EarState) : Type 0 where
  pub taken : (count : ℕ) × (count ≤ d.settings.hears) × TakesUpTo count before.told now.told
  pub later : before.faults ≤ now.faults
  pub port : now.port ≡ Some on

-- Why a deck's readers don't report: the ear failed. Out of memory, no call of the ear failed.
unfoldable pub IsListenRefusal : Deck → ℕ → EarState → EarState → Status → Type 0
IsListenRefusal d on before now (status.AirFault at) = IsBrokenListening d on at before now
IsListenRefusal d on before now status.NoMemory = now.faults ≡ before.faults
IsListenRefusal d on before now other = ⊥

-- Why it is refused. The ear failed, and some well-made deck can be run, that of the named file if it is told; or the deck can't be run, and the ear
-- is as it was.
unfoldable pub ListenCause : List ℕ → ℕ → EarState → EarState → ShelfState → ShelfState → Status → Type 0
ListenCause deck on old new before now (status.AirFault at) = HasDeck deck before (λ d. AreShort d × IsBrokenListening d on at old new)
ListenCause deck on old new before now s = UnrunnableCause deck before now s × (new ≡ old)

-- What it gives, and what it heard: the report over what was heard by the readers of some well-made deck that can be run, that of the named file if
-- it is told. Nothing in it differs.
unfoldable pub ListenGives : List ℕ → ℕ → EarState → EarState → ShelfState → ReportAndTape → Type 0
ListenGives deck on old new before given =
    (given.differs ≡ false) × HasDeck deck before (λ d. AreShort d × ((heard : List (List ℕ)) × IsListening d on old new given heard))

-- It reads its deck, which must be one that can be run, and writes no output. It succeeds if no call of the ear failed.
abbrev pub listen_meaning : List ℕ → ℕ → EarState → EarState → Meaning
listen_meaning deck on old new = record no_command {
  IsInput = λ name. name ≡ deck;
  Suits = λ before. HasDeck deck before AreShort × (Rose old.faults new.faults → ⊥);
  Refuses = ListenCause deck on old new;
  Gives = ListenGives deck on old new;
}

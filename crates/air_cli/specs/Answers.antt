-- What the top call answers: what each status means, what was printed and written, what is left, and when a command must succeed.
--
-- All of it is defined by what the command means. Its refusals and what it gives are about the deck that the named file spells, and about the bytes
-- of its other input. What `run` gives is that of some run of the deck.
use Rattle.std.specs.Prelude.{◌≡◌, ◌≢◌, ◌⊎◌, ℕ, true, List, Some}
use Rattle.std.specs.Io.KnownBytes.{IsAtEnd}
use Rattle.air_devices.specs.Counts.{Faults, KeepsCounts, NoCountFalls, Rose}
use Rattle.air_devices.specs.Shelves.{ShelfState}
use Rattle.air_report.specs.declared.status.Status.{Status}
use Rattle.air_report.specs.declared.status.Status.TheVariants as status
use Rattle.air_cli.specs.Meanings.{Meaning}
use Rattle.air_cli.specs.ToldInputs.{TellsInputs}
use Rattle.air_cli.specs.ReportsAndTapes.{ReportAndTape, given_status}
use Rattle.air_cli.specs.Deliveries.{IsBeginningGiven, IsGiven}
use Rattle.air_cli.specs.Untouched.{IsRefusal, IsUntouched}
use Rattle.air_cli.specs.Refusals.{IsSteady}
use Rattle.air_cli.specs.Outputs.{OutputHoldsBeginning}

-- The command succeeded: what it gives was written and printed, and this is its status. Its inputs were read to their ends, and no call failed.
pub record IsDone (command : Meaning) (before now : ShelfState) (s : Status) : Type 0 where
  pub gives : (given : ReportAndTape) × command.Gives before given × (s ≡ given_status given.differs) × IsGiven command.output given before now
  pub read : (name : List ℕ) → command.IsInput name → IsAtEnd (now.told.left name)
  pub calm : KeepsCounts before.faults now.faults

-- Writing the named output failed: the output is as it was, or holds the first bytes of the tape, and nothing was printed.
pub record OutputFailed (command : Meaning) (before now : ShelfState) : Type 0 where
  pub name : List ℕ
  pub named : command.output ≡ Some name
  pub rose : Rose (before.faults.writing name) (now.faults.writing name)
  pub gives : (given : ReportAndTape) × command.Gives before given × OutputHoldsBeginning name given.tape before now
  pub printed : now.told.printed ≡ before.told.printed

-- Printing the text failed, after the tape was written.
pub record PrintFailed (command : Meaning) (before now : ShelfState) : Type 0 where
  pub rose : Rose before.faults.printing now.faults.printing
  pub gives : (given : ReportAndTape) × command.Gives before given × IsBeginningGiven command.output given before now

-- Reading one of the named inputs failed.
pub record InputFailed (command : Meaning) (before now : ShelfState) : Type 0 where
  pub name : List ℕ
  pub named : command.IsInput name
  pub rose : Rose (before.faults.reading name) (now.faults.reading name)

-- A command that writes by pieces had begun its output. The output is as it was, or holds the first bytes of the tape. No other output changed,
-- nothing was printed, and no call failed.
pub record HasBegun (command : Meaning) (before now : ShelfState) : Type 0 where
  pub pieces : command.by_pieces ≡ true
  pub name : List ℕ
  pub named : command.output ≡ Some name
  pub gives : (given : ReportAndTape) × command.Gives before given × OutputHoldsBeginning name given.tape before now
  pub others : (other : List ℕ) → other ≢ name → now.told.output other ≡ before.told.output other
  pub printed : now.told.printed ≡ before.told.printed
  pub calm : KeepsCounts before.faults now.faults

-- Out of memory: nothing was printed, and no output changed except one that is written by pieces. Every count is as it was, or reading an input
-- failed.
pub record IsWanting (command : Meaning) (before now : ShelfState) : Type 0 where
  pub untouched : IsUntouched before now ⊎ HasBegun command before now
  pub counts : KeepsCounts before.faults now.faults ⊎ InputFailed command before now

-- What each status means. The status of a command that succeeded says whether something that it gave differs. A refusal has its cause and printed
-- only its line; unless a read failed, every count is as it was, or a print failed.
unfoldable pub QuietAnswers : Meaning → ShelfState → ShelfState → Status → Type 0
QuietAnswers command before now status.Ok = IsDone command before now status.Ok
QuietAnswers command before now status.Differs = IsDone command before now status.Differs
QuietAnswers command before now status.WriteFault = OutputFailed command before now ⊎ PrintFailed command before now
QuietAnswers command before now status.NoMemory = IsWanting command before now
QuietAnswers command before now status.ReadFault = command.Refuses before now status.ReadFault × IsRefusal status.ReadFault before now
QuietAnswers command before now s = command.Refuses before now s × IsRefusal s before now × IsSteady before now

-- A status with which a command succeeds: nothing that it gave differs, or something does.
abbrev pub IsSuccess : Status → Type 0
IsSuccess s = (s ≡ status.Ok) ⊎ (s ≡ status.Differs)

-- No count of faults went up.
pub record NoCountRose (before now : Faults) : Type 0 where
  pub reading : (name : List ℕ) → Rose (before.reading name) (now.reading name) → ⊥
  pub writing : (name : List ℕ) → Rose (before.writing name) (now.writing name) → ⊥
  pub printing : Rose before.printing now.printing → ⊥

-- If each named input is told, the inputs suit the command, and no count of faults went up, the command ended with the status of what it gives, or it
-- was out of memory.
abbrev pub Completes : Meaning → ShelfState → ShelfState → Status → Type 0
Completes command before now s =
    TellsInputs command before → command.Suits before → NoCountRose before.faults now.faults
    → ((given : ReportAndTape) × command.Gives before given × (s ≡ given_status given.differs)) ⊎ (s ≡ status.NoMemory)

-- Regardless of the status, these are as they were: all files, what is left of those that are no named input, and all outputs but the named one. No
-- count of faults went down.
pub record Leaves (command : Meaning) (before now : ShelfState) : Type 0 where
  pub files : (name : List ℕ) → now.told.file name ≡ before.told.file name
  pub left : (name : List ℕ) → (command.IsInput name → ⊥) → now.told.left name ≡ before.told.left name
  pub outputs : (name : List ℕ) → (command.output ≡ Some name → ⊥) → now.told.output name ≡ before.told.output name
  pub counts : NoCountFalls before.faults now.faults

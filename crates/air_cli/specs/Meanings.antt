-- What a command means: what it reads, when it must succeed, why it is refused, and what it gives. Each command has one such definition, in a
-- file of its own. `Answers` defines by it what each status means.
use Rattle.std.specs.Prelude.{◌≡◌, ℕ, Bool, false, List, Option, None}
use Rattle.air_devices.specs.Shelves.{ShelfState}
use Rattle.air_report.specs.declared.status.Status.{Status}
use Rattle.air_report.specs.declared.status.Status.TheVariants as status
use Rattle.air_cli.specs.ReportsAndTapes.{ReportAndTape}

-- What a command reads, refuses and gives.
pub record Meaning : Type 1 where
  -- The files that it reads.
  pub IsInput : List ℕ → Type 0
  -- The output that it names, if any.
  pub output : Option (List ℕ)
  -- What its inputs must be for nothing to refuse it, if they are told.
  pub Suits : ShelfState → Type 0
  -- Why it is refused with a status, by the shelf before and after the call.
  pub Refuses : ShelfState → ShelfState → Status → Type 0
  -- What it prints and writes if nothing refuses it.
  pub Gives : ShelfState → ReportAndTape → Type 0
  -- Whether it writes its output piece by piece, while it may still run out of memory.
  pub by_pieces : Bool

-- Words that are no command are refused as such, name no file, and give nothing. The meaning of each command is written as a change of this one.
abbrev pub no_command : Meaning
no_command = record {
  IsInput = λ name. ⊥;
  output = None;
  Suits = λ before. ⊥;
  Refuses = λ before now s. s ≡ status.Words;
  Gives = λ before given. ⊥;
  by_pieces = false;
}

-- What a command gives.
use Rattle.std.specs.Prelude.{ℕ, Bool, true, false, List}
use Rattle.air_report.specs.declared.status.Status.{Status}
use Rattle.air_report.specs.declared.status.Status.TheVariants as status

-- The text that it prints, the tape that it writes if the words name an output, and whether the text says that something differs.
pub record ReportAndTape : Type 0 where
  pub text : List ℕ
  pub tape : List ℕ
  pub differs : Bool

-- The status of a command that delivered all of it.
abbrev pub given_status : Bool → Status
given_status false = status.Ok
given_status true = status.Differs

-- The number of each status, and the line that a refusal prints.
use Rattle.std.specs.Prelude.{ℕ, List, [], ◌∷◌, Bool, true, false, if◌then◌else◌, codes, get_or, map}
use Rattle.air_base.specs.Numbers.{number_text}
use Rattle.air_model.specs.Rows.{rows_text}
use Rattle.air_report.specs.declared.status.Status.{Status}
use Rattle.air_report.specs.declared.status.Status.TheVariants as status

-- The numbers of a status: its own, and then, if it has them, a row number and a kind number, a byte, a limit or a size.
abbrev pub status_numbers : Status → List ℕ
status_numbers status.Ok = 0 ∷ []
status_numbers status.Words = 1 ∷ []
status_numbers (status.Deck row kind) = 2 ∷ row ∷ kind ∷ []
status_numbers status.ReadFault = 3 ∷ []
status_numbers status.WriteFault = 4 ∷ []
status_numbers status.NoMemory = 5 ∷ []
status_numbers (status.TapeCut at) = 6 ∷ at ∷ []
status_numbers (status.TooLarge limit) = 7 ∷ limit ∷ []
status_numbers (status.Report row kind) = 8 ∷ row ∷ kind ∷ []
status_numbers status.Differs = 9 ∷ []
status_numbers (status.AirFault at) = 10 ∷ at ∷ []
status_numbers (status.TooMuch product) = 11 ∷ product ∷ []
status_numbers (status.TooLong bytes) = 12 ∷ bytes ∷ []
status_numbers (status.PlanTooLong slots) = 13 ∷ slots ∷ []

-- The number of the status: the exit status of the program.
abbrev pub status_number : Status → ℕ
status_number status = get_or (status_numbers status) 0 0

-- Whether the status is a fault. It isn't if the command ran to its end, whether lines differed or not, was out of memory or could not write.
abbrev pub tells_fault : Status → Bool
tells_fault status.Ok = false
tells_fault status.WriteFault = false
tells_fault status.NoMemory = false
tells_fault status.Differs = false
tells_fault other = true

-- The fault line with these numbers.
abbrev pub fault_line : List ℕ → List ℕ
fault_line numbers = rows_text ((codes "fault" ∷ map number_text numbers) ∷ [])

-- The line that a status prints; empty if the status is no fault.
abbrev pub status_line : Status → List ℕ
status_line status = if tells_fault status then fault_line (status_numbers status) else []

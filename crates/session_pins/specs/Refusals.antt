-- Why a tape whose bytes are told isn't heard.
use Rattle.std.specs.Prelude.{◌≡◌, ℕ, ⊤}
use Rattle.air_report.specs.declared.status.Status.{Status}
use Rattle.air_report.specs.declared.status.Status.TheVariants as status

-- Its file could not be read, or the call was out of memory.
abbrev pub IsUnread : Status → Type 0
IsUnread status.ReadFault = ⊤
IsUnread status.NoMemory = ⊤
IsUnread other = ⊥

-- It is cut at this byte, if it was read.
abbrev pub IsCutAt : ℕ → Status → Type 0
IsCutAt byte (status.TapeCut at) = at ≡ byte
IsCutAt byte other = IsUnread other

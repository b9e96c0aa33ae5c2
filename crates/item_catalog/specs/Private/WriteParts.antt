-- For private steps only. What the readers of writes use in addition to the definition of a write: signs, and a write before
-- its numbers are tested.
use Rattle.std.specs.Prelude.{ℕ, Bool, if◌then◌else◌}
use Rattle.air_history.specs.declared.updates.Write.{Write}
use Rattle.item_catalog.specs.declared.updates.leading_writes.WritePart.{WritePart}

-- The byte of a sign: `-` for a minus, otherwise `+`.
abbrev pub sign_of : Bool → ℕ
sign_of minus = if minus then 45 else 43

-- A write as an update has it.
abbrev pub write_said : WritePart → Write
write_said w = record { item = w.item; base = w.base; minus = w.minus; amount = w.amount }

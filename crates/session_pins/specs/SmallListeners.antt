-- A listener of two items, before a tape of two buckets and after it.
use Rattle.std.specs.Prelude.{ℕ, [], ◌∷◌}
use Rattle.air_base.specs.declared.verdicts.Policy.TheVariants.{FMatrix}
use Rattle.air_base.specs.declared.verdicts.VerdictKind.TheVariants.{Accept}
use Rattle.air_model.specs.Sessions.{State, start}
use Rattle.listeners.specs.Listeners.{Listener}
use Rattle.session_pins.specs.SmallReceivers.{air_by, asker, counts, heard, session_line, value_read}

-- The asker as the reader of a number, in a state.
abbrev pub listener_in : ℕ → State → Listener
listener_in number s = record { number = number; air = air_by FMatrix; reader = asker; state = s }

-- The asker as the reader of a number, which has read both items of cycle 1, and whose verdict waits.
abbrev pub accepted : ℕ → Listener
accepted number = listener_in number (record start {
  query = 1;
  copies = heard 0 1 10 (0 ∷ 0 ∷ []) ∷ [];
  now = 1;
  counts = counts 2 0 0 0 0 0;
  lines = session_line 0 1 Accept (value_read 0 1 10 ∷ value_read 1 1 20 ∷ []) ∷ [];
})

-- The asker as the reader of a number, which has slept through the bucket of item 1 in cycle 1.
abbrev pub asleep : ℕ → Listener
asleep number = listener_in number (record start { now = 1; counts = counts 0 1 0 0 0 0 })

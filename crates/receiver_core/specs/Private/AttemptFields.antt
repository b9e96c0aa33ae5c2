-- For private steps alone. The fields of an attempt: reads with their entries, and the same reads with their values.
use Rattle.std.specs.Prelude.{◌≡◌, List, [], ◌∷◌, length, map}
use Rattle.air_base.specs.declared.verdicts.ReadOf.{ReadOf}
use Rattle.air_history.specs.Clashes.{HeardRead}
use Rattle.air_model.specs.Reads.{Read}
use Rattle.receiver_core.specs.Private.Attempts.{HeldValues, line_read}
use Rattle.receiver_core.specs.declared.attempts.Attempt.TheInside.{Inside}

-- The reads with their entries from the one list and their values from the other.
unfoldable pub with_values : List HeardRead → List ReadOf → List Read
with_values [] V = []
with_values (h ∷ R) [] = []
with_values (h ∷ R) (v ∷ V) = record { item = h.item; cycle = h.cycle; value = v.value; entries = h.entries } ∷ with_values R V

-- The held reads of the fields.
abbrev pub held_values : Inside → HeldValues
held_values a = record { policy = a.policy; items = a.held.n; reads = with_values a.held.reads a.line_reads }

-- Both lists are of the same reads.
pub record KeepsBoth (a : Inside) : Type 0 where
  pub even : length a.line_reads ≡ length a.held.reads
  pub same : map line_read (with_values a.held.reads a.line_reads) ≡ a.line_reads

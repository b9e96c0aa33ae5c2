-- The reads of the last verdict.
use Rattle.std.specs.Prelude.{List, [], ◌∷◌}
use Rattle.air_base.specs.declared.verdicts.ReadOf.{ReadOf}
use Rattle.air_model.specs.Sessions.{SessionLine, State}
use Rattle.receiver_core.specs.Receivers.{Receiver}

-- The reads of the last of these lines; where there is none, the reads that were the last before.
unfoldable pub last_reads : List SessionLine → List ReadOf → List ReadOf
last_reads [] before = before
last_reads (l ∷ lines) before = last_reads lines l.reads

-- The receiver in a later state: it knows what it knew, and has the reads of the line that waits, if one does.
abbrev pub in_state : Receiver → State → Receiver
in_state r s = record r { state = s; last = last_reads s.lines r.last }

-- A receiver of two items, its states, and what it answers.
use Rattle.std.specs.Prelude.{ℕ, List, [], ◌∷◌, Some}
use Rattle.air_base.specs.declared.verdicts.Counts.{Counts}
use Rattle.air_base.specs.declared.verdicts.Policy.{Policy}
use Rattle.air_base.specs.declared.verdicts.ReadOf.{ReadOf}
use Rattle.air_base.specs.declared.verdicts.VerdictKind.{VerdictKind}
use Rattle.air_history.specs.Columns.{scheme_of}
use Rattle.air_model.specs.declared.reports.CountsLine.{CountsLine}
use Rattle.air_model.specs.declared.reports.VerdictLine.{VerdictLine}
use Rattle.air_model.specs.Aired.{Air}
use Rattle.air_model.specs.Reads.{Read}
use Rattle.air_model.specs.Sessions.{Reader, SessionLine, State, start}
use Rattle.receiver_core.specs.Receivers.{Receiver}

-- In each cycle slot 0 carries item 0, and slot 1 item 1.
abbrev pub air_by : Policy → Air
air_by policy = record { scheme = scheme_of policy; version = 1; items = 2; replans = []; slots = (Some 0 ∷ Some 1 ∷ []) ∷ []; pix = (1 ∷ 1 ∷ []) ∷ [] }

-- The reader asks for item 0 and then item 1, once, and keeps one copy.
abbrev pub asker : Reader
asker = record { plan = record { room = 1; age = 9; tries = 1 }; queries = (0 ∷ 1 ∷ []) ∷ [] }

-- What was heard of an item in a cycle.
abbrev pub heard : ℕ → ℕ → ℕ → List ℕ → Read
heard item cycle value entries = record { item = item; cycle = cycle; value = value; entries = entries }

-- A read as verdict lines have it.
abbrev pub value_read : ℕ → ℕ → ℕ → ReadOf
value_read item cycle value = record { item = item; cycle = cycle; value = value }

-- The counts: opened, dozed, late, refused, foreign, copied.
abbrev pub counts : ℕ → ℕ → ℕ → ℕ → ℕ → ℕ → Counts
counts opened dozed late refused foreign copied = record { opened = opened; dozed = dozed; late = late; refused = refused; foreign = foreign; copied = copied }

-- The receiver holds item 0 of a cycle, with the value 10 and no commits before it, and one bucket was opened.
abbrev pub holding : ℕ → State
holding cycle = record start { held = heard 0 cycle 10 (0 ∷ 0 ∷ []) ∷ []; now = cycle; counts = counts 1 0 0 0 0 0 }

-- The verdict line of an attempt.
abbrev pub session_line : ℕ → ℕ → VerdictKind → List ReadOf → SessionLine
session_line query attempt kind reads = record { verdict = record { query = query; attempt = attempt; kind = kind }; reads = reads }

-- The verdict line of a reader's attempt at its first query.
abbrev pub first_query_line : ℕ → VerdictKind → List ReadOf → VerdictLine
first_query_line reader kind reads = record { reader = reader; verdict = record { query = 0; attempt = 1; kind = kind }; reads = reads }

-- The line of a reader's counts.
abbrev pub counted : ℕ → Counts → CountsLine
counted reader c = record { reader = reader; counts = c }

-- The asker in a state, before its first verdict.
abbrev pub asker_in : Air → State → Receiver
asker_in air s = record { air = air; reader = asker; state = s; last = [] }

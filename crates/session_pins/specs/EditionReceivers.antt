-- Receivers of an air whose program changes at cycle 2, and what they hear.
use Rattle.std.specs.Prelude.{ℕ, [], ◌∷◌, Some}
use Rattle.air_base.specs.declared.verdicts.Policy.TheVariants.{FMatrix}
use Rattle.air_base.specs.declared.verdicts.ReadOf.{ReadOf}
use Rattle.air_base.specs.declared.verdicts.VerdictKind.TheVariants.{Accept}
use Rattle.air_model.specs.Aired.{Air}
use Rattle.air_model.specs.Buckets.{Bucket, Column}
use Rattle.air_model.specs.Reads.{Read}
use Rattle.air_model.specs.Sessions.{State, start}
use Rattle.receiver_core.specs.Receivers.{Receiver}
use Rattle.session_pins.specs.SmallBuckets.{bucket}
use Rattle.session_pins.specs.SmallReceivers.{air_by, counts, session_line}

-- In cycle 2 the two items change places, and item 1 is worth more from then on.
abbrev pub changing_air : Air
changing_air = record (air_by FMatrix) { replans = 2 ∷ []; slots = (Some 0 ∷ Some 1 ∷ []) ∷ (Some 1 ∷ Some 0 ∷ []) ∷ []; pix = (2 ∷ 1 ∷ []) ∷ (1 ∷ 2 ∷ []) ∷ [] }

-- The reader asks for one item, once, and keeps one copy.
abbrev pub asking : ℕ → State → Receiver
asking item s = record { air = changing_air; reader = record { plan = record { room = 1; age = 9; tries = 1 }; queries = (item ∷ []) ∷ [] }; state = s; last = [] }

-- The receiver keeps a copy, and this is the newest heard cycle.
abbrev pub keeping_one : ℕ → Read → State
keeping_one cycle copy = record start { copies = copy ∷ []; now = cycle }

-- Item 1 of cycle 2, in the new program.
abbrev pub changed_bucket : Bucket
changed_bucket = record (bucket 2 0 (Column 1 20 (0 ∷ 0 ∷ []))) { edition = 1 }

-- The query is accepted by one opened bucket.
abbrev pub accepted_by_one : ℕ → Read → ReadOf → State
accepted_by_one cycle copy read = record (keeping_one cycle copy) { query = 1; counts = counts 1 0 0 0 0 0; lines = session_line 0 1 Accept (read ∷ []) ∷ [] }

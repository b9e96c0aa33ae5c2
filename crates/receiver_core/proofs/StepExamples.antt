-- A step of a small receiver, computed.
use Rattle.std.proofs.Common.{◌≡◌, [], ◌∷◌, refl}
use Rattle.air_base.specs.declared.verdicts.Policy.TheVariants.{FMatrix}
use Rattle.air_base.specs.declared.verdicts.VerdictKind.TheVariants.{Accept}
use Rattle.air_history.specs.Clashes.{clash_by_entries, is_late, least}
use Rattle.air_history.specs.Columns.{scheme_of}
use Rattle.air_model.specs.Aired.{air_of}
use Rattle.air_model.specs.Judges.{by_entries}
use Rattle.air_model.specs.Sessions.{State, accept_if_whole, copy_of, count_copied, drop_copy, hold, is_unusable, line_of, next_query, query_of, reader_of, start, turn, turn_with, wanted, with_line}
use Rattle.air_model.proofs.SessionExamples.{copying_deck, counts_with, line, read}
use Rattle.receiver_core.specs.ReceiverSteps.{step, turn_to_line}

-- A reader with a copy of item 0 wants just that: one step takes it, and gives the line.
abbrev with_copy_of_zero : State
with_copy_of_zero = record start { copies = record { item = 0; cycle = 1; value = 10; entries = 0 ∷ 0 ∷ [] } ∷ []; now = 1 }

pub one_step : step (by_entries (scheme_of FMatrix)) (air_of (copying_deck [])) (reader_of (copying_deck []) 0) with_copy_of_zero
    ≡ record with_copy_of_zero { query = 1; counts = counts_with 0 0 1; lines = line 0 1 Accept (read 0 1 10 ∷ []) ∷ [] }
unfolding step turn_to_line turn turn_with copy_of wanted query_of is_unusable drop_copy hold accept_if_whole next_query with_line line_of count_copied by_entries clash_by_entries is_late least
one_step = refl

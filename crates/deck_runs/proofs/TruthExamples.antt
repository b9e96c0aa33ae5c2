-- What is true of a run is true of each reader: of the last one too, over all that it hears. Its tape is that of a start for each cycle.
use Rattle.std.proofs.Common.{◌≡◌, [], ◌∷◌, All, length, map, refl, arith}
use Rattle.air_history.specs.Tables.{BasesRead}
use Rattle.air_history.specs.declared.histories.Event.TheVariants.{Start}
use Rattle.air_model.specs.Aired.{air_of, buckets_of}
use Rattle.air_model.specs.AiredItems.{AirsItems}
use Rattle.air_model.specs.Buckets.{bucket_in}
use Rattle.air_model.specs.Decks.{Deck, values_in}
use Rattle.air_model.specs.Outputs.{ether_of, run_output, run_tape}
use Rattle.air_model.specs.ReceiverLaws.{IsTrueSession}
use Rattle.air_model.specs.Runs.{Run}
use Rattle.air_model.proofs.SessionExamples.{pair}
use Rattle.deck_runs.specs.RunTapes.{run_tape_len}
use Rattle.deck_runs.specs.RunTruths.{IsTrueRun, TellsHistory}

-- The small deck with two readers of its query, and with none.
abbrev two_readers : Deck
two_readers = record pair {
  readers = record { room = 0; age = 0; tries = 1 } ∷ record { room = 0; age = 0; tries = 1 } ∷ [];
  queries = ((0 ∷ 1 ∷ []) ∷ []) ∷ ((0 ∷ 1 ∷ []) ∷ []) ∷ [];
}

abbrev no_readers : Deck
no_readers = record pair { readers = []; queries = [] }

last_reader : (run : Run) → IsTrueRun two_readers run → IsTrueSession two_readers run.history 1 (map bucket_in (ether_of two_readers run.history 1))
last_reader run h = h.sessions 1 (omega arith)

-- Without readers nothing is said of a session.
no_session : (run : Run) → All BasesRead run.history → AirsItems no_readers run.history (buckets_of (values_in no_readers) (air_of no_readers) run.history)
    → TellsHistory no_readers run.history (run_output no_readers run.history run.glances run.looks) → IsTrueRun no_readers run
no_session run bases items told = record { bases = bases; items = items; sessions = λ r below. absurd (omega (arith, below)); told = told }

-- The tape of a run of two cycles has as many bytes as that of two starts.
two_cycles : run_tape_len (record pair { settings = record pair.settings { cycles = 2 } }) ≡ length (run_tape (record pair { settings = record pair.settings { cycles = 2 } }) (Start ∷ Start ∷ []))
unfolding run_tape_len
two_cycles = refl

-- What is true of every run of a deck. The law is `true_run_law`.
use Rattle.std.specs.Prelude.{◌≡◌, ◌<◌, ℕ, List, All, length, map}
use Rattle.air_history.specs.declared.histories.Event.{Event}
use Rattle.air_history.specs.Tables.{BasesRead}
use Rattle.air_model.specs.Aired.{air_of, buckets_of}
use Rattle.air_model.specs.Buckets.{bucket_in}
use Rattle.air_model.specs.Decks.{Deck, IsLegal, values_in}
use Rattle.air_model.specs.Outputs.{ether_of, run_output}
use Rattle.air_model.specs.ReceiverLaws.{IsTrueSession}
use Rattle.air_model.specs.Reports.{Report, report_text}
use Rattle.air_model.specs.AiredItems.{AirsItems}
use Rattle.air_model.specs.Runs.{Run}

-- The text determines the history: each report of the deck with a legal history and this text has this history.
abbrev pub TellsHistory : Deck → List Event → List ℕ → Type 0
TellsHistory deck H text = (report : Report) → IsLegal deck report.history → report_text report ≡ text → report.history ≡ H

-- In the history of a run each base is read. In each of its cycles each item is aired as often as its disk says, and with the history's value. The
-- session of each reader, over its own ether of the tape, is true of the history: it is what the history decides, and under F-Matrix without groups
-- each verdict is exact. What the run prints determines the history.
pub record IsTrueRun (deck : Deck) (run : Run) : Type 0 where
  pub bases : All BasesRead run.history
  pub items : AirsItems deck run.history (buckets_of (values_in deck) (air_of deck) run.history)
  pub sessions : (r : ℕ) → r < length deck.readers → IsTrueSession deck run.history r (map bucket_in (ether_of deck run.history r))
  pub told : TellsHistory deck run.history (run_output deck run.history run.glances run.looks)

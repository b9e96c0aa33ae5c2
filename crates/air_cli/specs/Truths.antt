-- What is true of the sessions that `script` and `tune` print: every line is sound, and is what the history decides.
use Rattle.std.specs.Prelude.{ℕ, ◌<◌, List, All, length, map}
use Rattle.air_history.specs.declared.histories.Event.{Event}
use Rattle.air_history.specs.Tables.{BasesRead}
use Rattle.air_model.specs.Buckets.{bucket_in}
use Rattle.air_model.specs.Decks.{Deck, IsLegal, script_history, values_in}
use Rattle.air_model.specs.Aired.{IsAired, air_of}
use Rattle.air_model.specs.ReceiverLaws.{IsTrueSession}
use Rattle.air_model.specs.Outputs.{ether_of}

-- The sessions of all readers of the deck, over what each hears, are true of the history: by the entries they are what the history decides. In each
-- line, under every policy, the reads are consistent and have the values that their ancestors alone leave. Under Datacycle all are of the newest
-- cycle read, and under R-Matrix of the current one. Under F-Matrix without groups each verdict is exact.
abbrev pub AreTrue : Deck → List Event → (ℕ → List (List ℕ)) → Type 0
AreTrue d H heard = (r : ℕ) → r < length d.readers → IsTrueSession d H r (map bucket_in (heard r))

-- The script's history is legal for the deck, each base is read there, and the sessions over it are true.
pub record IsTrueScript (d : Deck) : Type 0 where
  pub legal : IsLegal d (script_history d)
  pub bases : All BasesRead (script_history d)
  pub sessions : AreTrue d (script_history d) (ether_of d (script_history d))

-- The sessions over the records of a tape are true of every history that aired the records that fit the deck, even if it isn't a history of the deck.
-- So what `tune` prints is what that history decides.
abbrev pub IsTrueTape : Deck → List (List ℕ) → Type 0
IsTrueTape d records = (H : List Event) → IsAired (values_in d) (air_of d) H (map bucket_in records) → AreTrue d H (λ r. records)

-- By which batches a history was aired. The law is `batches_law`.
use Rattle.std.specs.Prelude.{◌≡◌, ℕ, List, [], ◌∷◌, ◌++◌, length, take, All}
use Rattle.std.specs.List.{flat_map, range_with_len}
use Rattle.air_history.specs.declared.histories.Event.{Event}
use Rattle.air_history.specs.declared.histories.Event.TheVariants.{Start}
use Rattle.air_history.specs.Histories.{starts, events_in}
use Rattle.air_model.specs.Aired.{Air, air_of, buckets_of, cycle_buckets}
use Rattle.air_model.specs.Buckets.{Bucket}
use Rattle.air_model.specs.Decks.{Deck, values_in}

-- The batch has one start, which is its last event.
pub record EndsWithStart (batch : List Event) : Type 0 where
  pub commits : List Event
  pub ends : batch ≡ commits ++ Start ∷ []
  pub one : starts commits ≡ 0

-- The buckets of the last cycle that a history starts, slot by slot.
abbrev pub last_buckets : List ℕ → Air → List Event → List Bucket
last_buckets values air G = cycle_buckets values air G (starts G)

-- What batches air, one after another: each airs the cycle that it ends with, from the history up to and with this batch.
abbrev pub aired_by : List ℕ → Air → List (List Event) → List Bucket
aired_by values air batches = flat_map (λ n. last_buckets values air (events_in (take n batches))) (range_with_len 1 (length batches))

-- A history of the deck is aired by these batches. There is one batch for each of its cycles, which ends with the cycle's
-- start. Joined they are the history up to its last start. What the history airs is what they air, one after another.
pub record AirsByBatches (deck : Deck) (H : List Event) (batches : List (List Event)) : Type 0 where
  pub count : length batches ≡ starts H
  pub each : All EndsWithStart batches
  pub rest : List Event
  pub history : H ≡ events_in batches ++ rest
  pub quiet : starts rest ≡ 0
  pub aired : buckets_of (values_in deck) (air_of deck) H ≡ aired_by (values_in deck) (air_of deck) batches

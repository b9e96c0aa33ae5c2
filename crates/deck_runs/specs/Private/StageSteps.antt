-- For private steps alone. What the jobs of a run work on, before and after them.
use Rattle.std.specs.Prelude.{◌≡◌, ℕ, ◌<◌, ◌≤◌, List, [], ◌++◌, length, take, slice_get, All, MatchBool, MatchResult, OnOk, Result, Some, vec_capacity}
use Rattle.turnstile.specs.Passes.{TurnstileId}
use Rattle.air_history.specs.declared.histories.Event.{Event}
use Rattle.air_history.specs.Histories.{is_start, starts}
use Rattle.air_model.specs.Batches.{AirsByBatches}
use Rattle.air_model.specs.Closings.{GoesOnWithout}
use Rattle.air_model.specs.Decks.{Deck, IsWhole, updates_by}
use Rattle.air_model.specs.DeckLaws.{commits_from, made_by}
use Rattle.air_devices.specs.Masts.{Changes, MastState, with_buckets}
use Rattle.air_sender.specs.AirFaults.{FailedAt}
use Rattle.cycle_snapshot.specs.SnapshotStates.{PublisherState}
use Rattle.station.specs.PassStates.{PassState, new_pass, with_seen}
use Rattle.deck_runs.specs.declared.jobs.conductors.ConductFault.{ConductFault}
use Rattle.deck_runs.specs.declared.jobs.conductors.ConductFault.TheVariants as fault
use Rattle.deck_runs.specs.declared.jobs.crews.UpdaterRun.{UpdaterRun}
use Rattle.deck_runs.specs.Private.Crews.{CanConduct, HasNewPass}
use Rattle.air_sender.specs.AiredBytes.{aired_bytes}
use Rattle.deck_runs.specs.PublishedBatches.{GoesOn, IsUpTo, PublishesOn}
use Rattle.deck_runs.specs.declared.threads.stages.Stage.{Stage}

-- The updaters have the new passes of the deck's station, in their order.
pub record AreNewUpdaters (station : TurnstileId) (deck : Deck) (updaters : List UpdaterRun) : Type 0 where
  pub count : length updaters ≡ length deck.updates
  pub each : (by : ℕ) (run : UpdaterRun) → slice_get updaters by ≡ Some run → run.pass ≡ new_pass station deck by

-- The updater has the deck's pass of this number, which made all its updates, or only the first of them.
pub record HasEndedUpdates (station : TurnstileId) (deck : Deck) (by : ℕ) (run : UpdaterRun) : Type 0 where
  pub pass : run.pass ≡ with_seen (new_pass station deck by) run.pass.seen
  pub made : MatchBool run.done
      (made_by by run.pass.seen ≡ commits_from by 0 (updates_by deck by))
      ((n : ℕ) × (n < length (updates_by deck by)) × (made_by by run.pass.seen ≡ commits_from by 0 (take n (updates_by deck by))))

-- Each updater has its pass, in their order.
pub record HaveEnded (station : TurnstileId) (deck : Deck) (updaters : List UpdaterRun) : Type 0 where
  pub count : length updaters ≡ length deck.updates
  pub each : (by : ℕ) (run : UpdaterRun) → slice_get updaters by ≡ Some run → HasEndedUpdates station deck by run

-- A stage before the jobs: its conductor and its updaters have new passes, and there is room for the updaters' passes to come back.
pub record IsUnplayed (s : Stage) : Type 0 where
  pub conductor : CanConduct s.station s.planned.now s.conductor
  pub updaters : AreNewUpdaters s.station s.planned.now s.updaters.items
  pub ready : All (HasNewPass s.station s.planned.now) s.updaters.items
  pub room : (s.passes.items ≡ []) × (length s.updaters.items ≤ vec_capacity s.passes)

-- A stage after the jobs.
pub record IsPlayed (s : Stage) : Type 0 where
  pub pass : s.conductor.pass ≡ with_seen (new_pass s.station s.planned.now (length s.planned.now.updates)) s.conductor.pass.seen
  pub few : starts s.conductor.pass.seen ≤ s.planned.now.settings.cycles
  pub updaters : HaveEnded s.station s.planned.now s.updaters.items
  pub room : (s.passes.items ≡ []) × (length s.updaters.items ≤ vec_capacity s.passes)

-- What the conductor has seen begins a whole history.
abbrev pub BeginsWhole : Deck → List Event → Type 0
BeginsWhole deck seen = (later : List Event) × IsWhole deck (seen ++ later)

-- The history of the closed station continues what the conductor has seen without a start, and it is whole if all cycles were started.
pub record IsEnd (deck : Deck) (seen H : List Event) : Type 0 where
  pub goes_on : GoesOnWithout is_start seen H
  pub whole : starts seen ≡ deck.settings.cycles → IsWhole deck H

-- The buckets of a beginning of what the conductor has seen were sent, and no call of the mast failed.
pub record SendsBeginning {M : Type 0} (state : M → MastState) (deck : Deck) (seen : List Event) (before now : M) : Type 0 where
  pub beginning : List Event
  pub later : List Event
  pub begins : seen ≡ beginning ++ later
  pub sent : Changes (with_buckets (aired_bytes deck beginning)) (state before).told (state now).told
  pub calm : (state now).faults ≡ (state before).faults

-- What the conductor's fault says of the mast.
abbrev pub IsSeenAnswer : {M : Type 0} → (M → MastState) → Deck → List Event → M → M → ConductFault → Type 0
IsSeenAnswer state deck seen before now (fault.Mast sent) = FailedAt state sent (aired_bytes deck seen) before now
IsSeenAnswer state deck seen before now fault.NoMemory = SendsBeginning state deck seen before now

-- What a deck's conductor leaves, in one definition. The buckets sent are those of the history that its pass has seen, and the published batches air
-- this history, one a cycle.
pub record AirsDeck {M : Type 0} (state : M → MastState) (deck : Deck) (p q : PassState) (f g : PublisherState) (before now : M) (result : Result (Unit {0}) ConductFault) : Type 0 where
  pub pass : GoesOn p q
  pub publisher : PublishesOn f g
  pub whole : OnOk result (IsUpTo 0 q.seen g.batches × (starts q.seen ≡ deck.settings.cycles))
  pub batches : OnOk result (AirsByBatches deck q.seen g.batches)
  pub few : starts q.seen ≤ deck.settings.cycles
  pub aired : MatchResult result (λ _. Changes (with_buckets (aired_bytes deck q.seen)) (state before).told (state now).told × ((state now).faults ≡ (state before).faults)) (IsSeenAnswer state deck q.seen before now)
  pub port : (state now).port ≡ (state before).port

-- The same, for proofs of what runs at the same time, which don't unfold it.
unfoldable pub HasAired : {M : Type 0} → (M → MastState) → Deck → PassState → PassState → PublisherState → PublisherState → M → M → Result (Unit {0}) ConductFault → Type 0
HasAired state deck p q f g before now result = AirsDeck state deck p q f g before now result

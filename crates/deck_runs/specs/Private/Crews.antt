-- For private steps alone. Jobs before and after they ran side by side.
use Rattle.std.specs.Prelude.{◌≡◌, ℕ, ◌+◌, ◌*◌, ◌<◌, ◌≤◌, List, [], length, map, take, get_or, MatchBool, Option, Some, None}
use Rattle.turnstile.specs.Passes.{TurnstileId}
use Rattle.air_history.specs.Boards.{board_of}
use Rattle.air_model.specs.Buckets.{entry_len}
use Rattle.air_model.specs.Decks.{Deck, updates_by, values_in}
use Rattle.air_model.specs.DeckLaws.{commits_from, made_by}
use Rattle.air_model.specs.declared.reports.LookLine.{LookLine}
use Rattle.bucket_codec.specs.declared.offsets.TheConstants.{HEAD_BYTES}
use Rattle.station.specs.PassStates.{PassState, new_pass, with_seen}
use Rattle.cycle_snapshot.specs.SnapshotStates.{MonitorState}
use Rattle.air_sender.specs.DeckGroups.{HasGroups}
use Rattle.deck_runs.specs.declared.jobs.crews.ConductorRun.{ConductorRun}
use Rattle.deck_runs.specs.declared.jobs.crews.UpdaterRun.{UpdaterRun}
use Rattle.deck_runs.specs.declared.jobs.crews.MonitorRun.{MonitorRun}
use Rattle.deck_runs.specs.Looks.{IsLookLineOf, LookedTimes}

-- The passes of updaters.
abbrev pub passes_of : List UpdaterRun → List PassState
passes_of updaters = map (λ run. run.pass) updaters

-- The monitors of watchers.
abbrev pub monitors_of : List MonitorRun → List MonitorState
monitors_of watchers = map (λ run. run.monitor) watchers

-- The pass is the new one of the station's and the deck's conductor, the board is that of the first values, the buffer has room for a bucket, and
-- there is what the deck's groups need.
pub record CanConduct (station : TurnstileId) (deck : Deck) (run : ConductorRun) : Type 0 where
  pub pass : run.pass ≡ new_pass station deck (length deck.updates)
  pub board : run.board ≡ board_of (values_in deck) []
  pub buffer : HEAD_BYTES + entry_len deck.settings.version * length deck.items ≤ length run.buf.items
  pub groups : HasGroups deck run.groups

-- The pass is a new one of the station and the deck.
unfoldable pub HasNewPass : TurnstileId → Deck → UpdaterRun → Type 0
HasNewPass station deck run = (run.pass ≡ new_pass station deck run.pass.number) × (run.pass.number < length deck.updates)

-- The pass is the same except for what it has seen, and it made all updates of its updater, or only the first of them.
unfoldable pub HasMadeUpdates : Deck → UpdaterRun → UpdaterRun → Type 0
HasMadeUpdates deck run now = (now.pass ≡ with_seen run.pass now.pass.seen) × MatchBool now.done
    (made_by run.pass.number now.pass.seen ≡ commits_from run.pass.number 0 (updates_by deck run.pass.number))
    ((n : ℕ) × (n < length (updates_by deck run.pass.number)) × (made_by run.pass.number now.pass.seen ≡ commits_from run.pass.number 0 (take n (updates_by deck run.pass.number))))

-- What a monitor's job gave: a line after all looks, or nothing after fewer.
abbrev pub GivesLine : ℕ → MonitorState → MonitorState → Option LookLine → Type 0
GivesLine looks m n (Some line) = LookedTimes looks m n × IsLookLineOf n line
GivesLine looks m n None = (k : ℕ) × (k < looks) × LookedTimes k m n

-- The monitor looked `looks` times, and its last look is the glance.
unfoldable pub IsWatched : ℕ → MonitorRun → MonitorRun → Type 0
IsWatched looks run now = GivesLine looks run.monitor now.monitor now.glance

-- Each updater is done.
abbrev pub EachDone : Deck → List UpdaterRun → List UpdaterRun → Type 0
EachDone deck runs now = (length now ≡ length runs) × ((k : ℕ) (d : UpdaterRun) → k < length runs → HasMadeUpdates deck (get_or runs k d) (get_or now k d))

-- Each monitor has watched.
abbrev pub EachWatched : ℕ → List MonitorRun → List MonitorRun → Type 0
EachWatched looks runs now = (length now ≡ length runs) × ((k : ℕ) (d : MonitorRun) → k < length runs → IsWatched looks (get_or runs k d) (get_or now k d))

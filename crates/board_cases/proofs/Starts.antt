-- A list of events has no more starts, and no more commits of an updater, than events.
use Rattle.std.proofs.Common.{ℕ, ◌<◌, ◌≤◌, List, length, arith}
use Rattle.std.proofs.lemmas.List.Sums.{count_by-le-length}
use Rattle.air_history.specs.declared.histories.Event.{Event}
use Rattle.air_history.specs.Histories.{is_start, starts}
use Rattle.air_model.specs.Decks.{is_by, count_made}

pub starts_within : (H : List Event) → starts H ≤ length H
unfolding starts
starts_within H = count_by-le-length is_start H

pub few_made : (by : ℕ) (G : List Event) → length G < 4294967295 → count_made by G < 4294967295
few_made by G short = omega (arith, count_by-le-length (is_by by) G)

pub few_starts : (G : List Event) → length G < 4294967295 → starts G < 4294967295
few_starts G short = let few = starts_within G in omega arith

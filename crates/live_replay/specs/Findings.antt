-- What the audit finds of a line, by a history and the deck alone: that it agrees, or the first cause for which it differs.
-- Values are those that reads of the history have; what passes and what clashes is judged by origins, and by no column.
use Rattle.std.specs.Prelude.{ℕ, Bool, true, false, not, ◌&&◌, ◌==◌, if◌then◌else◌, List, map, take, get_or, length, Option, Some, None}
use Rattle.std.specs.List.{list_all, range_with_len}
use Rattle.std.specs.Option.{is_some, option_map_or}
use Rattle.air_base.specs.declared.verdicts.ReadOf.{ReadOf}
use Rattle.air_base.specs.declared.verdicts.VerdictKind.{VerdictKind}
use Rattle.air_base.specs.declared.verdicts.VerdictKind.TheVariants.{Accept, Abort, Aged, Unfinished}
use Rattle.air_history.specs.declared.histories.Event.{Event}
use Rattle.air_history.specs.Tables.{values_of}
use Rattle.air_history.specs.Reads.{ReadAt, read_value}
use Rattle.air_history.specs.Columns.{Scheme}
use Rattle.air_history.specs.Clashes.{clash_of, is_late}
use Rattle.air_history.specs.ClashLaws.{passes}
use Rattle.air_model.specs.Aired.{scheme_in}
use Rattle.air_model.specs.Decks.{Deck, values_in}
use Rattle.air_model.specs.Reports.{total_at}
use Rattle.air_model.specs.SessionLaws.{are_far, decided_on}
use Rattle.air_model.specs.declared.reports.LookLine.{LookLine}
use Rattle.air_model.specs.declared.reports.VerdictLine.{VerdictLine}
use Rattle.live_replay.specs.declared.findings.Cause.{Cause}
use Rattle.live_replay.specs.declared.findings.Cause.TheVariants.{Value, Verdict, Clash, Total}

-- The item and the cycle of a read.
abbrev pub place_of_line : ReadOf → ReadAt
place_of_line read = record { item = read.item; cycle = read.cycle }

-- The items and cycles of reads.
abbrev pub places_read : List ReadOf → List ReadAt
places_read reads = map place_of_line reads

-- A read of an item in a cycle.
abbrev pub read_in_cycle : ℕ → ℕ → ReadAt
read_in_cycle item cycle = record { item = item; cycle = cycle }

-- A read has its value: that of its item at its cycle's start.
abbrev pub has_value : List ℕ → List Event → ReadOf → Bool
has_value values H read = read.value == read_value (values_of values) H (place_of_line read)

-- Each read passes after those before it, over n items.
unfoldable pub all_pass : Scheme → ℕ → List Event → List ReadAt → Bool
all_pass scheme n H R = list_all (λ k. passes scheme n H (take k R) (get_or R k (read_in_cycle 0 0))) (range_with_len 0 (length R))

-- The named read of an abort is refused: it comes in time, and clashes with a read before it. That of an aged attempt comes in time. No
-- other verdict names a read.
unfoldable pub is_refused : Scheme → ℕ → List Event → List ReadAt → VerdictKind → Bool
is_refused scheme n H R Accept = true
is_refused scheme n H R (Abort item cycle clash) =
    not (is_late scheme.policy R (read_in_cycle item cycle)) && is_some (clash_of scheme n H R (read_in_cycle item cycle))
is_refused scheme n H R (Aged item cycle) = not (is_late scheme.policy R (read_in_cycle item cycle))
is_refused scheme n H R Unfinished = true

-- The named clash of an abort is the item of the read with which the named one clashes. No other verdict names one.
unfoldable pub is_clash : Scheme → ℕ → List Event → List ReadAt → VerdictKind → Bool
is_clash scheme n H R Accept = true
is_clash scheme n H R (Abort item cycle clash) =
    option_map_or (λ held. held.item == clash) (clash_of scheme n H R (read_in_cycle item cycle)) false
is_clash scheme n H R (Aged item cycle) = true
is_clash scheme n H R Unfinished = true

-- Whether the reads lie as far apart as the verdict says: those of an aged attempt too far for the version, with the named read and not
-- without it; those of any other not too far, an abort's with the named read.
unfoldable pub spans_so : ℕ → List ReadAt → VerdictKind → Bool
spans_so version R Accept = not (are_far version R)
spans_so version R (Abort item cycle clash) = not (are_far version (decided_on (Abort item cycle clash) R))
spans_so version R (Aged item cycle) = not (are_far version R) && are_far version (decided_on (Aged item cycle) R)
spans_so version R Unfinished = not (are_far version R)

-- Why a verdict's line differs: the first of three causes that applies, in this order.
unfoldable pub verdict_cause : Deck → List Event → VerdictLine → Option Cause
verdict_cause deck H line =
    let scheme = scheme_in deck in
    let n = length deck.items in
    let R = places_read line.reads in
    let kind = line.verdict.kind in
    if not (list_all (has_value (values_in deck) H) line.reads) then Some Value
    else if not (all_pass scheme n H R && (is_refused scheme n H R kind && spans_so deck.settings.version R kind)) then Some Verdict
    else if not (is_clash scheme n H R kind) then Some Clash
    else None

-- Why the line of a glance or a look differs: its total isn't that of its cycle.
unfoldable pub look_cause : Deck → List Event → LookLine → Option Cause
look_cause deck H line = if line.total == total_at (values_in deck) H line.cycle then None else Some Total

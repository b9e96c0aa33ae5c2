-- For private steps alone. The reads of a group, the commits from which their origins descend, and marks at the places of these.
use Rattle.std.specs.Prelude.{◌≡◌, ℕ, ◌+◌, ◌-◌, ◌<◌, ◌≤◌, Bool, false, ◌&&◌, nat_le, List, length, map, get_or, All, Option, Some}
use Rattle.std.specs.List.{list_any}
use Rattle.air_base.specs.declared.verdicts.ReadOf.{ReadOf}
use Rattle.air_history.specs.declared.histories.Event.{Event}
use Rattle.air_history.specs.Columns.{group_of}
use Rattle.air_history.specs.Consistency.{runs_alone}
use Rattle.air_history.specs.Histories.{front}
use Rattle.air_history.specs.Places.{same_place}
use Rattle.air_history.specs.Reads.{ReadAt, IsRead}
use Rattle.air_model.specs.Decks.{values_in}
use Rattle.live_replay.specs.declared.groups.GroupMarks.{GroupMarks}
use Rattle.live_replay.specs.declared.writes.ItemWrite.{ItemWrite}
use Rattle.live_replay.specs.Findings.{place_of_line}
use Rattle.live_replay.specs.Private.Replays.{DeckAndHistory}
use Rattle.live_replay.specs.Private.Writes.{writes_from}

-- The reads of a group: one of each item of the read's group, in the read's cycle.
abbrev pub group_reads : ℕ → ℕ → ReadAt → List ReadAt
group_reads g n x = map (λ q. record { item = q; cycle = x.cycle }) (group_of g n x.item)

-- The writes of an item from cycle c on and before cycle d, in order.
abbrev pub writes_between : List ℕ → List Event → ℕ → ℕ → ℕ → List ItemWrite
writes_between V H i c d = writes_from V H i (length (front H c)) (length (front H d) - length (front H c))

-- The place has a mark.
abbrev pub is_marked : GroupMarks → ℕ → Bool
is_marked m p = nat_le m.first p && get_or m.marks.items (p - m.first) false

-- From the first place on, the marks are at the origins.
abbrev pub MarksOrigins : List (Option ℕ) → ℕ → List Bool → Type 0
MarksOrigins origins first marks = (k : ℕ) → get_or marks k false ≡ list_any (λ o. same_place o (Some (first + k))) origins

-- From the first place on, the marks are at the commits from which the reads descend.
abbrev pub MarksAlone : List Event → List ReadAt → ℕ → List Bool → Type 0
MarksAlone H R first marks = (k : ℕ) → get_or marks k false ≡ runs_alone H R (first + k)

-- The marks are those of the read's group. They begin no later than the first write that follows one of the other reads and comes
-- before the read's cycle.
pub record AreMarksOf (r : DeckAndHistory) (others : List ReadOf) (read : ReadOf) (m : GroupMarks) : Type 0 where
  pub alone : MarksAlone r.history (group_reads r.deck.settings.group (length r.deck.items) (place_of_line read)) m.first m.marks.items
  pub low : All (λ o. All (λ w. m.first ≤ w.place) (writes_between (values_in r.deck) r.history o.item o.cycle read.cycle)) others

-- Each of the reads has its marks.
pub record HaveMarks (r : DeckAndHistory) (others reads : List ReadOf) (marks : List GroupMarks) : Type 0 where
  pub sized : length marks ≡ length reads
  pub each : (k : ℕ) (d : ReadOf) (e : GroupMarks) → k < length reads → AreMarksOf r others (get_or reads k d) (get_or marks k e)

-- The read is of an item below n, in a cycle from 1 on.
pub record IsItemRead (n : ℕ) (read : ReadOf) : Type 0 where
  pub item : read.item < n
  pub begun : IsRead (place_of_line read)

-- The definitions of the laws of sessions: what holds of heard lists and queries, and what each line tells. The laws are the
-- contracts of the functions of `sessions`.
use Rattle.std.specs.Prelude.{◌≡◌, ◌≢◌, ◌↔◌, ℕ, ◌<◌, ◌≤◌, ◌+◌, max, Bool, false, ◌&&◌, ◌==◌, nat_eq, nat_lt, List, [], ◌∷◌, ◌++◌, fold, length, map, take, get_or, slice_get, All, Contains, IfSome, IsTrue, Option, Some}
use Rattle.std.specs.List.{list_any}
use Rattle.std.specs.Cmp.Lexicographic.{pointwise}
use Rattle.air_base.specs.declared.verdicts.Policy.{Policy}
use Rattle.air_base.specs.declared.verdicts.Clash.{Clash}
use Rattle.air_base.specs.declared.verdicts.VerdictKind.{VerdictKind}
use Rattle.air_base.specs.declared.verdicts.VerdictKind.TheVariants.{Accept, Abort, Aged, Unfinished}
use Rattle.air_history.specs.declared.histories.Event.{Event}
use Rattle.air_history.specs.Tables.{table, values_of, BasesRead}
use Rattle.air_history.specs.Reads.{ReadAt}
use Rattle.air_history.specs.Ages.{spans_too_far}
use Rattle.air_history.specs.Consistency.{alone, IsConsistent}
use Rattle.air_history.specs.ClashLaws.{IsSound}
use Rattle.air_model.specs.Buckets.{Body, Bucket, Column, Idle, Vector, has_ages}
use Rattle.air_model.specs.Reads.{Read}
use Rattle.air_model.specs.Aired.{Air, fits}
use Rattle.air_model.specs.Judges.{Judge}
use Rattle.air_model.specs.Sessions.{Reader, State, SessionLine, hear, is_wanted, read_in, wanted}

-- No query is empty.
abbrev pub QueriesFilled : Reader → Type 0
QueriesFilled reader = All (λ q. 0 < length q) reader.queries

-- ---- what the history uses

-- The body without its value, and with 0 for each entry.
abbrev pub bare_body : Body → Body
bare_body (Idle count) = Idle count
bare_body (Column item value entries) = Column item 0 (map (λ e. 0) entries)
bare_body (Vector item value entries) = Vector item 0 (map (λ e. 0) entries)

-- The bucket with the bare body.
abbrev pub bare : Bucket → Bucket
bare b = record b { body = bare_body b.body }

-- ---- what a line tells

-- The reads of a line as items and cycles.
abbrev pub reads_at : SessionLine → List ReadAt
reads_at l = map (λ r. record { item = r.item; cycle = r.cycle }) l.reads

-- A line is sound if its reads are consistent and share the cycle that the policy gives them, and each value is the one that
-- the updates from which the reads descend give when they run alone.
pub record IsSoundLine (values : List ℕ) (policy : Policy) (H : List Event) (l : SessionLine) : Type 0 where
  pub reads : IsSound policy H (reads_at l)
  pub by_ancestors : All BasesRead H → All (λ r. r.value ≡ table (values_of values) (alone H (reads_at l)) r.item) l.reads

-- Each member that fits has a cycle of at least 1, as the bytes of every bucket have.
abbrev pub CyclesFromOne : Air → List (Option Bucket) → Type 0
CyclesFromOne air heard = All (λ o. IfSome o (λ b. IsTrue (fits air b) → 1 ≤ b.cycle)) heard

-- Whether the verdict is an abort.
abbrev pub IsAbort : VerdictKind → Type 0
IsAbort (Abort item cycle clash) = Unit {0}
IsAbort other = ⊥

-- Whether the attempt ended because its reads are too far apart.
abbrev pub IsAged : VerdictKind → Type 0
IsAged (Aged item cycle) = Unit {0}
IsAged other = ⊥

-- The reads on which an attempt was decided: those of its line, and the refused one if it was aborted or aged.
abbrev pub decided_on : VerdictKind → List ReadAt → List ReadAt
decided_on (Abort item cycle clash) R = R ++ record { item = item; cycle = cycle } ∷ []
decided_on (Aged item cycle) R = R ++ record { item = item; cycle = cycle } ∷ []
decided_on other R = R

-- Whether reads of buckets of this version are too far apart to be judged.
abbrev pub are_far : ℕ → List ReadAt → Bool
are_far version R = has_ages version && spans_too_far R

-- When a verdict is exact. The attempt is aged if and only if the reads are too far apart for the version. Otherwise the query
-- is accepted if and only if the reads are consistent and are all of its items; it is aborted if and only if the reads aren't
-- consistent; and it is unfinished if and only if they are consistent but not all of its items.
pub record IsExact (version : ℕ) (H : List Event) (query : List ℕ) (kind : VerdictKind) (R : List ReadAt) : Type 0 where
  pub aged : IsAged kind ↔ IsTrue (are_far version R)
  pub accepted : (kind ≡ Accept) ↔ ((are_far version R ≡ false) × (map (λ r. r.item) R ≡ query) × IsConsistent H R)
  pub aborted : IsAbort kind ↔ ((are_far version R ≡ false) × (IsConsistent H R → ⊥))
  pub unfinished : (kind ≡ Unfinished) ↔ ((are_far version R ≡ false) × IsConsistent H R × (map (λ r. r.item) R ≡ query → ⊥))

-- The verdict of a line on an air of this version is exact for the reads on which it was decided.
abbrev pub IsExactLine : ℕ → List Event → Reader → SessionLine → Type 0
IsExactLine version H reader l = IsExact version H (get_or reader.queries l.verdict.query []) l.verdict.kind (decided_on l.verdict.kind (reads_at l))

-- The judge names a held read with which a new one clashes.
abbrev pub NamesHeld : Judge → Type 0
NamesHeld judge = (R : List Read) (x : Read) (c : Clash) → judge.clash R x ≡ Some c → Contains (map (λ r. r.item) R) c.item

-- Whether read items follow a query. If it was accepted, they are all of it; otherwise they are its first ones, and some are
-- missing. The refused item of an abort or an aged attempt is the next one, and an abort's clash is one of the read items.
unfoldable pub follows_query : List ℕ → VerdictKind → List ℕ → Bool
follows_query query Accept items = pointwise nat_eq items query
follows_query query (Abort item cycle clash) items =
    pointwise nat_eq items (take (length items) query) && (is_wanted (slice_get query (length items)) item && list_any (λ i. i == clash) items)
follows_query query (Aged item cycle) items = pointwise nat_eq items (take (length items) query) && is_wanted (slice_get query (length items)) item
follows_query query Unfinished items = pointwise nat_eq items (take (length items) query) && nat_lt (length items) (length query)

-- A line is the reader's if its query is one of the reader's, its attempt is from 1 to the number of tries, and its reads
-- follow the query.
pub record IsOfReader (reader : Reader) (l : SessionLine) : Type 0 where
  pub query : l.verdict.query < length reader.queries
  pub begun : 1 ≤ l.verdict.attempt
  pub tried : l.verdict.attempt ≤ reader.plan.tries
  pub follows : IsTrue (follows_query (get_or reader.queries l.verdict.query []) l.verdict.kind (map (λ r. r.item) l.reads))

-- ---- lines

-- The state with these lines before its own.
abbrev pub after : List SessionLine → State → State
after L s = record s { lines = L ++ s.lines }

-- ---- dozing

-- A bucket is unwanted if it fits, and is idle or of another item than the wanted one.
pub record IsUnwanted (air : Air) (reader : Reader) (s : State) (b : Bucket) : Type 0 where
  pub fitting : IsTrue (fits air b)
  pub other : IfSome (read_in b.cycle b.body) (λ x. wanted reader s ≢ Some x.item)

-- The newest of a cycle and the cycles of these buckets.
abbrev pub newest_of : ℕ → List Bucket → ℕ
newest_of now buckets = fold (λ c b. max c b.cycle) now buckets

-- The state after these buckets were heard, one after another.
abbrev pub hear_each : Judge → Air → Reader → List Bucket → State → State
hear_each judge air reader buckets s = fold (λ t b. hear judge air reader (Some b) t) s buckets

-- The state after n more buckets were dozed through; the newest heard cycle is this one.
abbrev pub dozed_through : ℕ → ℕ → State → State
dozed_through n newest s = record s { now = newest; counts = record s.counts { dozed = s.counts.dozed + n } }

-- The fields of a reader: its plan, and its queries as lists of items.
use Rattle.std.specs.Prelude.{◌≡◌, ℕ, ◌<◌, ◌≤◌, ◌^◌, false, length, map, All}
use Rattle.held_reads.specs.declared.held.TheConstants.{ROOM}
use Rattle.air_history.specs.UpdateRules.{has_repeat}
use Rattle.air_model.specs.Sessions.{Reader}
use Rattle.receiver_core.specs.declared.readers.Reader.TheInside.{Inside}

-- The reader of the fields.
abbrev pub reader_in : Inside → Reader
reader_in r = record { plan = r.plan; queries = map (λ q. q.items) r.queries.items }

-- There are fewer than 2^32 queries, and each of them has at most sixteen items.
pub record HasFewQueries (reader : Reader) : Type 0 where
  pub queries : length reader.queries < 2 ^ 32
  pub items : All (λ q. length q ≤ ROOM) reader.queries

-- No query has an item twice.
abbrev pub AreDistinct : Reader → Type 0
AreDistinct reader = All (λ q. has_repeat q ≡ false) reader.queries

-- Each item of each query is below n.
abbrev pub AreWithin : ℕ → Reader → Type 0
AreWithin n reader = All (λ q. All (λ i. i < n) q) reader.queries

-- The fields of held reads: sixteen places, the first of which hold reads.
use Rattle.std.specs.Prelude.{◌≡◌, ◌<◌, ◌≤◌, length, map, take, All}
use Rattle.air_history.specs.HeldReads.{HeldReads}
use Rattle.held_reads.specs.declared.held.TheConstants.{ROOM}
use Rattle.held_reads.specs.declared.held.HeldEntries.TheInside.{Inside}
use Rattle.held_reads.specs.HeardReads.{heard_of_held}

-- The reads of the places that hold one.
abbrev pub held_reads : Inside → HeldReads
held_reads h = record { n = h.n; reads = map heard_of_held (take h.len h.places.items) }

-- There are sixteen places, each has room for n entries, and each held item is one of the n.
pub record KeepsRoom (h : Inside) : Type 0 where
  pub places : length h.places.items ≡ ROOM
  pub within : h.len ≤ ROOM
  pub entries : All (λ r. length r.entries.items ≡ h.n) h.places.items
  pub items : All (λ r. r.item < h.n) (take h.len h.places.items)

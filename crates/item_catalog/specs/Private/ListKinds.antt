-- For private steps only. The first kind that an update, a query or a replan has, from what was kept of its lists.
use Rattle.std.specs.Prelude.{◌||◌, ◌==◌, ℕ, [], ◌∷◌, Bool, Option, length, nat_le, nat_lt, not}
use Rattle.air_base.specs.declared.limits.TheConstants.{MOST_ASKED, MOST_CYCLES, MOST_DISKS, MOST_QUERIES, MOST_READS, MOST_REPLANS, MOST_UPDATERS, MOST_UPDATES, MOST_WRITES}
use Rattle.item_catalog.specs.KeptLists.{ItemsSeen, WritesSeen}
use Rattle.item_catalog.specs.Ranges.{outside}
use Rattle.item_catalog.specs.RecordKinds.{first_of}
use Rattle.item_catalog.specs.declared.faults.FaultKind.{FaultKind}
use Rattle.item_catalog.specs.declared.faults.FaultKind.TheVariants as fault

-- The first kind that an update has, after this many updates.
abbrev pub seen_update_kind : ItemsSeen → WritesSeen → ℕ → ℕ → Option FaultKind
seen_update_kind reads writes by given = first_of (
    (fault.Undeclared, reads.undeclared || writes.undeclared) ∷
    (fault.Twice, reads.repeated || writes.repeated) ∷
    (fault.Limit, nat_le MOST_UPDATERS by || nat_lt MOST_READS (length reads.items) || outside 1 MOST_WRITES (length writes.writes) || nat_le MOST_UPDATES given) ∷
    (fault.Unread, writes.unread) ∷ [])

-- The first kind that a query has, after this many readers and queries.
abbrev pub seen_query_kind : ItemsSeen → ℕ → ℕ → ℕ → Option FaultKind
seen_query_kind asked readers reader given = first_of (
    (fault.Undeclared, nat_le readers reader || asked.undeclared) ∷
    (fault.Twice, asked.repeated) ∷
    (fault.Limit, outside 1 MOST_ASKED (length asked.items) || nat_le MOST_QUERIES given) ∷ [])

-- The first kind that a replan has, after this many replans with this last cycle, from the numbers of sizes and of frequencies
-- that were kept, and whether one of them is invalid.
abbrev pub seen_replan_kind : Bool → ℕ → ℕ → ℕ → ℕ → ℕ → Option FaultKind
seen_replan_kind wrong replans last cycle sizes freqs = first_of (
    (fault.Limit, nat_le MOST_REPLANS replans || outside 2 MOST_CYCLES cycle || nat_le cycle last || outside 1 MOST_DISKS sizes || wrong) ∷
    (fault.Lengths, not (sizes == freqs)) ∷ [])

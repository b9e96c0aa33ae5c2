use Rattle.std.proofs.Common.{◌≡◌, ◌+◌, ◌++◌, ℕ, List, length}
use Rattle.item_catalog.specs.FirstFaults.{NoneBefore}
use Rattle.item_catalog.specs.Records.{records_of}
use Rattle.item_catalog.specs.Private.Drafts.{draft_of}
use Rattle.item_catalog.specs.Faults.{declarations_in, kinds_at}
use Rattle.item_catalog.proofs.reading.read_deck.Given as goal

-- The reader is after some records, no kind applies to one of them, and the draft has what they declare.
abbrev pub invariant-loop-row : goal.invariant-loop-row
invariant-loop-row l = (rows : List (List (List ℕ))) × (records_of l.fn.bytes ≡ rows ++ l.records) × NoneBefore (kinds_at rows) (length rows)
    × (l.draft ≡ draft_of (declarations_in rows)) × (l.row ≡ length rows + 1)

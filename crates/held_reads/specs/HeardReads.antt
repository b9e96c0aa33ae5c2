-- What contracts see of one held read: its item, its cycle, and the entries that were heard with it.
use Rattle.std.specs.Prelude.{ℕ, List}
use Rattle.air_history.specs.Clashes.{HeardRead}
use Rattle.held_reads.specs.declared.reads.HeldRead.{HeldRead}

-- The read with its entries.
abbrev pub heard_of_held : HeldRead → HeardRead
heard_of_held r = record { item = r.item; cycle = r.cycle; entries = r.entries.items }

-- The read of an item in a cycle, with the entries that were heard with it.
abbrev pub heard_read : ℕ → ℕ → List ℕ → HeardRead
heard_read item cycle entries = record { item = item; cycle = cycle; entries = entries }

-- The held cycles as an array over the items, and how it is related to the held reads.
use Rattle.std.specs.Prelude.{◌≡◌, ◌==◌, ℕ, cond, List, [], ◌∷◌, map, All}
use Rattle.std.specs.List.{range_with_len}
use Rattle.air_history.specs.Clashes.{HeardRead}
use Rattle.air_history.specs.HeldReads.{HeldReads}
use Rattle.held_reads.specs.declared.cycles.TheConstants.{NOT_HELD}
use Rattle.held_reads.specs.declared.held.HeldEntries.TheInside.{Inside}
use Rattle.held_reads.specs.HeldFields.{held_reads, KeepsRoom}

-- The cycle in which an item is held; NOT_HELD if it isn't held.
abbrev pub held_cycle : List HeardRead → ℕ → ℕ
held_cycle [] i = NOT_HELD
held_cycle (r ∷ R) i = cond (r.item == i) r.cycle (held_cycle R i)

-- The held cycles, one for each item.
abbrev pub cycles_of : HeldReads → List ℕ
cycles_of held = map (held_cycle held.reads) (range_with_len 0 held.n)

-- The cycle of each held read is the one in which its item is held: no item is held in two cycles.
abbrev pub AreHeldOnce : List HeardRead → Type 0
AreHeldOnce R = All (λ r. held_cycle R r.item ≡ r.cycle) R

-- The fields keep the room, the array has the held cycles, and no item is held in two of them.
pub record KeepsCycles (h : Inside) : Type 0 where
  pub room : KeepsRoom h
  pub cycles : h.cycles.items ≡ cycles_of (held_reads h)
  pub once : AreHeldOnce (held_reads h).reads

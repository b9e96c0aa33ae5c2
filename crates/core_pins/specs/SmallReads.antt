-- Small lists of held reads, over three items.
use Rattle.std.specs.Prelude.{ℕ, [], ◌∷◌}
use Rattle.air_history.specs.Clashes.{HeardRead}
use Rattle.air_history.specs.HeldReads.{HeldReads}

-- A read of an item in a cycle, with the entries of the items 0, 1 and 2.
abbrev pub read_with_entries : ℕ → ℕ → ℕ → ℕ → ℕ → HeardRead
read_with_entries item cycle a b c = record { item = item; cycle = cycle; entries = a ∷ b ∷ c ∷ [] }

-- Two held reads.
abbrev pub two : HeardRead → HeardRead → HeldReads
two r s = record { n = 3; reads = r ∷ s ∷ [] }

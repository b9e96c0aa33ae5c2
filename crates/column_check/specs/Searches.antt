-- Definitions of the search for a clash under F-Matrix: it is the least among the held reads that disagree with the new one.
use Rattle.std.specs.Prelude.{◌≡◌, ◌≤◌, Bool, ◌||◌, nat_le, List, All, Any, IsTrue}
use Rattle.air_base.specs.declared.verdicts.Clash.{Clash}
use Rattle.air_history.specs.Clashes.{HeardRead, entry_of}
use Rattle.held_reads.specs.Searches.{clash_naming}

-- Whether the column of the new read x, or of the held read r, has the other's item at the other's cycle or later.
abbrev pub disagree : HeardRead → HeardRead → Bool
disagree x r = nat_le r.cycle (entry_of x r.item) || nat_le x.cycle (entry_of r x.item)

-- The clash is that of a read that disagrees with the new one, and no such read has a lesser item number.
pub record IsLeastClash (R : List HeardRead) (x : HeardRead) (c : Clash) : Type 0 where
  pub held : Any (λ r. IsTrue (disagree x r) × (c ≡ clash_naming r)) R
  pub least : All (λ r. IsTrue (disagree x r) → c.item ≤ r.item) R

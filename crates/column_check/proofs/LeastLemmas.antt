-- The clash by the entries under F-Matrix is the least of the reads that disagree with the new one.
use Rattle.std.proofs.Common.{◌≡◌, false, List, All, Option, Some, None, refl, subst}
use Rattle.std.specs.Prelude.{MatchOption}
use Rattle.air_base.specs.declared.verdicts.Clash.{Clash}
use Rattle.air_base.specs.declared.verdicts.Policy.TheVariants.{FMatrix}
use Rattle.air_history.specs.Clashes.{HeardRead, heard_clash, clash_by_entries}
use Rattle.held_reads.proofs.ReachedLemmas.{NamesLeastOf, search_names}
use Rattle.column_check.specs.Searches.{disagree, IsLeastClash}

pub least_is : (R : List HeardRead) (x : HeardRead) → heard_clash (disagree x) R ≡ clash_by_entries FMatrix R x
unfolding clash_by_entries
least_is R x = refl

-- If there is no clash, no read disagrees; a clash is the least of those that disagree.
abbrev NamesLeast : List HeardRead → HeardRead → Option Clash → Type 0
NamesLeast R x o = MatchOption o (All (λ r. disagree x r ≡ false) R) (IsLeastClash R x)

pub names_least : (R : List HeardRead) (x : HeardRead) → NamesLeast R x (clash_by_entries FMatrix R x)
names_least R x = subst (NamesLeast R x) (least_is R x) (by (heard_clash (disagree x) R) (search_names (disagree x) R))
  where
    by : (o : Option Clash) → NamesLeastOf (disagree x) R o → NamesLeast R x o
    by None none = none
    by (Some c) found = record { held = found.held; least = found.least }

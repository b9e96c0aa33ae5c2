-- What each policy names by the entries, case by case.
use Rattle.std.proofs.Common.{◌≡◌, ◌==◌, ◌<◌, ◌≤◌, true, false, nat_le, List, None, ◌∙◌, arith}
use Rattle.std.proofs.lemmas.Bool.{cond-true, cond-false}
use Rattle.air_base.specs.declared.verdicts.Policy.TheVariants.{Datacycle, RMatrix}
use Rattle.air_history.specs.Clashes.{HeardRead, entry_of, entry_in, heard_clash, newest_heard, first_heard, clash_by_entries}
use Rattle.held_reads.specs.Searches.{is_reached}

-- Datacycle, if the new cycle is the newest.
pub named_at_newest : (R : List HeardRead) (x : HeardRead) → newest_heard R ≤ x.cycle → clash_by_entries Datacycle R x ≡ heard_clash (is_reached x.entries) R
unfolding clash_by_entries
named_at_newest R x le =
    let t : nat_le (newest_heard R) x.cycle ≡ true = grind arith in
    cond-true (nat_le (newest_heard R) x.cycle) _ _ t

-- Datacycle, if it isn't, and the vector of the newest held cycle has the new item below the new cycle.
pub none_at_newest : (R : List HeardRead) (x : HeardRead) → x.cycle < newest_heard R → entry_in R (newest_heard R) x.item < x.cycle → clash_by_entries Datacycle R x ≡ None
unfolding clash_by_entries
none_at_newest R x lt below =
    let f : nat_le (newest_heard R) x.cycle ≡ false = grind arith in
    let g : nat_le x.cycle (entry_in R (newest_heard R) x.item) ≡ false = grind arith in
    cond-false (nat_le (newest_heard R) x.cycle) _ _ f ∙ cond-false (nat_le x.cycle (entry_in R (newest_heard R) x.item)) _ _ g

-- Datacycle, if it isn't, and that vector has the new item at the new cycle or later.
pub named_of_newest : (R : List HeardRead) (x : HeardRead) → x.cycle < newest_heard R → x.cycle ≤ entry_in R (newest_heard R) x.item →
    clash_by_entries Datacycle R x ≡ heard_clash (λ r. r.cycle == newest_heard R) R
unfolding clash_by_entries
named_of_newest R x lt above =
    let f : nat_le (newest_heard R) x.cycle ≡ false = grind arith in
    let t : nat_le x.cycle (entry_in R (newest_heard R) x.item) ≡ true = grind arith in
    cond-false (nat_le (newest_heard R) x.cycle) _ _ f ∙ cond-true (nat_le x.cycle (entry_in R (newest_heard R) x.item)) _ _ t

-- R-Matrix, if the new vector has the new item below the first held cycle.
pub none_below_first : (R : List HeardRead) (x : HeardRead) → entry_of x x.item < first_heard R → clash_by_entries RMatrix R x ≡ None
unfolding clash_by_entries
none_below_first R x below =
    let f : nat_le (first_heard R) (entry_of x x.item) ≡ false = grind arith in
    cond-false (nat_le (first_heard R) (entry_of x x.item)) _ _ f

-- R-Matrix, if it doesn't.
pub named_from_first : (R : List HeardRead) (x : HeardRead) → first_heard R ≤ entry_of x x.item → clash_by_entries RMatrix R x ≡ heard_clash (is_reached x.entries) R
unfolding clash_by_entries
named_from_first R x above =
    let t : nat_le (first_heard R) (entry_of x x.item) ≡ true = grind arith in
    cond-true (nat_le (first_heard R) (entry_of x x.item)) _ _ t

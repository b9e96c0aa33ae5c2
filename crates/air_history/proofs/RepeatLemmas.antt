-- No rule is broken if and only if each rule holds.
use Rattle.std.proofs.Common.{◌≡◌, ◌≢◌, ◌↔◌, ◌≤◌, ℕ, suc, Bool, true, false, ◌&&◌, ◌||◌, ◌==◌, nat_le, Option, Some, None, IfSome, List, [], ◌∷◌, length, map, get_or, All, Contains, refl, sym, ◌∙◌, ap, arith}
use Rattle.std.specs.Prelude.{AllPairs}
use Rattle.std.specs.List.{list_any, list_all}
use Rattle.std.proofs.lemmas.Bool.{or_parts, or_from, le-leb, eq-eqb, ne_eqb, both_ways, not-true, not_from_false}
use Rattle.std.proofs.lemmas.List.Elements.{All-head, All-tail, All-cons}
use Rattle.std.proofs.lemmas.List.Kept.{AllPairs-cons}
use Rattle.std.proofs.lemmas.List.Folds.{list_any_at}
use Rattle.air_base.specs.declared.limits.TheConstants.{MOST_READS, MOST_WRITES}
use Rattle.air_history.specs.declared.updates.Write.{Write}
use Rattle.air_history.specs.UpdateLists.{UpdateLists}
use Rattle.air_history.specs.UpdateRules.{has_repeat, written_item, within_limits, base_is_read, base_holds, update_fault, KeepsRules}
use Rattle.air_history.proofs.UpdateRuleLemmas.{rules_kept, few_reads, some_write, few_writes, each_passes, base_read}

-- No element of the list is x.
none_is : (x : ℕ) (xs : List ℕ) → list_any (λ y. y == x) xs ≡ false → All (λ y. x ≢ y) xs
none_is x [] h = λ k d l. absurd (omega arith)
none_is x (y ∷ xs) h =
    let both = or_parts (y == x) (list_any (λ y. y == x) xs) h in
    All-cons (λ y. x ≢ y) y xs (λ e. both_ways (y == x) both.0 (eq-eqb y x (sym e))) (none_is x xs both.1)

is_none : (x : ℕ) (xs : List ℕ) → All (λ y. x ≢ y) xs → list_any (λ y. y == x) xs ≡ false
is_none x [] h = refl
is_none x (y ∷ xs) h =
    ap (λ b. b || list_any (λ y. y == x) xs) (ne_eqb y x (λ e. All-head (λ y. x ≢ y) y xs h (sym e))) ∙ is_none x xs (All-tail (λ y. x ≢ y) y xs h)

-- No number is in a list twice if and only if each two elements differ.
apart_from : (xs : List ℕ) → has_repeat xs ≡ false → AllPairs (λ a b. a ≢ b) xs
unfolding has_repeat
apart_from [] h = λ i j d lt within. absurd (omega arith)
apart_from (x ∷ xs) h =
    let both = or_parts (list_any (λ y. y == x) xs) (has_repeat xs) h in
    AllPairs-cons (λ a b. a ≢ b) x xs (none_is x xs both.0) (apart_from xs both.1)

from_apart : (xs : List ℕ) → AllPairs (λ a b. a ≢ b) xs → has_repeat xs ≡ false
unfolding has_repeat
from_apart [] h = refl
from_apart (x ∷ xs) h =
    ap (λ b. b || has_repeat xs) (is_none x xs (λ k d l. h 0 (suc k) d (omega arith) (omega arith)))
    ∙ from_apart xs (λ i j d lt within. h (suc i) (suc j) d (omega arith) (omega arith))

-- A write without a base has no minus.
minus_holds : (reads : List ℕ) (minus : Bool) (base : Option ℕ) → base_holds reads minus base ≡ true → base ≡ None → minus ≡ false
minus_holds reads minus None h e = not-true minus h
minus_holds reads minus (Some b) h e = absurd (let f : ◌≡◌ {A = Option ℕ} (Some b) None = e in cc)

holds_from : (reads : List ℕ) (minus : Bool) (base : Option ℕ) → IfSome base (Contains reads) → (base ≡ None → minus ≡ false) → base_holds reads minus base ≡ true
holds_from reads minus None read plain = not_from_false minus (plain refl)
holds_from reads minus (Some b) read plain = list_any_at (λ r. r == b) reads read.0 b read.1 (eq-eqb _ _ read.2)

all_hold : (f : Write → Bool) (ws : List Write) → All (λ w. f w ≡ true) ws → list_all f ws ≡ true
all_hold f [] h = refl
all_hold f (w ∷ ws) h = ap (λ b. b && list_all f ws) (All-head (λ w. f w ≡ true) w ws h) ∙ all_hold f ws (All-tail (λ w. f w ≡ true) w ws h)

pub rules : (u : UpdateLists) → KeepsRules u ↔
    ((length u.reads ≤ MOST_READS) × (1 ≤ length u.writes) × (length u.writes ≤ MOST_WRITES)
    × AllPairs (λ a b. a ≢ b) u.reads × AllPairs (λ a b. a ≢ b) (map written_item u.writes)
    × All (λ w. IfSome w.base (Contains u.reads)) u.writes × All (λ w. w.base ≡ None → w.minus ≡ false) u.writes)
unfolding update_fault
rules u = (
  λ kept. let k = rules_kept u.reads u.writes kept in
      let both = or_parts (has_repeat u.reads) (has_repeat (map written_item u.writes)) k.apart in (
        few_reads u kept,
        some_write u kept,
        few_writes u kept,
        apart_from u.reads both.0,
        apart_from (map written_item u.writes) both.1,
        λ i d l. base_read u.reads (get_or u.writes i d).minus (get_or u.writes i d).base (each_passes (base_is_read u.reads) u.writes k.based i d l),
        λ i d l. minus_holds u.reads (get_or u.writes i d).minus (get_or u.writes i d).base (each_passes (base_is_read u.reads) u.writes k.based i d l),
      ),
  λ (few_reads, some_write, few_writes, reads_apart, writes_apart, bases_read, minus_based). no_fault
      (ap (λ a. a && (nat_le 1 (length u.writes) && nat_le (length u.writes) MOST_WRITES)) (le-leb _ _ few_reads) ∙ ap (λ a. a && nat_le (length u.writes) MOST_WRITES) (le-leb _ _ some_write) ∙ le-leb _ _ few_writes)
      (or_from _ _ (from_apart u.reads reads_apart) (from_apart (map written_item u.writes) writes_apart))
      (all_hold (base_is_read u.reads) u.writes (λ i d l. holds_from u.reads (get_or u.writes i d).minus (get_or u.writes i d).base (bases_read i d l) (minus_based i d l))),
)
  where
    no_fault : within_limits u.reads u.writes ≡ true → (has_repeat u.reads || has_repeat (map written_item u.writes)) ≡ false → list_all (base_is_read u.reads) u.writes ≡ true → update_fault u.reads u.writes ≡ None
    no_fault a b c = rw (a, b, c) refl

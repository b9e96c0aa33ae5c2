-- What follows from the rules of an update: its limits, and that each base is one of its reads.
use Rattle.std.proofs.Common.{◌≡◌, ℕ, ◌<◌, ◌≤◌, Bool, true, false, cond, not, ◌&&◌, ◌||◌, ◌==◌, nat_le, Option, Some, None, IfSome, List, [], ◌∷◌, length, map, get_or, All, Contains, refl, subst, arith}
use Rattle.std.specs.List.{list_all}
use Rattle.std.proofs.lemmas.Bool.{and_parts, leb-true, eqb-true}
use Rattle.std.proofs.lemmas.List.Elements.{All-cons}
use Rattle.air_base.specs.declared.limits.TheConstants.{MOST_READS, MOST_WRITES}
use Rattle.air_history.specs.declared.updates.Write.{Write}
use Rattle.air_history.specs.declared.updates.UpdateFault.{UpdateFault}
use Rattle.air_history.specs.declared.updates.UpdateFault.TheVariants.{Limit, Repeated, BaseNotRead}
use Rattle.air_history.specs.declared.histories.Event.TheVariants.{Commit}
use Rattle.air_history.specs.UpdateLists.{UpdateLists}
use Rattle.air_history.specs.UpdateRules.{has_repeat, written_item, within_limits, base_is_read, base_holds, update_fault, KeepsRules, UpdateFits}
use Rattle.air_history.specs.Tables.{WriteFits, BasesRead}
use Rattle.air_history.proofs.PlaceLemmas.{any_at}

-- No rule is broken.
pub record IsKept (reads : List ℕ) (writes : List Write) : Type 0 where
  pub limits : within_limits reads writes ≡ true
  pub apart : (has_repeat reads || has_repeat (map written_item writes)) ≡ false
  pub based : list_all (base_is_read reads) writes ≡ true

none_of_three : (a b c : Bool) (x y z : UpdateFault) → cond (not a) (Some x) (cond b (Some y) (cond (not c) (Some z) None)) ≡ None → (a ≡ true) × (b ≡ false) × (c ≡ true)
none_of_three true false true x y z e = (refl, refl, refl)
none_of_three true false false x y z e = cc
none_of_three true true c x y z e = cc
none_of_three false b c x y z e = cc

pub rules_kept : (reads : List ℕ) (writes : List Write) → update_fault reads writes ≡ None → IsKept reads writes
unfolding update_fault
rules_kept reads writes e =
    let parts = none_of_three (within_limits reads writes) (has_repeat reads || has_repeat (map written_item writes)) (list_all (base_is_read reads) writes) Limit Repeated BaseNotRead e in
    record { limits = parts.0; apart = parts.1; based = parts.2 }

pub few_writes : (u : UpdateLists) → KeepsRules u → length u.writes ≤ MOST_WRITES
few_writes u kept =
    let limits = and_parts (nat_le (length u.reads) MOST_READS) (nat_le 1 (length u.writes) && nat_le (length u.writes) MOST_WRITES) (rules_kept u.reads u.writes kept).limits in
    let writes = and_parts (nat_le 1 (length u.writes)) (nat_le (length u.writes) MOST_WRITES) limits.1 in
    leb-true (length u.writes) MOST_WRITES writes.1

pub few_reads : (u : UpdateLists) → KeepsRules u → length u.reads ≤ MOST_READS
few_reads u kept = leb-true (length u.reads) MOST_READS (and_parts (nat_le (length u.reads) MOST_READS) _ (rules_kept u.reads u.writes kept).limits).0

pub some_write : (u : UpdateLists) → KeepsRules u → 1 ≤ length u.writes
some_write u kept =
    let limits = and_parts (nat_le (length u.reads) MOST_READS) (nat_le 1 (length u.writes) && nat_le (length u.writes) MOST_WRITES) (rules_kept u.reads u.writes kept).limits in
    leb-true 1 (length u.writes) (and_parts (nat_le 1 (length u.writes)) (nat_le (length u.writes) MOST_WRITES) limits.1).0

-- Each element passes if all do.
pub each_passes : (f : Write → Bool) (ws : List Write) → list_all f ws ≡ true → All (λ w. f w ≡ true) ws
each_passes f [] e = λ k d l. absurd (omega arith)
each_passes f (w ∷ ws) e = let parts = and_parts (f w) (list_all f ws) e in All-cons (λ w. f w ≡ true) w ws parts.0 (each_passes f ws parts.1)

-- A base is one of the reads.
pub base_read : (reads : List ℕ) (minus : Bool) (base : Option ℕ) → base_holds reads minus base ≡ true →
    IfSome base (Contains reads)
base_read reads minus None e = tt
base_read reads minus (Some b) e = let at = any_at (λ r. r == b) reads b e in (at.0, at.1, eqb-true (get_or reads at.0 b) b at.2)

pub bases_read : (by seq : ℕ) (u : UpdateLists) → KeepsRules u → BasesRead (Commit by seq u)
unfolding BasesRead
bases_read by seq u kept k d l =
    let w = get_or u.writes k d in
    base_read u.reads w.minus w.base (each_passes (base_is_read u.reads) u.writes (rules_kept u.reads u.writes kept).based k d l)

base_fits : (n : ℕ) (reads : List ℕ) (base : Option ℕ) → All (λ r. r < n) reads → IfSome base (Contains reads) → IfSome base (λ b. b < n)
base_fits n reads None fits h = tt
base_fits n reads (Some b) fits h = subst (λ b. b < n) h.2 (fits h.0 b h.1)

-- The items and the bases of an update that fits are below n.
pub writes_based : (n : ℕ) (u : UpdateLists) → KeepsRules u → UpdateFits n u → All (WriteFits n) u.writes
writes_based n u kept fits k d l =
    let w = get_or u.writes k d in
    (fits.writes k d l, base_fits n u.reads w.base fits.reads (base_read u.reads w.minus w.base (each_passes (base_is_read u.reads) u.writes (rules_kept u.reads u.writes kept).based k d l)))

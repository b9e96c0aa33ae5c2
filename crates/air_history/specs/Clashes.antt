-- The clash of a new read with held ones, for each policy. `clash_by_history` looks only at origins; `clash_by_entries` looks
-- only at the entries that were heard with the reads. The clash is the held read with the least item number among those that
-- the policy names.
use Rattle.std.specs.Prelude.{◌≡◌, ◌⊎◌, ℕ, Bool, false, cond, not, ◌||◌, ◌==◌, nat_le, nat_lt, List, [], ◌∷◌, map, filter, get_or, All, IsTrue, Option, Some, None}
use Rattle.std.specs.List.{list_any}
use Rattle.air_base.specs.declared.verdicts.Policy.{Policy}
use Rattle.air_base.specs.declared.verdicts.Policy.TheVariants.{FMatrix, Datacycle, RMatrix}
use Rattle.air_base.specs.declared.verdicts.Clash.{Clash}
use Rattle.air_history.specs.declared.histories.Event.{Event}
use Rattle.air_history.specs.Columns.{Scheme, group_of, has_groups}
use Rattle.air_history.specs.Reads.{ReadAt, same_origin, stale, newest_cycle, first_cycle, last_cycle}
use Rattle.air_history.specs.Consistency.{consistent}

-- Of a read and a clash, the one with the lesser item number.
abbrev pub lesser : ReadAt → Option Clash → Option Clash
lesser r None = Some (record { item = r.item; cycle = r.cycle })
lesser r (Some c) = cond (nat_le r.item c.item) (Some (record { item = r.item; cycle = r.cycle })) (Some c)

-- The read with the least item number; None if there is no read.
unfoldable pub least : List ReadAt → Option Clash
least [] = None
least (r ∷ R) = lesser r (least R)

-- ---- by the history

-- The held read with the least item number among those that the test names.
abbrev pub named_clash : (ReadAt → Bool) → List ReadAt → Option Clash
named_clash test R = least (filter test R)

-- Whether the new read comes too late after the held ones: under R-Matrix, if its cycle is below the last read's.
unfoldable pub is_late : Policy → List ReadAt → ReadAt → Bool
is_late FMatrix R x = false
is_late Datacycle R x = false
is_late RMatrix R x = nat_lt x.cycle (last_cycle R)

-- The clash of the new read x with the held reads R, by origins only. Each policy names held reads in its own way.
unfoldable pub clash_by_history : Policy → List Event → List ReadAt → ReadAt → Option Clash
-- F-Matrix names each held read that isn't consistent with the new one.
clash_by_history FMatrix H R x = named_clash (λ r. not (consistent H (r ∷ x ∷ []))) R
-- If the new read's cycle is the newest, Datacycle names each held read that is stale there. Otherwise it names each held read
-- of the newest held cycle, but nothing if the new read's item has one origin at that cycle and at its own.
clash_by_history Datacycle H R x =
    cond (nat_le (newest_cycle R) x.cycle)
    (named_clash (λ r. stale H r x.cycle) R)
    (cond (same_origin H x.item (newest_cycle R) x.cycle) None (named_clash (λ r. r.cycle == newest_cycle R) R))
-- R-Matrix names each held read that is stale at the new cycle, but nothing if the new read's item has one origin at its cycle
-- and at the first held one.
clash_by_history RMatrix H R x =
    cond (same_origin H x.item x.cycle (first_cycle R)) None (named_clash (λ r. stale H r x.cycle) R)

-- Whether a held read r and the new read x clash by groups of g among n items. If r isn't newer than x, they clash if r isn't
-- consistent with a read of some item of x's group in x's cycle. If r is newer, they clash if a read of some item of r's group in
-- r's cycle isn't consistent with x.
unfoldable pub group_clash : List Event → ℕ → ℕ → ReadAt → ReadAt → Bool
group_clash H g n r x =
    cond (nat_le r.cycle x.cycle)
    (list_any (λ q. not (consistent H (r ∷ record { item = q; cycle = x.cycle } ∷ []))) (group_of g n x.item))
    (list_any (λ q. not (consistent H (record { item = q; cycle = r.cycle } ∷ x ∷ []))) (group_of g n r.item))

-- The clash of the new read x with the held reads R under a scheme over n items: by groups if the scheme airs by groups, otherwise
-- by the policy.
abbrev pub clash_of : Scheme → ℕ → List Event → List ReadAt → ReadAt → Option Clash
clash_of scheme n H R x =
    cond (has_groups scheme) (named_clash (λ r. group_clash H scheme.group n r x) R) (clash_by_history scheme.policy H R x)

-- What Datacycle requires of held reads: none is stale at their newest cycle.
abbrev pub IsCurrent : List Event → List ReadAt → Type 0
IsCurrent H R = All (λ r. stale H r (newest_cycle R) ≡ false) R

-- R-Matrix takes a read that isn't late if no held read is stale at its cycle, or if its item has one origin there and at the
-- first held cycle.
pub record Takes (H : List Event) (R : List ReadAt) (x : ReadAt) : Type 0 where
  pub in_time : is_late RMatrix R x ≡ false
  pub fresh : All (λ r. stale H r x.cycle ≡ false) R ⊎ IsTrue (same_origin H x.item x.cycle (first_cycle R))

-- ---- by the entries

-- A read with the entries that were heard with it: its control column, or the write vector.
pub record HeardRead : Type 0 where
  pub item : ℕ
  pub cycle : ℕ
  pub entries : List ℕ

-- The read without its entries.
abbrev pub read_at : HeardRead → ReadAt
read_at r = record { item = r.item; cycle = r.cycle }

-- The entry of an item that was heard with the read.
abbrev pub entry_of : HeardRead → ℕ → ℕ
entry_of r i = get_or r.entries i 0

-- The entry of an item that was heard with the first held read of the cycle.
abbrev pub entry_in : List HeardRead → ℕ → ℕ → ℕ
entry_in [] c i = 0
entry_in (r ∷ R) c i = cond (r.cycle == c) (entry_of r i) (entry_in R c i)

-- The held read with the least item number among those that the test names.
abbrev pub heard_clash : (HeardRead → Bool) → List HeardRead → Option Clash
heard_clash test R = least (map read_at (filter test R))

-- The newest cycle of held reads; 0 if there is none.
abbrev pub newest_heard : List HeardRead → ℕ
newest_heard R = newest_cycle (map read_at R)

-- The cycle of the first held read; 0 if there is none.
abbrev pub first_heard : List HeardRead → ℕ
first_heard R = first_cycle (map read_at R)

-- The clash of the new read x with the held reads R, by the entries that were heard with them, for each policy.
unfoldable pub clash_by_entries : Policy → List HeardRead → HeardRead → Option Clash
-- F-Matrix names each held read for which either column has the other's item at the other's cycle or later.
clash_by_entries FMatrix R x = heard_clash (λ r. nat_le r.cycle (entry_of x r.item) || nat_le x.cycle (entry_of r x.item)) R
-- Datacycle uses the new vector if the new cycle is the newest, otherwise the vector of the first held read of the newest
-- cycle.
clash_by_entries Datacycle R x =
    cond (nat_le (newest_heard R) x.cycle)
    (heard_clash (λ r. nat_le r.cycle (entry_of x r.item)) R)
    (cond (nat_le x.cycle (entry_in R (newest_heard R) x.item)) (heard_clash (λ r. r.cycle == newest_heard R) R) None)
-- R-Matrix names nothing if the new vector has the new item below the first held cycle.
clash_by_entries RMatrix R x =
    cond (nat_le (first_heard R) (entry_of x x.item)) (heard_clash (λ r. nat_le r.cycle (entry_of x r.item)) R) None

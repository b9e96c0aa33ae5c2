-- The definitions of the laws of clashes: entries that a history aired, and reads that a scheme accepted one after another. The
-- laws are `clash_law`, `group_clash_law`, `one_law`, `all_law`, `stays_consistent_law`, `stays_current_law`, `takes_law` and
-- `accepted_law`.
use Rattle.std.specs.Prelude.{◌≡◌, ◌⊎◌, ℕ, ◌<◌, ◌≤◌, Bool, false, not, ◌&&◌, is_none, List, [], ◌∷◌, ◌++◌, length, map, take, get_or, slice_index, All, AllPairs, IsTrue}
use Rattle.std.specs.List.{list_all}
use Rattle.std.specs.Option.{option_map_or}
use Rattle.air_base.specs.declared.verdicts.Policy.{Policy}
use Rattle.air_base.specs.declared.verdicts.Policy.TheVariants.{FMatrix, Datacycle, RMatrix}
use Rattle.air_history.specs.declared.histories.Event.{Event}
use Rattle.air_history.specs.Places.{last_place}
use Rattle.air_history.specs.Histories.{cycle_at, event_at, writes}
use Rattle.air_history.specs.Columns.{Scheme, aired_entries}
use Rattle.air_history.specs.Reads.{ReadAt, stale, newest_cycle}
use Rattle.air_history.specs.Ages.{capped, spans_too_far}
use Rattle.air_history.specs.Consistency.{IsConsistent}
use Rattle.air_history.specs.ConsistencyLaws.{SharesCycle}
use Rattle.air_history.specs.Clashes.{HeardRead, read_at, entry_of, is_late, clash_of}

-- Over n items the read has the entries that H airs by the scheme with the read's item in its cycle.
pub record HasAiredEntries (scheme : Scheme) (n : ℕ) (H : List Event) (r : HeardRead) : Type 0 where
  pub cycle : 1 ≤ r.cycle
  pub within : r.item < n
  pub entries : r.entries ≡ aired_entries scheme n H r.cycle r.item

-- The entry of item i that H airs by the scheme with the read's item in the read's cycle, over n items.
abbrev pub aired_entry : Scheme → ℕ → List Event → HeardRead → ℕ → ℕ
aired_entry scheme n H r i = get_or (aired_entries scheme n H r.cycle r.item) i 0

-- The read has n entries, and each is the one that H airs with it, or that one as an age gives it.
pub record HasCappedEntries (scheme : Scheme) (n : ℕ) (H : List Event) (r : HeardRead) : Type 0 where
  pub cycle : 1 ≤ r.cycle
  pub within : r.item < n
  pub sized : length r.entries ≡ n
  pub entries : (i : ℕ) → i < n → (entry_of r i ≡ aired_entry scheme n H r i) ⊎ (entry_of r i ≡ capped (aired_entry scheme n H r i) r.cycle)

-- The held reads R and the new read x have what H airs: either each has its entries in full, or some entries are capped and the
-- reads aren't too far apart.
abbrev pub HaveAiredEntries : Scheme → ℕ → List Event → List HeardRead → HeardRead → Type 0
HaveAiredEntries scheme n H R x =
    (All (HasAiredEntries scheme n H) R × HasAiredEntries scheme n H x)
    ⊎ (All (HasCappedEntries scheme n H) R × HasCappedEntries scheme n H x × (spans_too_far (map read_at R ++ read_at x ∷ []) ≡ false))

-- The policy allows reads in this order: under R-Matrix cycles must not fall, and otherwise any order is allowed.
abbrev pub IsAllowed : Policy → List ReadAt → Type 0
IsAllowed FMatrix R = Unit {0}
IsAllowed Datacycle R = Unit {0}
IsAllowed RMatrix R = AllPairs (λ r s. r.cycle ≤ s.cycle) R

-- Whether the new read passes after the held ones, over n items: it isn't late, and nothing clashes with it.
unfoldable pub passes : Scheme → ℕ → List Event → List ReadAt → ReadAt → Bool
passes scheme n H R x = not (is_late scheme.policy R x) && is_none (clash_of scheme n H R x)

-- The scheme accepts the reads: each passes after those before it.
abbrev pub Accepts : Scheme → ℕ → List Event → List ReadAt → Type 0
Accepts scheme n H R = (k : ℕ) (d : ReadAt) → k < length R → IsTrue (passes scheme n H (take k R) (get_or R k d))

-- A commit from cycle c on and before cycle d writes the item.
abbrev pub IsWrittenBetween : List Event → ℕ → ℕ → ℕ → Type 0
IsWrittenBetween H item c d = (p : ℕ) × (p < length H) × IsTrue (writes (event_at H p) item) × (c ≤ cycle_at H p) × (cycle_at H p < d)

-- The cycle of a read of the list.
abbrev pub cycle_in : List ReadAt → ℕ → ℕ
cycle_in R k = slice_index (map (λ r. r.cycle) R) k

-- The current cycle of the reads: that of the last read at whose cycle no read before it is stale; 0 if there is no read.
unfoldable pub current_cycle : List Event → List ReadAt → ℕ
current_cycle H R =
    option_map_or (cycle_in R) (last_place (length R) (λ k. list_all (λ r. not (stale H r (cycle_in R k))) (take k R))) 0

-- The reads share the cycle that the policy gives them: the newest one under Datacycle, the current one under R-Matrix.
abbrev pub SharesItsCycle : Policy → List Event → List ReadAt → Type 0
SharesItsCycle FMatrix H R = Unit {0}
SharesItsCycle Datacycle H R = SharesCycle H R (newest_cycle R)
SharesItsCycle RMatrix H R = SharesCycle H R (current_cycle H R)

-- Reads that a policy accepted are consistent, and under Datacycle and R-Matrix they share a cycle.
pub record IsSound (policy : Policy) (H : List Event) (R : List ReadAt) : Type 0 where
  pub consistent : IsConsistent H R
  pub shared : SharesItsCycle policy H R

-- Control columns and write vectors: cycles of commits, by which receivers judge what they read.
use Rattle.std.specs.Prelude.{ℕ, ◌*◌, ◌/◌, ◌==◌, Bool, false, cond, ◌&&◌, ◌||◌, nat_lt, List, length, map}
use Rattle.std.specs.List.{filter, range_with_len}
use Rattle.std.specs.Option.{option_map_or}
use Rattle.air_base.specs.declared.verdicts.Policy.{Policy}
use Rattle.air_base.specs.declared.verdicts.Policy.TheVariants.{FMatrix, Datacycle, RMatrix}
use Rattle.air_history.specs.declared.histories.Event.{Event}
use Rattle.air_history.specs.Places.{greatest, greatest_of, place_and}
use Rattle.air_history.specs.Histories.{writes, event_at, cycle_at, front, writer}
use Rattle.air_history.specs.Descents.{descends}

-- Entry i of the column of item j: among the commits from which the last writer of item j descends, the greatest cycle of one
-- that writes item i; 0 if there is none.
unfoldable pub column_entry : List Event → ℕ → ℕ → ℕ
column_entry G j i = greatest (length G) (λ p. place_and (writer G j) (λ w. descends G w p) && writes (event_at G p) i) (cycle_at G)

-- Entry i of the write vector: the cycle of the last writer of item i; 0 if there is none.
unfoldable pub vector_entry : List Event → ℕ → ℕ
vector_entry G i = option_map_or (cycle_at G) (writer G i) 0

-- The control column of item j over n items.
abbrev pub column : ℕ → List Event → ℕ → List ℕ
column n G j = map (column_entry G j) (range_with_len 0 n)

-- The write vector over n items.
abbrev pub vector : ℕ → List Event → List ℕ
vector n G = map (vector_entry G) (range_with_len 0 n)

-- The entry of item i in the control column of item j at cycle c.
abbrev pub entry_at : List Event → ℕ → ℕ → ℕ → ℕ
entry_at H c j i = column_entry (front H c) j i

-- ---- groups of items

-- The items of j's group. A group has g items, from a multiple of g on. Those below n are kept, so the last group may be smaller.
-- Item j is always kept.
abbrev pub group_of : ℕ → ℕ → ℕ → List ℕ
group_of g n j = filter (λ q. nat_lt q n || (q == j)) (range_with_len (g * (j / g)) g)

-- Entry i of the group column of item j: the greatest entry i in the columns of the items of its group.
unfoldable pub group_entry : ℕ → ℕ → List Event → ℕ → ℕ → ℕ
group_entry g n G j i = greatest_of (λ q. column_entry G q i) (group_of g n j)

-- The group column of item j over n items.
abbrev pub group_column : ℕ → ℕ → List Event → ℕ → List ℕ
group_column g n G j = map (group_entry g n G j) (range_with_len 0 n)

-- ---- schemes

-- A scheme says which entries are aired with an item. Its policy decides that, and the number of items of a group, which is 0 if
-- there are no groups.
pub record Scheme : Type 0 where
  pub policy : Policy
  pub group : ℕ

-- The scheme of a policy, without groups.
abbrev pub scheme_of : Policy → Scheme
scheme_of policy = record { policy = policy; group = 0 }

-- The scheme of F-Matrix with groups of g items.
abbrev pub group_scheme : ℕ → Scheme
group_scheme g = record { policy = FMatrix; group = g }

-- Whether a policy airs by groups of g items: F-Matrix does if g is above 0, and the others never do.
abbrev pub airs_groups : Policy → ℕ → Bool
airs_groups FMatrix g = nat_lt 0 g
airs_groups other g = false

-- Whether the scheme airs by groups.
abbrev pub has_groups : Scheme → Bool
has_groups scheme = airs_groups scheme.policy scheme.group

-- What a policy airs with item j in cycle c: the item's control column under F-Matrix, otherwise the write vector.
abbrev pub policy_entries : Policy → ℕ → List Event → ℕ → ℕ → List ℕ
policy_entries FMatrix n H c j = column n (front H c) j
policy_entries Datacycle n H c j = vector n (front H c)
policy_entries RMatrix n H c j = vector n (front H c)

-- The entries that are aired with item j in cycle c: its group column if the scheme airs by groups, otherwise what the policy airs.
abbrev pub aired_entries : Scheme → ℕ → List Event → ℕ → ℕ → List ℕ
aired_entries scheme n H c j = cond (has_groups scheme) (group_column scheme.group n (front H c) j) (policy_entries scheme.policy n H c j)

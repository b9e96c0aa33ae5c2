-- Entries as a bucket's version gives them: how many they are, their bound, and that giving them twice changes nothing; bodies
-- with such entries.
use Rattle.std.proofs.Common.{◌≡◌, ◌&&◌, ◌==◌, ℕ, ◌-◌, ◌<◌, Bool, true, false, not, cond, if◌then◌else◌, nat_lt, Option, List, [], length, map, get_or, All, refl, sym, ap, subst, inl, inr}
use Rattle.std.specs.Prelude.{IfSome, IsTrue}
use Rattle.std.specs.Option.{option_map_or}
use Rattle.std.proofs.lemmas.List.{length-map, get_or_past}
use Rattle.std.proofs.lemmas.List.Elements.{All-map}
use Rattle.std.proofs.lemmas.Bool.{cases_lt}
use Rattle.air_base.specs.declared.limits.TheConstants.{AGE_CAP}
use Rattle.air_history.specs.Ages.{capped}
use Rattle.air_history.proofs.AgeLemmas.{capped_less}
use Rattle.air_model.specs.Airings.{carries}
use Rattle.air_model.specs.Aired.{Air, airs_columns, body_fits}
use Rattle.air_model.specs.Buckets.{Body, Column, Idle, Vector, capped_body, capped_entries, count_of, entries_of, has_ages, item_of, kind_of, value_of}
use Rattle.air_model.specs.Sessions.{read_in}

-- ---- one entry

either_none : (b : Bool) → ◌≡◌ {A = ℕ} (cond b 0 0) 0
either_none true = refl
either_none false = refl

-- Capping an entry twice is capping it once.
pub capped_twice : (e c : ℕ) → capped (capped e c) c ≡ capped e c
unfolding capped
capped_twice e c = by (nat_lt (c - e) AGE_CAP) refl
  where
    by : (b : Bool) → nat_lt (c - e) AGE_CAP ≡ b → cond (nat_lt (c - cond b e 0) AGE_CAP) (cond b e 0) 0 ≡ cond b e 0
    by true young = ap (λ (b : Bool). cond b e 0) young
    by false old = either_none (nat_lt (c - 0) AGE_CAP)

-- ---- lists of entries

-- What holds of entries capped and in full holds of them as a version gives them.
pub entries_by : (P : List ℕ → Type 0) (v c : ℕ) (es : List ℕ) → P (map (λ e. capped e c) es) → P es → P (capped_entries v c es)
unfolding capped_entries
entries_by P v c es aged full = by (has_ages v)
  where
    by : (b : Bool) → P (if b then map (λ e. capped e c) es else es)
    by true = aged
    by false = full

pub full_entries : (v c : ℕ) (es : List ℕ) → has_ages v ≡ false → capped_entries v c es ≡ es
unfolding capped_entries
full_entries v c es e = ap (λ (b : Bool). if b then map (λ e. capped e c) es else es) e

pub aged_entries : (v c : ℕ) (es : List ℕ) → has_ages v ≡ true → capped_entries v c es ≡ map (λ e. capped e c) es
unfolding capped_entries
aged_entries v c es e = ap (λ (b : Bool). if b then map (λ e. capped e c) es else es) e

pub capped_length : (v c : ℕ) (es : List ℕ) → length (capped_entries v c es) ≡ length es
capped_length v c es = entries_by (λ l. length l ≡ length es) v c es (length-map es (λ e. capped e c)) refl

pub capped_under : (v c k : ℕ) (es : List ℕ) → All (λ e. e < k) es → All (λ e. e < k) (capped_entries v c es)
capped_under v c k es h = entries_by (All (λ e. e < k)) v c es
    (All-map (λ e. e < k) (λ e. capped e c) es (λ i d l. capped_less (get_or es i d) c k (h i d l))) h

pub capped_is_told : (v c : ℕ) (es : List ℕ) → IsTrue (has_ages v) → All (λ e. capped e c ≡ e) (capped_entries v c es)
capped_is_told v c es t = subst (All (λ e. capped e c ≡ e)) (sym (aged_entries v c es t))
    (All-map (λ e. capped e c ≡ e) (λ e. capped e c) es (λ i d l. capped_twice (get_or es i d) c))

-- ---- bodies

pub kind_kept : (v c : ℕ) (y : Body) → kind_of (capped_body v c y) ≡ kind_of y
unfolding capped_body kind_of
kind_kept v c (Idle n) = refl
kind_kept v c (Column i x es) = refl
kind_kept v c (Vector i x es) = refl

pub count_kept : (v c : ℕ) (y : Body) → count_of (capped_body v c y) ≡ count_of y
unfolding capped_body count_of
count_kept v c (Idle n) = refl
count_kept v c (Column i x es) = capped_length v c es
count_kept v c (Vector i x es) = capped_length v c es

pub item_kept : (v c : ℕ) (y : Body) → item_of (capped_body v c y) ≡ item_of y
unfolding capped_body item_of
item_kept v c (Idle n) = refl
item_kept v c (Column i x es) = refl
item_kept v c (Vector i x es) = refl

pub value_kept : (v c : ℕ) (y : Body) → value_of (capped_body v c y) ≡ value_of y
unfolding capped_body value_of
value_kept v c (Idle n) = refl
value_kept v c (Column i x es) = refl
value_kept v c (Vector i x es) = refl

pub entries_told : (v c : ℕ) (y : Body) → entries_of (capped_body v c y) ≡ capped_entries v c (entries_of y)
unfolding capped_body entries_of
entries_told v c (Idle n) = sym (entries_by (λ l. l ≡ []) v c [] refl refl)
entries_told v c (Column i x es) = refl
entries_told v c (Vector i x es) = refl

pub full_body : (v c : ℕ) (y : Body) → has_ages v ≡ false → capped_body v c y ≡ y
unfolding capped_body
full_body v c (Idle n) e = refl
full_body v c (Column i x es) e = ap (Column i x) (full_entries v c es e)
full_body v c (Vector i x es) e = ap (Vector i x) (full_entries v c es e)

-- Whether a body fits a slot doesn't depend on its entries.
pub fits_kept : (air : Air) (o : Option ℕ) (v c : ℕ) (y : Body) → body_fits air o (capped_body v c y) ≡ body_fits air o y
unfolding capped_body body_fits
fits_kept air o v c (Idle n) = refl
fits_kept air o v c (Column i x es) = ap (λ n. carries i o && airs_columns air.scheme.policy && (n == air.items)) (capped_length v c es)
fits_kept air o v c (Vector i x es) = ap (λ n. carries i o && not (airs_columns air.scheme.policy) && (n == air.items)) (capped_length v c es)

-- What holds of a body's read, apart from its entries, holds of the read of the capped body.
pub value_told : (P : ℕ → ℕ → ℕ → Type 0) (v c d : ℕ) (y : Body) → IfSome (read_in d y) (λ r. P r.item r.cycle r.value) → IfSome (read_in d (capped_body v c y)) (λ r. P r.item r.cycle r.value)
unfolding capped_body
value_told P v c d (Idle n) h = h
value_told P v c d (Column i x es) h = h
value_told P v c d (Vector i x es) h = h

pub item_told : (i v c d : ℕ) (y : Body) → option_map_or (λ r. r.item == i) (read_in d (capped_body v c y)) false ≡ option_map_or (λ r. r.item == i) (read_in d y) false
unfolding capped_body
item_told i v c d (Idle n) = refl
item_told i v c d (Column j x es) = refl
item_told i v c d (Vector j x es) = refl

-- ---- lists by edition

-- What holds of each member and of the empty list holds of the member at any place, also after the end.
pub at_or_none : {X : Type 0} (P : List X → Type 0) (xs : List (List X)) (k : ℕ) → All P xs → P [] → P (get_or xs k [])
at_or_none P xs k h none = elim (cases_lt k (length xs)) as (λ _. P (get_or xs k [])) [
  | inl l ↦ h k [] l
  | inr past ↦ subst P (sym (get_or_past xs k [] past)) none
]

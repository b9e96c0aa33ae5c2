-- The capped bucket of a bucket in range is in range, and so is that of a column of true entries.
use Rattle.std.proofs.Common.{◌≡◌, ◌⊎◌, ◌<◌, ◌≤◌, ◌^◌, ℕ, zero, suc, Bool, true, false, if◌then◌else◌, List, [], ◌∷◌, All, map, refl, sym, ap, subst, inl, inr, arith}
use Rattle.std.specs.Prelude.{IsTrue}
use Rattle.std.proofs.lemmas.List.Elements.{All-head, All-tail}
use Rattle.air_history.specs.Ages.{capped}
use Rattle.air_model.specs.Buckets.{Body, Bucket, Column, Idle, IsInRange, Vector, capped_body, capped_bucket, capped_entries, count_of, entries_of, has_ages, item_of, kind_of, value_of}
use Rattle.air_model.proofs.CapLemmas.{capped_is_told, capped_length, capped_under}
use Rattle.bucket_cases.specs.Columns.{IsColumn}

map_same : (f : ℕ → ℕ) (es : List ℕ) → All (λ e. f e ≡ e) es → map f es ≡ es
map_same f [] h = refl
map_same f (e ∷ es) h =
    let head : f e ≡ e = All-head (λ e. f e ≡ e) e es h in
    let rest : map f es ≡ es = map_same f es (All-tail (λ e. f e ≡ e) e es h) in
    cc

entries_same : (v c : ℕ) (es : List ℕ) → (IsTrue (has_ages v) → All (λ e. capped e c ≡ e) es) → capped_entries v c es ≡ es
unfolding capped_entries
entries_same v c es told = by (has_ages v) told
  where
    by : (b : Bool) → (IsTrue b → All (λ e. capped e c ≡ e) es) → (if b then map (λ e. capped e c) es else es) ≡ es
    by true told = map_same (λ e. capped e c) es (told refl)
    by false told = refl

body_same : (v c : ℕ) (y : Body) → (IsTrue (has_ages v) → All (λ e. capped e c ≡ e) (entries_of y)) → capped_body v c y ≡ y
unfolding capped_body entries_of
body_same v c (Idle n) told = refl
body_same v c (Column i x es) told = ap (Column i x) (entries_same v c es told)
body_same v c (Vector i x es) told = ap (Vector i x) (entries_same v c es told)

pub told_in_range : (b : Bucket) → IsInRange b → IsInRange (capped_bucket b)
told_in_range b range = subst IsInRange (sym (ap (λ (y : Body). let t : Bucket = record b { body = y } in t) (body_same b.version b.cycle b.body range.told))) range

-- The same of its parts.
pub parts_in_range : (b : Bucket) (v e c s : ℕ) (y : Body) → v ≡ b.version → e ≡ b.edition → c ≡ b.cycle → s ≡ b.slot → y ≡ b.body → IsInRange b
    → IsInRange (capped_bucket (record { version = v; edition = e; cycle = c; slot = s; body = y }))
parts_in_range b v e c s y version edition cycle slot body range = rw (version, edition, cycle, slot, body) (told_in_range b range)

-- ---- a column

one_of_two : (v : ℕ) → 1 ≤ v → v ≤ 2 → (v ≡ 1) ⊎ (v ≡ 2)
one_of_two zero first last = absurd (omega arith)
one_of_two (suc zero) first last = inl refl
one_of_two (suc (suc zero)) first last = inr refl
one_of_two (suc (suc (suc n))) first last = absurd (omega arith)

pub column_in_range : (v edition c slot i x : ℕ) (es : List ℕ) → edition < 2 ^ 16 → c < 2 ^ 32 → slot < 2 ^ 16 → x < 2 ^ 64 → IsColumn v c i es
    → IsInRange (capped_bucket (record { version = v; edition = edition; cycle = c; slot = slot; body = Column i x es }))
unfolding capped_body kind_of count_of item_of value_of entries_of
column_in_range v edition c slot i x es few cycle slots value is =
    let same = capped_length v c es in
    let most = is.count in
    let placed = is.placed in
    record {
      version = one_of_two v is.first is.last;
      edition = few;
      some = omega arith;
      count = omega arith;
      started = is.started;
      cycle = cycle;
      slot = slots;
      placed = inr (omega arith);
      value = value;
      entries = capped_under v c c es is.below;
      told = capped_is_told v c es;
    }

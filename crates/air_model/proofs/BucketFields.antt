-- A bucket and its flat fields (`FieldLemmas`): they have one spelling, each is made from the other, and they are in range
-- together.
use Rattle.std.proofs.Common.{◌≡◌, ◌⊎◌, inl, inr, ◌≤◌, ◌<◌, ◌^◌, ◌++◌, ◌&&◌, ◌==◌, if◌then◌else◌, nat_lt, ℕ, zero, suc, Bool, true, List, [], ◌∷◌, get_or, map, length, slice_index, refl, sym, ◌∙◌, ap, subst, arith}
use Rattle.std.specs.Prelude.{All}
use Rattle.std.proofs.Math.Dec.{eqb-suc-zero}
use Rattle.std.proofs.lemmas.Bool.{and_from, and_parts, eqb-true, ltb-true, le-leb, lt-ltb}
use Rattle.std.proofs.lemmas.List.{get_or_default, length-map, nil_from_length}
use Rattle.std.proofs.lemmas.List.Elements.{All-map}
use Rattle.byteorder.specs.Endian.{big_bytes}
use Rattle.air_model.specs.Buckets.{Body, Bucket, Idle, Column, Vector, IsInRange, body_at, bucket_at, count_of, entries_at, entries_of, entry_bytes, entry_count, entry_len, entry_told, is_entry, is_placed, item_of, kind_of, most_count, number_at, raw_entries, spelling, value_of}
use Rattle.air_history.specs.Ages.{capped}
use Rattle.air_model.proofs.EntryLemmas.{IsTold, all_tests, flat_spelled, lists_back, raw_back, raw_bytes, raw_is_entry, raw_of, raw_small, told_back, told_is}
use Rattle.air_model.proofs.FieldLemmas.{AreInRange, Fields, are_shaped, bounds, bytes_of, fields_of, fields_with, same_fields}

-- ---- a bucket and its fields
-- the fields of a bucket.
abbrev pub bucket_fields : Bucket → Fields
bucket_fields b =
    fields_with b.version (kind_of b.body) b.edition (count_of b.body) b.cycle b.slot (item_of b.body) (value_of b.body) (map (raw_of b.version b.cycle) (entries_of b.body))

-- The body with these fields.
unfoldable pub body_from : ℕ → ℕ → ℕ → ℕ → List ℕ → Body
body_from zero count item value entries = Idle count
body_from (suc zero) count item value entries = Column item value entries
body_from (suc (suc more)) count item value entries = Vector item value entries

-- The entries for which the numbers stand.
abbrev pub entries_for : Fields → List ℕ
entries_for f = map (entry_told f.version f.cycle) f.numbers

-- The bucket with these fields.
abbrev pub bucket_from : Fields → Bucket
bucket_from f = record { version = f.version; edition = f.edition; cycle = f.cycle; slot = f.slot; body = body_from f.kind f.count f.item f.value (entries_for f) }

-- What holds of the entries of a bucket in range.
all_told : (b : Bucket) → IsInRange b → All (IsTold b.version b.cycle) (entries_of b.body)
all_told b r k d l = record { below = r.entries k d l; young = λ ages. r.told ages k d l }

-- A bucket in range is spelled as its fields.
pub spelling_is : (b : Bucket) → IsInRange b → spelling b ≡ bytes_of (bucket_fields b)
unfolding spelling bytes_of
spelling_is b r =
    let v = b.version in
    let told = all_told b r in
    ap (λ l. 0x41 ∷ 0x44 ∷ v ∷ kind_of b.body ∷ [] ++ big_bytes 2 b.edition ++ big_bytes 2 (count_of b.body) ++ big_bytes 4 b.cycle ++ big_bytes 2 b.slot
    ++ big_bytes 2 (item_of b.body) ++ big_bytes 8 (value_of b.body) ++ l)
    (flat_spelled (entry_bytes v b.cycle) (big_bytes (entry_len v)) (raw_of v b.cycle) (entries_of b.body) (λ k d l. raw_bytes v b.cycle (get_or (entries_of b.body) k d) (told k d l)))

body_back : (body : Body) → body_from (kind_of body) (count_of body) (item_of body) (value_of body) (entries_of body) ≡ body
unfolding body_from kind_of count_of item_of value_of entries_of
body_back (Idle count) = refl
body_back (Column item value entries) = refl
body_back (Vector item value entries) = refl

pub bucket_back : (b : Bucket) → IsInRange b → bucket_from (bucket_fields b) ≡ b
bucket_back b r =
    let v = b.version in
    let y = b.body in
    let told = all_told b r in
    let same : map (entry_told v b.cycle) (map (raw_of v b.cycle) (entries_of y)) ≡ entries_of y = lists_back (raw_of v b.cycle) (entry_told v b.cycle) (entries_of y)
    (λ k d l. told_back v b.cycle (get_or (entries_of y) k d) (told k d l)) in
    ap (λ (body : Body). let t : Bucket = record { version = v; edition = b.edition; cycle = b.cycle; slot = b.slot; body = body } in t)
    (ap (body_from (kind_of y) (count_of y) (item_of y) (value_of y)) same ∙ body_back y)

-- The body read from bytes is that of their fields.
body_is : (v c k : ℕ) (bytes : List ℕ) → body_at v c k bytes
    ≡ body_from k (number_at 6 2 bytes) (number_at 14 2 bytes) (number_at 16 8 bytes) (map (entry_told v c) (raw_entries v (entry_count k (number_at 6 2 bytes)) bytes))
unfolding body_at body_from entries_at entry_count
body_is v c zero bytes = refl
body_is v c (suc zero) bytes = refl
body_is v c (suc (suc more)) bytes =
    ap (λ (b : Bool). Vector (number_at 14 2 bytes) (number_at 16 8 bytes) (map (entry_told v c) (raw_entries v (if b then 0 else number_at 6 2 bytes) bytes))) (sym (eqb-suc-zero (suc more)))

pub bucket_is : (bytes : List ℕ) → bucket_at bytes ≡ bucket_from (fields_of bytes)
unfolding bucket_at fields_of
bucket_is bytes =
    let v = slice_index bytes 2 in
    let c = number_at 8 4 bytes in
    ap (λ (body : Body). let t : Bucket = record { version = v; edition = number_at 4 2 bytes; cycle = c; slot = number_at 12 2 bytes; body = body } in t) (body_is v c (slice_index bytes 3) bytes)

-- ---- ranges
kind_small : (body : Body) → kind_of body ≤ 2
unfolding kind_of
kind_small (Idle count) = omega arith
kind_small (Column item value entries) = omega arith
kind_small (Vector item value entries) = omega arith

as_many : (body : Body) → length (entries_of body) ≡ entry_count (kind_of body) (count_of body)
unfolding entries_of kind_of count_of entry_count
as_many (Idle count) = refl
as_many (Column item value entries) = refl
as_many (Vector item value entries) = refl

placed_test : (body : Body) → (kind_of body ≡ 0) ⊎ (item_of body < count_of body) → is_placed (kind_of body) (item_of body) (value_of body) (count_of body) ≡ true
unfolding is_placed kind_of item_of value_of count_of
placed_test (Idle count) h = refl
placed_test (Column item value entries) (inl never) = absurd (omega arith)
placed_test (Column item value entries) (inr below) = lt-ltb item (length entries) below
placed_test (Vector item value entries) (inl never) = absurd (omega arith)
placed_test (Vector item value entries) (inr below) = lt-ltb item (length entries) below

-- A bucket in range has fields in range.
pub fields_in_range : (b : Bucket) → IsInRange b → AreInRange (bucket_fields b)
unfolding are_shaped
fields_in_range b r =
    let v = b.version in
    let y = b.body in
    let told = all_told b r in
    let cycle = r.cycle in
    record {
      version = r.version;
      kind = kind_small y;
      edition = r.edition;
      cycle = r.cycle;
      slot = r.slot;
      value = r.value;
      many = length-map (entries_of y) (raw_of v b.cycle) ∙ as_many y;
      small = λ k l. All-map (λ a. a < 256 ^ entry_len v) (raw_of v b.cycle) (entries_of y) (λ k d l. raw_small v b.cycle (get_or (entries_of y) k d) cycle (told k d l)) k 0 l;
      shaped = and_from _ _ (and_from _ _ (and_from _ _ (and_from _ _ (le-leb 1 (count_of y) r.some) (le-leb (count_of y) (most_count v) r.count)) (le-leb 1 b.cycle r.started)) (placed_test y r.placed))
          (all_tests (is_entry v b.cycle) (map (raw_of v b.cycle) (entries_of y))
          (All-map (λ a. is_entry v b.cycle a ≡ true) (raw_of v b.cycle) (entries_of y) (λ k d l. raw_is_entry v b.cycle (get_or (entries_of y) k d) (told k d l))));
    }

pub fields_of_back : (f : Fields) → f.kind ≤ 2 → length f.numbers ≡ entry_count f.kind f.count → are_shaped f ≡ true → bucket_fields (bucket_from f) ≡ f
unfolding body_from kind_of count_of item_of value_of entries_of entry_count is_placed
fields_of_back f kind many shaped = by f.kind f.count f.item f.value f.numbers kind many (bounds f shaped).placed back
  where
    v : ℕ
    v = f.version

    c : ℕ
    c = f.cycle

    back : map (raw_of v c) (map (entry_told v c) f.numbers) ≡ f.numbers
    back = lists_back (entry_told v c) (raw_of v c) f.numbers (λ k d l. raw_back v c (get_or f.numbers k d) ((bounds f shaped).entries k d l))

    by : (k count item value : ℕ) (numbers : List ℕ) → k ≤ 2 → length numbers ≡ entry_count k count → is_placed k item value count ≡ true
        → map (raw_of v c) (map (entry_told v c) numbers) ≡ numbers
        → bucket_fields (bucket_from (fields_with v k f.edition count c f.slot item value numbers)) ≡ fields_with v k f.edition count c f.slot item value numbers
    by zero count item value numbers low many placed back =
        let t = and_parts (item == 65535) (value == 0) placed in
        same_fields v _ _ _ _ _ _ _ _ _ _ _ _ _ _ _ _ refl refl refl refl refl (sym (eqb-true item 65535 t.0)) (sym (eqb-true value 0 t.1)) (sym (nil_from_length numbers many))
    by (suc zero) count item value numbers low many placed back =
        same_fields v _ _ _ _ _ _ _ _ _ _ _ _ _ _ _ _ refl refl (length-map numbers (entry_told v c) ∙ many) refl refl refl refl back
    by (suc (suc zero)) count item value numbers low many placed back =
        same_fields v _ _ _ _ _ _ _ _ _ _ _ _ _ _ _ _ refl refl (length-map numbers (entry_told v c) ∙ many) refl refl refl refl back
    by (suc (suc (suc more))) count item value numbers low many placed back = absurd (omega arith)

placed_from : (k count item value : ℕ) (entries : List ℕ) → length entries ≡ entry_count k count → is_placed k item value count ≡ true
    → (kind_of (body_from k count item value entries) ≡ 0) ⊎ (item_of (body_from k count item value entries) < count_of (body_from k count item value entries))
unfolding body_from kind_of item_of count_of entry_count is_placed
placed_from zero count item value entries long placed = inl refl
placed_from (suc zero) count item value entries long placed = let t = ltb-true item count placed in inr (omega arith)
placed_from (suc (suc more)) count item value entries long placed =
    let size : length entries ≡ count = long ∙ ap (λ (b : Bool). if b then 0 else count) (eqb-suc-zero (suc more)) in
    let t = ltb-true item count (sym (ap (λ (b : Bool). if b then (item == 65535) && (value == 0) else nat_lt item count) (eqb-suc-zero (suc more))) ∙ placed) in
    inr (omega arith)

pub entries_from : (k count item value : ℕ) (entries : List ℕ) → length entries ≡ entry_count k count → entries_of (body_from k count item value entries) ≡ entries
unfolding body_from entries_of entry_count
entries_from zero count item value entries long = sym (nil_from_length entries long)
entries_from (suc zero) count item value entries long = refl
entries_from (suc (suc more)) count item value entries long = refl

-- Fields in range are those of a bucket in range.
pub bucket_in_range : (f : Fields) → AreInRange f → IsInRange (bucket_from f)
bucket_in_range f r =
    let v = f.version in
    let c = f.cycle in
    let b = bounds f r.shaped in
    let e = fields_of_back f r.kind r.many r.shaped in
    let long : length (entries_for f) ≡ entry_count f.kind f.count = length-map f.numbers (entry_told v c) ∙ r.many in
    let same = sym (entries_from f.kind f.count f.item f.value (entries_for f) long) in
    let told : All (IsTold v c) (entries_for f) = All-map (IsTold v c) (entry_told v c) f.numbers
    (λ k d l. told_is v c (get_or f.numbers k d) b.started (subst (λ a. a < 256 ^ entry_len v) (get_or_default f.numbers k 0 d l) (r.small k l)) (b.entries k d l)) in
    record {
      version = r.version;
      edition = r.edition;
      some = subst (λ n. 1 ≤ n) (sym (ap (λ (g : Fields). g.count) e)) b.some;
      count = subst (λ n. n ≤ most_count v) (sym (ap (λ (g : Fields). g.count) e)) b.count;
      started = b.started;
      cycle = r.cycle;
      slot = r.slot;
      placed = placed_from f.kind f.count f.item f.value (entries_for f) long b.placed;
      value = subst (λ n. n < 2 ^ 64) (sym (ap (λ (g : Fields). g.value) e)) r.value;
      entries = subst (All (λ x. x < c)) same (λ k d l. (told k d l).below);
      told = λ ages. subst (All (λ x. capped x c ≡ x)) same (λ k d l. (told k d l).young ages);
    }

-- The bytes of a bucket as a flat list of fields: what is read back from a spelling, and what bytes without a fault spell.
-- `read_back` and `spelled` are the two directions; `BucketLemmas` uses them for buckets.
use Rattle.std.proofs.Common.{◌≡◌, ◌⊎◌, ◌≤◌, ◌<◌, ◌+◌, ◌*◌, ◌^◌, ◌++◌, ◌&&◌, ◌==◌, if◌then◌else◌, nat_lt, nat_le, ℕ, zero, suc, Bool, true, false, List, [], ◌∷◌, All, map, length, length-append, drop, get_or, slice_index, refl, sym, ◌∙◌, ap, subst, arith}
use Rattle.std.proofs.Math.Nat.{mul-suc, mul-zero}
use Rattle.std.proofs.lemmas.Grind.{same_number_lists}
use Rattle.std.proofs.lemmas.Bool.{and_parts, eqb-true, leb-true, ltb-true}
use Rattle.std.specs.List.{flat_map, list_all, range_with_len}
use Rattle.std.proofs.lemmas.List.{drop-drop, drop_all, drop_at, get_or-drop, length-drop, take-append-drop}
use Rattle.std.proofs.lemmas.List.FromFn.{get_or-map-range_with_len, length-map-range_with_len}
use Rattle.byteorder.specs.Endian.{big_number, big_bytes}
use Rattle.byteorder.specs.Numbers.{big_from-lt, big_number-reads_back, length-bytes_high_first}
use Rattle.air_base.specs.declared.limits.TheConstants.{MOST_FULL_ITEMS, MOST_ITEMS}
use Rattle.air_model.specs.Buckets.{entry_count, entry_len, has_ages, is_entry, is_placed, is_shaped, most_count, number_at, raw_entries}
use Rattle.air_model.proofs.ByteLemmas.{AllBytes, one_spelling}
use Rattle.air_model.proofs.EntryLemmas.{each_test}

-- ---- the fields
-- what is in the bytes, for each version and kind: in place of the entries, the numbers that stand for them.
pub record Fields : Type 0 where
  pub version : ℕ
  pub kind : ℕ
  pub edition : ℕ
  pub count : ℕ
  pub cycle : ℕ
  pub slot : ℕ
  pub item : ℕ
  pub value : ℕ
  pub numbers : List ℕ

abbrev pub fields_with : ℕ → ℕ → ℕ → ℕ → ℕ → ℕ → ℕ → ℕ → List ℕ → Fields
fields_with version kind edition count cycle slot item value numbers =
    record { version = version; kind = kind; edition = edition; count = count; cycle = cycle; slot = slot; item = item; value = value; numbers = numbers }

-- Records with equal fields are equal.
pub same_fields : (v a a2 b b2 c c2 d d2 e e2 g g2 h h2 : ℕ) (l l2 : List ℕ) → a ≡ a2 → b ≡ b2 → c ≡ c2 → d ≡ d2 → e ≡ e2 → g ≡ g2 → h ≡ h2 → l ≡ l2
    → fields_with v a b c d e g h l ≡ fields_with v a2 b2 c2 d2 e2 g2 h2 l2
same_fields v a a2 b b2 c c2 d d2 e e2 g g2 h h2 l l2 p1 p2 p3 p4 p5 p6 p7 p8 = rw (p1, p2, p3, p4, p5, p6, p7, p8) refl

-- The bytes before the entries.
abbrev head_of : Fields → List ℕ
head_of f =
    0x41 ∷ 0x44 ∷ f.version ∷ f.kind ∷ [] ++ big_bytes 2 f.edition ++ big_bytes 2 f.count ++ big_bytes 4 f.cycle ++ big_bytes 2 f.slot ++ big_bytes 2 f.item ++ big_bytes 8 f.value

-- The bytes of the fields.
unfoldable pub bytes_of : Fields → List ℕ
bytes_of f =
    0x41 ∷ 0x44 ∷ f.version ∷ f.kind ∷ [] ++ big_bytes 2 f.edition ++ big_bytes 2 f.count ++ big_bytes 4 f.cycle ++ big_bytes 2 f.slot ++ big_bytes 2 f.item ++ big_bytes 8 f.value
    ++ flat_map (big_bytes (entry_len f.version)) f.numbers

-- The fields at their places.
unfoldable pub fields_of : List ℕ → Fields
fields_of bytes = record {
  version = slice_index bytes 2;
  kind = slice_index bytes 3;
  edition = number_at 4 2 bytes;
  count = number_at 6 2 bytes;
  cycle = number_at 8 4 bytes;
  slot = number_at 12 2 bytes;
  item = number_at 14 2 bytes;
  value = number_at 16 8 bytes;
  numbers = raw_entries (slice_index bytes 2) (entry_count (slice_index bytes 3) (number_at 6 2 bytes)) bytes;
}

-- The tests of the shape, over fields.
unfoldable pub are_shaped : Fields → Bool
are_shaped f =
    nat_le 1 f.count && nat_le f.count (most_count f.version) && nat_le 1 f.cycle && is_placed f.kind f.item f.value f.count && list_all (is_entry f.version f.cycle) f.numbers

pub shaped_is : (bytes : List ℕ) → is_shaped bytes ≡ are_shaped (fields_of bytes)
unfolding is_shaped are_shaped fields_of
shaped_is bytes = refl

-- The fields are in range.
pub record AreInRange (f : Fields) : Type 0 where
  pub version : (f.version ≡ 1) ⊎ (f.version ≡ 2)
  pub kind : f.kind ≤ 2
  pub edition : f.edition < 2 ^ 16
  pub cycle : f.cycle < 2 ^ 32
  pub slot : f.slot < 2 ^ 16
  pub value : f.value < 2 ^ 64
  pub many : length f.numbers ≡ entry_count f.kind f.count
  pub small : (k : ℕ) → k < length f.numbers → get_or f.numbers k 0 < 256 ^ entry_len f.version
  pub shaped : are_shaped f ≡ true

-- ---- what the tests of the shape say
most_few : (v : ℕ) → most_count v ≤ 1024
most_few v = by (has_ages v)
  where
    by : (b : Bool) → (if b then MOST_ITEMS else MOST_FULL_ITEMS) ≤ 1024
    by true = omega arith
    by false = omega arith

item_below : (kind item value count : ℕ) → count ≤ 1024 → is_placed kind item value count ≡ true → item < 2 ^ 16
unfolding is_placed
item_below kind item value count small e = by (kind == 0) e
  where
    by : (b : Bool) → (if b then (item == 65535) && (value == 0) else nat_lt item count) ≡ true → item < 2 ^ 16
    by true e = let t = eqb-true item 65535 (and_parts (item == 65535) (value == 0) e).0 in omega arith
    by false e = let t = ltb-true item count e in omega arith

pub record Bounds (f : Fields) : Type 0 where
  pub some : 1 ≤ f.count
  pub count : f.count ≤ most_count f.version
  pub started : 1 ≤ f.cycle
  pub placed : is_placed f.kind f.item f.value f.count ≡ true
  pub item : f.item < 2 ^ 16
  pub entries : All (λ a. is_entry f.version f.cycle a ≡ true) f.numbers

pub bounds : (f : Fields) → are_shaped f ≡ true → Bounds f
unfolding are_shaped
bounds f e =
    let p = and_parts _ (list_all (is_entry f.version f.cycle) f.numbers) e in
    let q = and_parts _ (is_placed f.kind f.item f.value f.count) p.0 in
    let r = and_parts _ (nat_le 1 f.cycle) q.0 in
    let t = and_parts (nat_le 1 f.count) (nat_le f.count (most_count f.version)) r.0 in
    let top : f.count ≤ most_count f.version = leb-true f.count (most_count f.version) t.1 in
    let few = most_few f.version in
    record {
      some = leb-true 1 f.count t.0;
      count = top;
      started = leb-true 1 f.cycle r.1;
      placed = q.1;
      item = item_below f.kind f.item f.value f.count (omega arith) q.1;
      entries = each_test (is_entry f.version f.cycle) f.numbers p.1;
    }

-- ---- a spelling read back
length_numbers : (w : ℕ) (es : List ℕ) → length (flat_map (big_bytes w) es) ≡ w * length es
length_numbers w [] = sym (mul-zero w)
length_numbers w (e ∷ es) =
    let next = mul-suc w (length es) in
    length-append (big_bytes w e) (flat_map (big_bytes w) es)
    ∙ ap (λ n. n + length (flat_map (big_bytes w) es)) (length-bytes_high_first w e)
    ∙ (let rest = length_numbers w es in omega arith)

entry_back : (w : ℕ) (es : List ℕ) (i : ℕ) → ((k : ℕ) → k < length es → get_or es k 0 < 256 ^ w) → i < length es → big_number w (drop (w * i) (flat_map (big_bytes w) es)) ≡ get_or es i 0
entry_back w [] i small below = absurd (omega arith)
entry_back w (e ∷ es) zero small below =
    ap (λ k. big_number w (drop k (big_bytes w e ++ flat_map (big_bytes w) es))) (mul-zero w)
    ∙ big_number-reads_back w e (flat_map (big_bytes w) es) (small 0 (omega arith))
entry_back w (e ∷ es) (suc i) small below =
    let next : w * suc i ≡ w + w * i = let m = mul-suc w i in omega arith in
    ap (λ k. big_number w (drop k (big_bytes w e ++ flat_map (big_bytes w) es))) next
    ∙ ap (big_number w) (sym (drop-drop (w * i) w (big_bytes w e ++ flat_map (big_bytes w) es)))
    ∙ ap (λ l. big_number w (drop (w * i) l)) (drop_at (big_bytes w e) (flat_map (big_bytes w) es) w (length-bytes_high_first w e))
    ∙ entry_back w es i (λ k under. small (suc k) (omega arith)) (omega arith)

numbers_back : (w : ℕ) (front : List ℕ) (n : ℕ) (es : List ℕ) → length front ≡ 24 → length es ≡ n → ((k : ℕ) → k < length es → get_or es k 0 < 256 ^ w)
    → map (λ i. number_at (24 + w * i) w (front ++ flat_map (big_bytes w) es)) (range_with_len 0 n) ≡ es
numbers_back w front n es size long small =
    let f : ℕ → ℕ = λ i. number_at (24 + w * i) w (front ++ flat_map (big_bytes w) es) in
    same_number_lists (map f (range_with_len 0 n)) es (length-map-range_with_len f 0 n ∙ sym long)
    (λ k below.
    let under : k < n = omega (arith, length-map-range_with_len f 0 n) in
    get_or-map-range_with_len f 0 n k k 0 under (omega arith)
    ∙ ap (big_number w) (sym (drop-drop (w * k) 24 (front ++ flat_map (big_bytes w) es)) ∙ ap (drop (w * k)) (drop_at front (flat_map (big_bytes w) es) 24 size))
    ∙ entry_back w es k small (omega arith))

pub count_back : (f : Fields) → AreInRange f → number_at 6 2 (bytes_of f) ≡ f.count
unfolding bytes_of
count_back f r = let b = bounds f r.shaped in let c = b.count in let few = most_few f.version in big_number-reads_back 2 f.count (drop 8 (bytes_of f)) (omega arith)

-- The fields of a spelling are read back.
pub read_back : (f : Fields) → AreInRange f → fields_of (bytes_of f) ≡ f
unfolding fields_of raw_entries bytes_of
read_back f r =
    let b = bounds f r.shaped in
    let w = entry_len f.version in
    let count = count_back f r in
    same_fields f.version f.kind f.kind _ f.edition _ f.count _ f.cycle _ f.slot _ f.item _ f.value _ f.numbers refl
    (big_number-reads_back 2 f.edition (drop 6 (bytes_of f)) r.edition)
    count
    (big_number-reads_back 4 f.cycle (drop 12 (bytes_of f)) r.cycle)
    (big_number-reads_back 2 f.slot (drop 14 (bytes_of f)) r.slot)
    (big_number-reads_back 2 f.item (drop 16 (bytes_of f)) b.item)
    (big_number-reads_back 8 f.value (drop 24 (bytes_of f)) r.value)
    (ap (λ n. map (λ i. number_at (24 + w * i) w (bytes_of f)) (range_with_len 0 (entry_count f.kind n))) count
    ∙ numbers_back w (head_of f) (entry_count f.kind f.count) f.numbers refl r.many r.small)

-- ---- bytes without a fault
-- what it means that bytes have no fault.
pub record IsWhole (bytes : List ℕ) : Type 0 where
  pub long : 24 ≤ length bytes
  pub magic0 : slice_index bytes 0 ≡ 0x41
  pub magic1 : slice_index bytes 1 ≡ 0x44
  pub version : (slice_index bytes 2 ≡ 1) ⊎ (slice_index bytes 2 ≡ 2)
  pub kind : slice_index bytes 3 ≤ 2
  pub exact : length bytes ≡ 24 + entry_len (slice_index bytes 2) * entry_count (slice_index bytes 3) (number_at 6 2 bytes)
  pub shaped : is_shaped bytes ≡ true

length_bytes_of : (f : Fields) → length (bytes_of f) ≡ 24 + entry_len f.version * length f.numbers
unfolding bytes_of
length_bytes_of f = let all = length_numbers (entry_len f.version) f.numbers in omega arith

-- The bytes of fields in range have no fault.
pub whole_bytes : (f : Fields) → AreInRange f → IsWhole (bytes_of f)
unfolding bytes_of
whole_bytes f r =
    let long = length_bytes_of f in
    record {
      long = omega arith;
      magic0 = refl;
      magic1 = refl;
      version = r.version;
      kind = r.kind;
      exact = long ∙ ap (λ n. 24 + entry_len f.version * n) (r.many ∙ ap (entry_count f.kind) (sym (count_back f r)));
      shaped = shaped_is (bytes_of f) ∙ ap are_shaped (read_back f r) ∙ r.shaped;
    }

-- A number is spelled at the place where it is read.
part : (bytes : List ℕ) (at n : ℕ) → AllBytes bytes → at + n ≤ length bytes → drop at bytes ≡ big_bytes n (number_at at n bytes) ++ drop (at + n) bytes
part bytes at n all room =
    let rest = drop at bytes in
    sym (take-append-drop n rest) ∙ ap (λ l. l ++ drop n rest) (one_spelling n rest (omega (arith, length-drop at bytes)) (λ i. subst (λ x. x < 256) (sym (get_or-drop at bytes i 0)) (all (at + i))))
    ∙ ap (λ l. big_bytes n (number_at at n bytes) ++ l) (drop-drop n at bytes)

parts : (w : ℕ) (bytes : List ℕ) (j n : ℕ) → AllBytes bytes → length bytes ≡ 24 + w * j + w * n
    → drop (24 + w * j) bytes ≡ flat_map (big_bytes w) (map (λ i. number_at (24 + w * i) w bytes) (range_with_len j n))
parts w bytes j zero all size = drop_all (24 + w * j) bytes (let none = mul-zero w in omega arith)
parts w bytes j (suc n) all size =
    let more = mul-suc w n in
    let next : 24 + w * j + w ≡ 24 + w * (j + 1) = let up = mul-suc w j in let same : j + 1 ≡ suc j = omega arith in let at : w * (j + 1) ≡ w * suc j = ap (λ k. w * k) same in omega arith in
    part bytes (24 + w * j) w all (omega arith)
    ∙ ap (λ l. big_bytes w (number_at (24 + w * j) w bytes) ++ l) (ap (λ k. drop k bytes) next ∙ parts w bytes (j + 1) n all (omega arith))

first_four : (bytes : List ℕ) → 4 ≤ length bytes → bytes ≡ slice_index bytes 0 ∷ slice_index bytes 1 ∷ slice_index bytes 2 ∷ slice_index bytes 3 ∷ drop 4 bytes
first_four [] h = absurd (omega arith)
first_four (a ∷ []) h = absurd (omega arith)
first_four (a ∷ b ∷ []) h = absurd (omega arith)
first_four (a ∷ b ∷ c ∷ []) h = absurd (omega arith)
first_four (a ∷ b ∷ c ∷ d ∷ rest) h = refl

-- The rest at each place, joined from the front.
chain : (d4 d6 d8 d12 d14 d16 d24 x1 x2 x3 x4 x5 x6 x7 : List ℕ) → d4 ≡ x1 ++ d6 → d6 ≡ x2 ++ d8 → d8 ≡ x3 ++ d12 → d12 ≡ x4 ++ d14 → d14 ≡ x5 ++ d16 → d16 ≡ x6 ++ d24 → d24 ≡ x7
    → d4 ≡ x1 ++ (x2 ++ (x3 ++ (x4 ++ (x5 ++ (x6 ++ x7)))))
chain d4 d6 d8 d12 d14 d16 d24 x1 x2 x3 x4 x5 x6 x7 p1 p2 p3 p4 p5 p6 p7 = rw (p1, p2, p3, p4, p5, p6, p7) refl

front : (a b c d : ℕ) (l r : List ℕ) → a ≡ 0x41 → b ≡ 0x44 → l ≡ r → a ∷ b ∷ c ∷ d ∷ l ≡ 0x41 ∷ 0x44 ∷ c ∷ d ∷ r
front a b c d l r p q u = rw (p, q, u) refl

-- Bytes without a fault are the spelling of their fields.
pub spelled : (bytes : List ℕ) → AllBytes bytes → IsWhole bytes → bytes ≡ bytes_of (fields_of bytes)
unfolding bytes_of fields_of raw_entries
spelled bytes all whole =
    let long = whole.long in
    let w = entry_len (slice_index bytes 2) in
    let n = entry_count (slice_index bytes 3) (number_at 6 2 bytes) in
    let none = mul-zero w in
    let at : 24 ≡ 24 + w * 0 = omega arith in
    let exact = whole.exact in
    first_four bytes (omega arith)
    ∙ front (slice_index bytes 0) (slice_index bytes 1) (slice_index bytes 2) (slice_index bytes 3) (drop 4 bytes) _ whole.magic0 whole.magic1
    (chain (drop 4 bytes) (drop 6 bytes) (drop 8 bytes) (drop 12 bytes) (drop 14 bytes) (drop 16 bytes) (drop 24 bytes)
    (big_bytes 2 (number_at 4 2 bytes)) (big_bytes 2 (number_at 6 2 bytes)) (big_bytes 4 (number_at 8 4 bytes)) (big_bytes 2 (number_at 12 2 bytes)) (big_bytes 2 (number_at 14 2 bytes)) (big_bytes 8 (number_at 16 8 bytes))
    (flat_map (big_bytes w) (map (λ i. number_at (24 + w * i) w bytes) (range_with_len 0 n)))
    (part bytes 4 2 all (omega arith)) (part bytes 6 2 all (omega arith)) (part bytes 8 4 all (omega arith)) (part bytes 12 2 all (omega arith)) (part bytes 14 2 all (omega arith)) (part bytes 16 8 all (omega arith))
    (ap (λ k. drop k bytes) at ∙ parts w bytes 0 n all (omega arith)))

number_below : (bytes : List ℕ) (at n : ℕ) → AllBytes bytes → number_at at n bytes < 256 ^ n
number_below bytes at n all = big_from-lt 0 n (drop at bytes) (λ i. subst (λ x. x < 256) (sym (get_or-drop at bytes i 0)) (all (at + i)))

pub numbers_long : (bytes : List ℕ) → length (fields_of bytes).numbers ≡ entry_count (fields_of bytes).kind (fields_of bytes).count
unfolding fields_of raw_entries
numbers_long bytes =
    let w = entry_len (slice_index bytes 2) in
    length-map-range_with_len (λ i. number_at (24 + w * i) w bytes) 0 (entry_count (slice_index bytes 3) (number_at 6 2 bytes))

pub numbers_small : (bytes : List ℕ) → AllBytes bytes → (k : ℕ) → k < length (fields_of bytes).numbers → get_or (fields_of bytes).numbers k 0 < 256 ^ entry_len (fields_of bytes).version
unfolding fields_of raw_entries
numbers_small bytes all k below =
    let w = entry_len (slice_index bytes 2) in
    let n = entry_count (slice_index bytes 3) (number_at 6 2 bytes) in
    let f : ℕ → ℕ = λ i. number_at (24 + w * i) w bytes in
    let under : k < n = omega (arith, length-map-range_with_len f 0 n) in
    subst (λ x. x < 256 ^ w) (sym (get_or-map-range_with_len f 0 n k k 0 under (omega arith))) (number_below bytes (24 + w * k) w all)

-- Bytes without a fault have fields in range.
pub in_range : (bytes : List ℕ) → AllBytes bytes → IsWhole bytes → AreInRange (fields_of bytes)
unfolding fields_of raw_entries
in_range bytes all w = record {
  version = w.version;
  kind = w.kind;
  edition = number_below bytes 4 2 all;
  cycle = number_below bytes 8 4 all;
  slot = number_below bytes 12 2 all;
  value = number_below bytes 16 8 all;
  many = numbers_long bytes;
  small = numbers_small bytes all;
  shaped = sym (shaped_is bytes) ∙ w.shaped;
}

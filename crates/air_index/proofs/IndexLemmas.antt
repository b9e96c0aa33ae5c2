-- The bytes of an index record: what is read back from a spelling, and what the bytes of a record spell.
use Rattle.std.proofs.Common.{◌≡◌, ◌≢◌, ◌≤◌, ◌<◌, ◌+◌, ◌*◌, ◌^◌, ◌++◌, ◌&&◌, ◌==◌, nat_le, ℕ, zero, suc, Bool, true, false, List, [], ◌∷◌, map, length, length-append, drop, get_or, slice_index, refl, sym, ◌∙◌, ap, subst, arith}
use Rattle.std.proofs.lemmas.Bool.{and_from, and_parts, eq-eqb, eqb-true, le-leb, leb-true}
use Rattle.std.proofs.lemmas.Grind.{same_number_lists}
use Rattle.std.specs.List.{flat_map, list_all, range_with_len}
use Rattle.std.proofs.lemmas.List.{drop-drop, drop_all, drop_at, get_or-drop, length-drop, take-append-drop}
use Rattle.std.proofs.lemmas.List.Folds.{list_all-append}
use Rattle.std.proofs.lemmas.List.FromFn.{get_or-map-range_with_len, length-map-range_with_len, map-range_with_len_more}
use Rattle.byteorder.specs.Endian.{big_number, big_bytes}
use Rattle.byteorder.specs.Numbers.{big_from-lt, big_number-reads_back, length-bytes_high_first}
use Rattle.air_base.specs.declared.limits.TheConstants.{MOST_ITEMS}
use Rattle.air_model.specs.Buckets.{number_at}
use Rattle.air_model.proofs.ByteLemmas.{AllBytes, one_spelling}
use Rattle.air_model.proofs.EntryLemmas.{all_tests, each_test}
use Rattle.air_index.specs.Indexes.{Index, IsIndexInRange, IsIndexRecord, index_at, index_bytes, index_entries, is_index}

-- ---- the entries

pub length_entries : (n : ℕ) (bytes : List ℕ) → length (index_entries n bytes) ≡ n
unfolding index_entries
length_entries n bytes = length-map-range_with_len (λ i. number_at (13 + 4 * i) 4 bytes) 0 n

pub entry_is : (n i : ℕ) (bytes : List ℕ) → i < n → get_or (index_entries n bytes) i 0 ≡ number_at (13 + 4 * i) 4 bytes
unfolding index_entries
entry_is n i bytes under = get_or-map-range_with_len (λ i. number_at (13 + 4 * i) 4 bytes) 0 n i i 0 under (omega arith)

pub tests_none : (bytes : List ℕ) → list_all (nat_le 1) (index_entries 0 bytes) ≡ true
unfolding index_entries
tests_none bytes = refl

-- One more entry is asked for.
pub tests_more : (i : ℕ) (bytes : List ℕ) → list_all (nat_le 1) (index_entries (i + 1) bytes) ≡ (list_all (nat_le 1) (index_entries i bytes) && nat_le 1 (number_at (13 + 4 * i) 4 bytes))
unfolding index_entries
tests_more i bytes =
    let f : ℕ → ℕ = λ i. number_at (13 + 4 * i) 4 bytes in
    ap (list_all (nat_le 1)) (map-range_with_len_more f 0 i i (omega arith)) ∙ list_all-append (nat_le 1) (map f (range_with_len 0 i)) (f i ∷ [])
    ∙ ap (λ b. list_all (nat_le 1) (map f (range_with_len 0 i)) && b) (one (nat_le 1 (f i)))
  where
    one : (b : Bool) → (b && true) ≡ b
    one true = refl
    one false = refl

-- ---- the tests

pub record IsWholeIndex (bytes : List ℕ) : Type 0 where
  pub long : 13 ≤ length bytes
  pub exact : length bytes ≡ 13 + 4 * number_at 11 2 bytes
  pub tag : slice_index bytes 0 ≡ 0
  pub zeros : number_at 1 4 bytes ≡ 0
  pub started : 1 ≤ number_at 5 4 bytes
  pub some : 1 ≤ number_at 11 2 bytes
  pub count : number_at 11 2 bytes ≤ MOST_ITEMS
  pub ahead : list_all (nat_le 1) (index_entries (number_at 11 2 bytes) bytes) ≡ true

pub whole_from_test : (bytes : List ℕ) → is_index bytes ≡ true → IsWholeIndex bytes
unfolding is_index
whole_from_test bytes t =
    let n = number_at 11 2 bytes in
    let a = and_parts _ (list_all (nat_le 1) (index_entries n bytes)) t in
    let b = and_parts _ (nat_le n MOST_ITEMS) a.0 in
    let c = and_parts _ (nat_le 1 n) b.0 in
    let d = and_parts _ (nat_le 1 (number_at 5 4 bytes)) c.0 in
    let e = and_parts _ (number_at 1 4 bytes == 0) d.0 in
    let f = and_parts (length bytes == 13 + 4 * n) (slice_index bytes 0 == 0) e.0 in
    let exact = eqb-true (length bytes) (13 + 4 * n) f.0 in
    record {
      long = omega arith;
      exact = exact;
      tag = eqb-true (slice_index bytes 0) 0 f.1;
      zeros = eqb-true (number_at 1 4 bytes) 0 e.1;
      started = leb-true 1 (number_at 5 4 bytes) d.1;
      some = leb-true 1 n c.1;
      count = leb-true n MOST_ITEMS b.1;
      ahead = a.1;
    }

pub test_from_whole : (bytes : List ℕ) → IsWholeIndex bytes → is_index bytes ≡ true
unfolding is_index
test_from_whole bytes w =
    let n = number_at 11 2 bytes in
    and_from _ _
    (and_from _ _
    (and_from _ _
    (and_from _ _
    (and_from _ _ (and_from _ _ (eq-eqb (length bytes) (13 + 4 * n) w.exact) (eq-eqb (slice_index bytes 0) 0 w.tag)) (eq-eqb (number_at 1 4 bytes) 0 w.zeros))
    (le-leb 1 (number_at 5 4 bytes) w.started))
    (le-leb 1 n w.some))
    (le-leb n MOST_ITEMS w.count))
    w.ahead

-- ---- a spelling read back

pub length_numbers : (es : List ℕ) → length (flat_map (big_bytes 4) es) ≡ 4 * length es
length_numbers [] = refl
length_numbers (e ∷ es) =
    length-append (big_bytes 4 e) (flat_map (big_bytes 4) es) ∙ ap (λ n. n + length (flat_map (big_bytes 4) es)) (length-bytes_high_first 4 e) ∙ (let rest = length_numbers es in omega arith)

entry_back : (es : List ℕ) (i : ℕ) → ((k : ℕ) → k < length es → get_or es k 0 < 2 ^ 32) → i < length es → big_number 4 (drop (4 * i) (flat_map (big_bytes 4) es)) ≡ get_or es i 0
entry_back [] i small below = absurd (omega arith)
entry_back (e ∷ es) zero small below = big_number-reads_back 4 e (flat_map (big_bytes 4) es) (small 0 (omega arith))
entry_back (e ∷ es) (suc i) small below =
    let next : 4 * suc i ≡ 4 + 4 * i = omega arith in
    ap (λ k. big_number 4 (drop k (big_bytes 4 e ++ flat_map (big_bytes 4) es))) next
    ∙ ap (big_number 4) (sym (drop-drop (4 * i) 4 (big_bytes 4 e ++ flat_map (big_bytes 4) es)))
    ∙ ap (λ l. big_number 4 (drop (4 * i) l)) (drop_at (big_bytes 4 e) (flat_map (big_bytes 4) es) 4 (length-bytes_high_first 4 e))
    ∙ entry_back es i (λ k under. small (suc k) (omega arith)) (omega arith)

entries_back : (front : List ℕ) (es : List ℕ) → length front ≡ 13 → ((k : ℕ) → k < length es → get_or es k 0 < 2 ^ 32) → index_entries (length es) (front ++ flat_map (big_bytes 4) es) ≡ es
unfolding index_entries
entries_back front es size small =
    let f : ℕ → ℕ = λ i. number_at (13 + 4 * i) 4 (front ++ flat_map (big_bytes 4) es) in
    same_number_lists (map f (range_with_len 0 (length es))) es (length-map-range_with_len f 0 (length es))
    (λ k below.
    let under : k < length es = omega (arith, length-map-range_with_len f 0 (length es)) in
    get_or-map-range_with_len f 0 (length es) k k 0 under (omega arith)
    ∙ ap (big_number 4) (sym (drop-drop (4 * k) 13 (front ++ flat_map (big_bytes 4) es)) ∙ ap (drop (4 * k)) (drop_at front (flat_map (big_bytes 4) es) 13 size))
    ∙ entry_back es k small under)

head_of : ℕ → ℕ → ℕ → List ℕ
head_of c m n = 0 ∷ [] ++ big_bytes 4 0 ++ big_bytes 4 c ++ big_bytes 2 m ++ big_bytes 2 n

spelled_so : (c m : ℕ) (es : List ℕ) → index_bytes c m es ≡ head_of c m (length es) ++ flat_map (big_bytes 4) es
unfolding index_bytes head_of
spelled_so c m es = refl

same_index : (a a2 b b2 : ℕ) (l l2 : List ℕ) → a ≡ a2 → b ≡ b2 → l ≡ l2 → ◌≡◌ {A = Index} (record { cycle = a; minor = b; entries = l }) (record { cycle = a2; minor = b2; entries = l2 })
same_index a a2 b b2 l l2 p q r = rw (p, q, r) refl

module _ (index : Index) (r : IsIndexInRange index) where
  bytes_of : List ℕ
  bytes_of = index_bytes index.cycle index.minor index.entries

  count_back : number_at 11 2 bytes_of ≡ length index.entries
  unfolding index_bytes bytes_of
  count_back = let few = r.count in big_number-reads_back 2 (length index.entries) (drop 13 bytes_of) (omega arith)

  cycle_back : number_at 5 4 bytes_of ≡ index.cycle
  unfolding index_bytes bytes_of
  cycle_back = big_number-reads_back 4 index.cycle (drop 9 bytes_of) r.cycle

  minor_back : number_at 9 2 bytes_of ≡ index.minor
  unfolding index_bytes bytes_of
  minor_back = big_number-reads_back 2 index.minor (drop 11 bytes_of) r.minor

  list_back : index_entries (length index.entries) bytes_of ≡ index.entries
  unfolding bytes_of head_of
  list_back =
      ap (index_entries (length index.entries)) (spelled_so index.cycle index.minor index.entries)
      ∙ entries_back (head_of index.cycle index.minor (length index.entries)) index.entries refl (λ k under. r.entries k 0 under)

  long_bytes : length bytes_of ≡ 13 + 4 * length index.entries
  unfolding bytes_of head_of
  long_bytes =
      ap length (spelled_so index.cycle index.minor index.entries) ∙ length-append (head_of index.cycle index.minor (length index.entries)) (flat_map (big_bytes 4) index.entries)
      ∙ (let all = length_numbers index.entries in omega arith)

  zeros_back : number_at 1 4 bytes_of ≡ 0
  unfolding index_bytes bytes_of
  zeros_back = big_number-reads_back 4 0 (drop 5 bytes_of) (omega arith)

  tag_back : slice_index bytes_of 0 ≡ 0
  unfolding index_bytes bytes_of
  tag_back = refl

  -- The bytes of an index pass the tests.
  whole_bytes : IsWholeIndex bytes_of
  whole_bytes = record {
    long = omega (arith, long_bytes);
    exact = long_bytes ∙ ap (λ n. 13 + 4 * n) (sym count_back);
    tag = tag_back;
    zeros = zeros_back;
    started = subst (λ n. 1 ≤ n) (sym cycle_back) r.started;
    some = subst (λ n. 1 ≤ n) (sym count_back) r.some;
    count = subst (λ n. n ≤ MOST_ITEMS) (sym count_back) r.count;
    ahead = ap (λ n. list_all (nat_le 1) (index_entries n bytes_of)) count_back ∙ ap (list_all (nat_le 1)) list_back
        ∙ all_tests (nat_le 1) index.entries (λ k d under. le-leb 1 (get_or index.entries k d) (r.ahead k d under));
  }

  index_back : index_at bytes_of ≡ index
  unfolding index_at
  index_back =
      same_index (number_at 5 4 bytes_of) index.cycle (number_at 9 2 bytes_of) index.minor (index_entries (number_at 11 2 bytes_of) bytes_of) index.entries cycle_back minor_back
      (ap (λ n. index_entries n bytes_of) count_back ∙ list_back)

-- A record of an index passes the tests and is read back.
pub record_read : (bytes : List ℕ) (index : Index) → IsIndexRecord bytes index → (is_index bytes ≡ true) × (index_at bytes ≡ index)
unfolding bytes_of
record_read bytes index h =
    (ap is_index h.1 ∙ test_from_whole (index_bytes index.cycle index.minor index.entries) (whole_bytes index h.0), ap index_at h.1 ∙ index_back index h.0)

-- ---- bytes that pass the tests

-- A number is spelled where it is read.
pub part : (bytes : List ℕ) (at n : ℕ) → AllBytes bytes → at + n ≤ length bytes → drop at bytes ≡ big_bytes n (number_at at n bytes) ++ drop (at + n) bytes
part bytes at n all room =
    let rest = drop at bytes in
    sym (take-append-drop n rest) ∙ ap (λ l. l ++ drop n rest) (one_spelling n rest (omega (arith, length-drop at bytes)) (λ i. subst (λ x. x < 256) (sym (get_or-drop at bytes i 0)) (all (at + i))))
    ∙ ap (λ l. big_bytes n (number_at at n bytes) ++ l) (drop-drop n at bytes)

parts : (bytes : List ℕ) (j n : ℕ) → AllBytes bytes → length bytes ≡ 13 + 4 * j + 4 * n → drop (13 + 4 * j) bytes ≡ flat_map (big_bytes 4) (map (λ i. number_at (13 + 4 * i) 4 bytes) (range_with_len j n))
parts bytes j zero all size = drop_all (13 + 4 * j) bytes (omega arith)
parts bytes j (suc n) all size =
    let next : 13 + 4 * j + 4 ≡ 13 + 4 * (j + 1) = omega arith in
    part bytes (13 + 4 * j) 4 all (omega arith)
    ∙ ap (λ l. big_bytes 4 (number_at (13 + 4 * j) 4 bytes) ++ l) (ap (λ k. drop k bytes) next ∙ parts bytes (j + 1) n all (omega arith))

pub number_below : (bytes : List ℕ) (at n : ℕ) → AllBytes bytes → number_at at n bytes < 256 ^ n
number_below bytes at n all = big_from-lt 0 n (drop at bytes) (λ i. subst (λ x. x < 256) (sym (get_or-drop at bytes i 0)) (all (at + i)))

pub first_one : (bytes : List ℕ) → 1 ≤ length bytes → bytes ≡ slice_index bytes 0 ∷ drop 1 bytes
first_one [] h = absurd (omega arith)
first_one (a ∷ rest) h = refl

chain : (d1 d5 d9 d11 d13 x1 x2 x3 x4 x5 : List ℕ) → d1 ≡ x1 ++ d5 → d5 ≡ x2 ++ d9 → d9 ≡ x3 ++ d11 → d11 ≡ x4 ++ d13 → d13 ≡ x5 → d1 ≡ x1 ++ (x2 ++ (x3 ++ (x4 ++ x5)))
chain d1 d5 d9 d11 d13 x1 x2 x3 x4 x5 p1 p2 p3 p4 p5 = rw (p1, p2, p3, p4, p5) refl

fronted : (a : ℕ) (l r : List ℕ) → a ≡ 0 → l ≡ r → a ∷ l ≡ 0 ∷ r
fronted a l r p q = rw (p, q) refl

entries_small : (bytes : List ℕ) (n k d : ℕ) → AllBytes bytes → k < length (index_entries n bytes) → get_or (index_entries n bytes) k d < 2 ^ 32
unfolding index_entries
entries_small bytes n k d all under =
    let f : ℕ → ℕ = λ i. number_at (13 + 4 * i) 4 bytes in
    subst (λ x. x < 2 ^ 32) (sym (get_or-map-range_with_len f 0 n k k d (omega (arith, length-map-range_with_len f 0 n)) (omega arith))) (number_below bytes (13 + 4 * k) 4 all)

rest_is : (bytes : List ℕ) (n : ℕ) → AllBytes bytes → length bytes ≡ 13 + 4 * n → drop 13 bytes ≡ flat_map (big_bytes 4) (index_entries n bytes)
unfolding index_entries
rest_is bytes n all exact = parts bytes 0 n all (omega arith)

-- Bytes that pass the tests are the record of their index.
pub record_from_test : (bytes : List ℕ) → AllBytes bytes → is_index bytes ≡ true → IsIndexRecord bytes (index_at bytes)
unfolding index_at index_bytes
record_from_test bytes all t =
    let w = whole_from_test bytes t in
    let n = number_at 11 2 bytes in
    let long = w.long in
    let exact = w.exact in
    let many = length_entries n bytes in (
      record {
        started = w.started;
        cycle = number_below bytes 5 4 all;
        minor = number_below bytes 9 2 all;
        some = subst (λ k. 1 ≤ k) (sym many) w.some;
        count = subst (λ k. k ≤ MOST_ITEMS) (sym many) w.count;
        ahead = λ k d under. leb-true 1 (get_or (index_entries n bytes) k d) (each_test (nat_le 1) (index_entries n bytes) w.ahead k d under);
        entries = λ k d under. entries_small bytes n k d all under;
      },
      first_one bytes (omega arith)
          ∙ fronted (slice_index bytes 0) (drop 1 bytes) _ w.tag
          (chain (drop 1 bytes) (drop 5 bytes) (drop 9 bytes) (drop 11 bytes) (drop 13 bytes) (big_bytes 4 0) (big_bytes 4 (number_at 5 4 bytes)) (big_bytes 2 (number_at 9 2 bytes))
          (big_bytes 2 (length (index_entries n bytes))) (flat_map (big_bytes 4) (index_entries n bytes))
          (part bytes 1 4 all (omega arith) ∙ ap (λ k. big_bytes 4 k ++ drop 5 bytes) w.zeros) (part bytes 5 4 all (omega arith)) (part bytes 9 2 all (omega arith))
          (part bytes 11 2 all (omega arith) ∙ ap (λ k. big_bytes 2 k ++ drop 13 bytes) (sym many))
          (rest_is bytes n all exact)),
    )

-- ---- the tests in the order in which the code makes them

apart : (a b : ℕ) → a ≢ b → (a == b) ≡ false
apart a b ne = grind arith

pub test_short : (bytes : List ℕ) → length bytes < 13 → false ≡ is_index bytes
unfolding is_index
test_short bytes short = rw (apart (length bytes) (13 + 4 * number_at 11 2 bytes) (λ same. omega arith)) refl

pub test_length : (bytes : List ℕ) (n : ℕ) → n ≡ number_at 11 2 bytes → length bytes ≢ 13 + 4 * n → false ≡ is_index bytes
unfolding is_index
test_length bytes n is other = rw (apart (length bytes) (13 + 4 * number_at 11 2 bytes) (λ same. other (same ∙ ap (λ k. 13 + 4 * k) (sym is)))) refl

pub test_rest : (bytes : List ℕ) (n four cycle : ℕ) (ahead : Bool) → n ≡ number_at 11 2 bytes → length bytes ≡ 13 + 4 * n → four ≡ number_at 1 4 bytes → cycle ≡ number_at 5 4 bytes
    → ahead ≡ list_all (nat_le 1) (index_entries n bytes)
    → ((slice_index bytes 0 == 0) && (four == 0) && nat_le 1 cycle && nat_le 1 n && nat_le n MOST_ITEMS && ahead) ≡ is_index bytes
unfolding is_index
test_rest bytes n four cycle ahead is exact z c a =
    rw (a, z, c, eq-eqb (length bytes) (13 + 4 * number_at 11 2 bytes) (exact ∙ ap (λ k. 13 + 4 * k) is), is) refl

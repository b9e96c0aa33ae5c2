-- The bytes of a short column: the spelling read back at its places, and the spelling of what is read.
use Rattle.std.proofs.Common.{◌≡◌, ◌<◌, ◌≤◌, ◌+◌, ◌-◌, ◌*◌, ◌^◌, ◌/◌, ◌%◌, ◌++◌, cond, ℕ, zero, suc, Bool, true, false, List, [], ◌∷◌, length, map, take, drop, get_or, slice_index, nat_le, nat_lt, refl, sym, ◌∙◌, ap, subst, arith, append_assoc, All}
use Rattle.std.specs.List.{flat_map, range_with_len}
use Rattle.std.proofs.lemmas.Bool.{and_from, and_parts, le-leb, leb-true, lt-ltb, ltb-true}
use Rattle.std.proofs.lemmas.List.{drop_at, drop_more, get_or-drop, get_or_default, length-append, length-map, take_at}
use Rattle.std.proofs.lemmas.List.FromFn.{get_or-map-range_with_len, length-map-range_with_len}
use Rattle.byteorder.specs.Endian.{big_bytes, big_number}
use Rattle.byteorder.specs.Numbers.{big_number-reads_back}
use Rattle.air_base.specs.declared.limits.TheConstants.{AGE_CAP}
use Rattle.air_history.specs.Ages.{capped}
use Rattle.short_columns.specs.Listings.{listed_entry, listed, rise, unlisted}
use Rattle.short_columns.specs.ShortColumns.{is_listing, is_young_age, two_at, pair_spelling, pair_told, pairs_at, raw_pair, raw_pairs, short_entries, short_spelling}
use Rattle.short_columns.proofs.ListingLemmas.{entries_back, entry_holds, listed_few, listed_is, length_unlisted, pairs_back, rise_by, rise_listed, rise_map, rise_parts}

-- ---- lengths

pub length_pairs : (c : ℕ) (pairs : List (ℕ × ℕ)) → length (flat_map (pair_spelling c) pairs) ≡ 3 * length pairs
length_pairs c [] = refl
length_pairs c (p ∷ pairs) = let rest = length_pairs c pairs in omega arith

pub length_spelling : (c : ℕ) (pairs : List (ℕ × ℕ)) → length (short_spelling c pairs) ≡ 2 + 3 * length pairs
unfolding short_spelling
length_spelling c pairs = let rest = length_pairs c pairs in omega arith

pub length_raw : (at : ℕ) (bytes : List ℕ) → length (raw_pairs at bytes) ≡ two_at at bytes
unfolding raw_pairs
length_raw at bytes = length-map-range_with_len (raw_pair at bytes) 0 (two_at at bytes)

-- ---- ages

-- An age of a listed entry is at least 1, and below the cap and the cycle.
pub record IsYoung (c a : ℕ) : Type 0 where
  pub some : 1 ≤ a
  pub young : a < AGE_CAP
  pub below : a < c

pub young_parts : (c a : ℕ) → is_young_age c a ≡ true → IsYoung c a
unfolding is_young_age
young_parts c a t =
    let p = and_parts _ (nat_lt a c) t in
    let q = and_parts (nat_le 1 a) (nat_lt a AGE_CAP) p.0 in
    record { some = leb-true 1 a q.0; young = ltb-true a AGE_CAP q.1; below = ltb-true a c p.1 }

pub young_from : (c a : ℕ) → 1 ≤ a → a < AGE_CAP → a < c → is_young_age c a ≡ true
unfolding is_young_age
young_from c a some young below = and_from _ _ (and_from _ _ (le-leb 1 a some) (lt-ltb a AGE_CAP young)) (lt-ltb a c below)

-- An entry above 0 that an age gives has a young age.
pub entry_young : (c e : ℕ) → 0 < e → e < c → capped e c ≡ e → is_young_age c (c - e) ≡ true
unfolding capped
entry_young c e some below told = young_from c (c - e) (omega arith) (by (nat_lt (c - e) AGE_CAP) refl told) (omega arith)
  where
    by : (b : Bool) → nat_lt (c - e) AGE_CAP ≡ b → cond b e 0 ≡ e → c - e < AGE_CAP
    by true young told = ltb-true (c - e) AGE_CAP young
    by false old told = absurd (let none : 0 ≡ e = told in omega arith)

pub young_capped : (c e : ℕ) → c - e < AGE_CAP → capped e c ≡ e
unfolding capped
young_capped c e young = ap (λ b. cond b e 0) (lt-ltb (c - e) AGE_CAP young)

pub zero_capped : (c : ℕ) → capped 0 c ≡ 0
unfolding capped
zero_capped c = by (nat_lt (c - 0) AGE_CAP)
  where
    by : (b : Bool) → ◌≡◌ {A = ℕ} (cond b 0 0) 0
    by true = refl
    by false = refl

-- An age's age is the age again.
back_again : (c a : ℕ) → a ≤ c → c - (c - a) ≡ a
back_again c a less = omega arith

pub told_twice : (c low n : ℕ) (pairs : List (ℕ × ℕ)) → rise (λ e. is_young_age c (c - e)) low n pairs ≡ true → map (pair_told c) (map (pair_told c) pairs) ≡ pairs
told_twice c low n [] t = refl
told_twice c low n (p ∷ pairs) t =
    let r = rise_parts (λ e. is_young_age c (c - e)) low n p pairs t in
    let y = young_parts c (c - p.1) r.passes in
    let some = y.some in
    let here : pair_told c (pair_told c p) ≡ p = ap (λ x. (p.0, x)) (back_again c p.1 (omega arith)) in
    ap (λ q. q ∷ map (pair_told c) (map (pair_told c) pairs)) here ∙ ap (λ l. p ∷ l) (told_twice c (p.0 + 1) n pairs r.rest)

-- ---- a spelling read back

-- A pair of the spelling is read at its place.
pair_back : (at j c x : ℕ) (pre tail : List ℕ) (e : ℕ) → length pre ≡ at + 2 + 3 * j → x < 2 ^ 16 → raw_pair at (pre ++ (pair_spelling c (x, e) ++ tail)) j ≡ pair_told c (x, e)
pair_back at j c x pre tail e size small =
    let bytes = pre ++ (pair_spelling c (x, e) ++ tail) in
    let rest : drop (at + 2 + 3 * j) bytes ≡ pair_spelling c (x, e) ++ tail = drop_at pre (pair_spelling c (x, e) ++ tail) (at + 2 + 3 * j) size in
    let item : two_at (at + 2 + 3 * j) bytes ≡ x = ap (big_number 2) rest ∙ big_number-reads_back 2 x ((c - e) ∷ tail) small in
    let place : at + 2 + 3 * j + 2 ≡ at + 4 + 3 * j = omega arith in
    let age : slice_index bytes (at + 4 + 3 * j) ≡ c - e = ap (slice_index bytes) (sym place) ∙ sym (get_or-drop (at + 2 + 3 * j) bytes 2 0) ∙ ap (λ l. slice_index l 2) rest in
    rw (item, age) refl

pairs_read : (at j c low n : ℕ) (pre rest : List ℕ) (pairs : List (ℕ × ℕ)) (test : ℕ → Bool) → length pre ≡ at + 2 + 3 * j → n ≤ 2 ^ 16 → rise test low n pairs ≡ true
    → map (raw_pair at (pre ++ (flat_map (pair_spelling c) pairs ++ rest))) (range_with_len j (length pairs)) ≡ map (pair_told c) pairs
pairs_read at j c low n pre rest [] test size few t = refl
pairs_read at j c low n pre rest (p ∷ pairs) test size few t =
    let r = rise_parts test low n p pairs t in
    let below = r.below in
    let tail = flat_map (pair_spelling c) pairs ++ rest in
    let joined : pre ++ (flat_map (pair_spelling c) (p ∷ pairs) ++ rest) ≡ pre ++ (pair_spelling c p ++ tail) = ap (λ l. pre ++ l) (append_assoc (pair_spelling c p) (flat_map (pair_spelling c) pairs) rest) in
    let moved : pre ++ (flat_map (pair_spelling c) (p ∷ pairs) ++ rest) ≡ (pre ++ pair_spelling c p) ++ tail = joined ∙ sym (append_assoc pre (pair_spelling c p) tail) in
    let longer : length (pre ++ pair_spelling c p) ≡ at + 2 + 3 * (j + 1) = omega (arith, length-append pre (pair_spelling c p)) in
    let here = ap (λ l. raw_pair at l j) joined ∙ pair_back at j c p.0 pre tail p.1 size (omega arith) in
    let next = ap (λ l. map (raw_pair at l) (range_with_len (j + 1) (length pairs))) moved ∙ pairs_read at (j + 1) c (p.0 + 1) n (pre ++ pair_spelling c p) rest pairs test longer few r.rest in
    ap (λ q. q ∷ map (raw_pair at (pre ++ (flat_map (pair_spelling c) (p ∷ pairs) ++ rest))) (range_with_len (j + 1) (length pairs))) here ∙ ap (λ l. pair_told c p ∷ l) next

-- The whole of a spelling.
pub record IsReadBack (c at : ℕ) (bytes : List ℕ) (pairs : List (ℕ × ℕ)) : Type 0 where
  pub count : two_at at bytes ≡ length pairs
  pub raw : raw_pairs at bytes ≡ map (pair_told c) pairs

pub read_back : (at c n : ℕ) (front rest : List ℕ) (pairs : List (ℕ × ℕ)) (test : ℕ → Bool) → length front ≡ at → n ≤ 2 ^ 16 → length pairs < 2 ^ 16 → rise test 0 n pairs ≡ true
    → IsReadBack c at (front ++ (short_spelling c pairs ++ rest)) pairs
unfolding short_spelling raw_pairs
read_back at c n front rest pairs test size few less t =
    let body = flat_map (pair_spelling c) pairs in
    let bytes = front ++ ((big_bytes 2 (length pairs) ++ body) ++ rest) in
    let counted : two_at at bytes ≡ length pairs =
    ap (big_number 2) (drop_at front ((big_bytes 2 (length pairs) ++ body) ++ rest) at size) ∙ big_number-reads_back 2 (length pairs) (body ++ rest) less in
    let pre = front ++ big_bytes 2 (length pairs) in
    let joined : bytes ≡ pre ++ (body ++ rest) = sym (append_assoc front (big_bytes 2 (length pairs)) (body ++ rest)) in
    let long : length pre ≡ at + 2 + 3 * 0 = omega (arith, length-append front (big_bytes 2 (length pairs))) in
    record {
      count = counted;
      raw = ap (λ k. map (raw_pair at bytes) (range_with_len 0 k)) counted ∙ ap (λ l. map (raw_pair at l) (range_with_len 0 (length pairs))) joined ∙ pairs_read at 0 c 0 n pre rest pairs test long few t;
    }

-- What the spelling of a column's list tells.
pub spelling_back : (c at : ℕ) (entries front rest : List ℕ) → length front ≡ at → length entries < 2 ^ 16 → All (λ e. e < c) entries → All (λ e. capped e c ≡ e) entries
    → let bytes = front ++ (short_spelling c (listed entries) ++ rest) in
    (two_at at bytes ≡ length (listed entries)) × (is_listing c (length entries) at bytes ≡ true) × (short_entries c (length entries) at bytes ≡ entries)
unfolding is_listing pairs_at
spelling_back c at entries front rest size few below told =
    let pairs = listed entries in
    let n = length entries in
    let t : rise (λ e. is_young_age c (c - e)) 0 n pairs ≡ true =
    ap (rise (λ e. is_young_age c (c - e)) 0 n) (listed_is entries)
    ∙ rise_listed (λ e. is_young_age c (c - e)) 0 n entries (omega arith) (λ k under some. entry_young c (get_or entries k 0) some (below k 0 under) (told k 0 under)) in
    let least : length pairs ≤ n = subst (λ l. length l ≤ n) (sym (listed_is entries)) (listed_few 0 entries) in
    let back = read_back at c n front rest pairs (λ e. is_young_age c (c - e)) size (omega arith) (omega arith) t in (
      back.count,
      ap (rise (is_young_age c) 0 n) back.raw ∙ rise_map (is_young_age c) (λ e. c - e) 0 n pairs ∙ t,
      ap (λ l. unlisted n (map (pair_told c) l)) back.raw ∙ ap (unlisted n) (told_twice c 0 n pairs t) ∙ entries_back entries,
    )

-- ---- bytes that are a listing

-- Two bytes are the spelling of the number that they read as.
two_bytes : (x y : ℕ) (l : List ℕ) → x < 256 → y < 256 → x ∷ y ∷ l ≡ big_bytes 2 (big_number 2 (x ∷ y ∷ l)) ++ l
two_bytes x y l small tiny =
    let v = big_number 2 (x ∷ y ∷ l) in
    let sum : v ≡ x * 256 + y = omega arith in
    let high : x ≡ v / 256 % 256 = omega arith in
    let low : y ≡ v % 256 = omega arith in
    ap (λ a. a ∷ y ∷ l) high ∙ ap (λ b. v / 256 % 256 ∷ b ∷ l) low

pub two_at_place : (bytes : List ℕ) (at : ℕ) → All (λ x. x < 256) bytes → at + 2 ≤ length bytes → drop at bytes ≡ big_bytes 2 (two_at at bytes) ++ drop (at + 2) bytes
two_at_place bytes at small room =
    let x = get_or bytes at 0 in
    let y = get_or bytes (at + 1) 0 in
    let next : at + 1 + 1 ≡ at + 2 = omega arith in
    let parts : drop at bytes ≡ x ∷ y ∷ drop (at + 2) bytes =
    drop_more bytes at 0 (omega arith) ∙ ap (λ l. x ∷ l) (drop_more bytes (at + 1) 0 (omega arith)) ∙ ap (λ k. x ∷ y ∷ drop k bytes) next in
    parts ∙ two_bytes x y (drop (at + 2) bytes) (small at 0 (omega arith)) (small (at + 1) 0 (omega arith)) ∙ ap (λ l. big_bytes 2 (big_number 2 l) ++ drop (at + 2) bytes) (sym parts)

pair_at_place : (c at j : ℕ) (bytes : List ℕ) → All (λ x. x < 256) bytes → at + 2 + 3 * j + 3 ≤ length bytes → slice_index bytes (at + 4 + 3 * j) ≤ c
    → drop (at + 2 + 3 * j) bytes ≡ pair_spelling c (pair_told c (raw_pair at bytes j)) ++ drop (at + 2 + 3 * (j + 1)) bytes
pair_at_place c at j bytes small room less =
    let here = at + 2 + 3 * j in
    let a = slice_index bytes (at + 4 + 3 * j) in
    let place : here + 2 ≡ at + 4 + 3 * j = omega arith in
    let next : here + 2 + 1 ≡ at + 2 + 3 * (j + 1) = omega arith in
    let rest : drop (here + 2) bytes ≡ a ∷ drop (at + 2 + 3 * (j + 1)) bytes = drop_more bytes (here + 2) 0 (omega arith) ∙ ap (λ k. get_or bytes k 0 ∷ drop (here + 2 + 1) bytes) place ∙ ap (λ k. a ∷ drop k bytes) next in
    two_at_place bytes here small (omega arith) ∙ ap (λ l. big_bytes 2 (two_at here bytes) ++ l) rest
    ∙ ap (λ b. big_bytes 2 (two_at here bytes) ++ (b ∷ drop (at + 2 + 3 * (j + 1)) bytes)) (sym (back_again c a less))

pairs_spelled : (c at j k low n : ℕ) (bytes : List ℕ) → All (λ x. x < 256) bytes → at + 2 + 3 * (j + k) ≤ length bytes → rise (is_young_age c) low n (map (raw_pair at bytes) (range_with_len j k)) ≡ true
    → drop (at + 2 + 3 * j) bytes ≡ flat_map (pair_spelling c) (map (pair_told c) (map (raw_pair at bytes) (range_with_len j k))) ++ drop (at + 2 + 3 * (j + k)) bytes
pairs_spelled c at j zero low n bytes small room t = let same : at + 2 + 3 * j ≡ at + 2 + 3 * (j + 0) = omega arith in ap (λ i. drop i bytes) same
pairs_spelled c at j (suc k) low n bytes small room t =
    let others = map (raw_pair at bytes) (range_with_len (j + 1) k) in
    let r = rise_parts (is_young_age c) low n (raw_pair at bytes j) others t in
    let y = young_parts c (slice_index bytes (at + 4 + 3 * j)) r.passes in
    let below = y.below in
    let this = pair_spelling c (pair_told c (raw_pair at bytes j)) in
    let after = flat_map (pair_spelling c) (map (pair_told c) others) in
    let end : at + 2 + 3 * (j + 1 + k) ≡ at + 2 + 3 * (j + suc k) = omega arith in
    pair_at_place c at j bytes small (omega arith) (omega arith)
    ∙ ap (λ l. this ++ l) (pairs_spelled c at (j + 1) k ((raw_pair at bytes j).0 + 1) n bytes small (omega arith) r.rest ∙ ap (λ i. after ++ drop i bytes) end)
    ∙ sym (append_assoc this after (drop (at + 2 + 3 * (j + suc k)) bytes))

-- The pairs that a listing tells have items that rise and entries that their ages give.
pub told_rise : (c low n : ℕ) (raw : List (ℕ × ℕ)) → rise (is_young_age c) low n raw ≡ true → rise (λ e. is_young_age c (c - e)) low n (map (pair_told c) raw) ≡ true
told_rise c low n raw t =
    rise_map (λ e. is_young_age c (c - e)) (λ a. c - a) low n raw
    ∙ rise_by (is_young_age c) (λ a. is_young_age c (c - (c - a))) low n raw
    (λ a young. let y = young_parts c a young in let below = y.below in ap (is_young_age c) (back_again c a (omega arith)) ∙ young) t

pub told_above : (c low n : ℕ) (pairs : List (ℕ × ℕ)) → 1 ≤ c → rise (λ e. is_young_age c (c - e)) low n pairs ≡ true → rise (nat_lt 0) low n pairs ≡ true
told_above c low n pairs one t = rise_by (λ e. is_young_age c (c - e)) (nat_lt 0) low n pairs (λ e young. let y = young_parts c (c - e) young in let below = y.below in lt-ltb 0 e (omega arith)) t

-- A number listed in cycle c is below c, and an age gives it.
pub record IsYoungEntry (c e : ℕ) : Type 0 where
  pub below : e < c
  pub told : capped e c ≡ e

pub told_entry : (c e : ℕ) → is_young_age c (c - e) ≡ true → IsYoungEntry c e
told_entry c e young = let y = young_parts c (c - e) young in let some = y.some in record { below = omega arith; told = young_capped c e y.young }

pub each_told : (c n : ℕ) (pairs : List (ℕ × ℕ)) → 1 ≤ c → rise (λ e. is_young_age c (c - e)) 0 n pairs ≡ true → (k : ℕ) → k < n → IsYoungEntry c (get_or (unlisted n pairs) k 0)
unfolding unlisted
each_told c n pairs one t k under =
    subst (IsYoungEntry c) (sym (get_or-map-range_with_len (λ item. listed_entry item pairs) 0 n k k 0 under (omega arith)))
    (entry_holds (IsYoungEntry c) (λ e. is_young_age c (c - e)) k 0 n pairs (record { below = omega arith; told = zero_capped c }) (told_entry c) t)

pub listing_spelled : (c n at : ℕ) (bytes : List ℕ) → All (λ x. x < 256) bytes → 1 ≤ c → at + 2 + 3 * two_at at bytes ≤ length bytes → is_listing c n at bytes ≡ true
    → let entries = short_entries c n at bytes in
    (take (2 + 3 * two_at at bytes) (drop at bytes) ≡ short_spelling c (listed entries)) × All (λ e. e < c) entries × All (λ e. capped e c ≡ e) entries
unfolding is_listing pairs_at raw_pairs short_spelling
listing_spelled c n at bytes small one room t =
    let k = two_at at bytes in
    let raw = map (raw_pair at bytes) (range_with_len 0 k) in
    let pairs = map (pair_told c) raw in
    let told : rise (λ e. is_young_age c (c - e)) 0 n pairs ≡ true = told_rise c 0 n raw t in
    let again : listed (unlisted n pairs) ≡ pairs = pairs_back n pairs (told_above c 0 n pairs one told) in
    let many : length pairs ≡ k = length-map raw (pair_told c) ∙ length-map-range_with_len (raw_pair at bytes) 0 k in
    let body = flat_map (pair_spelling c) pairs in
    let first : at + 2 + 3 * 0 ≡ at + 2 = omega arith in
    let whole : drop at bytes ≡ (big_bytes 2 k ++ body) ++ drop (at + 2 + 3 * (0 + k)) bytes =
    two_at_place bytes at small (omega arith)
    ∙ ap (λ l. big_bytes 2 k ++ l) (ap (λ i. drop i bytes) (sym first) ∙ pairs_spelled c at 0 k 0 n bytes small (omega arith) t)
    ∙ sym (append_assoc (big_bytes 2 k) body (drop (at + 2 + 3 * (0 + k)) bytes)) in
    let long : length (big_bytes 2 k ++ body) ≡ 2 + 3 * k = let l = length_pairs c pairs in omega arith in
    let size = length_unlisted n pairs in
    let each = each_told c n pairs one told in (
      ap (take (2 + 3 * k)) whole ∙ take_at (big_bytes 2 k ++ body) (drop (at + 2 + 3 * (0 + k)) bytes) (2 + 3 * k) long
          ∙ ap (λ m. big_bytes 2 m ++ body) (sym many) ∙ ap (λ l. big_bytes 2 (length l) ++ flat_map (pair_spelling c) l) (sym again),
      λ i d under. let e = each i (omega arith) in subst (λ x. x < c) (get_or_default (unlisted n pairs) i 0 d under) e.below,
      λ i d under. let e = each i (omega arith) in subst (λ x. capped x c ≡ x) (get_or_default (unlisted n pairs) i 0 d under) e.told,
    )

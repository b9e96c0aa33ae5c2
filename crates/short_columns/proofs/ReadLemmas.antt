-- The loops over the pairs of a short column: the test of each, the look-up of an item, and the entries that are filled in.
use Rattle.std.proofs.Common.{◌≡◌, ◌<◌, ◌≤◌, ◌+◌, ◌-◌, ◌*◌, ◌&&◌, ◌==◌, ◌≢◌, ℕ, zero, suc, Bool, true, false, List, [], ◌∷◌, length, map, drop, set, get_or, slice_index, nat_le, nat_lt, refl, sym, ◌∙◌, ap, subst, arith, get_or-set_other, get_or-set_same}
use Rattle.std.specs.Prelude.{replicate}
use Rattle.std.specs.List.{range_with_len}
use Rattle.std.proofs.lemmas.Bool.{eqb-false, eqb-true}
use Rattle.std.proofs.lemmas.Grind.{same_number_lists}
use Rattle.std.proofs.lemmas.List.{drop-map, drop_all, drop_more, get_or-replicate, length-map, length-replicate, length-set}
use Rattle.std.proofs.lemmas.List.FromFn.{get_or-map-range_with_len}
use Rattle.short_columns.specs.Listings.{listed_entry, rise, unlisted}
use Rattle.short_columns.specs.ShortColumns.{is_listing, is_young_age, two_at, pair_told, pairs_at, raw_pair, raw_pairs, short_entries}
use Rattle.short_columns.proofs.ByteLemmas.{length_raw, told_rise}
use Rattle.short_columns.proofs.ListingLemmas.{Rises, entry_after, entry_here, entry_none, entry_unlisted, length_unlisted, rise_parts}

-- ---- pairs one by one

raw_more : (at j : ℕ) (bytes : List ℕ) → j < two_at at bytes → drop j (raw_pairs at bytes) ≡ raw_pair at bytes j ∷ drop (j + 1) (raw_pairs at bytes)
unfolding raw_pairs
raw_more at j bytes under =
    let raw = map (raw_pair at bytes) (range_with_len 0 (two_at at bytes)) in
    let d : ℕ × ℕ = (0, 0) in
    let long = length_raw at bytes in
    drop_more raw j d (omega arith) ∙ ap (λ p. p ∷ drop (j + 1) raw) (get_or-map-range_with_len (raw_pair at bytes) 0 (two_at at bytes) j j d under (omega arith))

pub raw_all : (at j : ℕ) (bytes : List ℕ) → two_at at bytes ≤ j → drop j (raw_pairs at bytes) ≡ []
raw_all at j bytes over = drop_all j (raw_pairs at bytes) (omega (arith, length_raw at bytes))

pub told_more : (c at j : ℕ) (bytes : List ℕ) → j < two_at at bytes → drop j (pairs_at c at bytes) ≡ pair_told c (raw_pair at bytes j) ∷ drop (j + 1) (pairs_at c at bytes)
unfolding pairs_at
told_more c at j bytes under =
    let raw = raw_pairs at bytes in
    drop-map (pair_told c) j raw ∙ ap (map (pair_told c)) (raw_more at j bytes under) ∙ ap (λ l. pair_told c (raw_pair at bytes j) ∷ l) (sym (drop-map (pair_told c) (j + 1) raw))

pub told_all : (c at j : ℕ) (bytes : List ℕ) → two_at at bytes ≤ j → drop j (pairs_at c at bytes) ≡ []
unfolding pairs_at
told_all c at j bytes over = drop_all j (map (pair_told c) (raw_pairs at bytes)) (omega (arith, length_raw at bytes, length-map (raw_pairs at bytes) (pair_told c)))

-- ---- the test

-- What the pairs from j on are tested for.
abbrev pub tests_from : (c n at low j : ℕ) → List ℕ → Bool
tests_from c n at low j bytes = rise (is_young_age c) low n (drop j (raw_pairs at bytes))

pub tests_start : (c n at : ℕ) (bytes : List ℕ) → is_listing c n at bytes ≡ tests_from c n at 0 0 bytes
unfolding is_listing
tests_start c n at bytes = refl

tests_more : (c n at low j item age : ℕ) (bytes : List ℕ) → j < two_at at bytes → item ≡ two_at (at + 2 + 3 * j) bytes → age ≡ slice_index bytes (at + 4 + 3 * j)
    → tests_from c n at low j bytes ≡ (nat_le low item && nat_lt item n && is_young_age c age && tests_from c n at (item + 1) (j + 1) bytes)
unfolding rise
tests_more c n at low j item age bytes under read aged =
    ap (rise (is_young_age c) low n) (raw_more at j bytes under)
    ∙ ap (λ i. nat_le low i && nat_lt i n && is_young_age c (slice_index bytes (at + 4 + 3 * j)) && tests_from c n at (i + 1) (j + 1) bytes) (sym read)
    ∙ ap (λ a. nat_le low item && nat_lt item n && is_young_age c a && tests_from c n at (item + 1) (j + 1) bytes) (sym aged)

pub tests_fail : (c n at low j item age : ℕ) (bytes : List ℕ) (t : Bool) → j < two_at at bytes → item ≡ two_at (at + 2 + 3 * j) bytes → age ≡ slice_index bytes (at + 4 + 3 * j)
    → t ≡ (nat_le low item && nat_lt item n && is_young_age c age) → t ≡ false → is_listing c n at bytes ≡ tests_from c n at low j bytes → false ≡ is_listing c n at bytes
tests_fail c n at low j item age bytes t under read aged tested fails so_far =
    sym (so_far ∙ tests_more c n at low j item age bytes under read aged ∙ ap (λ b. b && tests_from c n at (item + 1) (j + 1) bytes) (sym tested ∙ fails))

pub tests_pass : (c n at low j item age : ℕ) (bytes : List ℕ) (t : Bool) → j < two_at at bytes → item ≡ two_at (at + 2 + 3 * j) bytes → age ≡ slice_index bytes (at + 4 + 3 * j)
    → t ≡ (nat_le low item && nat_lt item n && is_young_age c age) → t ≡ true → is_listing c n at bytes ≡ tests_from c n at low j bytes → is_listing c n at bytes ≡ tests_from c n at (item + 1) (j + 1) bytes
tests_pass c n at low j item age bytes t under read aged tested holds so_far =
    so_far ∙ tests_more c n at low j item age bytes under read aged ∙ ap (λ b. b && tests_from c n at (item + 1) (j + 1) bytes) (sym tested ∙ holds)

pub tests_end : (c n at low j : ℕ) (bytes : List ℕ) → two_at at bytes ≤ j → is_listing c n at bytes ≡ tests_from c n at low j bytes → true ≡ is_listing c n at bytes
unfolding rise
tests_end c n at low j bytes over so_far = sym (so_far ∙ ap (rise (is_young_age c) low n) (raw_all at j bytes over))

-- ---- the look-up

pub found : (c at j item first e : ℕ) (bytes : List ℕ) → j < two_at at bytes → first ≡ two_at (at + 2 + 3 * j) bytes → first ≡ item → e ≡ c - slice_index bytes (at + 4 + 3 * j)
    → listed_entry item (pairs_at c at bytes) ≡ listed_entry item (drop j (pairs_at c at bytes)) → e ≡ listed_entry item (pairs_at c at bytes)
found c at j item first e bytes under read same told so_far =
    told ∙ sym (so_far ∙ ap (listed_entry item) (told_more c at j bytes under) ∙ entry_here item (pair_told c (raw_pair at bytes j)) (drop (j + 1) (pairs_at c at bytes)) (sym read ∙ same))

pub passed : (c at j item first : ℕ) (bytes : List ℕ) → j < two_at at bytes → first ≡ two_at (at + 2 + 3 * j) bytes → (first ≡ item → ⊥)
    → listed_entry item (pairs_at c at bytes) ≡ listed_entry item (drop j (pairs_at c at bytes)) → listed_entry item (pairs_at c at bytes) ≡ listed_entry item (drop (j + 1) (pairs_at c at bytes))
passed c at j item first bytes under read other so_far =
    so_far ∙ ap (listed_entry item) (told_more c at j bytes under) ∙ entry_after item (pair_told c (raw_pair at bytes j)) (drop (j + 1) (pairs_at c at bytes)) (λ same. other (read ∙ same))

pub not_found : (c at j item : ℕ) (bytes : List ℕ) → two_at at bytes ≤ j → listed_entry item (pairs_at c at bytes) ≡ listed_entry item (drop j (pairs_at c at bytes)) → 0 ≡ listed_entry item (pairs_at c at bytes)
not_found c at j item bytes over so_far = sym (so_far ∙ ap (listed_entry item) (told_all c at j bytes over) ∙ entry_none item)

-- ---- the entries that are filled in

-- Each pair's entry is put at its item.
pub put_all : List (ℕ × ℕ) → List ℕ → List ℕ
put_all [] out = out
put_all (p ∷ pairs) out = put_all pairs (set out p.0 p.1)

length_put : (pairs : List (ℕ × ℕ)) (out : List ℕ) → length (put_all pairs out) ≡ length out
unfolding put_all
length_put [] out = refl
length_put (p ∷ pairs) out = length_put pairs (set out p.0 p.1) ∙ length-set out p.0 p.1

-- An item below all of them keeps its entry.
put_before : (test : ℕ → Bool) (i low n : ℕ) (pairs : List (ℕ × ℕ)) (out : List ℕ) → i < low → rise test low n pairs ≡ true → get_or (put_all pairs out) i 0 ≡ get_or out i 0
unfolding put_all
put_before test i low n [] out less t = refl
put_before test i low n (p ∷ pairs) out less t =
    let r = rise_parts test low n p pairs t in
    let from = r.from in
    let other : i ≢ p.0 = λ same. let is = same in omega arith in
    put_before test i (p.0 + 1) n pairs (set out p.0 p.1) (omega arith) r.rest ∙ get_or-set_other out p.0 i p.1 0 other

-- An entry that was 0 is the one that is listed.
put_is : (test : ℕ → Bool) (i low n : ℕ) (pairs : List (ℕ × ℕ)) (out : List ℕ) → length out ≡ n → get_or out i 0 ≡ 0 → rise test low n pairs ≡ true → get_or (put_all pairs out) i 0 ≡ listed_entry i pairs
unfolding put_all
put_is test i low n [] out long none t = none ∙ sym (entry_none i)
put_is test i low n (p ∷ pairs) out long none t =
    let r = rise_parts test low n p pairs t in
    by (p.0 == i) refl r (λ still. put_is test i (p.0 + 1) n pairs (set out p.0 p.1) (length-set out p.0 p.1 ∙ long) still r.rest)
  where
    by : (b : Bool) → (p.0 == i) ≡ b → Rises test low n p pairs → (get_or (set out p.0 p.1) i 0 ≡ 0 → get_or (put_all pairs (set out p.0 p.1)) i 0 ≡ listed_entry i pairs)
        → get_or (put_all pairs (set out p.0 p.1)) i 0 ≡ listed_entry i (p ∷ pairs)
    by true same r rest =
        let is = eqb-true p.0 i same in
        let below = r.below in
        put_before test i (p.0 + 1) n pairs (set out p.0 p.1) (omega arith) r.rest
        ∙ ap (λ k. get_or (set out p.0 p.1) k 0) (sym is) ∙ get_or-set_same out p.0 p.1 0 (omega arith) ∙ sym (entry_here i p pairs is)
    by false other r rest =
        let apart = eqb-false p.0 i other in
        let away : i ≢ p.0 = λ same. apart (sym same) in
        rest (get_or-set_other out p.0 i p.1 0 away ∙ none) ∙ sym (entry_after i p pairs apart)

put_all_is : (test : ℕ → Bool) (n : ℕ) (pairs : List (ℕ × ℕ)) → rise test 0 n pairs ≡ true → put_all pairs (replicate n 0) ≡ unlisted n pairs
put_all_is test n pairs t =
    let zeros : List ℕ = replicate n 0 in
    let long : length zeros ≡ n = length-replicate n 0 in
    let size : length (put_all pairs zeros) ≡ n = length_put pairs zeros ∙ long in
    let wide : length (unlisted n pairs) ≡ n = length_unlisted n pairs in
    same_number_lists (put_all pairs zeros) (unlisted n pairs) (size ∙ sym wide)
    (λ k below.
    let under : k < n = omega arith in
    put_is test k 0 n pairs zeros long (get_or-replicate n k 0 0 under) t ∙ sym (entry_unlisted n k pairs under))

listed_below : (test : ℕ → Bool) (low n j : ℕ) (pairs rest : List (ℕ × ℕ)) (p : ℕ × ℕ) → rise test low n pairs ≡ true → drop j pairs ≡ p ∷ rest → p.0 < n
listed_below test low n j [] rest p t is = none j is
  where
    none : (j : ℕ) → ◌≡◌ {A = List (ℕ × ℕ)} (drop j []) (p ∷ rest) → p.0 < n
    none zero is = cc
    none (suc j) is = cc
listed_below test low n zero (q ∷ pairs) rest p t is =
    let r = rise_parts test low n q pairs t in
    let same : q ≡ p = cc in
    subst (λ x. x.0 < n) same r.below
listed_below test low n (suc j) (q ∷ pairs) rest p t is = let r = rise_parts test low n q pairs t in listed_below test (q.0 + 1) n j pairs rest p r.rest is

-- The item of each pair is below n.
pub item_below : (c n at j : ℕ) (bytes : List ℕ) → is_listing c n at bytes ≡ true → j < two_at at bytes → two_at (at + 2 + 3 * j) bytes < n
unfolding is_listing
item_below c n at j bytes t under = listed_below (is_young_age c) 0 n j (raw_pairs at bytes) (drop (j + 1) (raw_pairs at bytes)) (raw_pair at bytes j) t (raw_more at j bytes under)

pub fill_start : (c n at : ℕ) (bytes : List ℕ) → is_listing c n at bytes ≡ true → put_all (drop 0 (pairs_at c at bytes)) (replicate n 0) ≡ short_entries c n at bytes
unfolding is_listing pairs_at
fill_start c n at bytes t = put_all_is (λ e. is_young_age c (c - e)) n (pairs_at c at bytes) (told_rise c 0 n (raw_pairs at bytes) t)

pub fill_more : (c at j item e : ℕ) (bytes out filled : List ℕ) → j < two_at at bytes → item ≡ two_at (at + 2 + 3 * j) bytes → e ≡ c - slice_index bytes (at + 4 + 3 * j)
    → put_all (drop j (pairs_at c at bytes)) out ≡ filled → put_all (drop (j + 1) (pairs_at c at bytes)) (set out item e) ≡ filled
unfolding put_all
fill_more c at j item e bytes out filled under read told so_far =
    let rest = drop (j + 1) (pairs_at c at bytes) in
    ap (λ i. put_all rest (set out i e)) read ∙ ap (λ x. put_all rest (set out (two_at (at + 2 + 3 * j) bytes) x)) told
    ∙ sym (ap (λ l. put_all l out) (told_more c at j bytes under)) ∙ so_far

pub fill_end : (c at j : ℕ) (bytes out filled : List ℕ) → two_at at bytes ≤ j → put_all (drop j (pairs_at c at bytes)) out ≡ filled → out ≡ filled
unfolding put_all
fill_end c at j bytes out filled over so_far = sym (ap (λ l. put_all l out) (told_all c at j bytes over)) ∙ so_far

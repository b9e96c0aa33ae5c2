-- Writes of a short column: each comes after what was written before it, and each listed entry adds one pair.
-- `put_next` is the one step of all of them; the loops use the lemmas of the last part.
use Rattle.std.proofs.Common.{◌≡◌, ◌<◌, ◌≤◌, ◌+◌, ◌-◌, ◌*◌, ◌++◌, ◌&&◌, cond, ℕ, Bool, true, false, List, [], ◌∷◌, length, map, take, drop, set, get_or, nat_lt, refl, sym, ◌∙◌, ap, subst, arith, append_assoc}
use Rattle.std.specs.List.{flat_map}
use Rattle.std.proofs.lemmas.Bool.{ltb-false, ltb-true}
use Rattle.std.proofs.lemmas.List.{append-nil, drop-drop, drop-set, drop_all, drop_at, flat_map_more, length-append, length-drop, length-map, length-take, map_more, take-append-drop, take-map, take-set, take_all, take_at}
use Rattle.std.proofs.lemmas.Slice.{put_mid-paste}
use borrow.Rule.Slice.PartMut.{put_mid}
use Rattle.byteorder.specs.Endian.{big_bytes}
use Rattle.air_base.specs.declared.limits.TheConstants.{AGE_CAP}
use Rattle.air_history.specs.Ages.{capped}
use Rattle.short_columns.specs.Listings.{all_capped, listed}
use Rattle.short_columns.specs.ShortColumns.{pair_spelling, short_spelling}
use Rattle.short_columns.proofs.ByteLemmas.{length_pairs}
use Rattle.short_columns.proofs.ListingLemmas.{front_few, listed_append, listed_few, listed_from, listed_is, listed_none, listed_some}

-- ---- one write after another

-- Bytes written through the rest of a slice.
pub written_at : (out bytes : List ℕ) (at k : ℕ) → at + k ≤ length out → length bytes ≡ k
    → put_mid at (length out - at) out (bytes ++ drop k (take (length out - at) (drop at out))) ≡ take at out ++ (bytes ++ drop (at + k) out)
written_at out bytes at k room long =
    let n = length out - at in
    let part : take n (drop at out) ≡ drop at out = take_all n (drop at out) (omega (arith, length-drop at out)) in
    let new = bytes ++ drop k (drop at out) in
    let size : length new ≡ n = omega (arith, length-append bytes (drop k (drop at out)), length-drop k (drop at out), length-drop at out) in
    ap (λ l. put_mid at n out (bytes ++ drop k l)) part
    ∙ put_mid-paste at n out new new n refl refl (sym size)
    ∙ ap (λ l. take at out ++ l ++ drop (at + n) out) (take_all n new (omega arith))
    ∙ ap (λ l. take at out ++ new ++ l) (drop_all (at + n) out (omega arith))
    ∙ append-nil (take at out ++ new)
    ∙ ap (λ l. take at out ++ (bytes ++ l)) (drop-drop k at out)

-- One more write after what was written.
pub put_next : (old out new p bytes : List ℕ) (at n : ℕ) → length p ≡ at → length bytes ≡ n → out ≡ p ++ drop at old
    → new ≡ take at out ++ (bytes ++ drop (at + n) out) → new ≡ (p ++ bytes) ++ drop (at + n) old
put_next old out new p bytes at n size long told wrote =
    let front : take at out ≡ p = ap (take at) told ∙ take_at p (drop at old) at size in
    let back : drop (at + n) out ≡ drop (at + n) old = sym (drop-drop n at out) ∙ ap (drop n) (ap (drop at) told ∙ drop_at p (drop at old) at size) ∙ drop-drop n at old in
    wrote ∙ (rw (front, back) (sym (append_assoc p bytes (drop (at + n) old))))

-- A byte stored is a write of one byte.
stored : (out : List ℕ) (at x : ℕ) → at < length out → set out at x ≡ take at out ++ (x ∷ [] ++ drop (at + 1) out)
stored out at x under = sym (take-append-drop at (set out at x)) ∙ (rw (take-set out at x, drop-set out at x under) refl)

-- An item, and its age after it.
pub pair_put : (old out : List ℕ) (at item age : ℕ) → at + 3 ≤ length old → length out ≡ length old → out ≡ take at old ++ (big_bytes 2 item ++ drop (at + 2) old)
    → set out (at + 2) age ≡ take at old ++ ((big_bytes 2 item ++ age ∷ []) ++ drop (at + 3) old)
pair_put old out at item age room same wrote =
    let front = take at old in
    let two = big_bytes 2 item in
    let end : at + 2 + 1 ≡ at + 3 = omega arith in
    put_next old out (set out (at + 2) age) (front ++ two) (age ∷ []) (at + 2) 1 (omega (arith, length-append front two, length-take at old)) refl
    (wrote ∙ sym (append_assoc front two (drop (at + 2) old))) (stored out (at + 2) age (omega arith))
    ∙ ap (λ l. l ++ drop (at + 2 + 1) old) (append_assoc front two (age ∷ [])) ∙ append_assoc front (two ++ age ∷ []) (drop (at + 2 + 1) old)
    ∙ ap (λ k. front ++ ((two ++ age ∷ []) ++ drop k old)) end

-- The number of pairs, and the pairs after it.
pub short_put : (old out new : List ℕ) (c at k : ℕ) (pairs : List (ℕ × ℕ)) → k ≡ length pairs → at + 2 + 3 * k ≤ length old
    → out ≡ take at old ++ (big_bytes 2 k ++ drop (at + 2) old)
    → new ≡ take (at + 2) out ++ (flat_map (pair_spelling c) pairs ++ drop (at + 2 + 3 * length pairs) out)
    → new ≡ take at old ++ (short_spelling c pairs ++ drop (at + 2 + 3 * k) old)
unfolding short_spelling
short_put old out new c at k pairs counted room wrote next =
    let front = take at old in
    let two = big_bytes 2 k in
    let body = flat_map (pair_spelling c) pairs in
    let end : at + 2 + 3 * length pairs ≡ at + 2 + 3 * k = omega arith in
    put_next old out new (front ++ two) body (at + 2) (3 * length pairs) (omega (arith, length-append front two, length-take at old)) (length_pairs c pairs)
    (wrote ∙ sym (append_assoc front two (drop (at + 2) old))) next
    ∙ ap (λ l. l ++ drop (at + 2 + 3 * length pairs) old) (append_assoc front two body) ∙ append_assoc front (two ++ body) (drop (at + 2 + 3 * length pairs) old)
    ∙ ap (λ e. front ++ ((two ++ body) ++ drop e old)) end
    ∙ ap (λ n. front ++ ((big_bytes 2 n ++ body) ++ drop (at + 2 + 3 * k) old)) counted

-- ---- which entries are listed

pub listed_test : (c e age : ℕ) → age ≡ c - e → (nat_lt 0 e && nat_lt age AGE_CAP) ≡ nat_lt 0 (capped e c)
unfolding capped
listed_test c e age is = ap (λ a. nat_lt 0 e && nat_lt a AGE_CAP) is ∙ by (nat_lt (c - e) AGE_CAP)
  where
    by : (b : Bool) → (nat_lt 0 e && b) ≡ nat_lt 0 (cond b e 0)
    by true = both (nat_lt 0 e)
      where
        both : (b : Bool) → (b && true) ≡ b
        both true = refl
        both false = refl
    by false = neither (nat_lt 0 e)
      where
        neither : (b : Bool) → (b && false) ≡ false
        neither true = refl
        neither false = refl

-- A listed entry is itself, and an age gives it.
pub record IsListed (c e : ℕ) : Type 0 where
  pub same : capped e c ≡ e
  pub young : c - e < AGE_CAP

pub listed_parts : (c e : ℕ) → nat_lt 0 (capped e c) ≡ true → IsListed c e
unfolding capped
listed_parts c e some = by (nat_lt (c - e) AGE_CAP) refl some
  where
    by : (b : Bool) → nat_lt (c - e) AGE_CAP ≡ b → nat_lt 0 (cond b e 0) ≡ true → IsListed c e
    by true young some = record { same = ap (λ b. cond b e 0) young; young = ltb-true (c - e) AGE_CAP young }
    by false old some = absurd (let none = ltb-true 0 0 some in omega arith)

-- ---- one more entry

-- The pairs of the first i entries.
abbrev pub pairs_before : ℕ → ℕ → List ℕ → List (ℕ × ℕ)
pairs_before c i es = listed (all_capped c (take i es))

pairs_more : (c i : ℕ) (es : List ℕ) → i < length es → pairs_before c (i + 1) es ≡ pairs_before c i es ++ listed_from i (capped (get_or es i 0) c ∷ [])
pairs_more c i es under =
    let cap : ℕ → ℕ = λ e. capped e c in
    let front = map cap (take i es) in
    let this = cap (get_or es i 0) ∷ [] in
    let long : 0 + length front ≡ i = omega (arith, length-map (take i es) cap, length-take i es) in
    listed_is (map cap (take (i + 1) es)) ∙ ap (listed_from 0) (map_more cap es i 0 under) ∙ listed_append 0 front this
    ∙ ap (λ k. listed_from 0 front ++ listed_from k this) long ∙ ap (λ l. l ++ listed_from i this) (sym (listed_is front))

pub pairs_more_some : (c i : ℕ) (es : List ℕ) → i < length es → nat_lt 0 (capped (get_or es i 0) c) ≡ true → pairs_before c (i + 1) es ≡ pairs_before c i es ++ (i, get_or es i 0) ∷ []
pairs_more_some c i es under some =
    let e = get_or es i 0 in
    let parts = listed_parts c e some in
    pairs_more c i es under ∙ ap (λ l. pairs_before c i es ++ l) (listed_some i (capped e c) [] (ltb-true 0 (capped e c) some) ∙ ap (λ x. (i, x) ∷ []) parts.same)

pub pairs_more_none : (c i : ℕ) (es : List ℕ) → i < length es → nat_lt 0 (capped (get_or es i 0) c) ≡ false → pairs_before c (i + 1) es ≡ pairs_before c i es
pairs_more_none c i es under none =
    let e = get_or es i 0 in
    let most = ltb-false 0 (capped e c) none in
    pairs_more c i es under ∙ ap (λ l. pairs_before c i es ++ l) (listed_none i (capped e c) [] (omega arith)) ∙ append-nil (pairs_before c i es)

-- At most each of them has one.
pub pairs_short : (c i : ℕ) (es : List ℕ) → length (pairs_before c i es) ≤ i
pairs_short c i es =
    let cap : ℕ → ℕ = λ e. capped e c in
    let few = listed_few 0 (map cap (take i es)) in
    let is = ap length (listed_is (map cap (take i es))) in
    omega (arith, length-map (take i es) cap, length-take i es)

-- The count of pairs after one more entry.
pub count_more : (c i count next : ℕ) (es : List ℕ) → i < length es → nat_lt 0 (capped (get_or es i 0) c) ≡ true → count ≡ length (pairs_before c i es) → next ≡ count + 1 → next ≡ length (pairs_before c (i + 1) es)
count_more c i count next es under some counted is =
    let more = ap length (pairs_more_some c i es under some) in
    omega (arith, length-append (pairs_before c i es) ((i, get_or es i 0) ∷ []))

pub pairs_all : (c i : ℕ) (es : List ℕ) → length es ≤ i → pairs_before c i es ≡ listed (all_capped c es)
pairs_all c i es over = ap (λ l. listed (all_capped c l)) (take_all i es over)

pub pairs_none : (c : ℕ) (es : List ℕ) → pairs_before c 0 es ≡ []
pairs_none c es = listed_is []

pub pairs_few : (c i : ℕ) (es : List ℕ) → length (pairs_before c i es) ≤ length (listed (all_capped c es))
pairs_few c i es =
    let cap : ℕ → ℕ = λ e. capped e c in
    let few = front_few i (map cap es) in
    let front : length (pairs_before c i es) ≡ length (listed_from 0 (take i (map cap es))) = ap length (listed_is (map cap (take i es)) ∙ ap (listed_from 0) (sym (take-map cap i es))) in
    let whole = ap length (listed_is (map cap es)) in
    omega arith

-- ---- the pairs that are written

-- What is written after i entries: what was before the place, their pairs, and the old bytes after these.
abbrev pub Written : (c at i : ℕ) → (old out es : List ℕ) → ℕ → Type 0
Written c at i old out es next =
    (next ≡ at + 3 * length (pairs_before c i es)) × (out ≡ (take at old ++ flat_map (pair_spelling c) (pairs_before c i es)) ++ drop next old)

pub written_none : (c at : ℕ) (old es : List ℕ) → Written c at 0 old old es at
written_none c at old es =
    let none = ap length (pairs_none c es) in (
      omega arith,
      sym (ap (λ l. (take at old ++ flat_map (pair_spelling c) l) ++ drop at old) (pairs_none c es) ∙ ap (λ l. l ++ drop at old) (append-nil (take at old)) ∙ take-append-drop at old),
    )

-- There is room for one more pair.
pub room_more : (c at i next : ℕ) (old out es : List ℕ) → Written c at i old out es next → at + 3 * length (listed (all_capped c es)) ≤ length old → i < length es
    → nat_lt 0 (capped (get_or es i 0) c) ≡ true → next + 3 ≤ length old
room_more c at i next old out es is room under some =
    let placed = is.0 in
    let more = ap length (pairs_more_some c i es under some) in
    let few = pairs_few c (i + 1) es in
    omega (arith, length-append (pairs_before c i es) ((i, get_or es i 0) ∷ []))

pub written_more : (c at i next age : ℕ) (old out new es : List ℕ) → Written c at i old out es next → at ≤ length old → i < length es → nat_lt 0 (capped (get_or es i 0) c) ≡ true
    → age ≡ c - get_or es i 0 → new ≡ take next out ++ ((big_bytes 2 i ++ age ∷ []) ++ drop (next + 3) out) → Written c at (i + 1) old new es (next + 3)
written_more c at i next age old out new es is room under some told wrote =
    let placed = is.0 in
    let pairs = pairs_before c i es in
    let pair : ℕ × ℕ = (i, get_or es i 0) in
    let more = pairs_more_some c i es under some in
    let counted = ap length more in
    let body = flat_map (pair_spelling c) pairs in
    let size : length (take at old ++ body) ≡ next = omega (arith, length-append (take at old) body, length-take at old, length_pairs c pairs) in (
      omega (arith, length-append pairs (pair ∷ [])),
      put_next old out new (take at old ++ body) (pair_spelling c pair) next 3 size refl is.1 (wrote ∙ ap (λ a. take next out ++ ((big_bytes 2 i ++ a ∷ []) ++ drop (next + 3) out)) told)
          ∙ ap (λ l. l ++ drop (next + 3) old) (flat_map_more (pair_spelling c) (take at old) pairs pair ∙ ap (λ l. take at old ++ flat_map (pair_spelling c) l) (sym more)),
    )

-- The same bytes and the same place under other names.
pub written_as : (c at i next last : ℕ) (old out new es : List ℕ) → Written c at i old out es next → new ≡ out → last ≡ next → Written c at i old new es last
written_as c at i next last old out new es is same there = (there ∙ is.0, same ∙ is.1 ∙ ap (λ k. (take at old ++ flat_map (pair_spelling c) (pairs_before c i es)) ++ drop k old) (sym there))

-- An entry that isn't listed changes nothing.
pub written_same : (c at i next : ℕ) (old out es : List ℕ) → Written c at i old out es next → i < length es → nat_lt 0 (capped (get_or es i 0) c) ≡ false → Written c at (i + 1) old out es next
written_same c at i next old out es is under none =
    subst (λ pairs. (next ≡ at + 3 * length pairs) × (out ≡ (take at old ++ flat_map (pair_spelling c) pairs) ++ drop next old)) (sym (pairs_more_none c i es under none)) is

pub written_all : (c at i next : ℕ) (old out es : List ℕ) → Written c at i old out es next → length es ≤ i
    → out ≡ take at old ++ (flat_map (pair_spelling c) (listed (all_capped c es)) ++ drop (at + 3 * length (listed (all_capped c es))) old)
written_all c at i next old out es is over =
    let pairs = pairs_before c i es in
    let body = flat_map (pair_spelling c) pairs in
    is.1 ∙ ap (λ k. (take at old ++ body) ++ drop k old) is.0 ∙ append_assoc (take at old) body (drop (at + 3 * length pairs) old)
    ∙ ap (λ l. take at old ++ (flat_map (pair_spelling c) l ++ drop (at + 3 * length l) old)) (pairs_all c i es over)

-- Writes from the front to the back: each comes after what was written before it.
-- `put_next` is the one step; the entries and the head are chains of it.
use Rattle.std.proofs.Common.{◌≡◌, ◌≤◌, ◌<◌, ◌+◌, ◌-◌, ◌*◌, ◌++◌, ℕ, List, [], ◌∷◌, length, take, drop, set, get_or, refl, sym, ◌∙◌, ap, arith, append_assoc, length-append}
use Rattle.std.specs.List.{flat_map}
use Rattle.std.proofs.lemmas.List.{append-nil, drop-drop, drop-set, drop_all, drop_at, flat_map_more, length-drop, take_all, take-append-drop, take_at, take_more, take-set, length-take}
use Rattle.byteorder.specs.Endian.{big_bytes}
use Rattle.std.proofs.lemmas.Slice.{put_mid-paste}
use borrow.Rule.Slice.PartMut.{put_mid}
use Rattle.bucket_codec.specs.Private.Heads.{aged_bytes}

-- Bytes written through the rest of a slice.
pub written_at : (out bytes : List ℕ) (at k : ℕ) → at + k ≤ length out → length bytes ≡ k
    → put_mid at (length out - at) out (bytes ++ drop k (take (length out - at) (drop at out))) ≡ take at out ++ (bytes ++ drop (at + k) out)
written_at out bytes at k room long =
    let n = length out - at in
    let part : take n (drop at out) ≡ drop at out = take_all n (drop at out) (omega (arith, length-drop at out)) in
    let new = bytes ++ drop k (drop at out) in
    let size : length new ≡ n = omega (arith, length-append bytes (drop k (drop at out)), length-drop k (drop at out), length-drop at out) in
    ap (λ l. put_mid at n out (bytes ++ drop k l)) part
    ∙ put_mid-paste at n out new new n refl refl (sym size)
    ∙ ap (λ l. take at out ++ l ++ drop (at + n) out) (take_all n new (omega arith))
    ∙ ap (λ l. take at out ++ new ++ l) (drop_all (at + n) out (omega arith))
    ∙ append-nil (take at out ++ new)
    ∙ ap (λ l. take at out ++ (bytes ++ l)) (drop-drop k at out)

-- One more write after what was written.
pub put_next : (old out new p bytes : List ℕ) (at n : ℕ) → length p ≡ at → length bytes ≡ n → out ≡ p ++ drop at old
    → new ≡ take at out ++ (bytes ++ drop (at + n) out) → new ≡ (p ++ bytes) ++ drop (at + n) old
put_next old out new p bytes at n size long told wrote =
    let front : take at out ≡ p = ap (take at) told ∙ take_at p (drop at old) at size in
    let back : drop (at + n) out ≡ drop (at + n) old = sym (drop-drop n at out) ∙ ap (drop n) (ap (drop at) told ∙ drop_at p (drop at old) at size) ∙ drop-drop n at old in
    wrote ∙ (rw (front, back) (sym (append_assoc p bytes (drop (at + n) old))))

-- The first four bytes, set one by one.
pub four_set : (out : List ℕ) (a b c d : ℕ) → 4 ≤ length out → set (set (set (set out 0 a) 1 b) 2 c) 3 d ≡ (a ∷ b ∷ c ∷ d ∷ []) ++ drop 4 out
four_set [] a b c d h = absurd (omega arith)
four_set (x ∷ []) a b c d h = absurd (omega arith)
four_set (x ∷ y ∷ []) a b c d h = absurd (omega arith)
four_set (x ∷ y ∷ z ∷ []) a b c d h = absurd (omega arith)
four_set (x ∷ y ∷ z ∷ w ∷ out) a b c d h = refl

pub length_numbers : (es : List ℕ) → length (flat_map (big_bytes 4) es) ≡ 4 * length es
length_numbers [] = refl
length_numbers (e ∷ es) = omega (arith, length_numbers es)

pub length_ages : (c : ℕ) (es : List ℕ) → length (flat_map (aged_bytes c) es) ≡ length es
length_ages c [] = refl
length_ages c (e ∷ es) = omega (arith, length_ages c es)

-- A byte stored is a write of one byte.
pub stored : (out : List ℕ) (at x : ℕ) → at < length out → set out at x ≡ take at out ++ (x ∷ [] ++ drop (at + 1) out)
stored out at x under = sym (take-append-drop at (set out at x)) ∙ (rw (take-set out at x, drop-set out at x under) refl)

-- One more entry: what is written so far ends at a place, and the bytes of one more are put there.
pub entries_next : (f : ℕ → List ℕ) (old out new es : List ℕ) (i at k next : ℕ) → length (take 24 old ++ flat_map f (take i es)) ≡ at → length (f (get_or es i 0)) ≡ k → at + k ≡ next
    → i < length es → out ≡ (take 24 old ++ flat_map f (take i es)) ++ drop at old → new ≡ take at out ++ (f (get_or es i 0) ++ drop (at + k) out)
    → new ≡ (take 24 old ++ flat_map f (take (i + 1) es)) ++ drop next old
entries_next f old out new es i at k next size long there below told wrote =
    let p = take 24 old ++ flat_map f (take i es) in
    put_next old out new p (f (get_or es i 0)) at k size long told wrote
    ∙ ap (λ n. (p ++ f (get_or es i 0)) ++ drop n old) there
    ∙ ap (λ l. l ++ drop next old) (flat_map_more f (take 24 old) (take i es) (get_or es i 0) ∙ ap (λ l. take 24 old ++ flat_map f l) (sym (take_more es i 0 below)))

pub entries_end : (f : ℕ → List ℕ) (old out es : List ℕ) (i at end : ℕ) → length es ≤ i → at ≡ end → out ≡ (take 24 old ++ flat_map f (take i es)) ++ drop at old
    → out ≡ take 24 old ++ (flat_map f es ++ drop end old)
entries_end f old out es i at end over there told =
    told ∙ ap (λ n. (take 24 old ++ flat_map f (take i es)) ++ drop n old) there
    ∙ ap (λ l. (take 24 old ++ flat_map f l) ++ drop end old) (take_all i es over)
    ∙ append_assoc (take 24 old) (flat_map f es) (drop end old)

pub entries_start : (old : List ℕ) → old ≡ (take 24 old ++ []) ++ drop 24 old
entries_start old = sym (ap (λ l. l ++ drop 24 old) (append-nil (take 24 old)) ∙ take-append-drop 24 old)

-- Entries in full end at a place, and so do as many ages.
pub place_in_full : (old es : List ℕ) (i : ℕ) → i ≤ length es → 24 ≤ length old → length (take 24 old ++ flat_map (big_bytes 4) (take i es)) ≡ 24 + 4 * i
place_in_full old es i few long = omega (arith, length-append (take 24 old) (flat_map (big_bytes 4) (take i es)), length-take 24 old, length_numbers (take i es), length-take i es)

pub place_by_ages : (c : ℕ) (old es : List ℕ) (i : ℕ) → i ≤ length es → 24 ≤ length old → length (take 24 old ++ flat_map (aged_bytes c) (take i es)) ≡ 24 + i
place_by_ages c old es i few long = omega (arith, length-append (take 24 old) (flat_map (aged_bytes c) (take i es)), length-take 24 old, length_ages c (take i es), length-take i es)

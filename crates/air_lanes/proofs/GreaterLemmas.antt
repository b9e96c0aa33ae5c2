-- A block of eight with the greater of two lanes in each, stored into its list.
use Rattle.std.proofs.Common.{◌≡◌, ◌≤◌, ◌<◌, ◌+◌, ◌⊎◌, ℕ, List, Bool, false, length, max, get_or, cond, ap, ◌∙◌, inl, inr, ltb, arith}
use lib.Lanes.{chunk, put_chunk, sel_l, zip2}
use Rattle.std.proofs.lemmas.Simd.{length-zip2, length-sel_l, get_or-sel_l, get_or-zip2, length-chunk, get_or-chunk, get_or-put_chunk_at, get_or-put_chunk_above, get_or-put_chunk_below}

-- The greater of two lanes, as `simd_max` picks it.
pub pick_greater : List ℕ → List ℕ → List ℕ
pick_greater x y = sel_l (zip2 ltb x y) y x

max_by_test : (a b : ℕ) → cond (ltb a b) b a ≡ max a b
max_by_test a b = grind arith

pick_greater_len : (x y : List ℕ) → length x ≡ 8 → length y ≡ 8 → length (pick_greater x y) ≡ 8
unfolding pick_greater
pick_greater_len x y a b =
    let long = length-zip2 ltb x y (omega arith) in
    length-sel_l (zip2 ltb x y) y x (omega arith) (omega arith) ∙ omega arith

pick_greater_at : (x y : List ℕ) (k : ℕ) → length x ≡ 8 → length y ≡ 8 → k < 8 → get_or (pick_greater x y) k 0 ≡ max (get_or x k 0) (get_or y k 0)
unfolding pick_greater
pick_greater_at x y k a b below =
    let long = length-zip2 ltb x y (omega arith) in
    get_or-sel_l (zip2 ltb x y) y x k 0 (omega arith) (omega arith) (omega arith)
    ∙ ap (λ t. cond t (get_or y k 0) (get_or x k 0)) (get_or-zip2 ltb x y k 0 0 false (omega arith) (omega arith))
    ∙ max_by_test (get_or x k 0) (get_or y k 0)

-- The list with the block stored, inside and outside of the block.
pub stored_inside : (dst src : List ℕ) (at k : ℕ) → at + 8 ≤ length dst → length src ≡ length dst → k < 8
    → get_or (put_chunk at dst (pick_greater (chunk at 8 dst) (chunk at 8 src))) (at + k) 0 ≡ max (get_or dst (at + k) 0) (get_or src (at + k) 0)
stored_inside dst src at k room same below =
    let x = chunk at 8 dst in
    let y = chunk at 8 src in
    let a = length-chunk at 8 dst room in
    let b = length-chunk at 8 src (omega arith) in
    let n = pick_greater_len x y a b in
    get_or-put_chunk_at at dst (pick_greater x y) k 0 (omega arith) (omega arith)
    ∙ pick_greater_at x y k a b below
    ∙ ap (λ m. max m (get_or y k 0)) (get_or-chunk at 8 dst k 0 below)
    ∙ ap (λ m. max (get_or dst (at + k) 0) m) (get_or-chunk at 8 src k 0 below)

pub stored_outside : (dst src : List ℕ) (at k : ℕ) → at + 8 ≤ length dst → length src ≡ length dst → (k < at) ⊎ (at + 8 ≤ k)
    → get_or (put_chunk at dst (pick_greater (chunk at 8 dst) (chunk at 8 src))) k 0 ≡ get_or dst k 0
stored_outside dst src at k room same (inl below) = get_or-put_chunk_below at dst (pick_greater (chunk at 8 dst) (chunk at 8 src)) k 0 below
stored_outside dst src at k room same (inr above) =
    let n = pick_greater_len (chunk at 8 dst) (chunk at 8 src) (length-chunk at 8 dst room) (length-chunk at 8 src (omega arith)) in
    get_or-put_chunk_above at dst (pick_greater (chunk at 8 dst) (chunk at 8 src)) k 0 (omega arith)

-- That is what the comparison leaves.
pub stored_is : (dst src : List ℕ) (at : ℕ) (t : List Bool) → t ≡ zip2 ltb (chunk at 8 dst) (chunk at 8 src)
    → put_chunk at dst (sel_l t (chunk at 8 src) (chunk at 8 dst)) ≡ put_chunk at dst (pick_greater (chunk at 8 dst) (chunk at 8 src))
unfolding pick_greater
stored_is dst src at t e = ap (λ ms. put_chunk at dst (sel_l ms (chunk at 8 src) (chunk at 8 dst))) e

-- A block of eight with the cycle in each lane whose mark isn't 0, stored into its list.
use Rattle.std.proofs.Common.{◌≡◌, ◌≤◌, ◌<◌, ◌+◌, ◌⊎◌, ℕ, List, Bool, false, length, get_or, replicate, cond, ap, sym, ◌∙◌, inl, inr, eqb, arith}
use lib.Lanes.{chunk, put_chunk, sel_l, zip2}
use Rattle.std.proofs.lemmas.Simd.{length-zip2, length-sel_l, get_or-sel_l, get_or-zip2, length-chunk, get_or-chunk, get_or-put_chunk_at, get_or-put_chunk_above, get_or-put_chunk_below, get_or-replicate, length-replicate}

-- The lanes of a block with the cycle in each whose mark isn't 0.
pub stamped_lanes : ℕ → List ℕ → List ℕ → List ℕ
stamped_lanes cycle marks xs = sel_l (zip2 eqb marks (replicate 8 0)) xs (replicate 8 cycle)

stamped_len : (cycle : ℕ) (m x : List ℕ) → length m ≡ 8 → length x ≡ 8 → length (stamped_lanes cycle m x) ≡ 8
unfolding stamped_lanes
stamped_len cycle m x b a =
    let z = length-replicate {A = ℕ} 8 0 in
    let c = length-replicate {A = ℕ} 8 cycle in
    let long = length-zip2 eqb m (replicate 8 0) (b ∙ sym z) in
    length-sel_l (zip2 eqb m (replicate 8 0)) x (replicate 8 cycle) (omega arith) (omega arith) ∙ omega arith

lane_at : (cycle : ℕ) (m x : List ℕ) (k : ℕ) → length m ≡ 8 → length x ≡ 8 → k < 8 →
    get_or (stamped_lanes cycle m x) k 0 ≡ cond (eqb (get_or m k 0) 0) (get_or x k 0) cycle
unfolding stamped_lanes
lane_at cycle m x k b a below =
    let t = zip2 eqb m (replicate 8 0) in
    let z = length-replicate {A = ℕ} 8 0 in
    let c = length-replicate {A = ℕ} 8 cycle in
    let long = length-zip2 eqb m (replicate 8 0) (b ∙ sym z) in
    get_or-sel_l t x (replicate 8 cycle) k 0 (omega arith) (omega arith) (omega arith)
    ∙ ap (λ v. cond v (get_or x k 0) (get_or (replicate 8 cycle) k 0)) (get_or-zip2 eqb m (replicate 8 0) k 0 0 false (omega arith) (omega arith))
    ∙ ap (λ v. cond (eqb (get_or m k 0) v) (get_or x k 0) (get_or (replicate 8 cycle) k 0)) (get_or-replicate 8 k 0 0 below)
    ∙ ap (λ v. cond (eqb (get_or m k 0) 0) (get_or x k 0) v) (get_or-replicate 8 k cycle 0 below)

-- The list with the block stored, inside and outside of the block.
pub stored_inside : (dst marks : List ℕ) (at cycle k : ℕ) → at + 8 ≤ length dst → length marks ≡ length dst → k < 8
    → get_or (put_chunk at dst (stamped_lanes cycle (chunk at 8 marks) (chunk at 8 dst))) (at + k) 0 ≡ cond (eqb (get_or marks (at + k) 0) 0) (get_or dst (at + k) 0) cycle
stored_inside dst marks at cycle k room same below =
    let x = chunk at 8 dst in
    let m = chunk at 8 marks in
    let a = length-chunk at 8 dst room in
    let b = length-chunk at 8 marks (omega arith) in
    let n = stamped_len cycle m x b a in
    get_or-put_chunk_at at dst (stamped_lanes cycle m x) k 0 (omega arith) (omega arith)
    ∙ lane_at cycle m x k b a below
    ∙ ap (λ v. cond (eqb v 0) (get_or x k 0) cycle) (get_or-chunk at 8 marks k 0 below)
    ∙ ap (λ v. cond (eqb (get_or marks (at + k) 0) 0) v cycle) (get_or-chunk at 8 dst k 0 below)

pub stored_outside : (dst marks : List ℕ) (at cycle k : ℕ) → at + 8 ≤ length dst → length marks ≡ length dst → (k < at) ⊎ (at + 8 ≤ k)
    → get_or (put_chunk at dst (stamped_lanes cycle (chunk at 8 marks) (chunk at 8 dst))) k 0 ≡ get_or dst k 0
stored_outside dst marks at cycle k room same (inl below) = get_or-put_chunk_below at dst (stamped_lanes cycle (chunk at 8 marks) (chunk at 8 dst)) k 0 below
stored_outside dst marks at cycle k room same (inr above) =
    let n = stamped_len cycle (chunk at 8 marks) (chunk at 8 dst) (length-chunk at 8 marks (omega arith)) (length-chunk at 8 dst room) in
    get_or-put_chunk_above at dst (stamped_lanes cycle (chunk at 8 marks) (chunk at 8 dst)) k 0 (omega arith)

-- That is what the comparison with 0 leaves.
pub stored_is : (dst marks : List ℕ) (at cycle : ℕ) (t : List Bool) → t ≡ zip2 eqb (chunk at 8 marks) (replicate 8 0)
    → put_chunk at dst (sel_l t (chunk at 8 dst) (replicate 8 cycle)) ≡ put_chunk at dst (stamped_lanes cycle (chunk at 8 marks) (chunk at 8 dst))
unfolding stamped_lanes
stored_is dst marks at cycle t e = ap (λ ms. put_chunk at dst (sel_l ms (chunk at 8 dst) (replicate 8 cycle))) e

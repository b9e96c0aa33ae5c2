-- The first of eight lanes at which the column isn't below what is held, from the bits of their comparison.
use Rattle.std.proofs.Common.{◌≡◌, ◌≤◌, ◌<◌, ◌+◌, ◌-◌, ◌%◌, ◌^◌, ◌∙◌, ℕ, List, Bool, true, false, not, length, get_or, cond, ap, sym, refl, leb, eqb, map, w32, arith}
use lib.Lanes.{chunk, mask_l, top, zip2}
use mir.Val.{bits, hbits}
use lib.Count.{count_trailing_zeros}
use Rattle.std.specs.List.{prefix_len}
use Rattle.std.proofs.lemmas.Bool.{leb-true, leb-false}
use Rattle.std.proofs.lemmas.Simd.{length-chunk, get_or-chunk, length-zip2, get_or-zip2, first_set_mask_l, mask_l-mod, tops_compared}
use Rattle.std.proofs.lemmas.List.{map-id}
use Rattle.std.proofs.lemmas.List.Sums.{prefix_len-le-length, prefix_len_passes, prefix_len_stops}

lanes_first : (t : List Bool) → length t ≡ 8 → cond (eqb (mask_l t % 2 ^ 64) 0) 8 (count_trailing_zeros 64 (mask_l t % 2 ^ 64)) ≡ prefix_len (λ b. not b) t
lanes_first t long =
    ap (λ m. cond (eqb m 0) 8 (count_trailing_zeros 64 m)) (mask_l-mod t 64 (omega arith))
    ∙ ap (λ l. cond (eqb (mask_l l) 0) 8 (count_trailing_zeros 64 (mask_l l))) (sym (map-id t))
    ∙ first_set_mask_l (λ b. b) t 8 long (omega arith)

not_zero : (m : ℕ) → (m ≡ 0 → ⊥) → eqb m 0 ≡ false
not_zero m ne = grind arith

-- If no bit is set, no lane passes.
pub no_lane : (t : List Bool) → length t ≡ 8 → mask_l t % 2 ^ 64 ≡ 0 → 8 ≡ prefix_len (λ b. not b) t
no_lane t long none = ap (λ v. cond (eqb v 0) 8 (count_trailing_zeros 64 v)) (sym none) ∙ lanes_first t long

-- Otherwise the lowest bit is the first lane that passes.
pub some_lane : (t : List Bool) → length t ≡ 8 → (mask_l t % 2 ^ 64 ≡ 0 → ⊥) → count_trailing_zeros 64 (mask_l t % 2 ^ 64) ≡ prefix_len (λ b. not b) t
some_lane t long some =
    ap (λ v. cond v 8 (count_trailing_zeros 64 (mask_l t % 2 ^ 64))) (sym (not_zero (mask_l t % 2 ^ 64) some)) ∙ lanes_first t long

-- The bits of the comparison of the column's lanes with the held ones: each is the top bit of a lane of the result.
abbrev pub lane_bits : (column held : List ℕ) (at : ℕ) → ℕ
lane_bits column held at = mask_l (map (top (hbits w32)) (zip2 (λ a b. cond (leb a b) (2 ^ bits w32 - 1) 0) (chunk at 8 held) (chunk at 8 column))) % 2 ^ 64

-- The lowest of these bits, or that there is none.
module _ (column held : List ℕ) (at : ℕ) (room : at + 8 ≤ length column) (same : length held ≡ length column) where
  lanes_len : length (zip2 leb (chunk at 8 held) (chunk at 8 column)) ≡ 8
  lanes_len =
      let a = length-chunk at 8 column room in
      let b = length-chunk at 8 held (omega arith) in
      length-zip2 leb (chunk at 8 held) (chunk at 8 column) (b ∙ sym a) ∙ b

  bits_are : lane_bits column held at ≡ mask_l (zip2 leb (chunk at 8 held) (chunk at 8 column)) % 2 ^ 64
  bits_are = ap (λ ms. mask_l ms % 2 ^ 64) (tops_compared w32 leb (chunk at 8 held) (chunk at 8 column))

  pub first_bit : (lane_bits column held at ≡ 0 → ⊥) → count_trailing_zeros 64 (lane_bits column held at) ≡ prefix_len (λ b. not b) (zip2 leb (chunk at 8 held) (chunk at 8 column))
  first_bit some = ap (count_trailing_zeros 64) bits_are ∙ some_lane (zip2 leb (chunk at 8 held) (chunk at 8 column)) lanes_len (λ none. some (bits_are ∙ none))

  pub no_bit : lane_bits column held at ≡ 0 → 8 ≡ prefix_len (λ b. not b) (zip2 leb (chunk at 8 held) (chunk at 8 column))
  no_bit none = no_lane (zip2 leb (chunk at 8 held) (chunk at 8 column)) lanes_len (sym bits_are ∙ none)

pub not_true : (b : Bool) → not b ≡ true → b ≡ false
not_true true e = cc e
not_true false e = refl

not_false : (b : Bool) → not b ≡ false → b ≡ true
not_false true e = refl
not_false false e = cc e

-- The lanes of the comparison are places of the two lists.
lane_is : (column held : List ℕ) (at k : ℕ) → at + 8 ≤ length column → length held ≡ length column → k < 8 →
    get_or (zip2 leb (chunk at 8 held) (chunk at 8 column)) k false ≡ leb (get_or held (at + k) 0) (get_or column (at + k) 0)
lane_is column held at k room same l =
    let x = chunk at 8 column in
    let y = chunk at 8 held in
    let a = length-chunk at 8 column room in
    let b = length-chunk at 8 held (omega arith) in
    get_or-zip2 leb y x k 0 0 false (omega arith) (omega arith)
    ∙ ap (λ h. leb h (get_or x k 0)) (get_or-chunk at 8 held k 0 l)
    ∙ ap (λ c. leb (get_or held (at + k) 0) c) (get_or-chunk at 8 column k 0 l)

-- What the number of lanes before the first one that passes says of the two lists.
pub counted_within : (column held : List ℕ) (at r : ℕ) → at + 8 ≤ length column → length held ≡ length column →
    r ≡ prefix_len (λ b. not b) (zip2 leb (chunk at 8 held) (chunk at 8 column)) → r ≤ 8
counted_within column held at r room same is =
    let n = lanes_len column held at room same in
    let le = prefix_len-le-length (λ b. not b) (zip2 leb (chunk at 8 held) (chunk at 8 column)) in
    omega arith

pub counted_reached : (column held : List ℕ) (at r : ℕ) → at + 8 ≤ length column → length held ≡ length column →
    r ≡ prefix_len (λ b. not b) (zip2 leb (chunk at 8 held) (chunk at 8 column)) → r < 8 → get_or held (at + r) 0 ≤ get_or column (at + r) 0
counted_reached column held at r room same is l =
    let t = zip2 leb (chunk at 8 held) (chunk at 8 column) in
    let n = lanes_len column held at room same in
    let stops = not_false _ (prefix_len_stops (λ b. not b) t false (omega arith)) in
    leb-true _ _ (sym (lane_is column held at r room same l) ∙ ap (λ k. get_or t k false) is ∙ stops)

pub counted_before : (column held : List ℕ) (at r k : ℕ) → at + 8 ≤ length column → length held ≡ length column →
    r ≡ prefix_len (λ b. not b) (zip2 leb (chunk at 8 held) (chunk at 8 column)) → k < r → get_or column (at + k) 0 < get_or held (at + k) 0
counted_before column held at r k room same is l =
    let t = zip2 leb (chunk at 8 held) (chunk at 8 column) in
    let most = counted_within column held at r room same is in
    let fails = not_true _ (prefix_len_passes (λ b. not b) t k false (omega arith)) in
    leb-false _ _ (sym (lane_is column held at k room same (omega arith)) ∙ fails)

-- Thirty-two lanes at once: if no bit of their comparison is set, the column is below what is held at all these places.
use Rattle.std.proofs.Common.{◌≡◌, ◌≤◌, ◌<◌, ◌+◌, ◌-◌, ◌%◌, ◌^◌, ◌∙◌, ℕ, List, false, not, length, get_or, ap, sym, subst, inl, inr, leb, arith}
use lib.Lanes.{chunk, mask_l, zip2}
use Rattle.std.specs.List.{prefix_len}
use Rattle.std.proofs.lemmas.Bool.{cases_lt, leb-false}
use Rattle.std.proofs.lemmas.Simd.{length-chunk, get_or-chunk, length-zip2, get_or-zip2, leading_from_mask_l, mask_l-mod}
use Rattle.std.proofs.lemmas.List.{map-id}
use Rattle.std.proofs.lemmas.List.Sums.{prefix_len_passes}
use Rattle.air_lanes.proofs.FirstLemmas.{not_true}

pub none_below : (column held : List ℕ) (at k : ℕ) → at + 32 ≤ length column → length held ≡ length column → k < 32 →
    mask_l (zip2 leb (chunk at 32 held) (chunk at 32 column)) % 2 ^ 64 ≡ 0 → get_or column (at + k) 0 < get_or held (at + k) 0
none_below column held at k room same l none =
    let x = chunk at 32 column in
    let y = chunk at 32 held in
    let a = length-chunk at 32 column room in
    let b = length-chunk at 32 held (omega arith) in
    let t = zip2 leb y x in
    let long : length t ≡ 32 = length-zip2 leb y x (b ∙ sym a) ∙ b in
    let empty : mask_l t ≡ 0 = sym (mask_l-mod t 64 (omega arith)) ∙ none in
    let all : prefix_len (λ b. not b) t ≡ length t = leading_from_mask_l (λ b. b) t (ap mask_l (map-id t) ∙ empty) in
    let fails = not_true _ (prefix_len_passes (λ b. not b) t k false (omega arith)) in
    leb-false _ _ (sym (get_or-zip2 leb y x k 0 0 false (omega arith) (omega arith)
    ∙ ap (λ h. leb h (get_or x k 0)) (get_or-chunk at 32 held k 0 l)
    ∙ ap (λ c. leb (get_or held (at + k) 0) c) (get_or-chunk at 32 column k 0 l)) ∙ fails)

-- If the column is below up to a place and at the thirty-two places from it on, it is below up to the place after these.
pub below_more : (column held : List ℕ) (at k : ℕ) → ((j : ℕ) → j < at → get_or column j 0 < get_or held j 0) →
    ((j : ℕ) → j < 32 → get_or column (at + j) 0 < get_or held (at + j) 0) → k < at + 32 → get_or column k 0 < get_or held k 0
below_more column held at k before next l = elim (cases_lt k at) [
  | inl early ↦ before k early
  | inr late ↦ let is : at + (k - at) ≡ k = omega arith in subst (λ i. get_or column i 0 < get_or held i 0) is (next (k - at) (omega arith))
]

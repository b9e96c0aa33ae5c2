-- How long an indexed tape is: summed by minor cycles within a cycle, and by editions over the cycles.
use Rattle.std.proofs.Common.{◌≡◌, ◌≤◌, ◌<◌, ◌↔◌, ◌+◌, ◌-◌, ◌*◌, ◌++◌, ℕ, zero, suc, Bool, true, false, nat_le, Some, Option, List, [], ◌∷◌, get_or, length, map, slice_get, refl, sym, ◌∙◌, ap, arith}
use Rattle.std.specs.List.{flat_map, range_with_len, sum_by}
use Rattle.std.proofs.Math.Nat.{mul-le-mul_left, mul-suc, mul-zero, suc-mul, zero-mul}
use Rattle.std.proofs.lemmas.Bool.{leb-false, leb-true}
use Rattle.std.proofs.lemmas.List.Sums.{sum_by-append, sum_by-cons}
use Rattle.std.proofs.lemmas.Option.{get_or_from_slice_get}
use Rattle.air_model.specs.Disks.{Disk}
use Rattle.air_model.specs.Programs.{minor_cycle, minor_len, num_minors, program}
use Rattle.air_model.proofs.ProgramLemmas.{length_program}
use Rattle.chunk_program.specs.Editions.{EditionDisks, Plans, no_disks, planned_edition}
use Rattle.air_index.specs.IndexedTapes.{indexed_size, mark_size, marks_size, slot_size}
use Rattle.air_index.specs.OnAir.{IsIndex, IsSlot, marks_of}

-- ---- within a cycle

slots_sum : (v n : ℕ) (os : List (Option ℕ)) → sum_by (mark_size v n) (map IsSlot os) ≡ sum_by (slot_size v n) os
unfolding mark_size
slots_sum v n [] = refl
slots_sum v n (o ∷ os) =
    sum_by-cons (mark_size v n) (IsSlot o) (map IsSlot os) ∙ ap (λ k. slot_size v n o + k) (slots_sum v n os) ∙ sym (sum_by-cons (slot_size v n) o os)

minors_sum : (v n : ℕ) (slots : ℕ → List (Option ℕ)) (ms : List ℕ)
    → sum_by (mark_size v n) (flat_map (λ m. IsIndex m ∷ map IsSlot (slots m)) ms) ≡ length ms * (17 + 4 * n) + sum_by (slot_size v n) (flat_map slots ms)
unfolding mark_size
minors_sum v n slots [] = let none = zero-mul (17 + 4 * n) in omega arith
minors_sum v n slots (m ∷ ms) =
    let rest = flat_map (λ m. IsIndex m ∷ map IsSlot (slots m)) ms in
    let more = minors_sum v n slots ms in
    let here = slots_sum v n (slots m) in
    let index : mark_size v n (IsIndex m) ≡ 17 + 4 * n = omega arith in
    let parts = sum_by-append (slot_size v n) (slots m) (flat_map slots ms) in
    let k = 17 + 4 * n in
    let up = suc-mul (length ms) k in
    sum_by-append (mark_size v n) (IsIndex m ∷ map IsSlot (slots m)) rest
    ∙ ap (λ s. s + sum_by (mark_size v n) rest) (sum_by-cons (mark_size v n) (IsIndex m) (map IsSlot (slots m)))
    ∙ omega (arith, more, here, index, parts, up)

length_range : (a n : ℕ) → length (range_with_len a n) ≡ n
length_range a zero = refl
length_range a (suc n) = let rest = length_range (a + 1) n in omega arith

-- A cycle has an index for each minor cycle, and its slots.
pub marks_sum : (v n : ℕ) (disks : List Disk) → marks_size v n (marks_of disks) ≡ num_minors disks * (17 + 4 * n) + sum_by (slot_size v n) (program disks)
unfolding marks_of program
marks_sum v n disks =
    let m = num_minors disks in
    minors_sum v n (minor_cycle m disks) (range_with_len 0 m) ∙ ap (λ k. k * (17 + 4 * n) + sum_by (slot_size v n) (flat_map (minor_cycle m disks) (range_with_len 0 m))) (length_range 0 m)

-- There are no more minor cycles than slots, where there is a slot.
pub minors_within : (disks : List Disk) (slots : ℕ) → slots ≡ length (program disks) → 1 ≤ slots → num_minors disks ≤ slots
minors_within disks slots is some = by (minor_len (num_minors disks) disks) (is ∙ length_program disks)
  where
    by : (l : ℕ) → slots ≡ num_minors disks * l → num_minors disks ≤ slots
    by zero e = absurd (let none = mul-zero (num_minors disks) in omega arith)
    by (suc l) e = let more = mul-suc (num_minors disks) l in omega arith

-- ---- an edition more

pub range_more : (a n : ℕ) → range_with_len a (suc n) ≡ range_with_len a n ++ (a + n) ∷ []
range_more a zero = let same : a ≡ a + 0 = omega arith in ap (λ k. k ∷ []) same
range_more a (suc n) = let same : a + 1 + n ≡ a + suc n = omega arith in ap (λ l. a ∷ l) (range_more (a + 1) n ∙ ap (λ k. range_with_len (a + 1) n ++ k ∷ []) same)

-- Of k cycles behind the first d that are alike each has as much.
run_sum : (f : ℕ → ℕ) (m d k : ℕ) → ((c : ℕ) → d < c → c ≤ d + k → f c ≡ m) → sum_by f (range_with_len 1 (d + k)) ≡ sum_by f (range_with_len 1 d) + k * m
run_sum f m d zero same = let none : d + 0 ≡ d = omega arith in ap (λ n. sum_by f (range_with_len 1 n)) none ∙ omega arith
run_sum f m d (suc k) same =
    let next : d + suc k ≡ suc (d + k) = omega arith in
    let last : sum_by f ((1 + (d + k)) ∷ []) ≡ m = sum_by-cons f (1 + (d + k)) [] ∙ (let here = same (1 + (d + k)) (omega arith) (omega arith) in omega arith) in
    ap (λ n. sum_by f (range_with_len 1 n)) next ∙ ap (sum_by f) (range_more 1 (d + k)) ∙ sum_by-append f (range_with_len 1 (d + k)) ((1 + (d + k)) ∷ [])
    ∙ ap (λ n. n + sum_by f ((1 + (d + k)) ∷ [])) (run_sum f m d k (λ c low high. same c low (omega arith)))
    ∙ omega (arith, last, suc-mul k m)

-- The first `done` of the cycles are those of the editions before e, the first `end` those up to e.
module _ (plans : Plans) (cycles e done end : ℕ) (before : (c : ℕ) → 1 ≤ c → c ≤ cycles → (c ≤ done) ↔ (planned_edition plans c < e))
    (up_to : (c : ℕ) → 1 ≤ c → c ≤ cycles → (c ≤ end) ↔ (planned_edition plans c ≤ e)) where
  pub ends_later : done ≤ cycles → done ≤ end
  ends_later within = by done refl
    where
      by : (k : ℕ) → k ≡ done → done ≤ end
      by zero is = omega arith
      by (suc k) is = (up_to done (omega arith) within).1 (let less = (before done (omega arith) within).0 (omega arith) in omega arith)

  own_cycle : (c : ℕ) → done < c → c ≤ end → end ≤ cycles → planned_edition plans c ≡ e
  own_cycle c low high within =
      let most = (up_to c (omega arith) (omega arith)).0 high in
      by (nat_le e (planned_edition plans c)) refl most
    where
      by : (b : Bool) → nat_le e (planned_edition plans c) ≡ b → planned_edition plans c ≤ e → planned_edition plans c ≡ e
      by true t most = let least = leb-true e (planned_edition plans c) t in omega arith
      by false f most = absurd (let again = (before c (omega arith) (omega arith)).1 (leb-false e (planned_edition plans c) f) in omega arith)

  -- What a cycle has by its disks, summed over the cycles up to e.
  pub edition_sum : (g : List Disk → ℕ) (len : ℕ) (p : EditionDisks) → done ≤ cycles → end ≤ cycles → slice_get plans.programs e ≡ Some p → len ≡ g p.disks
      → sum_by (λ c. g (get_or plans.programs (planned_edition plans c) no_disks).disks) (range_with_len 1 end)
      ≡ sum_by (λ c. g (get_or plans.programs (planned_edition plans c) no_disks).disks) (range_with_len 1 done) + (end - done) * len
  edition_sum g len p first within at is =
      let later = ends_later first in
      let whole : end ≡ done + (end - done) = omega arith in
      let size : ℕ → ℕ = λ c. g (get_or plans.programs (planned_edition plans c) no_disks).disks in
      let alike : (c : ℕ) → done < c → c ≤ done + (end - done) → size c ≡ len =
      λ c low high. ap (λ k. g (get_or plans.programs k no_disks).disks) (own_cycle c low (omega arith) within)
      ∙ ap (λ (q : EditionDisks). g q.disks) (get_or_from_slice_get plans.programs e p no_disks at) ∙ sym is in
      ap (λ k. sum_by size (range_with_len 1 k)) whole ∙ run_sum size len done (end - done) alike

  pub edition_more : (v n len : ℕ) (p : EditionDisks) → done ≤ cycles → end ≤ cycles → slice_get plans.programs e ≡ Some p → len ≡ marks_size v n (marks_of p.disks)
      → indexed_size v n plans end ≡ indexed_size v n plans done + (end - done) * len
  edition_more v n len p first within at is = edition_sum (λ d. marks_size v n (marks_of d)) len p first within at is

-- The sum stays far below 64 bits.
pub sum_fits : (bytes done end len : ℕ) → bytes ≤ 135036928 * done → len ≤ 135036928 → done ≤ end → (bytes + (end - done) * len ≤ 135036928 * end) × ((end - done) * len ≤ 135036928 * end)
sum_fits bytes done end len few short later = let product = mul-le-mul_left (end - done) short in (omega arith, omega arith)

-- So does the length of a cycle's indexes.
pub index_fits : (minors index : ℕ) → minors ≤ 16384 → index ≤ 4113 → minors * index ≤ 4113 * 16384
index_fits minors index few short = let product = mul-le-mul_left minors short in omega arith

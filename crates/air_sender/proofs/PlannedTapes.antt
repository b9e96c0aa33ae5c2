-- How long the tape of a deck's first cycles is, summed edition by edition: the cycles of an edition are a run, and have its slots.
use Rattle.std.proofs.Common.{◌≡◌, ◌≤◌, ◌<◌, ◌↔◌, ◌+◌, ◌-◌, ◌*◌, ℕ, zero, suc, Bool, true, false, nat_le, Some, [], ◌∷◌, get_or, slice_get, refl, sym, ◌∙◌, ap, arith}
use Rattle.std.specs.List.{range_with_len, sum_by}
use Rattle.std.proofs.Math.Nat.{mul-le-mul_left, suc-mul}
use Rattle.std.proofs.lemmas.Bool.{leb-false, leb-true}
use Rattle.std.proofs.lemmas.List.Sums.{sum_by-append, sum_by-cons}
use Rattle.std.proofs.lemmas.Option.{get_or_from_slice_get}
use Rattle.air_model.specs.Aired.{air_of, slots_at}
use Rattle.air_model.specs.Decks.{Deck}
use Rattle.air_model.specs.Programs.{program}
use Rattle.air_model.proofs.EditionLemmas.{slots_are}
use Rattle.chunk_program.specs.Editions.{EditionDisks, Plans, no_disks, planned_edition, planned_slots, plans_in}
use Rattle.chunk_program.proofs.EditionSteps.{slots_of_cycle}
use Rattle.air_sender.specs.TapeSizes.{cycle_size, tape_size}
use Rattle.air_sender.proofs.AiredLemmas.{range_more}

-- Each of the k cycles after the first d adds the same.
run_sum : (f : ℕ → ℕ) (m d k : ℕ) → ((c : ℕ) → d < c → c ≤ d + k → f c ≡ m) → sum_by f (range_with_len 1 (d + k)) ≡ sum_by f (range_with_len 1 d) + k * m
run_sum f m d zero same = let none : d + 0 ≡ d = omega arith in ap (λ n. sum_by f (range_with_len 1 n)) none ∙ omega arith
run_sum f m d (suc k) same =
    let next : d + suc k ≡ suc (d + k) = omega arith in
    let last : sum_by f ((1 + (d + k)) ∷ []) ≡ m = sum_by-cons f (1 + (d + k)) [] ∙ (let here = same (1 + (d + k)) (omega arith) (omega arith) in omega arith) in
    ap (λ n. sum_by f (range_with_len 1 n)) next ∙ ap (sum_by f) (range_more 1 (d + k)) ∙ sum_by-append f (range_with_len 1 (d + k)) ((1 + (d + k)) ∷ [])
    ∙ ap (λ n. n + sum_by f ((1 + (d + k)) ∷ [])) (run_sum f m d k (λ c low high. same c low (omega arith)))
    ∙ omega (arith, last, suc-mul k m)

-- ---- an edition more

-- The first `done` of the cycles are those of the editions before e, the first `end` those up to e.
module _ (plans : Plans) (cycles e done end : ℕ) (before : (c : ℕ) → 1 ≤ c → c ≤ cycles → (c ≤ done) ↔ (planned_edition plans c < e))
    (up_to : (c : ℕ) → 1 ≤ c → c ≤ cycles → (c ≤ end) ↔ (planned_edition plans c ≤ e)) where
  pub ends_later : done ≤ cycles → done ≤ end
  ends_later within = by done refl
    where
      by : (k : ℕ) → k ≡ done → done ≤ end
      by zero is = omega arith
      by (suc k) is = (up_to done (omega arith) within).1 (let less = (before done (omega arith) within).0 (omega arith) in omega arith)

  own_cycle : (c : ℕ) → done < c → c ≤ end → end ≤ cycles → planned_edition plans c ≡ e
  own_cycle c low high within =
      let most = (up_to c (omega arith) (omega arith)).0 high in
      by (nat_le e (planned_edition plans c)) refl most
    where
      by : (b : Bool) → nat_le e (planned_edition plans c) ≡ b → planned_edition plans c ≤ e → planned_edition plans c ≡ e
      by true t most = let least = leb-true e (planned_edition plans c) t in omega arith
      by false f most = absurd (let again = (before c (omega arith) (omega arith)).1 (leb-false e (planned_edition plans c) f) in omega arith)

  pub edition_more : (v n len : ℕ) (p : EditionDisks) → done ≤ cycles → end ≤ cycles → slice_get plans.programs e ≡ Some p → len ≡ cycle_size v n (program p.disks)
      → tape_size v n (planned_slots plans) end ≡ tape_size v n (planned_slots plans) done + (end - done) * len
  edition_more v n len p first within at is =
      let later = ends_later first in
      let whole : end ≡ done + (end - done) = omega arith in
      let slots : (c : ℕ) → done < c → c ≤ done + (end - done) → cycle_size v n (planned_slots plans c) ≡ len =
      λ c low high. ap (λ k. cycle_size v n (program (get_or plans.programs k no_disks).disks)) (own_cycle c low (omega arith) within)
      ∙ ap (λ (q : EditionDisks). cycle_size v n (program q.disks)) (get_or_from_slice_get plans.programs e p no_disks at) ∙ sym is in
      ap (tape_size v n (planned_slots plans)) whole ∙ run_sum (λ c. cycle_size v n (planned_slots plans c)) len done (end - done) slots

-- The sum is far below 2 ^ 64.
pub sum_fits : (bytes done end len : ℕ) → bytes ≤ 67567616 * done → len ≤ 67567616 → done ≤ end → (bytes + (end - done) * len ≤ 67567616 * end) × ((end - done) * len ≤ 67567616 * end)
sum_fits bytes done end len few short later = let product = mul-le-mul_left (end - done) short in (omega arith, omega arith)

-- ---- a deck's plans

same_sum : (f g : ℕ → ℕ) (a n : ℕ) → ((c : ℕ) → f c ≡ g c) → sum_by f (range_with_len a n) ≡ sum_by g (range_with_len a n)
same_sum f g a zero same = refl
same_sum f g a (suc n) same =
    sum_by-cons f a (range_with_len (a + 1) n) ∙ ap (λ k. k + sum_by f (range_with_len (a + 1) n)) (same a) ∙ ap (λ k. g a + k) (same_sum f g (a + 1) n same) ∙ sym (sum_by-cons g a (range_with_len (a + 1) n))

-- The cycles of a deck's plans are as long as those on its air.
pub planned_size : (deck : Deck) (plans : Plans) (v n cycles : ℕ) → plans ≡ plans_in deck → tape_size v n (planned_slots plans) cycles ≡ tape_size v n (slots_at (air_of deck)) cycles
planned_size deck plans v n cycles are =
    same_sum (λ c. cycle_size v n (planned_slots plans c)) (λ c. cycle_size v n (slots_at (air_of deck) c)) 1 cycles (λ c. ap (cycle_size v n) (slots_of_cycle deck plans c are ∙ sym (slots_are deck c)))

-- An entry by arithmetic: from the wait for the item's next slot, in this cycle or the next one.
use Rattle.std.proofs.Common.{◌≡◌, ◌≤◌, ◌<◌, ◌+◌, ◌-◌, ◌*◌, ◌/◌, ◌%◌, ◌++◌, ℕ, Option, List, drop, length, length-append, ◌∙◌, ap, arith}
use Rattle.std.specs.List.{position_or_len}
use Rattle.std.proofs.Math.Nat.{mul-le-mul_right}
use Rattle.std.proofs.lemmas.List.{length-drop}
use Rattle.std.proofs.lemmas.Nat.{mul-add-lt}
use Rattle.air_model.specs.Airings.{IsNextWake, carries, next_wake}
use Rattle.air_model.specs.Disks.{Disk}
use Rattle.air_model.specs.Programs.{minor_len, num_minors, program}
use Rattle.air_model.proofs.ProgramLemmas.{length_program}
use Rattle.air_index.specs.Private.Beaming.{entry_between}
use Rattle.air_index.proofs.AheadLemmas.{length_marks}
use Rattle.air_index.proofs.BackLemmas.{few_marks}
use Rattle.air_index.proofs.MarkLemmas.{carried_within, entry_in_cycle, entry_in_next, some_parts}
use Rattle.air_index.proofs.PositionLemmas.{first_left, first_within}

-- A wait is no longer than two cycles; from slot 0 it is within the cycle.
pub wait_few : (slots : List (Option ℕ)) (s i w : ℕ) → w ≡ next_wake slots s i → w ≤ 2 * length slots
unfolding next_wake
wait_few slots s i w is =
    let most = first_within (carries i) (drop s slots ++ slots) in
    let whole = length-append (drop s slots) slots in
    let left = length-drop s slots in
    omega arith

pub wait_within : (slots : List (Option ℕ)) (i w : ℕ) → w ≡ next_wake slots 0 i → IsNextWake slots 0 i w → w < length slots
unfolding next_wake
wait_within slots i w is wake =
    let comes = carried_within i slots ((0 + w) % length slots) wake.aired in
    let place : w ≡ position_or_len (carries i) slots = is ∙ first_left (carries i) slots slots comes in
    omega arith

module _ (disks next : List Disk) (m i len slots : ℕ) (is : len ≡ minor_len (num_minors disks) disks) (counted : slots ≡ length (program disks)) (some : 1 ≤ slots) (few : slots ≤ 16384)
    (within : m < num_minors disks) where
  parts : (0 < num_minors disks) × (0 < minor_len (num_minors disks) disks)
  parts = some_parts disks (omega arith)

  pub from_below : m * len < length (program disks)
  from_below =
      let long = length_program disks in
      let below = mul-add-lt m (minor_len (num_minors disks) disks) 0 (num_minors disks) within parts.1 in
      let turned : minor_len (num_minors disks) disks * num_minors disks ≡ num_minors disks * minor_len (num_minors disks) disks = omega arith in
      let same : m * len ≡ m * minor_len (num_minors disks) disks = ap (λ k. m * k) is in
      omega arith

  wait_is : (w : ℕ) → w ≡ next_wake (program disks) (m * len) i → w ≡ next_wake (program disks) (m * minor_len (num_minors disks) disks) i
  wait_is w told = told ∙ ap (λ k. next_wake (program disks) (m * k) i) is

  pub entry_here : (w : ℕ) → w ≡ next_wake (program disks) (m * len) i → m * len + w < slots → w + w / len + 1 ≡ entry_between disks next m i
  entry_here w told below =
      let same : m * len ≡ m * minor_len (num_minors disks) disks = ap (λ k. m * k) is in
      ap (λ k. w + w / k + 1) is ∙ entry_in_cycle disks next m i w within parts.1 (wait_is w told) (omega arith)

  pub rest_few : (minors : ℕ) → minors ≡ num_minors disks → (minors - m) * (len + 1) ≤ 32768
  rest_few minors are =
      let all = length_marks disks in
      let most = few_marks disks (omega arith) (omega arith) in
      let less : num_minors disks - m ≤ num_minors disks = omega arith in
      let product = mul-le-mul_right (minor_len (num_minors disks) disks + 1) less in
      let same : (minors - m) * (len + 1) ≡ (num_minors disks - m) * (minor_len (num_minors disks) disks + 1) = ap (λ k. (k - m) * (len + 1)) are ∙ ap (λ k. (num_minors disks - m) * (k + 1)) is in
      omega arith

  pub entry_there : (w first place slots2 minors : ℕ) → w ≡ next_wake (program disks) (m * len) i → slots ≤ m * len + w → minors ≡ num_minors disks → slots2 ≡ length (program next) → 1 ≤ slots2
      → first ≡ next_wake (program next) 0 i → IsNextWake (program next) 0 i first → place ≡ first + first / minor_len (num_minors next) next + 1
      → (minors - m) * (len + 1) + place ≡ entry_between disks next m i
  entry_there w first place slots2 minors told above are counted2 some2 first_is wake place_is =
      let same : m * len ≡ m * minor_len (num_minors disks) disks = ap (λ k. m * k) is in
      let other = some_parts next (omega arith) in
      ap (λ k. (k - m) * (len + 1) + place) are ∙ ap (λ k. (num_minors disks - m) * (k + 1) + place) is ∙ ap (λ k. (num_minors disks - m) * (minor_len (num_minors disks) disks + 1) + k) place_is
      ∙ entry_in_next disks next m i w first within parts.1 (wait_is w told) (omega arith) other.1 first_is wake

pub len_within : (a b : ℕ) → 1 ≤ a → b ≤ a * b
len_within a b some = let product = mul-le-mul_right b some in let one : 1 * b ≡ b = omega arith in omega arith

-- The laws of the broadcast program: each item is aired as often as its disk says, at one distance, and the least wait.
-- An item is given by its disk's place n and its own place q on the disk; the answers of the laws find both.
use Rattle.std.proofs.Common.{◌≡◌, ◌<◌, ◌≤◌, ◌⊎◌, inl, inr, ◌+◌, ◌-◌, ◌*◌, ◌%◌, ◌==◌, ◌↔◌, ℕ, zero, suc, Bool, true, false, Some, List, length, get_or, slice_get, refl, sym, subst, ap, ◌∙◌, arith}
use Rattle.std.specs.Prelude.{◌≢◌}
use Rattle.std.specs.List.{Contains, list_any}
use Rattle.std.proofs.Math.Nat.{div-mul_cancel, mul_assoc, mul_comm}
use Rattle.std.proofs.lemmas.Bool.{cases_lt}
use Rattle.std.proofs.lemmas.Bool.Decides.{nat_tests}
use Rattle.std.proofs.lemmas.List.Folds.{Any-from_list_any}
use Rattle.std.proofs.lemmas.List.Sums.{position_or_len_is}
use Rattle.std.proofs.lemmas.Map.Keys.{any_passes_from_place}
use Rattle.std.proofs.lemmas.Nat.Gcd.{dvd_of_mod-eq-zero}
use Rattle.std.proofs.lemmas.Option.{get_or_from_slice_get, slice_get-get_or, slice_get_within}
use Rattle.air_model.specs.Airings.{ComesEvery, IsNextWake, airings, chunks_of, disk_number, gap_of, next_wake}
use Rattle.air_model.specs.Disks.{Disk, all_items}
use Rattle.air_model.specs.ProgramLaws.{IsAirable}
use Rattle.air_model.specs.Programs.{minor_len, num_chunks, num_minors, program}
use Rattle.air_model.proofs.CommonMultiples.{AllAired, num_minors_common, num_minors_pos}
use Rattle.air_model.proofs.Elements.{Distinct, all_at, contains_has, pairs_at}
use Rattle.air_model.proofs.Periods.{ComesAt, airings_are, comes_every, next_wake_is}
use Rattle.air_model.proofs.SlotPlaces.{comes_at, disk_gap, first_below, length_slots, place_slot, same_disk, slots_of}

pub length_program : (disks : List Disk) → length (program disks) ≡ num_minors disks * minor_len (num_minors disks) disks
unfolding program slots_of
length_program disks = length_slots (num_minors disks) disks

-- ---- what is known of disks that can be aired, by places
pub airable_aired : (disks : List Disk) → IsAirable disks → AllAired disks
airable_aired disks a n d at = all_at (λ (d : Disk). 0 < d.freq) disks n d a.aired at

airable_apart : (disks : List Disk) → IsAirable disks → Distinct (all_items disks)
airable_apart disks a j k i at to = by (cases_lt j k) (cases_lt k j)
  where
    by : ((j < k) ⊎ (k ≤ j)) → ((k < j) ⊎ (j ≤ k)) → j ≡ k
    by (inl less) o = absurd (pairs_at (λ x y. x ≢ y) (all_items disks) j k i i a.apart less at to refl)
    by (inr over) (inl less) = absurd (pairs_at (λ x y. x ≢ y) (all_items disks) k j i i a.apart less to at refl)
    by (inr over) (inr under) = omega arith

positive : (a b : ℕ) → 0 < a * b → 0 < a
positive zero b h = absurd (omega arith)
positive (suc a) b h = omega arith

-- ---- an item of a disk
module _ (disks : List Disk) (n : ℕ) (d : Disk) (i : ℕ) (airable : IsAirable disks) (at : slice_get disks n ≡ Some d) (held : Contains d.items i) where
  q : ℕ
  q = (contains_has d.items i held).0

  item : slice_get d.items q ≡ Some i
  unfolding q
  item = (contains_has d.items i held).1

  pub disk_is : disk_number disks i ≡ n
  unfolding disk_number
  disk_is =
      let on : (e : Disk) → e ≡ d → list_any (λ j. j == i) e.items ≡ true = λ e same. any_passes_from_place (λ j. j == i) e.items q i (ap (λ (x : Disk). slice_get x.items q) same ∙ item) (grind (arith, nat_tests)) in
      position_or_len_is (λ (e : Disk). list_any (λ j. j == i) e.items) disks n d (let within = slice_get_within disks n d at in omega arith)
      (λ k less. not_on k less (list_any (λ j. j == i) (get_or disks k d).items) refl) (λ below. on (get_or disks n d) (get_or_from_slice_get disks n d d at))
    where
      not_on : (k : ℕ) → k < n → (b : Bool) → list_any (λ j. j == i) (get_or disks k d).items ≡ b → list_any (λ j. j == i) (get_or disks k d).items ≡ false
      not_on k less false e = e
      not_on k less true e =
          let any = Any-from_list_any (λ j. j == i) (get_or disks k d).items e in
          let is : any.1 ≡ i = (let p = any.4 in grind (arith, nat_tests)) in
          let here = slice_get-get_or (get_or disks k d).items any.0 any.1 any.2 ∙ ap Some (any.3 ∙ is) in
          let same = same_disk disks k n (get_or disks k d) d any.0 q i (airable_apart disks airable)
          (slice_get-get_or disks k d (let within = slice_get_within disks n d at in omega arith)) at here item in
          absurd (omega arith)

  pub chunks_are : chunks_of disks i ≡ num_chunks (num_minors disks) d
  unfolding chunks_of
  chunks_are = rw (disk_is, at) refl

  gap_is : gap_of disks i ≡ disk_gap (num_minors disks) disks d
  unfolding gap_of disk_gap
  gap_is = ap (λ k. k * minor_len (num_minors disks) disks) chunks_are

  aired : AllAired disks
  aired = airable_aired disks airable

  -- the disk's chunks, as often as it is aired, are all minor cycles
  chunks_times : num_chunks (num_minors disks) d * d.freq ≡ num_minors disks
  unfolding num_chunks
  chunks_times = div-mul_cancel d.freq (dvd_of_mod-eq-zero d.freq (num_minors_common disks aired n d at))

  chunks_some : 0 < num_chunks (num_minors disks) d
  chunks_some = let e = chunks_times in let p = num_minors_pos disks aired in positive (num_chunks (num_minors disks) d) d.freq (omega arith)

  times_gap : length (program disks) ≡ d.freq * disk_gap (num_minors disks) disks d
  unfolding disk_gap
  times_gap =
      let m = num_minors disks in
      length_program disks ∙ ap (λ k. k * minor_len m disks) (sym chunks_times ∙ mul_comm (num_chunks m d) d.freq) ∙ mul_assoc d.freq (num_chunks m d) (minor_len m disks)

  item_comes : ComesAt (program disks) i (disk_gap (num_minors disks) disks d) (place_slot (num_minors disks) disks n d q)
  unfolding program slots_of
  item_comes = comes_at (num_minors disks) q i disks n d (airable_apart disks airable) at item chunks_some

  item_first_below : place_slot (num_minors disks) disks n d q < disk_gap (num_minors disks) disks d
  item_first_below = first_below (num_minors disks) q i disks n d (airable_apart disks airable) at item chunks_some

  pub item_airings : airings (program disks) i ≡ d.freq
  item_airings =
      airings_are (program disks) i d.freq (disk_gap (num_minors disks) disks d) (place_slot (num_minors disks) disks n d q) item_first_below (aired n d at) times_gap item_comes

  pub item_comes_every : ComesEvery (program disks) i (gap_of disks i)
  item_comes_every =
      subst (ComesEvery (program disks) i) (sym gap_is)
      (comes_every (program disks) i d.freq (disk_gap (num_minors disks) disks d) (place_slot (num_minors disks) disks n d q) item_first_below (aired n d at) times_gap item_comes)

  pub item_times_gap : airings (program disks) i * gap_of disks i ≡ length (program disks)
  item_times_gap = ap (λ k. k * gap_of disks i) item_airings ∙ ap (λ k. d.freq * k) gap_is ∙ sym times_gap

  pub item_next_wake : (s : ℕ) → s < length (program disks)
      → ((k : ℕ) → IsNextWake (program disks) s i k ↔ (k ≡ next_wake (program disks) s i))
      × (next_wake (program disks) s i ≡ (next_wake (program disks) 0 i + (gap_of disks i - s % gap_of disks i)) % gap_of disks i)
  item_next_wake s within =
      let known = next_wake_is (program disks) i d.freq (disk_gap (num_minors disks) disks d) (place_slot (num_minors disks) disks n d q) item_first_below (aired n d at) times_gap item_comes s within in
      (known.0, subst (λ g. next_wake (program disks) s i ≡ (next_wake (program disks) 0 i + (g - s % g)) % g) (sym gap_is) known.1)

-- What a split costs: the slots of a minor cycle times what its disks weigh.
use Rattle.std.proofs.Common.{◌≡◌, ◌≤◌, ◌<◌, ◌+◌, ◌*◌, ℕ, suc, Some, List, [], ◌∷◌, length, slice_get, slice_index, sum, refl, sym, ap, ◌∙◌, arith}
use Rattle.std.specs.List.{All, flat_map, range_with_len, sum_by}
use Rattle.std.proofs.lemmas.List.{length-map}
use Rattle.std.proofs.lemmas.List.Elements.{All-cons, All-head, All-map, All-nil, All-tail, All-weaker}
use Rattle.std.proofs.lemmas.List.Sums.{sum-map, sum_by-append, sum_by-cons}
use Rattle.air_model.specs.Airings.{gap_of}
use Rattle.air_model.specs.Decks.{Deck, IsDeck, Item, rates_in}
use Rattle.air_model.specs.Disks.{Disk, DiskSpec, all_items, order}
use Rattle.air_model.specs.ProgramLaws.{IsAirable}
use Rattle.air_model.specs.Programs.{minor_len, num_chunks, num_minors}
use Rattle.air_model.proofs.ProgramLemmas.{chunks_are}
use Rattle.air_model.proofs.Elements.{has_contains}
use Rattle.air_model.proofs.ItemOrder.{cut_airable, cut_items, length-order}
use Rattle.disk_split.specs.Splits.{IsSplit, cost, minor_of, resized, sizes_in, split_disks}
use Rattle.disk_split.proofs.DeckLemmas.{disk_weight}
use Rattle.disk_split.proofs.HotLemmas.{sum_order}

-- ---- sums
sum_same : {X : Type 0} (f g : X → ℕ) (xs : List X) → ((k : ℕ) (x : X) → slice_get xs k ≡ Some x → f x ≡ g x) → sum_by f xs ≡ sum_by g xs
sum_same f g [] same = refl
sum_same f g (x ∷ xs) same =
    let rest = sum_same f g xs (λ k. same (suc k)) in let own = same 0 x refl in let one = sum_by-cons f x xs in let two = sum_by-cons g x xs in omega arith

sum_times : {X : Type 0} (f : X → ℕ) (m : ℕ) (xs : List X) → sum_by (λ x. f x * m) xs ≡ sum_by f xs * m
sum_times f m [] = omega arith
sum_times f m (x ∷ xs) =
    let rest = sum_times f m xs in let one = sum_by-cons (λ y. f y * m) x xs in let two = sum_by-cons f x xs in
    let parts : (f x + sum_by f xs) * m ≡ f x * m + sum_by f xs * m = omega arith in
    one ∙ ap (λ n. f x * m + n) rest ∙ sym parts ∙ ap (λ n. n * m) (sym two)

sum_flat : {X : Type 0} (f : ℕ → ℕ) (h : X → List ℕ) (xs : List X) → sum_by f (flat_map h xs) ≡ sum_by (λ x. sum_by f (h x)) xs
sum_flat f h [] = refl
sum_flat f h (x ∷ xs) =
    let rest = sum_flat f h xs in let one = sum_by-append f (h x) (flat_map h xs) in let two = sum_by-cons (λ y. sum_by f (h y)) x xs in omega arith

-- ---- the disks of a split
resized_sizes : (specs : List DiskSpec) (sizes : List ℕ) → length sizes ≡ length specs → sum_by (λ (d : DiskSpec). d.size) (resized specs sizes) ≡ sum sizes
unfolding resized
resized_sizes [] [] long = refl
resized_sizes [] (s ∷ ss) long = absurd (omega arith)
resized_sizes (spec ∷ specs) [] long = absurd (omega arith)
resized_sizes (spec ∷ specs) (s ∷ ss) long =
    let rest = resized_sizes specs ss (omega arith) in
    let one = sum_by-cons (λ (d : DiskSpec). d.size) (record { size = s; freq = spec.freq }) (resized specs ss) in let two = sum_by-cons (λ x. x) s ss in omega arith

resized_aired : (specs : List DiskSpec) (sizes : List ℕ) → All (λ (d : DiskSpec). 0 < d.freq) specs → All (λ (d : DiskSpec). 0 < d.freq) (resized specs sizes)
unfolding resized
resized_aired [] sizes aired = aired
resized_aired (spec ∷ specs) [] aired = All-nil (λ (d : DiskSpec). 0 < d.freq)
resized_aired (spec ∷ specs) (s ∷ ss) aired =
    All-cons (λ (d : DiskSpec). 0 < d.freq) (record { size = s; freq = spec.freq }) (resized specs ss) (All-head (λ (d : DiskSpec). 0 < d.freq) spec specs aired) (resized_aired specs ss (All-tail (λ (d : DiskSpec). 0 < d.freq) spec specs aired))

module _ (deck : Deck) (sizes : List ℕ) (made : IsDeck deck) (split : IsSplit deck sizes) where
  aired : All (λ (d : DiskSpec). 0 < d.freq) deck.disks
  aired = All-weaker (λ (d : DiskSpec). (0 < d.size) × (0 < d.freq)) (λ (d : DiskSpec). 0 < d.freq) (λ d both. both.1) deck.disks (made.aired 0 (omega arith))

  pub airable : IsAirable (split_disks deck sizes)
  airable = cut_airable (rates_in deck) (resized deck.disks sizes) (resized_aired deck.disks sizes aired)

  pub whole : all_items (split_disks deck sizes) ≡ order (rates_in deck)
  whole = cut_items (order (rates_in deck)) (resized deck.disks sizes) (
      let parts = resized_sizes deck.disks sizes split.disks in let all = split.all in
      let long = length-order (rates_in deck) in let same = length-map deck.items (λ (i : Item). i.rate) in omega arith)

  disk_cost : (n : ℕ) (d : Disk) → slice_get (split_disks deck sizes) n ≡ Some d
      → sum_by (λ i. slice_index (rates_in deck) i * gap_of (split_disks deck sizes) i) d.items ≡ disk_weight (num_minors (split_disks deck sizes)) (slice_index (rates_in deck)) d * minor_of deck sizes
  unfolding gap_of minor_of
  disk_cost n d at =
      let m = num_minors (split_disks deck sizes) in let slots = minor_len m (split_disks deck sizes) in
      sum_same (λ i. slice_index (rates_in deck) i * gap_of (split_disks deck sizes) i) (λ i. slice_index (rates_in deck) i * (num_chunks m d * slots)) d.items
      (λ k i item. ap (λ n. slice_index (rates_in deck) i * (n * slots)) (chunks_are (split_disks deck sizes) n d i airable at (has_contains d.items i (k, item))))
      ∙ sum_times (slice_index (rates_in deck)) (num_chunks m d * slots) d.items
      ∙ turned (sum_by (slice_index (rates_in deck)) d.items) (num_chunks m d) slots
    where
      turned : (a b c : ℕ) → a * (b * c) ≡ b * a * c
      turned a b c = omega arith

  pub cost_is : cost deck sizes ≡ minor_of deck sizes * sum_by (disk_weight (num_minors (split_disks deck sizes)) (slice_index (rates_in deck))) (split_disks deck sizes)
  unfolding cost all_items
  cost_is =
      let f : ℕ → ℕ = λ i. slice_index (rates_in deck) i * gap_of (split_disks deck sizes) i in
      let w : Disk → ℕ = disk_weight (num_minors (split_disks deck sizes)) (slice_index (rates_in deck)) in
      ap (λ n. sum_by f (range_with_len 0 n)) (sym (length-map deck.items (λ (i : Item). i.rate)))
      ∙ sym (sum_order f (rates_in deck)) ∙ ap (sum_by f) (sym whole) ∙ sum_flat f (λ (d : Disk). d.items) (split_disks deck sizes)
      ∙ sum_same (λ (d : Disk). sum_by f d.items) (λ d. w d * minor_of deck sizes) (split_disks deck sizes) disk_cost
      ∙ sum_times w (minor_of deck sizes) (split_disks deck sizes)
      ∙ turned (sum_by w (split_disks deck sizes)) (minor_of deck sizes)
    where
      turned : (a b : ℕ) → a * b ≡ b * a
      turned a b = omega arith

-- A deck's own sizes are a split.
pub own_split : (deck : Deck) → IsDeck deck → IsSplit deck (sizes_in deck)
own_split deck made = record {
  disks = length-map deck.disks (λ (d : DiskSpec). d.size);
  filled = All-map (λ size. 1 ≤ size) (λ (d : DiskSpec). d.size) deck.disks (All-weaker (λ (d : DiskSpec). (0 < d.size) × (0 < d.freq)) (λ (d : DiskSpec). 1 ≤ d.size) (λ d both. both.0) deck.disks (made.aired 0 (omega arith)));
  all = sum-map (λ (d : DiskSpec). d.size) deck.disks ∙ made.sizes 0 (omega arith);
}

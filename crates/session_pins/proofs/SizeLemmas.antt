-- The length in bytes of the longest cycle of a small deck.
use Rattle.std.proofs.Common.{◌≡◌, ◌≤◌, ◌<◌, ◌+◌, ◌*◌, ◌∙◌, ℕ, zero, suc, List, length, map, None, [], ◌∷◌, ap, refl, arith}
use Rattle.std.proofs.lemmas.Nat.{row_fits}
use Rattle.air_history.specs.Places.{greatest_of}
use Rattle.air_model.specs.Decks.{Deck, Item}
use Rattle.air_model.specs.Disks.{DiskSpec, cut, order, order_with}
use Rattle.air_model.specs.Programs.{chunk, chunk_len, least_common_multiple, minor_cycle, num_chunks, num_minors, program}
use Rattle.air_sender.specs.TapeSizes.{cycle_size}
use Rattle.scripts.specs.LongestCycles.{edition_size, longest_cycle}
use Rattle.scripts.proofs.CycleLemmas.{edition_within}
use Rattle.session_pins.specs.SmallDecks.{frequent, scripted}

-- The size of a cycle of these items on these disks, in this version.
abbrev size_of : ℕ → List Item → List DiskSpec → ℕ
size_of version items disks = cycle_size version (length items) (program (cut (order (map (λ i. i.rate) items)) disks))

-- The pair's two slots have 36 bytes each, and 64 slots of one item 32.
record Sizes : Type 0 where
  pair_size : longest_cycle (scripted (None ∷ None ∷ [])) ≡ 72
  frequent_size : size_of 1 frequent.items frequent.disks ≡ 2048

sizes_computed : Sizes
unfolding greatest_of cut order order_with chunk chunk_len least_common_multiple minor_cycle num_chunks num_minors program
sizes_computed = record { pair_size = refl; frequent_size = refl }

-- In a deck of this version, with these items and disks, a cycle of edition 0 has this size.
size_at : (deck : Deck) (version : ℕ) (items : List Item) (specs : List DiskSpec) (size : ℕ) → deck.settings.version ≡ version → deck.items ≡ items → deck.disks ≡ specs
    → size_of version items specs ≡ size → edition_size deck 0 ≡ size
size_at deck version items specs size same_version same_items same_disks sized =
    ap (λ v. size_of v deck.items deck.disks) same_version ∙ ap (λ is. size_of version is deck.disks) same_items ∙ ap (size_of version items) same_disks ∙ sized

-- The size of a cycle of the pair with a script of its own.
pub scripted_size : (deck : Deck) → deck ≡ scripted (None ∷ None ∷ []) → 1 * longest_cycle deck ≡ 72
scripted_size deck is_scripted = omega (arith, ap longest_cycle is_scripted, sizes_computed.pair_size)

-- If a piece has at most 4,194,304 bytes, or one cycle, it has at most 2,048 cycles of 2,048 bytes or more.
few_cycles : (n size : ℕ) → 2048 ≤ size → (1 < n → n * size ≤ 4194304) → n ≤ 2048
few_cycles zero size least few = omega arith
few_cycles (suc zero) size least few = omega arith
few_cycles (suc (suc n)) size least few =
    let fits : suc (suc n) * size ≤ 4194304 = few (omega arith) in
    let filled : suc n * 2048 + 2048 ≤ suc (suc n) * size = row_fits (suc n) 2048 (suc (suc n)) size (omega arith) least in
    omega (arith, fits, filled)

-- The same holds for each deck of version 1 whose first program has only the frequent item, regardless of its replans.
pub few_frequent : (deck : Deck) (n : ℕ) → deck.settings.version ≡ 1 → deck.items ≡ frequent.items → deck.disks ≡ frequent.disks
    → (1 < n → n * longest_cycle deck ≤ 4194304) → n ≤ 2048
few_frequent deck n same_version same_items same_disks few =
    let own = size_at deck 1 frequent.items frequent.disks 2048 same_version same_items same_disks sizes_computed.frequent_size in
    let within : edition_size deck 0 ≤ longest_cycle deck = edition_within deck 0 (omega arith) in
    few_cycles n (longest_cycle deck) (omega (arith, own, within)) few

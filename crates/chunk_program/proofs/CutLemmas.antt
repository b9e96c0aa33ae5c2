-- The cut of a deck has the deck's limits.
use Rattle.std.proofs.Common.{◌≡◌, ◌≤◌, ◌<◌, ◌↔◌, ℕ, zero, suc, Bool, true, false, List, [], ◌∷◌, length, drop, refl, sym, subst, ap, ◌∙◌, arith}
use Rattle.std.specs.Prelude.{if◌then◌else◌}
use Rattle.std.specs.List.{All, Contains}
use Rattle.std.proofs.lemmas.List.Elements.{All-cons, All-head, All-tail, All-weaker}
use Rattle.std.proofs.lemmas.List.{length-map}
use Rattle.air_base.specs.declared.limits.TheConstants.{MOST_DISKS, MOST_FULL_ITEMS, MOST_ITEMS}
use Rattle.air_model.specs.Buckets.{has_ages}
use Rattle.air_model.specs.Disks.{Disk, DiskSpec, all_items, cut, order}
use Rattle.air_model.specs.Decks.{Deck, IsDeck, Item, count_editions, disks_in, no_replan, rates_in, specs_in}
use Rattle.air_model.proofs.ItemOrder.{cut_airable, cut_items, length-order, order_only}
use Rattle.item_catalog.specs.DeckLimits.{DiskWithin, WithinLimits}
use Rattle.chunk_program.specs.CutConditions.{AreDeckDisks, IsCuttable}

length-cut : (items : List ℕ) (specs : List DiskSpec) → length (cut items specs) ≡ length specs
unfolding cut
length-cut items [] = refl
length-cut items (s ∷ specs) = ap suc (length-cut (drop s.size items) specs)

-- The cut of an edition has as many disks as the deck says.
pub length_disks_in : (deck : Deck) (e : ℕ) → length (disks_in deck e) ≡ length (specs_in deck e)
length_disks_in deck e = length-cut (order (rates_in deck)) (specs_in deck e)

cut_freqs : (items : List ℕ) (specs : List DiskSpec) → All (λ (s : DiskSpec). s.freq ≤ 64) specs → All (λ (d : Disk). d.freq ≤ 64) (cut items specs)
unfolding cut
cut_freqs items [] few = λ k d below. absurd (omega arith)
cut_freqs items (s ∷ specs) few = All-cons (λ (d : Disk). d.freq ≤ 64) _ (cut (drop s.size items) specs) (All-head (λ (s : DiskSpec). s.freq ≤ 64) s specs few)
    (cut_freqs (drop s.size items) specs (All-tail (λ (s : DiskSpec). s.freq ≤ 64) s specs few))

module _ (rates : List ℕ) (specs : List DiskSpec) (fits : IsCuttable rates specs) where
  pub cut_whole : all_items (cut (order rates) specs) ≡ order rates
  cut_whole = cut_items (order rates) specs (let sizes = fits.sizes in let long = length-order rates in omega arith)

  pub cut_length : length (all_items (cut (order rates) specs)) ≡ length rates
  cut_length = ap length cut_whole ∙ length-order rates

  numbers : (i : ℕ) → Contains (all_items (cut (order rates) specs)) i ↔ (i < length (all_items (cut (order rates) specs)))
  numbers i =
      let own = ((order_only rates (order rates)).1 refl).members i in (
        (λ c. subst (λ n. i < n) (sym cut_length) (own.0 (subst (λ l. Contains l i) cut_whole c))),
        (λ below. subst (λ l. Contains l i) (sym cut_whole) (own.1 (subst (λ n. i < n) cut_length below))),
      )

  pub cut_limits : AreDeckDisks (cut (order rates) specs)
  cut_limits = record {
    airable = cut_airable rates specs fits.aired;
    numbers = numbers;
    some = (let some = fits.some in let long = cut_length in omega arith);
    few = (let few = fits.few in let long = cut_length in omega arith);
    eight = (let few = fits.disks in let long = length-cut (order rates) specs in omega arith);
    freqs = cut_freqs (order rates) specs fits.freqs;
  }

-- A deck has no more items than any version takes.
few_items : (deck : Deck) → IsDeck deck → length deck.items ≤ MOST_ITEMS
few_items deck made = by (has_ages deck.settings.version) made.most
  where
    by : (b : Bool) → length deck.items ≤ (if b then MOST_ITEMS else MOST_FULL_ITEMS) → length deck.items ≤ MOST_ITEMS
    by true most = most
    by false most = omega arith

-- The disks of an edition are few, and each is within its limits.
edition_few : (deck : Deck) (e : ℕ) → WithinLimits deck → e < count_editions deck → length (specs_in deck e) ≤ MOST_DISKS
edition_few deck zero within below = within.disks
edition_few deck (suc k) within below = (within.replans k no_replan (omega arith)).disks

edition_within : (deck : Deck) (e : ℕ) → WithinLimits deck → e < count_editions deck → All DiskWithin (specs_in deck e)
edition_within deck zero within below = within.disk
edition_within deck (suc k) within below = (within.replans k no_replan (omega arith)).disk

-- What a well-made deck within the limits gives.
pub deck_cuttable : (deck : Deck) (e : ℕ) → IsDeck deck → WithinLimits deck → e < count_editions deck → IsCuttable (rates_in deck) (specs_in deck e)
deck_cuttable deck e made within below = record {
  some = (let some = made.some in omega (arith, length-map {A = Item} {B = ℕ}));
  few = (let most = few_items deck made in omega (arith, length-map {A = Item} {B = ℕ}));
  disks = edition_few deck e within below;
  sizes = made.sizes e below ∙ sym (length-map deck.items (λ (i : Item). i.rate));
  aired = All-weaker (λ (d : DiskSpec). (0 < d.size) × (0 < d.freq)) (λ (d : DiskSpec). 0 < d.freq) (λ d both. both.1) (specs_in deck e) (made.aired e below);
  freqs = All-weaker DiskWithin (λ (d : DiskSpec). d.freq ≤ 64) (λ d both. both.freq) (specs_in deck e) (edition_within deck e within below);
}

pub deck_limits : (deck : Deck) (e : ℕ) → IsDeck deck → WithinLimits deck → e < count_editions deck → AreDeckDisks (disks_in deck e)
deck_limits deck e made within below = cut_limits (rates_in deck) (specs_in deck e) (deck_cuttable deck e made within below)

-- The program of an edition has the deck's items.
pub deck_items : (deck : Deck) (e : ℕ) → IsDeck deck → WithinLimits deck → e < count_editions deck → length (all_items (disks_in deck e)) ≡ length deck.items
deck_items deck e made within below =
    cut_length (rates_in deck) (specs_in deck e) (deck_cuttable deck e made within below) ∙ length-map deck.items (λ (i : Item). i.rate)

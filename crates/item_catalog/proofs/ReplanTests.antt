-- No kind of fault applies to the replans of a deck that is well made and within the limits.
use Rattle.std.proofs.Common.{◌≡◌, ◌<◌, ◌≤◌, ◌+◌, ◌^◌, ◌∷◌, [], ℕ, suc, List, Option, Some, None, true, false, not, refl, ap, ◌∙◌, sym, subst, length, map, get_or, nat_le, arith, length-append}
use Rattle.std.specs.Prelude.{◌==◌, ◌||◌, All, AllPairs, sum_by}
use Rattle.std.specs.List.{list_any}
use Rattle.std.proofs.lemmas.List.{get_or_default, length-map}
use Rattle.std.proofs.lemmas.List.Elements.{All-head, All-map, All-tail}
use Rattle.std.proofs.lemmas.List.Folds.{list_any_none}
use Rattle.std.proofs.lemmas.List.Sums.{sum_by-cons}
use Rattle.air_base.specs.declared.limits.TheConstants.{MOST_CYCLES, MOST_DISKS, MOST_FREQ, MOST_REPLANS, MOST_SIZE}
use Rattle.air_model.specs.Disks.{DiskSpec}
use Rattle.air_model.specs.Decks.{Deck, IsDeck, Replan, no_replan}
use Rattle.item_catalog.specs.DeckLimits.{DiskWithin, ReplanWithin, WithinLimits}
use Rattle.item_catalog.specs.DeckTexts.{replan_declaration}
use Rattle.item_catalog.specs.Faults.{differs_from, replan_tests}
use Rattle.item_catalog.specs.ListTests.{option_any}
use Rattle.item_catalog.specs.Parts.{ReplanSaid}
use Rattle.item_catalog.specs.Private.Drafts.{DraftValue, with_declaration}
use Rattle.item_catalog.specs.Ranges.{outside}
use Rattle.item_catalog.specs.RecordKinds.{first_of}
use Rattle.item_catalog.specs.declared.faults.FaultKind.TheVariants as fault
use Rattle.item_catalog.specs.declared.parts.DiskPart.{DiskPart}
use Rattle.item_catalog.proofs.DeckDrafts.{disk_part, replan_part}
use Rattle.item_catalog.proofs.DeclarationTexts.{SmallNumber}
use Rattle.item_catalog.proofs.DraftSteps.{Passes}
use Rattle.item_catalog.proofs.TestLemmas.{neither, none_two, not_outside, not_reached}

abbrev pub Aired : DiskSpec → Type 0
Aired disk = (0 < disk.size) × (0 < disk.freq)

-- The sizes and frequencies of valid disks.
module _ (disks : List DiskSpec) (aired : All Aired disks) (within : All DiskWithin disks) where
  abbrev sizes : List ℕ
  sizes = map (λ d. d.size) disks

  abbrev freqs : List (Option ℕ)
  freqs = map (λ d. Some d.freq) disks

  sizes_right : list_any (outside 1 MOST_SIZE) sizes ≡ false
  sizes_right = list_any_none (outside 1 MOST_SIZE) sizes
      (All-map (λ s. outside 1 MOST_SIZE s ≡ false) (λ (d : DiskSpec). d.size) disks (λ i x below. not_outside 1 MOST_SIZE (get_or disks i x).size (let some = (aired i x below).0 in omega arith) (within i x below).size))

  freqs_right : list_any (option_any (outside 1 MOST_FREQ)) freqs ≡ false
  freqs_right = list_any_none (option_any (outside 1 MOST_FREQ)) freqs
      (All-map (λ f. option_any (outside 1 MOST_FREQ) f ≡ false) (λ (d : DiskSpec). Some d.freq) disks (λ i x below. not_outside 1 MOST_FREQ (get_or disks i x).freq (let some = (aired i x below).1 in omega arith) (within i x below).freq))

  sizes_small : All (λ s. s < 2 ^ 64) sizes
  sizes_small = All-map (λ s. s < 2 ^ 64) (λ (d : DiskSpec). d.size) disks (λ i x below. let most = (within i x below).size in omega arith)

  freqs_small : All SmallNumber freqs
  freqs_small = All-map SmallNumber (λ (d : DiskSpec). Some d.freq) disks (λ i x below. let most = (within i x below).freq in omega arith)

  as_many : (length sizes == length freqs) ≡ true
  as_many = let a = length-map disks (λ (d : DiskSpec). d.size) in let b = length-map disks (λ (d : DiskSpec). Some d.freq) in let same : length sizes ≡ length freqs = omega (arith, a, b) in grind arith

  replan_none : (replans last cycle : ℕ) → replans < MOST_REPLANS → 2 ≤ cycle → cycle ≤ MOST_CYCLES → last < cycle → 0 < length disks → length disks ≤ MOST_DISKS → first_of (replan_tests replans last cycle sizes freqs) ≡ None
  replan_none replans last cycle few low high later some most =
      let many = nat_le MOST_REPLANS replans in let outer = outside 2 MOST_CYCLES cycle in let early = nat_le cycle last in let count = outside 1 MOST_DISKS (length sizes) in
      let wrong_size = list_any (outside 1 MOST_SIZE) sizes in let wrong_freq = list_any (option_any (outside 1 MOST_FREQ)) freqs in
      let long = length-map disks (λ (d : DiskSpec). d.size) in
      none_two fault.Limit fault.Lengths (many || outer || early || count || wrong_size || wrong_freq) (not (length sizes == length freqs))
      (neither (many || outer || early || count || wrong_size) wrong_freq
      (neither (many || outer || early || count) wrong_size
      (neither (many || outer || early) count
      (neither (many || outer) early (neither many outer (not_reached MOST_REPLANS replans few) (not_outside 2 MOST_CYCLES cycle low high)) (not_reached cycle last later))
      (not_outside 1 MOST_DISKS (length sizes) (omega (arith, long)) (omega (arith, long))))
      sizes_right)
      freqs_right)
      (ap not as_many)

-- A replan with disks that take n items.
record IsRight (n : ℕ) (r : Replan) : Type 0 where
  from_two : 2 ≤ r.cycle
  within_a_run : r.cycle ≤ MOST_CYCLES
  sizes : sum_by (λ d. d.size) r.disks ≡ n
  aired : All Aired r.disks
  limits : ReplanWithin r

pub some_disk : (disks : List DiskSpec) → 0 < sum_by (λ (d : DiskSpec). d.size) disks → 0 < length disks
some_disk [] some = absurd (omega arith)
some_disk (disk ∷ disks) some = omega arith

passes : (n : ℕ) → 0 < n → (replans : List Replan) (d : DraftValue) → length d.replans + length replans ≤ MOST_REPLANS → All (IsRight n) replans → AllPairs (λ a b. a.cycle < b.cycle) replans → All (λ r. d.last_replan_cycle < r.cycle) replans
    → Passes d (map replan_declaration replans)
passes n some [] d few right rising later = tt
passes n some (r ∷ replans) d few right rising later =
    let is = All-head (IsRight n) r replans right in let above = All-head (λ (r : Replan). d.last_replan_cycle < r.cycle) r replans later in
    let disks = is.limits.disks in let high = is.within_a_run in let whole = is.sizes in (
      (omega arith, sizes_small r.disks is.aired is.limits.disk, freqs_small r.disks is.aired is.limits.disk),
      replan_none r.disks is.aired is.limits.disk (length d.replans) d.last_replan_cycle r.cycle (omega arith) is.from_two high above (some_disk r.disks (omega arith)) disks,
      passes n some replans (with_declaration d (replan_declaration r)) (omega (arith, length-append {A = ReplanSaid})) (All-tail (IsRight n) r replans right)
          (λ i j x less below. rising (suc i) (suc j) x (omega arith) (omega arith)) (λ i x below. rising 0 (suc i) x (omega arith) (omega arith)),
    )

module _ (deck : Deck) (made : IsDeck deck) (within : WithinLimits deck) where
  all_right : All (IsRight (length deck.items)) deck.replans
  all_right i x below = record {
    from_two = made.from_two i x below;
    within_a_run = made.within_a_run i x below;
    sizes = subst (λ (r : Replan). sum_by (λ d. d.size) r.disks ≡ length deck.items) (same i x below) (made.sizes (suc i) (omega arith));
    aired = subst (λ (r : Replan). All Aired r.disks) (same i x below) (made.aired (suc i) (omega arith));
    limits = within.replans i x below;
  }
    where
      same : (i : ℕ) (x : Replan) → i < length deck.replans → get_or deck.replans i no_replan ≡ get_or deck.replans i x
      same i x below = get_or_default deck.replans i no_replan x below

  pub replans_pass : (d : DraftValue) → length d.replans ≡ 0 → d.last_replan_cycle ≡ 0 → Passes d (map replan_declaration deck.replans)
  replans_pass d none first =
      let few = made.few in
      passes (length deck.items) made.some deck.replans d (omega arith) all_right made.rising (λ i x below. let low = made.from_two i x below in omega arith)

  -- The sizes of both have one sum.
  sizes_same : (disks : List DiskSpec) → sum_by (λ (d : DiskPart). d.size) (map disk_part disks) ≡ sum_by (λ (d : DiskSpec). d.size) disks
  sizes_same [] = refl
  sizes_same (disk ∷ disks) =
      sum_by-cons (λ (d : DiskPart). d.size) (disk_part disk) (map disk_part disks) ∙ ap (λ s. disk.size + s) (sizes_same disks) ∙ sym (sum_by-cons (λ (d : DiskSpec). d.size) disk disks)

  pub adds_up : (n : ℕ) (disks : List DiskSpec) → sum_by (λ (d : DiskSpec). d.size) disks ≡ n → differs_from n (map disk_part disks) ≡ false
  adds_up n disks whole = let same : sum_by (λ (d : DiskPart). d.size) (map disk_part disks) ≡ n = sizes_same disks ∙ whole in let one : (sum_by (λ (d : DiskPart). d.size) (map disk_part disks) == n) ≡ true = grind arith in ap not one

  pub none_differs : (n : ℕ) → n ≡ length deck.items → list_any (λ (r : ReplanSaid). differs_from n r.disks) (map replan_part deck.replans) ≡ false
  none_differs n all = list_any_none (λ (r : ReplanSaid). differs_from n r.disks) (map replan_part deck.replans)
      (All-map (λ (r : ReplanSaid). differs_from n r.disks ≡ false) replan_part deck.replans (λ i x below. adds_up n (get_or deck.replans i x).disks ((all_right i x below).sizes ∙ sym all)))

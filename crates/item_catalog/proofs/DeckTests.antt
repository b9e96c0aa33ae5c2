-- No kind of fault applies to the declarations of a deck that is well made and within the limits.
use Rattle.std.proofs.Common.{◌≡◌, ◌⊎◌, ◌<◌, ◌≤◌, ◌+◌, ◌^◌, ◌++◌, ◌∷◌, [], ℕ, Bool, List, Some, None, true, false, if◌then◌else◌, inl, inr, not, refl, sym, ap, ◌∙◌, length, map, nat_le, nat_lt, subst, arith, length-append}
use Rattle.std.specs.Prelude.{◌==◌, ◌||◌, ◌&&◌, All, sum_by}
use Rattle.std.specs.List.{enumerate_from, list_any}
use Rattle.std.proofs.lemmas.Bool.{and_right}
use Rattle.std.proofs.lemmas.List.{length-map}
use Rattle.std.proofs.lemmas.List.Elements.{All-head, All-tail}
use Rattle.std.proofs.lemmas.List.FromFn.{length-enumerate_from}
use Rattle.std.proofs.lemmas.List.Sums.{sum_by-cons}
use Rattle.air_base.specs.declared.limits.TheConstants.{MOST_AGE, MOST_ASKED, MOST_DISKS, MOST_FREQ, MOST_FULL_ITEMS, MOST_ITEMS, MOST_QUERIES, MOST_RATE, MOST_READERS, MOST_ROOM, MOST_SIZE, MOST_TRIES}
use Rattle.air_history.specs.UpdateRules.{has_repeat}
use Rattle.air_model.specs.declared.deck.ReaderPlan.{ReaderPlan}
use Rattle.air_model.specs.Disks.{DiskSpec}
use Rattle.air_model.specs.Decks.{Deck, IsDeck, IsQuery, Item}
use Rattle.air_base.specs.declared.verdicts.Policy.{Policy}
use Rattle.air_base.specs.declared.verdicts.Policy.TheVariants.{FMatrix}
use Rattle.air_model.specs.Aired.{airs_columns}
use Rattle.air_model.specs.Buckets.{has_ages, most_count}
use Rattle.item_catalog.specs.ListTests.{reaches}
use Rattle.item_catalog.specs.Parts.{ReplanSaid}
use Rattle.item_catalog.specs.RecordKinds.{first_of}
use Rattle.item_catalog.specs.Declarations as e
use Rattle.item_catalog.specs.DeckLimits.{DiskWithin, ReaderWithin, SettingsWithin, WithinLimits}
use Rattle.item_catalog.specs.Private.Drafts.{DraftValue, draft_of, with_declaration}
use Rattle.item_catalog.specs.Faults.{differs_from, end_tests, query_tests}
use Rattle.item_catalog.specs.Ranges.{outside}
use Rattle.item_catalog.specs.Settings.{groups_vectors}
use Rattle.item_catalog.specs.declared.faults.FaultKind.TheVariants as fault
use Rattle.item_catalog.specs.DeckTexts.{all_set, deck_declarations, disk_declaration, item_declaration, query_declarations, reader_declaration, replan_declaration, update_declarations}
use Rattle.item_catalog.proofs.DraftSteps.{Passes, passes_both, with_all}
use Rattle.item_catalog.proofs.DeckDrafts.{after_disks, after_items, after_queries, after_readers, after_replans, after_updates, all_queries_added, all_updates_added, disk_part, disk_parts, disks_added, item_part, item_parts, items_added, more_updaters, readers_added, replan_parts, replans_added}
use Rattle.item_catalog.proofs.TestLemmas.{all_reached, neither, none_one, none_three, none_two, not_less, not_outside, not_reached}
use Rattle.item_catalog.proofs.ReplanTests.{Aired, adds_up, none_differs, replans_pass, some_disk}
use Rattle.item_catalog.proofs.UpdateTests.{updates_pass}
use Rattle.item_catalog.proofs.ScriptTests.{committed, script_none, small_events}

-- ---- items and disks

items_pass : (items : List Item) (d : DraftValue) (k : ℕ) → length d.items ≡ k → k + length items ≤ MOST_ITEMS → All (λ i. i.value < 2 ^ 64) items → All (λ i. i.rate ≤ MOST_RATE) items
    → Passes d (map item_declaration (enumerate_from k items))
items_pass [] d k at few values rates = tt
items_pass (i ∷ items) d k at few values rates =
    let rate = All-head (λ (i : Item). i.rate ≤ MOST_RATE) i items rates in
    let id : (k == length d.items) ≡ true = grind arith in (
      (omega arith, All-head (λ (i : Item). i.value < 2 ^ 64) i items values, omega arith),
      none_two fault.Id fault.Limit (not (k == length d.items)) (nat_lt MOST_RATE i.rate || nat_le MOST_ITEMS (length d.items)) (ap not id)
          (neither (nat_lt MOST_RATE i.rate) (nat_le MOST_ITEMS (length d.items)) (not_less MOST_RATE i.rate rate) (not_reached MOST_ITEMS (length d.items) (omega arith))),
      items_pass items (with_declaration d (item_declaration (k, i))) (k + 1) (omega (arith, length-append d.items (record { value = i.value; rate = i.rate } ∷ []))) (omega arith)
          (All-tail (λ (i : Item). i.value < 2 ^ 64) i items values) (All-tail (λ (i : Item). i.rate ≤ MOST_RATE) i items rates),
    )

disks_pass : (disks : List DiskSpec) (d : DraftValue) → length d.disks + length disks ≤ MOST_DISKS → All Aired disks → All DiskWithin disks → Passes d (map disk_declaration disks)
disks_pass [] d few aired within = tt
disks_pass (disk ∷ disks) d few aired within =
    let a = All-head Aired disk disks aired in let w = All-head DiskWithin disk disks within in
    let size = w.size in let freq = w.freq in (
      (omega arith, omega arith),
      none_one fault.Limit (outside 1 MOST_SIZE disk.size || outside 1 MOST_FREQ disk.freq || nat_le MOST_DISKS (length d.disks))
          (neither (outside 1 MOST_SIZE disk.size || outside 1 MOST_FREQ disk.freq) (nat_le MOST_DISKS (length d.disks))
          (neither (outside 1 MOST_SIZE disk.size) (outside 1 MOST_FREQ disk.freq) (not_outside 1 MOST_SIZE disk.size (omega arith) size) (not_outside 1 MOST_FREQ disk.freq (omega arith) freq))
          (not_reached MOST_DISKS (length d.disks) (omega arith))),
      disks_pass disks (with_declaration d (disk_declaration disk)) (omega (arith, length-append d.disks (record { size = disk.size; freq = Some disk.freq } ∷ [])))
          (All-tail Aired disk disks aired) (All-tail DiskWithin disk disks within),
    )

-- ---- readers and queries

abbrev Tries : ReaderPlan → Type 0
Tries r = 1 ≤ r.tries

readers_pass : (readers : List ReaderPlan) (d : DraftValue) → length d.readers + length readers ≤ MOST_READERS → All Tries readers → All ReaderWithin readers → Passes d (map reader_declaration readers)
readers_pass [] d few tries within = tt
readers_pass (r ∷ readers) d few tries within =
    let t = All-head Tries r readers tries in let w = All-head ReaderWithin r readers within in
    let room = w.room in let age = w.age in let most = w.tries in (
      (omega arith, omega arith, omega arith),
      none_one fault.Limit (nat_lt MOST_ROOM r.room || nat_lt MOST_AGE r.age || outside 1 MOST_TRIES r.tries || nat_le MOST_READERS (length d.readers))
          (neither (nat_lt MOST_ROOM r.room || nat_lt MOST_AGE r.age || outside 1 MOST_TRIES r.tries) (nat_le MOST_READERS (length d.readers))
          (neither (nat_lt MOST_ROOM r.room || nat_lt MOST_AGE r.age) (outside 1 MOST_TRIES r.tries)
          (neither (nat_lt MOST_ROOM r.room) (nat_lt MOST_AGE r.age) (not_less MOST_ROOM r.room room) (not_less MOST_AGE r.age age))
          (not_outside 1 MOST_TRIES r.tries t most))
          (not_reached MOST_READERS (length d.readers) (omega arith))),
      readers_pass readers (with_declaration d (reader_declaration r)) (omega (arith, length-append d.readers (record { room = r.room; age = r.age; tries = r.tries } ∷ [])))
          (All-tail Tries r readers tries) (All-tail ReaderWithin r readers within),
    )

abbrev Short : List ℕ → Type 0
Short items = length items ≤ MOST_ASKED

asked_pass : (n m reader : ℕ) → n ≤ MOST_ITEMS → m ≤ MOST_READERS → reader < m → (own : List (List ℕ)) (d : DraftValue) → length d.items ≡ n → length d.readers ≡ m → d.query_count + length own ≤ MOST_QUERIES
    → All (IsQuery n) own → All Short own → Passes d (map (e.DeclaredQuery reader) own)
asked_pass n m reader few most low [] d at by room all short = tt
asked_pass n m reader few most low (items ∷ own) d at by room all short =
    let is = All-head (IsQuery n) items own all in let s = All-head Short items own short in
    let filled = is.filled in (
      (omega arith, (λ k d below. let i = is.within k d below in omega arith)),
      ap (λ n. first_of (query_tests n (length d.readers) d.query_count reader items)) at ∙ ap (λ m. first_of (query_tests n m d.query_count reader items)) by
          ∙ none_three fault.Undeclared fault.Twice fault.Limit (nat_le m reader || reaches n items) (has_repeat items) (outside 1 MOST_ASKED (length items) || nat_le MOST_QUERIES d.query_count)
          (neither (nat_le m reader) (reaches n items) (not_reached m reader low) (all_reached n items is.within))
          is.distinct
          (neither (outside 1 MOST_ASKED (length items)) (nat_le MOST_QUERIES d.query_count) (not_outside 1 MOST_ASKED (length items) (omega arith) s) (not_reached MOST_QUERIES d.query_count (omega arith))),
      asked_pass n m reader few most low own (with_declaration d (e.DeclaredQuery reader items)) at by (omega arith) (All-tail (IsQuery n) items own all) (All-tail Short items own short),
    )

asked_counts : (reader : ℕ) (own : List (List ℕ)) (d : DraftValue)
    → (length (with_all d (map (e.DeclaredQuery reader) own)).items ≡ length d.items) × (length (with_all d (map (e.DeclaredQuery reader) own)).readers ≡ length d.readers)
    × ((with_all d (map (e.DeclaredQuery reader) own)).query_count ≡ d.query_count + length own)
asked_counts reader [] d = (refl, refl, omega arith)
asked_counts reader (q ∷ own) d = let more = asked_counts reader own (with_declaration d (e.DeclaredQuery reader q)) in (more.0, more.1, more.2 ∙ omega arith)

queries_pass : (n m : ℕ) → n ≤ MOST_ITEMS → m ≤ MOST_READERS → (lists : List (List (List ℕ))) (d : DraftValue) (from : ℕ) → length d.items ≡ n → length d.readers ≡ m → from + length lists ≤ m
    → d.query_count + sum_by length lists ≤ MOST_QUERIES → All (All (IsQuery n)) lists → All (All Short) lists → Passes d (query_declarations from lists)
queries_pass n m few most [] d from at by low room all short = tt
queries_pass n m few most (own ∷ lists) d from at by low room all short =
    let counts = asked_counts from own d in
    let sum = sum_by-cons (λ (l : List (List ℕ)). length l) own lists in
    passes_both d (map (e.DeclaredQuery from) own) (query_declarations (from + 1) lists)
    (asked_pass n m from few most (omega arith) own d at by (omega arith) (All-head (All (IsQuery n)) own lists all) (All-head (All Short) own lists short))
    (queries_pass n m few most lists (with_all d (map (e.DeclaredQuery from) own)) (from + 1) (counts.0 ∙ at) (counts.1 ∙ by) (omega arith) (omega (arith, counts.2))
    (All-tail (All (IsQuery n)) own lists all) (All-tail (All Short) own lists short))

-- ---- the settings

version_range : (v : ℕ) → (v ≡ 1) ⊎ (v ≡ 2) → (1 ≤ v) × (v ≤ 2)
version_range v (inl one) = (omega arith, omega arith)
version_range v (inr two) = (omega arith, omega arith)

set_passes : (deck : Deck) → (deck.settings.version ≡ 1) ⊎ (deck.settings.version ≡ 2) → SettingsWithin deck.settings → Passes (with_declaration (after_queries deck) (e.DeclaredScript deck.script)) (map e.DeclaredSetting (all_set deck.settings))
set_passes deck known w =
    let seed = w.seed in
    (tt, refl, (version_range deck.settings.version known, refl, ((omega arith, w.group), refl, ((omega arith, w.cycles), refl, ((omega arith, omega arith), refl, ((omega arith, w.loss), refl, ((omega arith, w.again), refl, ((omega arith, w.late), refl, ((omega arith, w.monitors), refl, ((w.some_hears, w.hears), refl, tt))))))))))

-- ---- the end

-- Groups under F-Matrix alone aren't refused.
columns_grouped : (p : Policy) (g : ℕ) → (p ≡ FMatrix) ⊎ (g ≡ 0) → (nat_lt 0 g && not (airs_columns p)) ≡ false
columns_grouped p g (inl same) = ap (λ p. nat_lt 0 g && not (airs_columns p)) same ∙ and_right (nat_lt 0 g) false refl
columns_grouped p g (inr none) = ap (λ g. nat_lt 0 g && not (airs_columns p)) none

-- ---- the whole deck

module _ (deck : Deck) (made : IsDeck deck) (within : WithinLimits deck) where
  few_items : length deck.items ≤ MOST_ITEMS
  few_items = by (has_ages deck.settings.version) made.most
    where
      by : (b : Bool) → length deck.items ≤ (if b then MOST_ITEMS else MOST_FULL_ITEMS) → length deck.items ≤ MOST_ITEMS
      by true few = few
      by false few = omega arith

  items_long : length (item_parts deck) ≡ length deck.items
  items_long = length-map (enumerate_from 0 deck.items) item_part ∙ length-enumerate_from 0 deck.items

  pub few_queries : length deck.queries ≤ MOST_READERS
  few_queries = let few = within.readers in let same = made.readers in omega arith

  pub end_none : first_of (end_tests (length (item_parts deck)) (disk_parts deck) (replan_parts deck) (all_set deck.settings)) ≡ None
  end_none =
      let n = length (item_parts deck) in
      let own = differs_from n (disk_parts deck) in let other = list_any (λ (r : ReplanSaid). differs_from n r.disks) (replan_parts deck) in
      let some = made.some in let whole = made.sizes 0 (omega arith) in
      let sizes : (own || other) ≡ false = neither own other (adds_up deck made within n deck.disks (whole ∙ sym items_long)) (none_differs deck made within n items_long) in
      let items : (n == 0) ≡ false = let more : 0 < n = omega (arith, items_long) in grind arith in
      let disks : (length (disk_parts deck) == 0) ≡ false =
      let more : 0 < length (disk_parts deck) = omega (arith, length-map deck.disks disk_part, some_disk deck.disks (omega arith)) in grind arith in
      let most = most_count deck.settings.version in
      let many : nat_lt most n ≡ false = not_less most n (let few = made.most in omega (arith, items_long)) in
      none_three fault.Sizes fault.Limit fault.Setting (own || other) (n == 0 || length (disk_parts deck) == 0 || nat_lt most n) (groups_vectors (all_set deck.settings)) sizes
      (neither (n == 0 || length (disk_parts deck) == 0) (nat_lt most n) (neither (n == 0) (length (disk_parts deck) == 0) items disks) many)
      (columns_grouped deck.settings.policy deck.settings.group made.grouped)

  pub deck_passes : Passes (draft_of []) (deck_declarations deck)
  deck_passes =
      let n = length deck.items in let few = few_items in
      let disks = within.disks in let updaters = within.updaters in let updates = within.updates in let readers = within.readers in let queries = within.queries in let same = made.readers in
      let known = committed deck.updates deck.script updaters made.script in
      let last = e.DeclaredScript deck.script ∷ map e.DeclaredSetting (all_set deck.settings) in
      let q = query_declarations 0 deck.queries ++ last in
      let r = map reader_declaration deck.readers ++ q in
      let u = update_declarations 0 deck.updates ++ r in
      let p = map replan_declaration deck.replans ++ u in
      let s = map disk_declaration deck.disks ++ p in
      let end : Passes (after_queries deck) last =
      (small_events deck.script known, script_none deck.updates (more_updaters deck) deck.script known made.script within.script within.starts, set_passes deck made.version within.settings) in
      let at_queries : Passes (after_readers deck) q = passes_both (after_readers deck) (query_declarations 0 deck.queries) last
      (queries_pass n (length deck.readers) few readers deck.queries (after_readers deck) 0 items_long refl (omega arith) (omega arith) made.queries within.query)
      (subst (λ d. Passes d last) (sym (all_queries_added deck few_queries)) end) in
      let at_readers : Passes (after_updates deck) r = passes_both (after_updates deck) (map reader_declaration deck.readers) q
      (readers_pass deck.readers (after_updates deck) (omega arith) made.tries within.reader) (subst (λ d. Passes d q) (sym (readers_added deck)) at_queries) in
      let at_updates : Passes (after_replans deck) u = passes_both (after_replans deck) (update_declarations 0 deck.updates) r
      (updates_pass n few deck.updates (after_replans deck) 0 items_long (omega arith) (omega arith) made.updates) (subst (λ d. Passes d r) (sym (all_updates_added deck updaters)) at_readers) in
      let at_replans : Passes (after_disks deck) p = passes_both (after_disks deck) (map replan_declaration deck.replans) u
      (replans_pass deck made within (after_disks deck) refl refl) (subst (λ d. Passes d u) (sym (replans_added deck)) at_updates) in
      let at_disks : Passes (after_items deck) s = passes_both (after_items deck) (map disk_declaration deck.disks) p
      (disks_pass deck.disks (after_items deck) (omega arith) (made.aired 0 (omega arith)) within.disk) (subst (λ d. Passes d p) (sym (disks_added deck)) at_replans) in
      passes_both (draft_of []) (map item_declaration (enumerate_from 0 deck.items)) s
      (items_pass deck.items (draft_of []) 0 refl (omega arith) made.values within.rates) (subst (λ d. Passes d s) (sym (items_added deck)) at_disks)

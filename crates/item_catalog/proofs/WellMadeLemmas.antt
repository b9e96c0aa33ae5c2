-- The deck of parts to which no kind applies is well made, and within the limits.
use Rattle.std.proofs.Common.{◌≡◌, ◌⊎◌, ◌<◌, ◌≤◌, ◌+◌, ◌*◌, ◌^◌, ◌∷◌, [], ℕ, zero, suc, List, Option, Some, None, Bool, true, false, cond, ◌∙◌, sym, subst, refl, ap, arith, map, get_or, length, take, nat_lt, inl, inr}
use Rattle.std.specs.Prelude.{◌==◌, ◌||◌, ◌&&◌, not, All, AllPairs, sum_by, unwrap_or}
use Rattle.std.specs.List.{list_any, range_with_len}
use Rattle.std.proofs.lemmas.Bool.{cases_lt}
use Rattle.std.proofs.lemmas.Bool.Decides.{nat_tests}
use Rattle.std.proofs.lemmas.List.{get_or-take, length-map, length-take-le}
use Rattle.std.proofs.lemmas.List.{get_or-map}
use Rattle.std.proofs.lemmas.List.Elements.{All-map}
use Rattle.std.proofs.lemmas.List.Sums.{sum_by-cons}
use Rattle.std.proofs.lemmas.Nat.{mul-le}
use Rattle.air_base.specs.declared.limits.TheConstants.{MOST_ASKED, MOST_CYCLES, MOST_DELTA, MOST_DISKS, MOST_FREQ, MOST_RATE, MOST_SIZE, MOST_UPDATERS}
use Rattle.air_base.specs.declared.verdicts.Policy.{Policy}
use Rattle.air_base.specs.declared.verdicts.Policy.TheVariants.{FMatrix, Datacycle, RMatrix}
use Rattle.air_model.specs.Aired.{airs_columns}
use Rattle.air_model.specs.Buckets.{most_count}
use Rattle.air_model.specs.Decks.{Deck, IsDeck, IsQuery, IsUpdate, Item, Replan, scripted_commits}
use Rattle.air_history.specs.UpdateLists.{UpdateLists}
use Rattle.air_model.specs.declared.deck.ReaderPlan.{ReaderPlan}
use Rattle.air_model.specs.declared.deck.Settings.{Settings}
use Rattle.item_catalog.specs.Parts.{ReplanSaid, queries_in, readers_in, updaters_in, updates_in}
use Rattle.air_model.specs.Disks.{DiskSpec}
use Rattle.item_catalog.specs.DeckLimits.{ReplanWithin, SettingsWithin, WithinLimits}
use Rattle.item_catalog.specs.Decks.{deck_of, plain_item, plain_replan, with_freqs}
use Rattle.item_catalog.specs.Private.Drafts.{DraftValue, deck_from, draft_of}
use Rattle.item_catalog.specs.Declarations.{Declaration}
use Rattle.item_catalog.specs.RecordKinds.{first_of}
use Rattle.item_catalog.specs.Faults.{differs_from, end_tests}
use Rattle.item_catalog.specs.ListTests.{option_any}
use Rattle.item_catalog.specs.Ranges.{outside}
use Rattle.item_catalog.specs.Settings.{default_of, groups_vectors, number_in, number_said, policy_in, range_of, same_name, settings_in}
use Rattle.item_catalog.specs.declared.faults.FaultKind.TheVariants as fault
use Rattle.item_catalog.specs.declared.parts.DiskPart.{DiskPart}
use Rattle.item_catalog.specs.declared.deck.draft.settings.Name.{Name}
use Rattle.item_catalog.specs.declared.deck.draft.settings.Name.TheVariants as n
use Rattle.item_catalog.specs.declared.deck.draft.settings.Setting.{Setting}
use Rattle.item_catalog.specs.declared.deck.draft.settings.Setting.TheVariants as setting
use Rattle.air_model.proofs.DeckLemmas.{by_editions}
use Rattle.item_catalog.proofs.DiskLemmas.{freqs_len}
use Rattle.item_catalog.proofs.DeclarationLemmas.{none_of_three, or_none}
use Rattle.item_catalog.proofs.KeptLemmas.{DiskKept, InRange, Kept, none_all}

-- ---- settings

same_named : (a b : Name) → same_name a b ≡ true → range_of a ≡ range_of b
same_named n.Delta n.Delta h = refl
same_named n.Version n.Version h = refl
same_named n.Group n.Group h = refl
same_named n.Cycles n.Cycles h = refl
same_named n.Seed n.Seed h = refl
same_named n.Loss n.Loss h = refl
same_named n.Again n.Again h = refl
same_named n.Late n.Late h = refl
same_named n.Monitors n.Monitors h = refl
same_named n.Hears n.Hears h = refl
same_named a b h = cc h

default_fits : (name : Name) → ((range_of name).0 ≤ default_of name) × (default_of name ≤ (range_of name).1)
default_fits n.Delta = (omega arith, omega arith)
default_fits n.Version = (omega arith, omega arith)
default_fits n.Group = (omega arith, omega arith)
default_fits n.Cycles = (omega arith, omega arith)
default_fits n.Seed = (omega arith, omega arith)
default_fits n.Loss = (omega arith, omega arith)
default_fits n.Again = (omega arith, omega arith)
default_fits n.Late = (omega arith, omega arith)
default_fits n.Monitors = (omega arith, omega arith)
default_fits n.Hears = (omega arith, omega arith)

pub number_fits : (name : Name) (set : List Setting) → All InRange set → ((range_of name).0 ≤ number_in name set) × (number_in name set ≤ (range_of name).1)
number_fits name [] all = default_fits name
number_fits name (s ∷ set) all = by s (all 0 s (omega arith)) (number_fits name set (λ k d below. all (suc k) d (omega arith)))
  where
    by : (s : Setting) → InRange s → ((range_of name).0 ≤ number_in name set) × (number_in name set ≤ (range_of name).1)
        → ((range_of name).0 ≤ unwrap_or (number_said name s) (number_in name set)) × (unwrap_or (number_said name s) (number_in name set) ≤ (range_of name).1)
    by (setting.Policy p) range more = more
    by (setting.Number other v) range more = at (same_name name other) refl
      where
        at : (b : Bool) → same_name name other ≡ b
            → ((range_of name).0 ≤ unwrap_or (cond b (Some v) None) (number_in name set)) × (unwrap_or (cond b (Some v) None) (number_in name set) ≤ (range_of name).1)
        at true e = subst (λ (r : ℕ × ℕ). (r.0 ≤ v) × (v ≤ r.1)) (sym (same_named name other e)) range
        at false e = more

one_or_two : (v : ℕ) → 1 ≤ v → v ≤ 2 → (v ≡ 1) ⊎ (v ≡ 2)
one_or_two zero low high = absurd (omega arith)
one_or_two (suc zero) low high = inl refl
one_or_two (suc (suc zero)) low high = inr refl
one_or_two (suc (suc (suc v))) low high = absurd (omega arith)

-- The version is one that exists.
known_version : (set : List Setting) → All InRange set → (number_in n.Version set ≡ 1) ⊎ (number_in n.Version set ≡ 2)
known_version set all = let fits = number_fits n.Version set all in one_or_two (number_in n.Version set) fits.0 fits.1

settings_fit : (set : List Setting) → All InRange set → SettingsWithin (settings_in set)
settings_fit set all =
    let seed = (number_fits n.Seed set all).1 in
    record {
      group = (number_fits n.Group set all).1;
      cycles = (number_fits n.Cycles set all).1;
      seed = omega arith;
      loss = (number_fits n.Loss set all).1;
      again = (number_fits n.Again set all).1;
      late = (number_fits n.Late set all).1;
      monitors = (number_fits n.Monitors set all).1;
      some_hears = (number_fits n.Hears set all).0;
      hears = (number_fits n.Hears set all).1;
    }

-- ---- disks

record SpecKept (d : DiskSpec) : Type 0 where
  some : 0 < d.size
  few : d.size ≤ MOST_SIZE
  often : 0 < d.freq
  seldom : d.freq ≤ MOST_FREQ

freq_fits : (after delta : ℕ) (freq : Option ℕ) → after < MOST_DISKS → delta ≤ MOST_DELTA → option_any (outside 1 MOST_FREQ) freq ≡ false → (0 < unwrap_or freq (after * delta + 1)) × (unwrap_or freq (after * delta + 1) ≤ MOST_FREQ)
freq_fits after delta None few small h = let m = mul-le after delta 7 9 (omega (arith, few)) small in (omega arith, omega arith)
freq_fits after delta (Some f) few small h = let both = or_none (nat_lt f 1) (nat_lt MOST_FREQ f) h in (grind (arith, nat_tests, both.0), grind (arith, nat_tests, both.1))

specs_kept : (delta : ℕ) (disks : List DiskPart) → delta ≤ MOST_DELTA → length disks ≤ MOST_DISKS → All DiskKept disks → All SpecKept (with_freqs delta disks)
specs_kept delta [] small few all k d below = absurd (omega arith)
specs_kept delta (disk ∷ disks) small few all zero d below =
    let one = all 0 disk (omega arith) in let f = freq_fits (length disks) delta disk.freq (omega arith) small one.freq in
    record { some = one.some; few = one.few; often = f.0; seldom = f.1 }
specs_kept delta (disk ∷ disks) small few all (suc k) d below = specs_kept delta disks small (omega arith) (λ i e inside. all (suc i) e (omega arith)) k d (omega arith)

sizes_same : (delta : ℕ) (disks : List DiskPart) → sum_by (λ d. d.size) (with_freqs delta disks) ≡ sum_by (λ d. d.size) disks
sizes_same delta [] = refl
sizes_same delta (disk ∷ disks) =
    let spec : DiskSpec = record { size = disk.size; freq = unwrap_or disk.freq (length disks * delta + 1) } in
    omega (arith, sizes_same delta disks, sum_by-cons (λ (d : DiskSpec). d.size) spec (with_freqs delta disks), sum_by-cons (λ (d : DiskPart). d.size) disk disks)

-- ---- lists of lists

all_take : {A : Type 0} (P : A → Type 0) (n : ℕ) (xs : List A) → All P xs → All P (take n xs)
all_take P zero xs all k d below = absurd (omega arith)
all_take P (suc n) [] all k d below = absurd (omega arith)
all_take P (suc n) (x ∷ xs) all zero d below = all 0 d (omega arith)
all_take P (suc n) (x ∷ xs) all (suc k) d below = all_take P n xs (λ i e inside. all (suc i) e (omega arith)) k d (omega arith)

sum_take : {A : Type 0} (f : A → ℕ) (n : ℕ) (xs : List A) → sum_by f (take n xs) ≤ sum_by f xs
sum_take f zero xs = omega arith
sum_take f (suc n) [] = omega arith
sum_take f (suc n) (x ∷ xs) = omega (arith, sum_take f n xs, sum_by-cons f x (take n xs), sum_by-cons f x xs)

take_for_each : {A : Type 0} (f : ℕ → A) (a n m : ℕ) → n ≤ m → take n (map f (range_with_len a m)) ≡ map f (range_with_len a n)
take_for_each f a zero m less = refl
take_for_each f a (suc n) zero less = absurd (omega arith)
take_for_each f a (suc n) (suc m) less = ap (λ l. f a ∷ l) (take_for_each f (a + 1) n m (omega arith))

-- ---- the deck

none_set : (g : ℕ) (b : Bool) → nat_lt 0 g ≡ b → (b && true) ≡ false → g ≡ 0
none_set g true e h = cc h
none_set g false e h = grind (arith, nat_tests, e)

-- What the end requires of the parts.
record Ended (d : DraftValue) : Type 0 where
  sizes : sum_by (λ x. x.size) d.disks ≡ length d.items
  replans : All (λ r. sum_by (λ x. x.size) r.disks ≡ length d.items) d.replans
  some : 0 < length d.items
  most : length d.items ≤ most_count (number_in n.Version d.set)
  grouped : (policy_in d.set ≡ FMatrix) ⊎ (number_in n.Group d.set ≡ 0)

adds_up : (n : ℕ) (disks : List DiskPart) → differs_from n disks ≡ false → sum_by (λ x. x.size) disks ≡ n
adds_up n disks h = grind (arith, nat_tests, h)

-- Groups come under F-Matrix alone.
grouped_from : (p : Policy) (g : ℕ) → (nat_lt 0 g && not (airs_columns p)) ≡ false → (p ≡ FMatrix) ⊎ (g ≡ 0)
grouped_from FMatrix g h = inl refl
grouped_from Datacycle g h = inr (none_set g (nat_lt 0 g) refl h)
grouped_from RMatrix g h = inr (none_set g (nat_lt 0 g) refl h)

ended : (d : DraftValue) → first_of (end_tests (length d.items) d.disks d.replans d.set) ≡ None → Ended d
ended d none =
    let most = most_count (number_in n.Version d.set) in
    let empty = length d.items == 0 || length d.disks == 0 in
    let own = differs_from (length d.items) d.disks in
    let some = list_any (λ (r : ReplanSaid). differs_from (length d.items) r.disks) d.replans in
    let t = none_of_three fault.Sizes fault.Limit fault.Setting (own || some) (empty || nat_lt most (length d.items)) (groups_vectors d.set) none in
    let sizes = or_none own some t.0 in
    let limits = or_none empty (nat_lt most (length d.items)) t.1 in
    let items = or_none (length d.items == 0) (length d.disks == 0) limits.0 in
    record {
      sizes = adds_up (length d.items) d.disks sizes.0;
      replans = λ i r below. adds_up (length d.items) (get_or d.replans i r).disks (none_all (λ (r : ReplanSaid). differs_from (length d.items) r.disks) d.replans sizes.1 i r below);
      some = grind (arith, nat_tests, items.0);
      most = grind (arith, nat_tests, limits.1);
      grouped = grouped_from (policy_in d.set) (number_in n.Group d.set) t.2;
    }

module _ (d : DraftValue) (k : Kept d) (end : first_of (end_tests (length d.items) d.disks d.replans d.set) ≡ None) where
  pub delta_small : number_in n.Delta d.set ≤ 9
  delta_small = (number_fits n.Delta d.set k.set).1

  specs : All SpecKept (with_freqs (number_in n.Delta d.set) d.disks)
  specs = specs_kept (number_in n.Delta d.set) d.disks delta_small k.disks.few k.disks.each

  replan_specs : All (λ r. All SpecKept (with_freqs (number_in n.Delta d.set) r.disks)) d.replans
  replan_specs i r below = let kept = (k.replans.each i r below).disks in specs_kept (number_in n.Delta d.set) (get_or d.replans i r).disks delta_small kept.few kept.each

  -- What holds of each replan's part holds of the replan.
  each_replan : (P : Replan → Type 0) → All (λ r. P (plain_replan (number_in n.Delta d.set) r)) d.replans → All P (deck_from d).replans
  each_replan P = All-map P (plain_replan (number_in n.Delta d.set)) d.replans

  rise : AllPairs (λ a b. a.cycle < b.cycle) (deck_from d).replans
  rise i j x less below =
      let f = plain_replan (number_in n.Delta d.set) in
      let inside : j < length d.replans = omega (arith, below, length-map d.replans f) in
      let part : ReplanSaid = record { cycle = 0; disks = [] } in
      let rising = k.replans.rising i j part less inside in
      let one = ap (λ (r : Replan). r.cycle) (get_or-map f d.replans i part x (omega arith)) in
      let other = ap (λ (r : Replan). r.cycle) (get_or-map f d.replans j part x inside) in
      omega (arith, rising, one, other)

  items_len : length (map plain_item d.items) ≡ length d.items
  items_len = length-map d.items plain_item

  updaters_len : length (take d.updaters d.updates) ≡ d.updaters
  updaters_len = length-take-le d.updaters d.updates (omega (arith, k.updates.few, k.updates.lists))

  queries_len : length (take (length d.readers) d.queries) ≡ length d.readers
  queries_len = length-take-le (length d.readers) d.queries (omega (arith, k.readers.few, k.queries.lists))

  fits : (by : ℕ) → scripted_commits by d.script ≤ length (get_or (take d.updaters d.updates) by [])
  fits by = elim (cases_lt by d.updaters) [
    | inl below ↦ let same = get_or-take d.updaters d.updates by [] below in omega (arith, k.script.fits by, ap length same)
    | inr past ↦ omega (arith, k.script.fits by, k.updates.past by past)
  ]

  pub made : IsDeck (deck_from d)
  made =
      let e = ended d end in
      record {
        some = let some = e.some in omega (arith, items_len);
        most = let most = e.most in omega (arith, items_len);
        values = All-map (λ (i : Item). i.value < 2 ^ 64) plain_item d.items (λ i x below. (k.items.each i x below).0);
        version = known_version d.set k.set;
        group = let few = (number_fits n.Group d.set k.set).1 in omega arith;
        grouped = e.grouped;
        sizes = by_editions (λ specs. sum_by (λ d. d.size) specs ≡ length (map plain_item d.items)) (deck_from d) (sizes_same (number_in n.Delta d.set) d.disks ∙ e.sizes ∙ sym items_len)
            (each_replan (λ r. sum_by (λ d. d.size) r.disks ≡ length (map plain_item d.items)) (λ i r below. sizes_same (number_in n.Delta d.set) (get_or d.replans i r).disks ∙ e.replans i r below ∙ sym items_len));
        aired = by_editions (All (λ d. (0 < d.size) × (0 < d.freq))) (deck_from d) (λ i x below. let s = specs i x below in (s.some, s.often))
            (each_replan (λ r. All (λ d. (0 < d.size) × (0 < d.freq)) r.disks) (λ i r below. λ j x inside. let s = replan_specs i r below j x inside in (s.some, s.often)));
        few = let few = k.replans.few in omega (arith, length-map d.replans (plain_replan (number_in n.Delta d.set)));
        from_two = each_replan (λ r. 2 ≤ r.cycle) (λ i r below. (k.replans.each i r below).from_two);
        within_a_run = each_replan (λ r. r.cycle ≤ MOST_CYCLES) (λ i r below. (k.replans.each i r below).within_a_run);
        rising = rise;
        updates = rw items_len (all_take (All (IsUpdate (length d.items))) d.updaters d.updates k.updates.each);
        readers = queries_len;
        tries = λ i x below. (k.readers.each i x below).some;
        queries = rw items_len (all_take (All (IsQuery (length d.items))) (length d.readers) d.queries (λ i x below. λ j y inside. (k.queries.each i x below j y inside).query));
        script = fits;
      }

  pub within : WithinLimits (deck_from d)
  within = record {
    rates = All-map (λ (i : Item). i.rate ≤ MOST_RATE) plain_item d.items (λ i x below. (k.items.each i x below).1);
    disks = let few = k.disks.few in omega (arith, freqs_len (number_in n.Delta d.set) d.disks);
    disk = λ i x below. let s = specs i x below in record { size = s.few; freq = s.seldom };
    replans = each_replan ReplanWithin (λ i r below. record {
      disks = let few = (k.replans.each i r below).disks.few in omega (arith, freqs_len (number_in n.Delta d.set) (get_or d.replans i r).disks);
      disk = λ j x inside. let s = replan_specs i r below j x inside in record { size = s.few; freq = s.seldom };
    });
    updaters = let few = k.updates.few in omega (arith, updaters_len);
    updates = let all = k.updates.all in let few = k.updates.few_in_all in omega (arith, sum_take length d.updaters d.updates);
    readers = k.readers.few;
    reader = λ i x below. (k.readers.each i x below).within;
    queries = let all = k.queries.all in let few = k.queries.few_in_all in omega (arith, sum_take length (length d.readers) d.queries);
    query = all_take (All (λ items. length items ≤ MOST_ASKED)) (length d.readers) d.queries (λ i x below. λ j y inside. (k.queries.each i x below j y inside).few);
    script = k.script.few;
    starts = k.script.few_starts;
    settings = settings_fit d.set k.set;
  }

-- The deck of the parts is the deck of the declarations.
same_deck : {i j : List Item} {d e : List DiskSpec} {u v : List (List UpdateLists)} {r s : List ReaderPlan} {q p : List (List (List ℕ))} {x y : List (Option ℕ)} {t w : Settings} {f : List Replan}
    → i ≡ j → d ≡ e → u ≡ v → r ≡ s → q ≡ p → x ≡ y → t ≡ w
    → ◌≡◌ {A = Deck} (record { items = i; disks = d; replans = f; updates = u; readers = r; queries = q; script = x; settings = t }) (record { items = j; disks = e; replans = f; updates = v; readers = s; queries = p; script = y; settings = w })
same_deck h1 h2 h3 h4 h5 h6 h7 = cc

pub deck_same : (es : List Declaration) → Kept (draft_of es) → deck_from (draft_of es) ≡ deck_of es
deck_same es k =
    same_deck refl refl (take_for_each (updates_in es) 0 (updaters_in es) MOST_UPDATERS k.updates.few) refl (take_for_each (queries_in es) 0 (length (readers_in es)) 64 k.readers.few) refl refl

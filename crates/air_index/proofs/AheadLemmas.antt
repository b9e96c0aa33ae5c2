-- What comes within the next cycle: each item, and an index.
use Rattle.std.proofs.Common.{◌≡◌, ◌≤◌, ◌<◌, inl, inr, ◌+◌, ◌*◌, ◌++◌, ℕ, zero, suc, zero-add, Bool, true, false, cond, Option, Some, None, List, [], ◌∷◌, drop, get_or, length, length-append, map, slice_get, refl, sym, subst, ◌∙◌, ap, arith}
use Rattle.std.specs.List.{Contains, count_by, flat_map, position_or_len, range_with_len}
use Rattle.std.proofs.lemmas.List.{get_or-append-add}
use Rattle.std.proofs.lemmas.List.FromFn.{get_or-map-range_with_len}
use Rattle.std.proofs.lemmas.List.Elements.{Contains-append_cases}
use Rattle.std.proofs.lemmas.List.Sums.{passes_at_first, sum_by-cons}
use Rattle.air_model.specs.Airings.{carries}
use Rattle.air_model.specs.Decks.{Deck, IsDeck, count_editions, disks_in, edition}
use Rattle.air_model.specs.Disks.{Disk, all_items}
use Rattle.air_model.specs.Programs.{minor_cycle, minor_len, num_minors, program}
use Rattle.air_model.proofs.EditionLemmas.{edition_within}
use Rattle.air_model.proofs.Elements.{all_at}
use Rattle.air_model.proofs.ProgramLemmas.{item_airings, length_program}
use Rattle.air_model.proofs.SlotPlaces.{length_even, length_minor}
use Rattle.item_catalog.specs.DeckLimits.{WithinLimits}
use Rattle.chunk_program.specs.CutConditions.{AreDeckDisks}
use Rattle.chunk_program.specs.Editions.{EditionDisks, edition_disks, no_disks, plans_in, programs_in}
use Rattle.chunk_program.proofs.CutLemmas.{deck_items, deck_limits}
use Rattle.chunk_program.proofs.EditionSteps.{edition_of}
use Rattle.air_index.specs.OnAir.{IsIndex, IsSlot, Mark, ahead, marks_at, marks_item, marks_of}
use Rattle.air_index.proofs.MarkLemmas.{item_found, long_with_index, marked_within, with_index}
use Rattle.air_index.proofs.PositionLemmas.{first_here, first_later, positive}

-- ---- an item of disks that can be aired

disk_with : (disks : List Disk) (i : ℕ) → Contains (all_items disks) i → (n : ℕ) × (d : Disk) × (slice_get disks n ≡ Some d) × Contains d.items i
unfolding all_items
disk_with [] i h = absurd (let l = h.1 in omega arith)
disk_with (d ∷ disks) i h = elim (Contains-append_cases d.items (all_items disks) i h) as (λ _. (n : ℕ) × (e : Disk) × (slice_get (d ∷ disks) n ≡ Some e) × Contains e.items i) [
  | inl here ↦ (0, d, refl, here)
  | inr rest ↦ (let (n, e, at, on) = disk_with disks i rest in (suc n, e, at, on))
]

-- What is counted comes.
counted_comes : (p : Option ℕ → Bool) (xs : List (Option ℕ)) → 0 < count_by p xs → position_or_len p xs < length xs
counted_comes p [] some = absurd (omega arith)
counted_comes p (x ∷ xs) some = by (p x) refl (counted_comes p xs)
  where
    by : (b : Bool) → p x ≡ b → (0 < count_by p xs → position_or_len p xs < length xs) → position_or_len p (x ∷ xs) < suc (length xs)
    by true e rest = let is = first_here p x xs e in omega arith
    by false e rest =
        let count = sum_by-cons (λ y. cond (p y) 1 0) x xs ∙ ap (λ b. cond b 1 0 + count_by p xs) e in
        let later = rest (omega arith) in
        let is = first_later p x xs e in omega arith

pub item_comes : (disks : List Disk) (i : ℕ) → AreDeckDisks disks → i < length (all_items disks) → position_or_len (carries i) (program disks) < length (program disks)
item_comes disks i are below =
    let (n, d, at, on) = disk_with disks i ((are.numbers i).1 below) in
    let aired : 0 < d.freq = all_at (λ (d : Disk). 0 < d.freq) disks n d are.airable.aired at in
    let times = item_airings disks n d i are.airable at on in
    counted_comes (carries i) (program disks) (omega arith)

-- ---- its mark

pub length_marks : (disks : List Disk) → length (marks_of disks) ≡ num_minors disks * (minor_len (num_minors disks) disks + 1)
unfolding marks_of with_index
length_marks disks =
    length_even (with_index (minor_cycle (num_minors disks) disks)) (minor_len (num_minors disks) disks + 1) 0 (num_minors disks)
    (long_with_index (minor_cycle (num_minors disks) disks) (minor_len (num_minors disks) disks) (length_minor (num_minors disks) disks))

pub item_marked : (disks : List Disk) (i : ℕ) → position_or_len (carries i) (program disks) < length (program disks) → position_or_len (marks_item i) (marks_of disks) < length (marks_of disks)
unfolding marks_of with_index program
item_marked disks i comes =
    let minors = num_minors disks in
    let len = minor_len (num_minors disks) disks in
    let p = position_or_len (carries i) (program disks) in
    let long = length_program disks in
    let some : 0 < len = (positive minors len p (omega arith)).1 in
    let found = item_found (minor_cycle minors disks) len (length_minor minors disks) some i 0 minors comes in
    let all = length_marks disks in
    let within = marked_within p len minors some (omega arith) in
    omega arith

pub item_is : (i : ℕ) (mark : Mark) → marks_item i mark ≡ true → mark ≡ IsSlot (Some i)
unfolding marks_item
item_is i (IsIndex m) e = cc e
item_is i (IsSlot None) e = cc e
item_is i (IsSlot (Some j)) e = let same : j ≡ i = grind arith in ap (λ k. IsSlot (Some k)) same

pub marks_contain : (disks : List Disk) (i : ℕ) → AreDeckDisks disks → i < length (all_items disks) → Contains (marks_of disks) (IsSlot (Some i))
marks_contain disks i are below =
    let marked = item_marked disks i (item_comes disks i are below) in
    let at = position_or_len (marks_item i) (marks_of disks) in
    (at, marked, item_is i (get_or (marks_of disks) at (IsSlot (Some i))) (passes_at_first (marks_item i) (marks_of disks) (IsSlot (Some i)) marked))

-- A cycle begins with the index of minor cycle 0.
pub first_mark : (disks : List Disk) → 1 ≤ num_minors disks → Contains (marks_of disks) (IsIndex 0)
unfolding marks_of
first_mark disks some = by (num_minors disks) some
  where
    by : (n : ℕ) → 1 ≤ n → Contains (flat_map (λ m. IsIndex m ∷ map IsSlot (minor_cycle (num_minors disks) disks m)) (range_with_len 0 n)) (IsIndex 0)
    by zero some = absurd (omega arith)
    by (suc n) some = (0, omega arith, refl)

contains_later : (xs ys : List Mark) (y : Mark) → Contains ys y → Contains (xs ++ ys) y
contains_later xs ys y h = (length xs + h.0, (let l = h.1 in let whole = length-append xs ys in omega arith), get_or-append-add xs ys h.0 y ∙ h.2)

-- ---- a deck's plans

deck_program : (deck : Deck) (e : ℕ) → e < count_editions deck → get_or (programs_in deck) e no_disks ≡ edition_disks deck e
deck_program deck e some =
    let at : get_or (map (edition_disks deck) (range_with_len 0 (count_editions deck))) e no_disks ≡ edition_disks deck (0 + e) =
    get_or-map-range_with_len (edition_disks deck) 0 (count_editions deck) e (0 + e) no_disks some refl in
    at ∙ ap (edition_disks deck) (zero-add e)

pub deck_marks : (deck : Deck) (c : ℕ) → marks_at (plans_in deck) c ≡ marks_of (disks_in deck (edition deck c))
deck_marks deck c =
    ap (λ e. marks_of (get_or (programs_in deck) e no_disks).disks) (edition_of deck (plans_in deck) c refl)
    ∙ ap (λ (p : EditionDisks). marks_of p.disks) (deck_program deck (edition deck c) (edition_within deck c))

pub ahead_in_deck : (deck : Deck) (c q i : ℕ) → IsDeck deck → WithinLimits deck → i < length deck.items
    → Contains (ahead (plans_in deck) c q) (IsSlot (Some i)) × Contains (ahead (plans_in deck) c q) (IsIndex 0)
unfolding ahead
ahead_in_deck deck c q i made within below =
    let e = edition deck (c + 1) in
    let some = edition_within deck (c + 1) in
    let are = deck_limits deck e made within some in
    let items = deck_items deck e made within some in
    let here : marks_at (plans_in deck) (c + 1) ≡ marks_of (disks_in deck e) = deck_marks deck (c + 1) in
    let minors = minors_some (disks_in deck e) i (item_comes (disks_in deck e) i are (omega arith)) in
    let rest = drop (q + 1) (marks_at (plans_in deck) c) in (
      contains_later rest (marks_at (plans_in deck) (c + 1)) (IsSlot (Some i)) (subst (λ l. Contains l (IsSlot (Some i))) (sym here) (marks_contain (disks_in deck e) i are (omega arith))),
      contains_later rest (marks_at (plans_in deck) (c + 1)) (IsIndex 0) (subst (λ l. Contains l (IsIndex 0)) (sym here) (first_mark (disks_in deck e) minors)),
    )
  where
    minors_some : (disks : List Disk) (i : ℕ) → position_or_len (carries i) (program disks) < length (program disks) → 1 ≤ num_minors disks
    minors_some disks i comes =
        let long = length_program disks in
        (positive (num_minors disks) (minor_len (num_minors disks) disks) (position_or_len (carries i) (program disks)) (omega arith)).0

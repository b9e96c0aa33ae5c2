-- What follows from a well made deck: events of legal histories fit and read their bases, slots have items of the catalog, and
-- queries aren't empty.
use Rattle.std.proofs.Common.{ap, ◌≡◌, ℕ, zero, suc, ◌%◌, ◌<◌, Bool, true, false, Option, Some, List, [], ◌∷◌, length, take, drop, get_or, All, sym, subst, inl, inr, arith}
use Rattle.std.specs.Prelude.{IfSome, fold, if◌then◌else◌}
use Rattle.std.specs.List.{flat_map, range_with_len, slice_get}
use Rattle.std.proofs.lemmas.Bool.{cases_lt}
use Rattle.std.proofs.lemmas.Option.{get_or_from_slice_get, slice_get-get_or, slice_get_within}
use Rattle.std.proofs.lemmas.List.{get_or_past, length-map}
use Rattle.std.proofs.lemmas.List.Elements.{All-append, All-cons, All-drop, All-head, All-map, All-nil, All-tail, All-take}
use Rattle.std.proofs.lemmas.List.FromFn.{get_or-range_with_len, length-range_with_len}
use Rattle.air_history.specs.declared.histories.Event.{Event}
use Rattle.air_history.specs.declared.histories.Event.TheVariants.{Commit, Start}
use Rattle.air_history.specs.UpdateLists.{UpdateLists}
use Rattle.air_history.specs.Histories.{EventFits, ItemsFit}
use Rattle.air_history.specs.Tables.{BasesRead}
use Rattle.air_model.specs.Disks.{Disk, DiskSpec, cut, is_hotter, order, order_with}
use Rattle.air_model.specs.Programs.{chunk, minor_cycle, num_chunks, num_minors, program}
use Rattle.air_model.specs.Decks.{Deck, IsDeck, IsLegal, IsQuery, IsUpdate, count_editions, disks_in, no_replan, rates_in, specs_in, updates_by}
use Rattle.air_model.specs.Aired.{SlotsFit, air_of}
use Rattle.air_model.specs.SessionLaws.{QueriesFilled}
use Rattle.air_model.specs.Sessions.{reader_of}
use Rattle.air_history.proofs.UpdateRuleLemmas.{bases_read}

-- What holds of all lists of a list of lists holds of the list at each place, also after the end.
all_at : {X : Type 0} (P : X → Type 0) (xss : List (List X)) → All (All P) xss → (n : ℕ) → All P (get_or xss n [])
all_at P xss h n = elim (cases_lt n (length xss)) as (λ _. All P (get_or xss n [])) [
  | inl l ↦ h n [] l
  | inr past ↦ subst (All P) (sym (get_or_past xss n [] past)) (All-nil P)
]

-- ---- editions

-- What holds of a deck's own disks and of those of each replan holds of the disks of each edition.
pub by_editions : (P : List DiskSpec → Type 0) (deck : Deck) → P deck.disks → All (λ r. P r.disks) deck.replans → (e : ℕ) → e < count_editions deck → P (specs_in deck e)
by_editions P deck own others zero l = own
by_editions P deck own others (suc k) l = others k no_replan (omega arith)

-- Without a replan, what holds of the deck's own disks holds of each edition's.
pub each_edition : (P : List DiskSpec → Type 0) (deck : Deck) → deck.replans ≡ [] → P deck.disks → (e : ℕ) → e < count_editions deck → P (specs_in deck e)
each_edition P deck none h zero l = h
each_edition P deck none h (suc k) l = absurd (let no : length deck.replans ≡ 0 = ap length none in omega arith)

-- ---- updates in a history

pub update_is : (deck : Deck) → IsDeck deck → (by seq : ℕ) (u : UpdateLists) → slice_get (updates_by deck by) seq ≡ Some u → IsUpdate (length deck.items) u
update_is deck is by seq u e =
    subst (IsUpdate (length deck.items)) (get_or_from_slice_get (updates_by deck by) seq u u e)
    (all_at (IsUpdate (length deck.items)) deck.updates is.updates by seq u (slice_get_within (updates_by deck by) seq u e))

-- An update has an updater of the deck.
updater_is : (deck : Deck) (by seq : ℕ) (u : UpdateLists) → slice_get (updates_by deck by) seq ≡ Some u → by < length deck.updates
updater_is deck by seq u e = elim (cases_lt by (length deck.updates)) as (λ _. by < length deck.updates) [
  | inl l ↦ l
  | inr past ↦ absurd (let within = slice_get_within (updates_by deck by) seq u e in let none = ap length (get_or_past deck.updates by [] past) in omega (arith, within, none))
]

event_is : (deck : Deck) (H : List Event) → IsDeck deck → IsLegal deck H → (p : ℕ) (e : Event) → slice_get H p ≡ Some e →
    EventFits (length deck.updates) (length deck.items) e × BasesRead e
unfolding EventFits BasesRead
event_is deck H is legal p Start s = (tt, tt)
event_is deck H is legal p (Commit by seq u) s =
    let given = (legal p by seq u s).given in
    let update = update_is deck is by seq u given in
    ((updater_is deck by seq u given, update.fits), bases_read by seq u update.rules)

pub events : (deck : Deck) (H : List Event) → IsDeck deck → IsLegal deck H → All (EventFits (length deck.updates) (length deck.items)) H × All BasesRead H
events deck H is legal = (
  λ p d l. (event_is deck H is legal p (get_or H p d) (slice_get-get_or H p d l)).0,
  λ p d l. (event_is deck H is legal p (get_or H p d) (slice_get-get_or H p d l)).1,
)

-- If an event fits, its items do.
pub items_fit : (updaters n : ℕ) (e : Event) → EventFits updaters n e → ItemsFit n e
unfolding EventFits ItemsFit
items_fit updaters n (Commit by seq u) h = h.1
items_fit updaters n Start h = tt

-- ---- slots of the program

module _ (P : ℕ → Type 0) where
  order_with_all : (rates js : List ℕ) (i : ℕ) → P i → All P js → All P (order_with rates js i)
  unfolding order_with
  order_with_all rates [] i p h = All-cons P i [] p (All-nil P)
  order_with_all rates (j ∷ js) i p h = by (is_hotter rates i j) (order_with_all rates js i p (All-tail P j js h))
    where
      by : (b : Bool) → All P (order_with rates js i) → All P (if b then i ∷ j ∷ js else j ∷ order_with rates js i)
      by true rest = All-cons P i (j ∷ js) p h
      by false rest = All-cons P j (order_with rates js i) (All-head P j js h) rest

  fold_all : (rates xs acc : List ℕ) → All P xs → All P acc → All P (fold (order_with rates) acc xs)
  fold_all rates [] acc h k = k
  fold_all rates (x ∷ xs) acc h k = fold_all rates xs (order_with rates acc x) (All-tail P x xs h) (order_with_all rates acc x (All-head P x xs h) k)

  cut_all : (items : List ℕ) (specs : List DiskSpec) → All P items → All (λ d. All P d.items) (cut items specs)
  unfolding cut
  cut_all items [] h = All-nil (λ d. All P d.items)
  cut_all items (s ∷ specs) h = All-cons (λ (d : Disk). All P d.items) (record { items = take s.size items; freq = s.freq }) (cut (drop s.size items) specs)
      (All-take P s.size items h) (cut_all (drop s.size items) specs (All-drop P s.size items h))

  slice_all : (xs : List ℕ) → All P xs → (n : ℕ) → IfSome (slice_get xs n) P
  slice_all [] h n = tt
  slice_all (x ∷ xs) h zero = All-head P x xs h
  slice_all (x ∷ xs) h (suc n) = slice_all xs (All-tail P x xs h) n

  -- the slot is idle or has such an item
  abbrev Slot : Option ℕ → Type 0
  Slot o = IfSome o P

  flat_all : {X : Type 0} (f : X → List (Option ℕ)) (xs : List X) → All (λ x. All Slot (f x)) xs → All Slot (flat_map f xs)
  flat_all f [] h = All-nil Slot
  flat_all f (x ∷ xs) h = All-append Slot (f x) (flat_map f xs) (All-head (λ x. All Slot (f x)) x xs h) (flat_all f xs (All-tail (λ x. All Slot (f x)) x xs h))

  program_all : (disks : List Disk) → All (λ d. All P d.items) disks → All Slot (program disks)
  unfolding program minor_cycle chunk
  program_all disks h = flat_all (minor_cycle (num_minors disks) disks) (range_with_len 0 (num_minors disks))
      (λ k e l. let c = get_or (range_with_len 0 (num_minors disks)) k e in
      flat_all (λ d. chunk (num_minors disks) d (c % num_chunks (num_minors disks) d)) disks
      (λ i d m. All-map Slot (slice_get (get_or disks i d).items) _ (λ j z n. slice_all (get_or disks i d).items (h i d m) _)))

numbers_below : (n : ℕ) → All (λ i. i < n) (range_with_len 0 n)
numbers_below n k d l =
    let below : k < n = omega (arith, length-range_with_len 0 n) in
    let at = get_or-range_with_len 0 n k d below in
    omega arith

order_all : (rates : List ℕ) → All (λ i. i < length rates) (order rates)
unfolding order
order_all rates = fold_all (λ i. i < length rates) rates (range_with_len 0 (length rates)) [] (numbers_below (length rates)) (All-nil _)

edition_all : (deck : Deck) (e : ℕ) → All (λ o. IfSome o (λ i. i < length deck.items)) (program (disks_in deck e))
edition_all deck e = program_all (λ i. i < length deck.items) (disks_in deck e) (cut_all (λ i. i < length deck.items) (order (rates_in deck)) (specs_in deck e)
    (subst (λ n. All (λ i. i < n) (order (rates_in deck))) (length-map deck.items (λ i. i.rate)) (order_all (rates_in deck))))

-- ---- the law

pub air : (deck : Deck) → IsDeck deck → SlotsFit (air_of deck) × ((r : ℕ) → QueriesFilled (reader_of deck r))
air deck is = (
  All-map (All (λ o. IfSome o (λ i. i < length deck.items))) (λ e. program (disks_in deck e)) (range_with_len 0 (count_editions deck))
      (λ k d l. edition_all deck (get_or (range_with_len 0 (count_editions deck)) k d)),
  λ r q d l. (all_at (IsQuery (length deck.items)) deck.queries is.queries r q d l).filled,
)

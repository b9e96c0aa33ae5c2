-- The plans of a deck: what each edition's program is, which edition a cycle has, and how the lists of plans grow.
use Rattle.std.proofs.Common.{◌≡◌, ◌≤◌, ◌<◌, ◌↔◌, ◌+◌, ◌-◌, ◌++◌, ℕ, zero, suc, Bool, true, false, cond, nat_le, Some, List, [], ◌∷◌, length, get_or, slice_get, map, min, take, refl, sym, subst, ap, ◌∙◌, arith}
use Rattle.std.specs.Prelude.{IfSome, IsTrue, count_by}
use Rattle.std.specs.List.{All, AllPairs, enumerate_from, range_with_len}
use Rattle.std.proofs.lemmas.Bool.{le-leb, leb-false, leb-true}
use Rattle.std.proofs.lemmas.List.{get_or-map, length-map, map_more, take_more}
use Rattle.std.proofs.lemmas.List.Elements.{All-map}
use Rattle.std.proofs.lemmas.List.FromFn.{get_or-enumerate_from, get_or-map-range_with_len, length-enumerate_from, length-map-range_with_len, map-range_with_len_more}
use Rattle.std.proofs.lemmas.List.Sums.{count_by-le-length, sum_by-cons}
use Rattle.std.proofs.lemmas.Simd.{map-map}
use Rattle.std.proofs.lemmas.Option.{get_or_from_slice_get, slice_get-get_or}
use Rattle.air_base.specs.declared.limits.TheConstants.{MOST_SLOTS}
use Rattle.air_model.specs.Aired.{air_of}
use Rattle.air_model.specs.Airings.{pix_number}
use Rattle.air_model.specs.Disks.{DiskSpec, all_items}
use Rattle.air_model.specs.Decks.{Deck, IsDeck, Item, Replan, count_editions, disks_in, edition, no_replan, rates_in, specs_in}
use Rattle.air_model.specs.Programs.{program}
use Rattle.air_model.proofs.EditionLemmas.{edition_is, edition_within}
use Rattle.item_catalog.specs.DeckLimits.{WithinLimits}
use Rattle.chunk_program.specs.Editions.{EditionDisks, HaveItems, Plans, edition_disks, no_disks, planned_edition, planned_slots, plans_in, program_pix, programs_in}
use Rattle.chunk_program.specs.Plans.{AreShort, AreShortBelow}
use Rattle.chunk_program.specs.PlansFields.{ArePlans}
use Rattle.chunk_program.proofs.CutLemmas.{deck_items}

-- ---- the disks of an edition
pub own_specs_are : (deck : Deck) (e : ℕ) → e ≡ 0 → deck.disks ≡ specs_in deck e
own_specs_are deck zero is = refl
own_specs_are deck (suc k) is = absurd (omega arith)

pub replan_specs_are : (deck : Deck) (e k : ℕ) (r : Replan) → e ≡ k + 1 → slice_get deck.replans k ≡ Some r → r.disks ≡ specs_in deck e
replan_specs_are deck zero k r is at = absurd (omega arith)
replan_specs_are deck (suc j) k r is at =
    let same : k ≡ j = omega arith in
    ap (λ (r : Replan). r.disks) (sym (get_or_from_slice_get deck.replans k r no_replan at)) ∙ ap (λ i. (get_or deck.replans i no_replan).disks) same

-- So their number and their frequencies are those of the deck's disks, or of the replan's.
pub own_count : (d : Deck) (e n : ℕ) → e ≡ 0 → n ≡ length d.disks → n ≡ length (specs_in d e)
own_count d e n own count = count ∙ ap length (own_specs_are d e own)

pub replan_count : (d : Deck) (e k n : ℕ) (r : Replan) → e ≡ k + 1 → slice_get d.replans k ≡ Some r → n ≡ length r.disks → n ≡ length (specs_in d e)
replan_count d e k n r after at count = count ∙ ap length (replan_specs_are d e k r after at)

pub own_freq : (d : Deck) (e n f : ℕ) → e ≡ 0 → IfSome (slice_get d.disks n) (λ spec. f ≡ spec.freq) → IfSome (slice_get (specs_in d e) n) (λ spec. f ≡ spec.freq)
own_freq d e n f own freq = subst (λ (specs : List DiskSpec). IfSome (slice_get specs n) (λ spec. f ≡ spec.freq)) (own_specs_are d e own) freq

pub replan_freq : (d : Deck) (e k n f : ℕ) (r : Replan) → e ≡ k + 1 → slice_get d.replans k ≡ Some r → IfSome (slice_get r.disks n) (λ spec. f ≡ spec.freq)
    → IfSome (slice_get (specs_in d e) n) (λ spec. f ≡ spec.freq)
replan_freq d e k n f r after at freq = subst (λ (specs : List DiskSpec). IfSome (slice_get specs n) (λ spec. f ≡ spec.freq)) (replan_specs_are d e k r after at) freq

-- ---- lists that grow
pub cycle_more : (rs : List Replan) (k c : ℕ) (r : Replan) → k < length rs → slice_get rs k ≡ Some r → c ≡ r.cycle → map (λ (r : Replan). r.cycle) (take k rs) ++ c ∷ [] ≡ map (λ (r : Replan). r.cycle) (take (k + 1) rs)
cycle_more rs k c r below at is =
    ap (λ n. map (λ (r : Replan). r.cycle) (take k rs) ++ n ∷ []) (is ∙ ap (λ (r : Replan). r.cycle) (sym (get_or_from_slice_get rs k r no_replan at)))
    ∙ sym (map_more (λ (r : Replan). r.cycle) rs k no_replan below)

-- There is a PIX number for each item.
pub count_pix : (deck : Deck) (p : EditionDisks) → length (program_pix deck p) ≡ length deck.items
count_pix deck p =
    length-map (enumerate_from 0 (rates_in deck)) (λ q. pix_number p.disks q.0 q.1) ∙ length-enumerate_from 0 (rates_in deck) ∙ length-map deck.items (λ i. i.rate)

pub program_more : (deck : Deck) (k : ℕ) → map (edition_disks deck) (range_with_len 0 k) ++ edition_disks deck k ∷ [] ≡ map (edition_disks deck) (range_with_len 0 (k + 1))
program_more deck k = sym (map-range_with_len_more (edition_disks deck) 0 k k (omega arith))

pub short_more : (deck : Deck) (k : ℕ) → AreShortBelow deck k → length (program (disks_in deck k)) ≤ MOST_SLOTS → AreShortBelow deck (k + 1)
short_more deck k so_far here e below = by (nat_le k e) refl
  where
    by : (b : Bool) → nat_le k e ≡ b → length (program (disks_in deck e)) ≤ MOST_SLOTS
    by true t = let low = leb-true k e t in let same : k ≡ e = omega arith in subst (λ i. length (program (disks_in deck i)) ≤ MOST_SLOTS) same here
    by false f = so_far e (let high = leb-false k e f in omega arith)

pub pix_more : (deck : Deck) (p : EditionDisks) (i rate n : ℕ) → i < length deck.items → IfSome (slice_get deck.items i) (λ item. rate ≡ item.rate) → n ≡ pix_number p.disks i rate
    → take (i + 1) (program_pix deck p) ≡ take i (program_pix deck p) ++ n ∷ []
pix_more deck p i rate n within told e =
    let blank : Item = record { value = 0; rate = rate } in
    let long : length (rates_in deck) ≡ length deck.items = length-map deck.items (λ item. item.rate) in
    let all : length (program_pix deck p) ≡ length deck.items = count_pix deck p in
    let its : rate ≡ (get_or deck.items i blank).rate = subst (λ o. IfSome o (λ (item : Item). rate ≡ item.rate)) (slice_get-get_or deck.items i blank within) told in
    let here : get_or (rates_in deck) i rate ≡ rate = get_or-map (λ (item : Item). item.rate) deck.items i blank rate within ∙ sym its in
    let place : get_or (enumerate_from 0 (rates_in deck)) i (0, rate) ≡ (0 + i, get_or (rates_in deck) i rate) = get_or-enumerate_from 0 (rates_in deck) i (0, rate) (omega arith) in
    let numbered : length (enumerate_from 0 (rates_in deck)) ≡ length deck.items = length-enumerate_from 0 (rates_in deck) ∙ long in
    let value : get_or (program_pix deck p) i n ≡ n =
    get_or-map (λ (q : ℕ × ℕ). pix_number p.disks q.0 q.1) (enumerate_from 0 (rates_in deck)) i (0, rate) n (omega arith)
    ∙ ap (λ (q : ℕ × ℕ). pix_number p.disks q.0 q.1) place ∙ ap (pix_number p.disks (0 + i)) here
    ∙ ap (λ k. pix_number p.disks k rate) (let z : 0 + i ≡ i = omega arith in z) ∙ sym e in
    take_more (program_pix deck p) i n (omega arith) ∙ ap (λ m. take i (program_pix deck p) ++ m ∷ []) value

-- ---- programs by edition
pub count_programs : (deck : Deck) → length (programs_in deck) ≡ count_editions deck
count_programs deck = length-map-range_with_len (edition_disks deck) 0 (count_editions deck)

program_in : (deck : Deck) (e : ℕ) (d : EditionDisks) → e < count_editions deck → get_or (programs_in deck) e d ≡ edition_disks deck e
program_in deck e d below = get_or-map-range_with_len (edition_disks deck) 0 (count_editions deck) e e d below (omega arith)

-- The program at a place of a deck's plans is that of this edition.
pub program_at : (deck : Deck) (plans : Plans) (xs : List EditionDisks) (e : ℕ) (p : EditionDisks) → plans ≡ plans_in deck → xs ≡ plans.programs → e < length plans.programs → p ≡ get_or xs e p → p ≡ edition_disks deck e
program_at deck plans xs e p are same below is =
    let count = ap (λ (x : Plans). length x.programs) are in
    is ∙ ap (λ (l : List EditionDisks). get_or l e p) same ∙ ap (λ (x : Plans). get_or x.programs e p) are ∙ program_in deck e p (let all = count_programs deck in omega arith)

-- What holds of the program of each edition holds of each program.
pub each_program : (deck : Deck) (P : EditionDisks → Type 0) → ((e : ℕ) → e < count_editions deck → P (edition_disks deck e)) → All P (programs_in deck)
each_program deck P each e d below = let within : e < count_editions deck = (let all = count_programs deck in omega arith) in subst P (sym (program_in deck e d within)) (each e within)

pub have_items : (deck : Deck) → IsDeck deck → WithinLimits deck → HaveItems (length deck.items) (programs_in deck)
have_items deck made within = each_program deck (λ p. length (all_items p.disks) ≡ length deck.items) (λ e below. deck_items deck e made within below)

pub short_programs : (deck : Deck) → AreShort deck → All (λ (p : EditionDisks). length (program p.disks) ≤ MOST_SLOTS) (programs_in deck)
short_programs deck short = each_program deck (λ p. length (program p.disks) ≤ MOST_SLOTS) short

pub short_editions : (deck : Deck) → All (λ (p : EditionDisks). length (program p.disks) ≤ MOST_SLOTS) (programs_in deck) → AreShort deck
short_editions deck short e below =
    subst (λ (p : EditionDisks). length (program p.disks) ≤ MOST_SLOTS) (program_in deck e no_disks below) (short e no_disks (let all = count_programs deck in omega arith))

-- ---- the edition of a cycle
pub edition_of : (deck : Deck) (plans : Plans) (c : ℕ) → plans ≡ plans_in deck → planned_edition plans c ≡ edition deck c
edition_of deck plans c are = ap (λ (p : Plans). planned_edition p c) are ∙ edition_is deck c

-- The slots of each cycle are those of the deck's edition.
pub slots_of_cycle : (deck : Deck) (plans : Plans) (c : ℕ) → plans ≡ plans_in deck → planned_slots plans c ≡ program (disks_in deck (edition deck c))
slots_of_cycle deck plans c are =
    ap (λ (p : Plans). planned_slots p c) are ∙ ap (λ e. program (get_or (programs_in deck) e no_disks).disks) (edition_is deck c)
    ∙ ap (λ (p : EditionDisks). program p.disks) (program_in deck (edition deck c) no_disks (edition_within deck c))

-- The air of a deck has the slots and the PIX numbers of its plans.
pub air_slots : (deck : Deck) → map (λ (p : EditionDisks). program p.disks) (programs_in deck) ≡ (air_of deck).slots
air_slots deck = map-map (λ (p : EditionDisks). program p.disks) (edition_disks deck) (range_with_len 0 (count_editions deck))

pub air_pix : (deck : Deck) → map (program_pix deck) (programs_in deck) ≡ (air_of deck).pix
air_pix deck = map-map (program_pix deck) (edition_disks deck) (range_with_len 0 (count_editions deck))

-- ---- replans that come into force one after another
rising_head : (x : ℕ) (xs : List ℕ) → AllPairs (λ a b. a < b) (x ∷ xs) → (k d : ℕ) → k < length xs → x < get_or xs k d
rising_head x xs rising k d below = rising 0 (suc k) d (omega arith) (omega arith)

rising_tail : (x : ℕ) (xs : List ℕ) → AllPairs (λ a b. a < b) (x ∷ xs) → AllPairs (λ a b. a < b) xs
rising_tail x xs rising i j d less below = rising (suc i) (suc j) d (omega arith) (omega arith)

one_more : (x c : ℕ) (xs : List ℕ) → count_by (λ at. nat_le at c) (x ∷ xs) ≡ cond (nat_le x c) 1 0 + count_by (λ at. nat_le at c) xs
one_more x c xs = sum_by-cons (λ at. cond (nat_le at c) 1 0) x xs

no_more : (x c : ℕ) (xs : List ℕ) → c < x → AllPairs (λ a b. a < b) (x ∷ xs) → count_by (λ at. nat_le at c) (x ∷ xs) ≡ 0
no_more x c [] over rising = one_more x c [] ∙ by (nat_le x c) refl
  where
    by : (b : Bool) → nat_le x c ≡ b → cond b 1 0 + 0 ≡ 0
    by true t = absurd (let low = leb-true x c t in omega arith)
    by false f = refl
no_more x c (y ∷ ys) over rising =
    let next = no_more y c ys (let less : x < y = rising_head x (y ∷ ys) rising 0 0 (omega arith) in omega arith) (rising_tail x (y ∷ ys) rising) in
    one_more x c (y ∷ ys) ∙ ap (λ n. cond (nat_le x c) 1 0 + n) next ∙ by (nat_le x c) refl
  where
    by : (b : Bool) → nat_le x c ≡ b → cond b 1 0 + 0 ≡ 0
    by true t = absurd (let low = leb-true x c t in omega arith)
    by false f = refl

-- A replan is in force exactly where more replans than those before it are.
pub in_force_from : (xs : List ℕ) (e c : ℕ) → AllPairs (λ a b. a < b) xs → e < length xs → (get_or xs e 0 ≤ c) ↔ (e < count_by (λ at. nat_le at c) xs)
in_force_from [] e c rising below = absurd (omega arith)
in_force_from (x ∷ xs) zero c rising below = (here, back)
  where
    here : x ≤ c → 0 < count_by (λ at. nat_le at c) (x ∷ xs)
    here from = by (nat_le x c) refl
      where
        by : (b : Bool) → nat_le x c ≡ b → 0 < count_by (λ at. nat_le at c) (x ∷ xs)
        by true t = let n = one_more x c xs ∙ ap (λ b. cond b 1 0 + count_by (λ at. nat_le at c) xs) t in omega arith
        by false f = absurd (let high = leb-false x c f in omega arith)

    back : 0 < count_by (λ at. nat_le at c) (x ∷ xs) → x ≤ c
    back some = by (nat_le x c) refl
      where
        by : (b : Bool) → nat_le x c ≡ b → x ≤ c
        by true t = leb-true x c t
        by false f = absurd (let none = no_more x c xs (leb-false x c f) rising in omega arith)
in_force_from (x ∷ xs) (suc e) c rising below =
    let rest = in_force_from xs e c (rising_tail x xs rising) (omega arith) in
    (λ from. by_from rest.0 from (nat_le x c) refl, λ some. by_some rest.1 some (nat_le x c) refl)
  where
    by_from : (get_or xs e 0 ≤ c → e < count_by (λ at. nat_le at c) xs) → get_or xs e 0 ≤ c → (b : Bool) → nat_le x c ≡ b → suc e < count_by (λ at. nat_le at c) (x ∷ xs)
    by_from more from true t = let n = one_more x c xs ∙ ap (λ b. cond b 1 0 + count_by (λ at. nat_le at c) xs) t in let m = more from in omega arith
    by_from more from false f = absurd (let high = leb-false x c f in let less = rising_head x xs rising e 0 (omega arith) in omega arith)

    by_some : (e < count_by (λ at. nat_le at c) xs → get_or xs e 0 ≤ c) → suc e < count_by (λ at. nat_le at c) (x ∷ xs) → (b : Bool) → nat_le x c ≡ b → get_or xs e 0 ≤ c
    by_some more some true t = more (let n = one_more x c xs ∙ ap (λ b. cond b 1 0 + count_by (λ at. nat_le at c) xs) t in omega arith)
    by_some more some false f = absurd (let none = no_more x c xs (leb-false x c f) rising in omega arith)

-- The replan at a place is in force in a cycle, if it is there.
pub begun_told : (xs : List ℕ) (e at c : ℕ) → AllPairs (λ a b. a < b) xs → e < length xs → at ≡ get_or xs e 0 → IsTrue (nat_le at c) ↔ (e < count_by (λ at. nat_le at c) xs)
begun_told xs e at c rising below is =
    let from = in_force_from xs e c rising below in
    (λ t. from.0 (let low = leb-true at c t in omega arith), λ more. le-leb at c (let low = from.1 more in omega arith))

pub begun_past : (xs : List ℕ) (e c : ℕ) → length xs ≤ e → e < count_by (λ at. nat_le at c) xs → ⊥
begun_past xs e c past more = let most = count_by-le-length (λ at. nat_le at c) xs in omega arith

-- So the cycles before a replan are those of the editions before.
pub up_to_told : (plans : Plans) (xs : List ℕ) (e next cycles r : ℕ) → xs ≡ plans.replans → AllPairs (λ a b. a < b) plans.replans → e < length xs → next ≡ get_or xs e 0 → 1 ≤ next → r ≡ min (next - 1) cycles
    → (c : ℕ) → 1 ≤ c → c ≤ cycles → (c ≤ r) ↔ (planned_edition plans c ≤ e)
up_to_told plans xs e next cycles r same rising below is some least c from within =
    let here = in_force_from xs e c (subst (AllPairs (λ a b. a < b)) (sym same) rising) below in
    let count : count_by (λ at. nat_le at c) xs ≡ planned_edition plans c = ap (count_by (λ at. nat_le at c)) same in
    by here (nat_le next c) refl count
  where
    by : (get_or xs e 0 ≤ c) ↔ (e < count_by (λ at. nat_le at c) xs) → (b : Bool) → nat_le next c ≡ b → count_by (λ at. nat_le at c) xs ≡ planned_edition plans c
        → (c ≤ r) ↔ (planned_edition plans c ≤ e)
    by here true t count = let more = here.0 (let low = leb-true next c t in omega arith) in let low = leb-true next c t in (λ under. absurd (omega arith), λ few. absurd (omega arith))
    by here false f count =
        let high = leb-false next c f in
        (λ under. by_under (nat_le (e + 1) (count_by (λ at. nat_le at c) xs)) refl, λ few. omega arith)
      where
        by_under : (b : Bool) → nat_le (e + 1) (count_by (λ at. nat_le at c) xs) ≡ b → planned_edition plans c ≤ e
        by_under true t = absurd (let low = here.1 (let more = leb-true (e + 1) _ t in omega arith) in let high = leb-false next c f in omega arith)
        by_under false g = let fewer = leb-false (e + 1) _ g in omega arith

-- A deck's replans are so.
pub rising_cycles : (rs : List Replan) → AllPairs (λ (a b : Replan). a.cycle < b.cycle) rs → AllPairs (λ a b. a < b) (map (λ (r : Replan). r.cycle) rs)
rising_cycles rs rising i j d less below =
    let n = length-map rs (λ (r : Replan). r.cycle) in
    let one = get_or-map (λ (r : Replan). r.cycle) rs i no_replan d (omega arith) in
    let other = get_or-map (λ (r : Replan). r.cycle) rs j no_replan d (omega arith) in
    let apart = rising i j no_replan less (omega arith) in omega arith

pub from_one_cycles : (rs : List Replan) → All (λ (r : Replan). 2 ≤ r.cycle) rs → All (λ at. 1 ≤ at) (map (λ (r : Replan). r.cycle) rs)
from_one_cycles rs two = All-map (λ at. 1 ≤ at) (λ (r : Replan). r.cycle) rs (λ k d below. let least = two k d below in omega arith)

-- The plans of a deck are so.
pub plans_made : (deck : Deck) (plans : Plans) → IsDeck deck → AreShort deck → plans ≡ plans_in deck → ArePlans plans
plans_made deck plans made short are = subst ArePlans (sym are) (record {
  few = (let few = made.few in let n = length-map deck.replans (λ (r : Replan). r.cycle) in omega arith);
  from_one = from_one_cycles deck.replans made.from_two;
  rising = rising_cycles deck.replans made.rising;
  programs = (let n = length-map deck.replans (λ (r : Replan). r.cycle) in let all = count_programs deck in omega arith);
  short = short_programs deck short;
  pix = length-map (programs_in deck) (program_pix deck);
})

pub plans_are : (deck : Deck) (cycles : List ℕ) (programs lent : List EditionDisks) (pix : List (List ℕ)) → cycles ≡ map (λ (r : Replan). r.cycle) deck.replans → programs ≡ programs_in deck → lent ≡ programs
    → pix ≡ map (program_pix deck) lent → ◌≡◌ {A = Plans} (record { replans = cycles; programs = programs; pix = pix }) (plans_in deck)
plans_are deck cycles programs lent pix c p l x =
    let made : List ℕ → List EditionDisks → List (List ℕ) → Plans = λ cs ps xs. record { replans = cs; programs = ps; pix = xs } in
    ap (λ cs. made cs programs pix) c ∙ ap (λ ps. made (map (λ (r : Replan). r.cycle) deck.replans) ps pix) p
    ∙ ap (made (map (λ (r : Replan). r.cycle) deck.replans) (programs_in deck)) (x ∙ ap (map (program_pix deck)) (l ∙ p))

-- Each item is aired as often as its disk says, with the history's values.
use Rattle.std.proofs.Common.{◌≡◌, ◌≢◌, ℕ, zero, suc, ◌+◌, ◌<◌, ◌≤◌, ◌==◌, Bool, true, false, cond, Option, Some, None, List, [], ◌∷◌, ◌++◌, length, map, get_or, All, inl, inr, refl, sym, ◌∙◌, ap, subst, arith}
use Rattle.std.specs.Prelude.{◌&&◌, count_by, Contains, IfSome, slice_get}
use Rattle.std.specs.List.{flat_map, range_with_len}
use Rattle.std.specs.Option.{option_map_or}
use Rattle.std.proofs.lemmas.Bool.{cases_lt, eq-eqb, eqb-true}
use Rattle.std.proofs.lemmas.List.{length-map}
use Rattle.std.proofs.lemmas.List.Elements.{Contains-append_cases, Contains-get_or}
use Rattle.std.proofs.lemmas.List.Sums.{sum_by-append, sum_by-cons}
use Rattle.air_base.specs.declared.verdicts.Policy.{Policy}
use Rattle.air_base.specs.declared.verdicts.Policy.TheVariants.{FMatrix, Datacycle, RMatrix}
use Rattle.air_history.specs.declared.histories.Event.{Event}
use Rattle.air_history.specs.Histories.{starts}
use Rattle.air_history.specs.Reads.{read_value}
use Rattle.air_history.specs.Tables.{values_of}
use Rattle.air_model.specs.Buckets.{Bucket, capped_body}
use Rattle.air_model.specs.Aired.{Air, air_of, aired_as, body_of, bucket_of, buckets_of, cycle_buckets, slots_at}
use Rattle.air_model.specs.Airings.{airings, carries}
use Rattle.air_model.specs.Decks.{Deck, IsDeck, Item, count_editions, disks_in, edition, rates_in, specs_in, values_in}
use Rattle.air_model.specs.Disks.{Disk, all_items, order}
use Rattle.air_model.specs.Sessions.{read_in}
use Rattle.air_model.proofs.AiredLemmas.{own_from}
use Rattle.air_model.proofs.CapLemmas.{item_told, value_told}
use Rattle.air_model.proofs.EditionLemmas.{edition_within, slots_are}
use Rattle.air_model.proofs.ProgramLemmas.{item_airings}
use Rattle.air_model.proofs.ItemOrder.{cut_airable, cut_items, length-order, order_only}
use Rattle.air_model.specs.AiredItems.{AirsItems, carries_in}

-- ---- the values

body_value : (p : Policy) (item value : ℕ) (entries : List ℕ) (c : ℕ) → (P : ℕ → ℕ → ℕ → Type 0) → P item c value → IfSome (read_in c (aired_as p item value entries)) (λ r. P r.item r.cycle r.value)
body_value FMatrix item value entries c P h = h
body_value Datacycle item value entries c P h = h
body_value RMatrix item value entries c P h = h

module _ (values : List ℕ) (air : Air) (H : List Event) where
  -- The read has the value at the start of its cycle.
  abbrev HasValue : ℕ → ℕ → ℕ → Type 0
  HasValue item c value = value ≡ read_value (values_of values) H (record { item = item; cycle = c })

  abbrev IsValued : Bucket → Type 0
  IsValued b = IfSome (read_in b.cycle b.body) (λ r. HasValue r.item r.cycle r.value)

  body_valued : (c : ℕ) (slot : Option ℕ) → IfSome (read_in c (body_of values air H c slot)) (λ r. HasValue r.item r.cycle r.value)
  unfolding body_of
  body_valued c None = tt
  body_valued c (Some item) = body_value air.scheme.policy item _ _ c HasValue refl

  bucket_valued : (v c s : ℕ) → IsValued (bucket_of values air H v c s)
  unfolding bucket_of
  bucket_valued v c s = let slot = get_or (slots_at air c) s None in value_told HasValue v c c (body_of values air H c slot) (body_valued c slot)

  all_valued : All IsValued (buckets_of values air H)
  all_valued k d l =
      let own = own_from values air H (get_or (buckets_of values air H) k d) (Contains-get_or (buckets_of values air H) k d l) in
      subst IsValued (sym own.same) (bucket_valued air.version own.cycle own.slot)

-- ---- how often

module _ {X : Type 0} (p : X → Bool) where
  count_cons : (x : X) (xs : List X) → count_by p (x ∷ xs) ≡ cond (p x) 1 0 + count_by p xs
  count_cons x xs = sum_by-cons (λ x. cond (p x) 1 0) x xs

  count_both : (xs ys : List X) → count_by p (xs ++ ys) ≡ count_by p xs + count_by p ys
  count_both xs ys = sum_by-append (λ x. cond (p x) 1 0) xs ys

  -- Counting values by their places counts the slots.
  count_places : (q : Option ℕ → Bool) (slots : List (Option ℕ)) (f : ℕ → X) (a : ℕ) → ((k : ℕ) → p (f (a + k)) ≡ q (get_or slots k None))
      → count_by p (map f (range_with_len a (length slots))) ≡ count_by q slots
  count_places q [] f a h = refl
  count_places q (o ∷ slots) f a h =
      let here : p (f a) ≡ q o = ap (λ n. p (f n)) (omega arith) ∙ h 0 in
      let rest = count_places q slots f (a + 1) (λ k. ap (λ n. p (f n)) (omega arith) ∙ h (suc k)) in
      count_cons (f a) (map f (range_with_len (a + 1) (length slots))) ∙ ap (λ b. cond b 1 0 + count_by p (map f (range_with_len (a + 1) (length slots)))) here
      ∙ ap (λ n. cond (q o) 1 0 + n) rest ∙ sym (sum_by-cons (λ x. cond (q x) 1 0) o slots)

  -- Lists of which none has what is counted, and lists of which one has.
  none_before : (f : ℕ → List X) (a n c : ℕ) → ((d : ℕ) → d ≢ c → count_by p (f d) ≡ 0) → c < a → count_by p (flat_map f (range_with_len a n)) ≡ 0
  none_before f a zero c h l = refl
  none_before f a (suc n) c h l =
      let both = count_both (f a) (flat_map f (range_with_len (a + 1) n)) in
      let here = h a (omega arith) in
      let rest = none_before f (a + 1) n c h (omega arith) in
      omega arith

  one_among : (f : ℕ → List X) (a n c : ℕ) → ((d : ℕ) → d ≢ c → count_by p (f d) ≡ 0) → a ≤ c → c < a + n → count_by p (flat_map f (range_with_len a n)) ≡ count_by p (f c)
  one_among f a zero c h low high = absurd (omega arith)
  one_among f a (suc n) c h low high =
      let both = count_both (f a) (flat_map f (range_with_len (a + 1) n)) in
      elim (cases_lt a c) as (λ _. count_by p (flat_map f (range_with_len a (suc n))) ≡ count_by p (f c)) [
        | inl less ↦ let here = h a (omega arith) in let rest = one_among f (a + 1) n c h (omega arith) (omega arith) in omega arith
        | inr over ↦ let same : a ≡ c = omega arith in
            let here = ap (λ d. count_by p (f d)) same in
            let rest = none_before f (a + 1) n c h (omega arith) in
            omega arith
      ]

-- Whether a slot's bucket carries the item.
body_carries : (p : Policy) (item value : ℕ) (entries : List ℕ) (c i : ℕ) → option_map_or (λ r. r.item == i) (read_in c (aired_as p item value entries)) false ≡ (item == i)
body_carries FMatrix item value entries c i = refl
body_carries Datacycle item value entries c i = refl
body_carries RMatrix item value entries c i = refl

module _ (values : List ℕ) (air : Air) (H : List Event) (c i : ℕ) where
  slot_carries : (d : ℕ) (slot : Option ℕ) → option_map_or (λ r. r.item == i) (read_in d (body_of values air H d slot)) false ≡ carries i slot
  unfolding body_of
  slot_carries d None = refl
  slot_carries d (Some item) = body_carries air.scheme.policy item _ _ d i

  own_cycle : (v s : ℕ) → carries_in c i (bucket_of values air H v c s) ≡ carries i (get_or (slots_at air c) s None)
  unfolding bucket_of
  own_cycle v s =
      let slot = get_or (slots_at air c) s None in
      let body = body_of values air H c slot in
      ap (λ b. b && option_map_or (λ r. r.item == i) (read_in c (capped_body v c body)) false) (eq-eqb c c refl) ∙ item_told i v c c body ∙ slot_carries c slot

  not_same : (d : ℕ) → d ≢ c → (d == c) ≡ false
  not_same d apart = other (d == c) refl
    where
      other : (b : Bool) → (d == c) ≡ b → b ≡ false
      other true t = absurd (apart (eqb-true d c t))
      other false f = refl

  other_cycle : (d : ℕ) → d ≢ c → (v s : ℕ) → carries_in c i (bucket_of values air H v d s) ≡ false
  unfolding bucket_of
  other_cycle d apart v s = ap (λ b. b && option_map_or (λ r. r.item == i) (read_in d (capped_body v d (body_of values air H d (get_or (slots_at air d) s None)))) false) (not_same d apart)

  none_of : (f : ℕ → Bucket) → ((s : ℕ) → carries_in c i (f s) ≡ false) → (xs : List ℕ) → count_by (carries_in c i) (map f xs) ≡ 0
  none_of f h [] = refl
  none_of f h (s ∷ xs) =
      count_cons (carries_in c i) (f s) (map f xs) ∙ ap (λ b. cond b 1 0 + count_by (carries_in c i) (map f xs)) (h s) ∙ (let rest = none_of f h xs in omega arith)

  item_times : 1 ≤ c → c ≤ starts H → count_by (carries_in c i) (buckets_of values air H) ≡ airings (slots_at air c) i
  unfolding buckets_of
  item_times low high =
      let v = air.version in
      one_among (carries_in c i) (cycle_buckets values air H) 1 (starts H) c
      (λ d apart. none_of (bucket_of values air H v d) (other_cycle d apart v) (range_with_len 0 (length (slots_at air d)))) low (omega arith)
      ∙ count_places (carries_in c i) (carries i) (slots_at air c) (bucket_of values air H v c) 0
      (λ k. ap (λ n. carries_in c i (bucket_of values air H v c n)) (omega arith) ∙ own_cycle v k)

-- ---- its disk

disk_with : (disks : List Disk) (i : ℕ) → Contains (all_items disks) i → (n : ℕ) × (d : Disk) × (slice_get disks n ≡ Some d) × Contains d.items i
unfolding all_items
disk_with [] i h = absurd (let l = h.1 in omega arith)
disk_with (d ∷ disks) i h = elim (Contains-append_cases d.items (all_items disks) i h) as (λ _. (n : ℕ) × (e : Disk) × (slice_get (d ∷ disks) n ≡ Some e) × Contains e.items i) [
  | inl here ↦ (0, d, refl, here)
  | inr rest ↦ (let (n, e, at, on) = disk_with disks i rest in (suc n, e, at, on))
]

item_disk : (deck : Deck) (e i : ℕ) → IsDeck deck → e < count_editions deck → i < length deck.items → (n : ℕ) × (d : Disk) × (slice_get (disks_in deck e) n ≡ Some d) × Contains d.items i
item_disk deck e i is some l =
    let rates = rates_in deck in
    let many : length rates ≡ length deck.items = length-map deck.items (λ (x : Item). x.rate) in
    let all : all_items (disks_in deck e) ≡ order rates = cut_items (order rates) (specs_in deck e) (is.sizes e some ∙ sym (length-order rates ∙ many)) in
    let there : Contains (order rates) i = ((((order_only rates (order rates)).1 refl).members i).1 (omega arith)) in
    disk_with (disks_in deck e) i (subst (λ items. Contains items i) (sym all) there)

pub items_aired : (deck : Deck) (H : List Event) → IsDeck deck → AirsItems deck H (buckets_of (values_in deck) (air_of deck) H)
items_aired deck H is = record {
  times = λ c i low high l.
      let e = edition deck c in
      let some : e < count_editions deck = edition_within deck c in
      let (n, d, at, on) = item_disk deck e i is some l in
      record {
        number = n;
        disk = d;
        there = at;
        on = on;
        times = item_times (values_in deck) (air_of deck) H c i low high ∙ ap (λ slots. airings slots i) (slots_are deck c)
            ∙ item_airings (disks_in deck e) n d i (cut_airable (rates_in deck) (specs_in deck e) (λ k z b. (is.aired e some k z b).1)) at on;
      };
  values = all_valued (values_in deck) (air_of deck) H;
}

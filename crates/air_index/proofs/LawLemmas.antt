-- How many records a search opens, and what it found.
use Rattle.std.proofs.Common.{◌≡◌, ◌≤◌, ◌+◌, if◌then◌else◌, ℕ, zero, suc, Bool, true, false, Option, Some, None, List, [], ◌∷◌, drop, slice_get, refl, sym, ◌∙◌, ap, arith}
use Rattle.std.specs.Option.{option_map_or}
use Rattle.std.proofs.lemmas.List.{drop-drop}
use Rattle.air_model.specs.Buckets.{Bucket, value_of}
use Rattle.air_index.specs.SeekLaws.{IsFoundAt, opens_of}
use Rattle.air_index.specs.Records.{indexed_at}
use Rattle.air_index.specs.Seeks.{first_told, has_item, index_told, item_told, sought, sought_first, sought_index, sought_item}
use Rattle.air_index.specs.declared.records.Indexed.{Indexed}
use Rattle.air_index.specs.declared.records.Indexed.TheVariants as variant
use Rattle.air_index.specs.declared.sought.Sought.{Sought}
use Rattle.air_index.specs.declared.sought.Sought.TheVariants.{Found, Lost}

-- ---- how many records are opened

item_opens : (i k q : ℕ) (o : Option Indexed) → opens_of (item_told i k q o) ≡ k
unfolding item_told opens_of
item_opens i k q None = refl
item_opens i k q (Some (variant.Index index)) = refl
item_opens i k q (Some (variant.Payload wait b)) = by (has_item i b.body)
  where
    by : (t : Bool) → opens_of (if t then Found k q b.cycle (value_of b.body) else Lost k) ≡ k
    by true = refl
    by false = refl

sought_item_opens : (i k q : ℕ) (records : List (List ℕ)) → opens_of (sought_item i k q records) ≤ k + 1
unfolding sought_item opens_of
sought_item_opens i k q [] = omega arith
sought_item_opens i k q (r ∷ rest) = let is = item_opens i (k + 1) q (indexed_at r) in omega arith

index_opens : (i k q : ℕ) (records : List (List ℕ)) (o : Option Indexed) → opens_of (index_told i k q records o) ≤ k + 1
unfolding index_told opens_of
index_opens i k q records None = omega arith
index_opens i k q records (Some (variant.Payload wait b)) = omega arith
index_opens i k q records (Some (variant.Index index)) = by (slice_get index.entries i)
  where
    by : (o : Option ℕ) → opens_of (option_map_or (λ e. sought_item i k (q + e) (drop e records)) o (Lost k)) ≤ k + 1
    by None = omega arith
    by (Some e) = sought_item_opens i k (q + e) (drop e records)

sought_index_opens : (i q : ℕ) (records : List (List ℕ)) → opens_of (sought_index i q records) ≤ 3
unfolding sought_index opens_of
sought_index_opens i q [] = omega arith
sought_index_opens i q (r ∷ rest) = index_opens i 2 q (r ∷ rest) (indexed_at r)

first_opens : (i q : ℕ) (records : List (List ℕ)) (o : Option Indexed) → opens_of (first_told i q records o) ≤ 3
unfolding first_told opens_of
first_opens i q records None = omega arith
first_opens i q records (Some (variant.Index index)) = let few = index_opens i 1 q records (Some (variant.Index index)) in omega arith
first_opens i q records (Some (variant.Payload wait b)) = by (has_item i b.body)
  where
    by : (t : Bool) → opens_of (if t then Found 1 q b.cycle (value_of b.body) else sought_index i (q + wait) (drop wait records)) ≤ 3
    by true = omega arith
    by false = sought_index_opens i (q + wait) (drop wait records)

sought_first_opens : (i q : ℕ) (records : List (List ℕ)) → opens_of (sought_first i q records) ≤ 3
unfolding sought_first opens_of
sought_first_opens i q [] = omega arith
sought_first_opens i q (r ∷ rest) = first_opens i q (r ∷ rest) (indexed_at r)

pub few_opens : (records : List (List ℕ)) (i p : ℕ) → opens_of (sought records i p) ≤ 3
few_opens records i p = sought_first_opens i p (drop p records)

-- ---- what is found

at_front : (records : List (List ℕ)) (q : ℕ) (r : List ℕ) (rest : List (List ℕ)) → drop q records ≡ r ∷ rest → slice_get records q ≡ Some r
at_front [] zero r rest e = cc e
at_front [] (suc q) r rest e = cc e
at_front (x ∷ xs) zero r rest e = let same : x ≡ r = head_same x r xs rest e in ap Some same
  where
    head_same : (x r : List ℕ) (xs rest : List (List ℕ)) → x ∷ xs ≡ r ∷ rest → x ≡ r
    head_same x r xs rest e = cc e
at_front (x ∷ xs) (suc q) r rest e = at_front xs q r rest e

no_lost : (k opens place cycle value : ℕ) → ◌≡◌ {A = Sought} (Lost k) (Found opens place cycle value) → ⊥
no_lost k opens place cycle value e = cc e

record Parts (a b c d w x y z : ℕ) : Type 0 where
  opens : a ≡ w
  place : b ≡ x
  cycle : c ≡ y
  value : d ≡ z

same_parts : (a b c d w x y z : ℕ) → ◌≡◌ {A = Sought} (Found a b c d) (Found w x y z) → Parts a b c d w x y z
same_parts a b c d w x y z e = record { opens = cc e; place = cc e; cycle = cc e; value = cc e }

module _ (records : List (List ℕ)) (i : ℕ) where
  -- the record at place q, where it reads so, has the item
  from_payload : (k q wait : ℕ) (b : Bucket) (r : List ℕ) (rest : List (List ℕ)) (opens place cycle value : ℕ) → drop q records ≡ r ∷ rest → indexed_at r ≡ Some (variant.Payload wait b)
      → has_item i b.body ≡ true → Found k q b.cycle (value_of b.body) ≡ Found opens place cycle value → IsFoundAt records i place cycle value
  from_payload k q wait b r rest opens place cycle value front reads item e =
      let same = same_parts k q b.cycle (value_of b.body) opens place cycle value e in
      record {
        bytes = r;
        there = ap (slice_get records) (sym same.place) ∙ at_front records q r rest front;
        wait = wait;
        bucket = b;
        reads = reads;
        item = item;
        its_cycle = sym same.cycle;
        its_value = sym same.value;
      }

  found_item : (k q : ℕ) (l : List (List ℕ)) (opens place cycle value : ℕ) → drop q records ≡ l → sought_item i k q l ≡ Found opens place cycle value → IsFoundAt records i place cycle value
  unfolding sought_item item_told
  found_item k q [] opens place cycle value front e = absurd (no_lost k opens place cycle value e)
  found_item k q (r ∷ rest) opens place cycle value front e = by (indexed_at r) refl e
    where
      by : (o : Option Indexed) → indexed_at r ≡ o → item_told i (k + 1) q o ≡ Found opens place cycle value → IsFoundAt records i place cycle value
      by None reads e = absurd (no_lost (k + 1) opens place cycle value e)
      by (Some (variant.Index index)) reads e = absurd (no_lost (k + 1) opens place cycle value e)
      by (Some (variant.Payload wait b)) reads e = test (has_item i b.body) refl e
        where
          test : (t : Bool) → has_item i b.body ≡ t → (if t then Found (k + 1) q b.cycle (value_of b.body) else Lost (k + 1)) ≡ Found opens place cycle value → IsFoundAt records i place cycle value
          test true item e = from_payload (k + 1) q wait b r rest opens place cycle value front reads item e
          test false item e = absurd (no_lost (k + 1) opens place cycle value e)

  found_index : (k q : ℕ) (l : List (List ℕ)) (o : Option Indexed) (opens place cycle value : ℕ) → drop q records ≡ l → index_told i k q l o ≡ Found opens place cycle value → IsFoundAt records i place cycle value
  unfolding index_told
  found_index k q l None opens place cycle value front e = absurd (no_lost k opens place cycle value e)
  found_index k q l (Some (variant.Payload wait b)) opens place cycle value front e = absurd (no_lost k opens place cycle value e)
  found_index k q l (Some (variant.Index index)) opens place cycle value front e = by (slice_get index.entries i) e
    where
      by : (o : Option ℕ) → option_map_or (λ e. sought_item i k (q + e) (drop e l)) o (Lost k) ≡ Found opens place cycle value → IsFoundAt records i place cycle value
      by None e = absurd (no_lost k opens place cycle value e)
      by (Some n) e = found_item k (q + n) (drop n l) opens place cycle value (sym (drop-drop n q records) ∙ ap (drop n) front) e

  found_next : (q : ℕ) (l : List (List ℕ)) (opens place cycle value : ℕ) → drop q records ≡ l → sought_index i q l ≡ Found opens place cycle value → IsFoundAt records i place cycle value
  unfolding sought_index
  found_next q [] opens place cycle value front e = absurd (no_lost 1 opens place cycle value e)
  found_next q (r ∷ rest) opens place cycle value front e = found_index 2 q (r ∷ rest) (indexed_at r) opens place cycle value front e

  found_first : (q : ℕ) (l : List (List ℕ)) (opens place cycle value : ℕ) → drop q records ≡ l → sought_first i q l ≡ Found opens place cycle value → IsFoundAt records i place cycle value
  unfolding sought_first first_told
  found_first q [] opens place cycle value front e = absurd (no_lost 0 opens place cycle value e)
  found_first q (r ∷ rest) opens place cycle value front e = by (indexed_at r) refl e
    where
      by : (o : Option Indexed) → indexed_at r ≡ o → first_told i q (r ∷ rest) o ≡ Found opens place cycle value → IsFoundAt records i place cycle value
      by None reads e = absurd (no_lost 1 opens place cycle value e)
      by (Some (variant.Index index)) reads e = found_index 1 q (r ∷ rest) (Some (variant.Index index)) opens place cycle value front e
      by (Some (variant.Payload wait b)) reads e = test (has_item i b.body) refl e
        where
          test : (t : Bool) → has_item i b.body ≡ t → (if t then Found 1 q b.cycle (value_of b.body) else sought_index i (q + wait) (drop wait (r ∷ rest))) ≡ Found opens place cycle value
              → IsFoundAt records i place cycle value
          test true item e = from_payload 1 q wait b r rest opens place cycle value front reads item e
          test false item e = found_next (q + wait) (drop wait (r ∷ rest)) opens place cycle value (sym (drop-drop wait q records) ∙ ap (drop wait) front) e

pub found_there : (records : List (List ℕ)) (i p opens place cycle value : ℕ) → sought records i p ≡ Found opens place cycle value → IsFoundAt records i place cycle value
found_there records i p opens place cycle value e = found_first records i p (drop p records) opens place cycle value refl e

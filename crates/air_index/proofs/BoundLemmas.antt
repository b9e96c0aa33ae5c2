-- How far what is found lies from where the search begins, on a tape of one edition.
use Rattle.std.proofs.Common.{◌≡◌, ◌≤◌, ◌<◌, ◌⊎◌, inl, inr, ◌+◌, ◌++◌, if◌then◌else◌, ℕ, suc, Bool, true, false, Option, Some, None, List, [], ◌∷◌, All, drop, length, length-append, slice_get, take, refl, sym, ◌∙◌, ap, arith}
use Rattle.std.specs.List.{position_or_len}
use Rattle.std.specs.Option.{option_map_or}
use Rattle.std.proofs.lemmas.List.{drop-drop, take-append-drop}
use Rattle.std.proofs.lemmas.List.Elements.{All-drop, All-head}
use Rattle.air_model.proofs.Elements.{all_at}
use Rattle.air_model.specs.Buckets.{value_of}
use Rattle.air_index.specs.Records.{indexed_at}
use Rattle.air_index.specs.Seeks.{first_told, has_item, index_told, item_told, sought, sought_first, sought_index, sought_item}
use Rattle.air_index.specs.declared.records.Indexed.{Indexed}
use Rattle.air_index.specs.declared.records.Indexed.TheVariants as variant
use Rattle.air_index.specs.declared.sought.Sought.{Sought}
use Rattle.air_index.specs.declared.sought.Sought.TheVariants.{Found, Lost}
use Rattle.air_index.proofs.PositionLemmas.{first_either, first_later, first_left, first_right}

-- ---- around a list

-- What comes in a list, and not at place q, comes within the list's length from q on, around it.
pub comes_around : {X : Type 0} (p : X → Bool) (xs : List X) (q : ℕ) (x : X) (rest : List X) → drop q xs ≡ x ∷ rest → p x ≡ false → position_or_len p xs < length xs
    → position_or_len p (drop (q + 1) xs ++ xs) + 2 ≤ length xs
comes_around p xs q x rest at other comes = by (first_either p rest) (first_either p (take q xs))
  where
    behind : drop (q + 1) xs ≡ rest
    behind = sym (drop-drop 1 q xs) ∙ ap (drop 1) at

    whole : xs ≡ take q xs ++ (x ∷ rest)
    whole = sym (take-append-drop q xs) ∙ ap (λ l. take q xs ++ l) at

    long : length xs ≡ length (take q xs) + suc (length rest)
    long = ap length whole ∙ length-append (take q xs) (x ∷ rest)

    by : ((position_or_len p rest < length rest) ⊎ (position_or_len p rest ≡ length rest)) → ((position_or_len p (take q xs) < length (take q xs)) ⊎ (position_or_len p (take q xs) ≡ length (take q xs)))
        → position_or_len p (drop (q + 1) xs ++ xs) + 2 ≤ length xs
    by (inl less) o =
        let size = long in
        let here : position_or_len p (drop (q + 1) xs ++ xs) ≡ position_or_len p rest = ap (λ l. position_or_len p (l ++ xs)) behind ∙ first_left p rest xs less in
        omega arith
    by (inr none) (inl less) =
        let size = long in
        let here : position_or_len p (drop (q + 1) xs ++ xs) ≡ length rest + position_or_len p xs = ap (λ l. position_or_len p (l ++ xs)) behind ∙ first_right p rest xs none in
        let front : position_or_len p xs ≡ position_or_len p (take q xs) = ap (position_or_len p) whole ∙ first_left p (take q xs) (x ∷ rest) less in
        omega arith
    by (inr none) (inr absent) =
        let size = long in
        let later = first_later p x rest other in
        let nowhere : position_or_len p xs ≡ length (take q xs) + position_or_len p (x ∷ rest) = ap (position_or_len p) whole ∙ first_right p (take q xs) (x ∷ rest) absent in
        absurd (omega arith)

-- ---- searches

-- A record leads no further than this: a data record to an index, and an index to an item.
unfoldable pub IsNear : ℕ → ℕ → Indexed → Type 0
IsNear wait entry (variant.Index index) = All (λ e. e ≤ entry) index.entries
IsNear wait entry (variant.Payload w b) = w ≤ wait

unfoldable pub Leads : ℕ → ℕ → List ℕ → Type 0
Leads wait entry r = (x : Indexed) → indexed_at r ≡ Some x → IsNear wait entry x

not_lost : (k opens place cycle value : ℕ) → ◌≡◌ {A = Sought} (Lost k) (Found opens place cycle value) → ⊥
not_lost k opens place cycle value e = cc e

same_place : (a b c d w x y z : ℕ) → ◌≡◌ {A = Sought} (Found a b c d) (Found w x y z) → x ≡ b
same_place a b c d w x y z e = cc e

module _ (wait entry i : ℕ) (opens place cycle value : ℕ) where
  told_there : (k q : ℕ) (o : Option Indexed) → item_told i k q o ≡ Found opens place cycle value → place ≡ q
  unfolding item_told
  told_there k q None e = absurd (not_lost k opens place cycle value e)
  told_there k q (Some (variant.Index index)) e = absurd (not_lost k opens place cycle value e)
  told_there k q (Some (variant.Payload w b)) e = by (has_item i b.body) e
    where
      by : (t : Bool) → (if t then Found k q b.cycle (value_of b.body) else Lost k) ≡ Found opens place cycle value → place ≡ q
      by true e = same_place k q b.cycle (value_of b.body) opens place cycle value e
      by false e = absurd (not_lost k opens place cycle value e)

  item_there : (k q : ℕ) (l : List (List ℕ)) → sought_item i k q l ≡ Found opens place cycle value → place ≡ q
  unfolding sought_item
  item_there k q [] e = absurd (not_lost k opens place cycle value e)
  item_there k q (r ∷ rest) e = told_there (k + 1) q (indexed_at r) e

  index_near : (k q : ℕ) (l : List (List ℕ)) (o : Option Indexed) → ((x : Indexed) → o ≡ Some x → IsNear wait entry x) → index_told i k q l o ≡ Found opens place cycle value → place ≤ q + entry
  unfolding index_told IsNear
  index_near k q l None near e = absurd (not_lost k opens place cycle value e)
  index_near k q l (Some (variant.Payload w b)) near e = absurd (not_lost k opens place cycle value e)
  index_near k q l (Some (variant.Index index)) near e = by (slice_get index.entries i) refl e
    where
      by : (o : Option ℕ) → slice_get index.entries i ≡ o → option_map_or (λ e. sought_item i k (q + e) (drop e l)) o (Lost k) ≡ Found opens place cycle value → place ≤ q + entry
      by None at e = absurd (not_lost k opens place cycle value e)
      by (Some n) at e =
          let there = item_there k (q + n) (drop n l) e in
          let few : n ≤ entry = all_at (λ e. e ≤ entry) index.entries i n (near (variant.Index index) refl) at in
          omega arith

  next_near : (q : ℕ) (l : List (List ℕ)) → All (Leads wait entry) l → sought_index i q l ≡ Found opens place cycle value → place ≤ q + entry
  unfolding sought_index Leads
  next_near q [] all e = absurd (not_lost 1 opens place cycle value e)
  next_near q (r ∷ rest) all e = index_near 2 q (r ∷ rest) (indexed_at r) (All-head (Leads wait entry) r rest all) e

  first_near : (q : ℕ) (l : List (List ℕ)) → All (Leads wait entry) l → sought_first i q l ≡ Found opens place cycle value → place ≤ q + wait + entry
  unfolding sought_first first_told Leads IsNear
  first_near q [] all e = absurd (not_lost 0 opens place cycle value e)
  first_near q (r ∷ rest) all e = by (indexed_at r) (All-head (Leads wait entry) r rest all) e
    where
      by : (o : Option Indexed) → ((x : Indexed) → o ≡ Some x → IsNear wait entry x) → first_told i q (r ∷ rest) o ≡ Found opens place cycle value → place ≤ q + wait + entry
      by None near e = absurd (not_lost 1 opens place cycle value e)
      by (Some (variant.Index index)) near e = let there = index_near 1 q (r ∷ rest) (Some (variant.Index index)) near e in omega arith
      by (Some (variant.Payload w b)) near e = test (has_item i b.body) e
        where
          test : (t : Bool) → (if t then Found 1 q b.cycle (value_of b.body) else sought_index i (q + w) (drop w (r ∷ rest))) ≡ Found opens place cycle value → place ≤ q + wait + entry
          test true e = let there = same_place 1 q b.cycle (value_of b.body) opens place cycle value e in omega arith
          test false e =
              let few : w ≤ wait = near (variant.Payload w b) refl in
              let there = next_near (q + w) (drop w (r ∷ rest)) (All-drop (Leads wait entry) w (r ∷ rest) all) e in
              omega arith

pub found_near : (wait entry : ℕ) (records : List (List ℕ)) (i p opens place cycle value : ℕ) → All (Leads wait entry) records → sought records i p ≡ Found opens place cycle value → place ≤ p + wait + entry
found_near wait entry records i p opens place cycle value all e = first_near wait entry i opens place cycle value p (drop p records) (All-drop (Leads wait entry) p records all) e

-- Items without a repeat, with their marks: one more item, and that there is room for it among as many as there are marks.
use Rattle.std.proofs.Common.{◌≡◌, ◌<◌, ◌≤◌, ◌+◌, ◌++◌, ◌∷◌, [], ℕ, List, Bool, true, false, refl, sym, ap, ◌∙◌, arith, eqb, get_or, length, map, nat_le, replicate, set, subst, take, inl, inr, ◌⊎◌}
use Rattle.std.specs.Prelude.{◌||◌, ◌==◌}
use Rattle.std.specs.List.{AllByRecursion, IsDistinct, list_any}
use Rattle.std.proofs.lemmas.Bool.{cases_eq}
use Rattle.std.proofs.lemmas.Bool.Decides.{nat_tests}
use Rattle.std.proofs.lemmas.List.{get_or-replicate, get_or-set_other, get_or-set_same, length-append, length-map, length-set, length-take-le, map-append, take_more_set}
use Rattle.std.proofs.lemmas.Map.Steps.{length-le_from_distinct_below}
use Rattle.air_base.specs.declared.limits.TheConstants.{MOST_ITEMS}
use Rattle.air_history.specs.UpdateRules.{has_repeat, written_item}
use Rattle.air_history.specs.declared.updates.Write.{Write}
use Rattle.item_catalog.specs.ListTests.{is_unread, write_reaches}
use Rattle.item_catalog.specs.KeptLists.{ItemsSeen, KeptOnce, WritesSeen, among, see_item, see_write}
use Rattle.item_catalog.proofs.RepeatLemmas.{among_push, eq_sym, or_false, repeat_push}
use Rattle.item_catalog.proofs.SeenLemmas.{left_false, or_true, right_false}

apart : (x : ℕ) (xs : List ℕ) → among xs x ≡ false → AllByRecursion (λ y. eqb x y ≡ false) xs
apart x [] h = tt
apart x (y ∷ ys) h = (eq_sym x y ∙ left_false (y == x) (among ys x) h, apart x ys (right_false (y == x) (among ys x) h))

distinct : (xs : List ℕ) → has_repeat xs ≡ false → IsDistinct eqb xs
unfolding has_repeat IsDistinct
distinct [] h = tt
distinct (x ∷ xs) h = (apart x xs (left_false (among xs x) (has_repeat xs) h), distinct xs (right_false (among xs x) (has_repeat xs) h))

turned : (q : ℕ) (xs : List ℕ) → list_any (eqb q) xs ≡ among xs q
turned q [] = refl
turned q (x ∷ xs) = rw (eq_sym q x, turned q xs) refl

module _ (marks : List Bool) (items : List ℕ) (kept : KeptOnce marks items) (place : ℕ) (inside : place < MOST_ITEMS) (free : get_or marks place false ≡ false) where
  absent : among items place ≡ false
  absent = sym (kept.marked place inside) ∙ free

  still_once : has_repeat (items ++ place ∷ []) ≡ false
  still_once = repeat_push items place ∙ rw (kept.once, absent) refl

  still_below : (k : ℕ) → among (items ++ place ∷ []) k ≡ true → k < MOST_ITEMS
  still_below k there = by (among items k) refl (sym (among_push items place k) ∙ there)
    where
      by : (b : Bool) → among items k ≡ b → (b || (place == k)) ≡ true → k < MOST_ITEMS
      by true e h = kept.below k e
      by false e h = let same : place ≡ k = grind (arith, nat_tests, h) in omega (arith, same, inside)

  pub kept_room : length items < MOST_ITEMS
  kept_room =
      let all = length-le_from_distinct_below (items ++ place ∷ []) MOST_ITEMS (distinct (items ++ place ∷ []) still_once) (λ q h. still_below q (sym (turned q (items ++ place ∷ [])) ∙ h)) in
      omega (arith, all, length-append items (place ∷ []))

  pub kept_more : length marks ≡ MOST_ITEMS → KeptOnce (set marks place true) (items ++ place ∷ [])
  kept_more long = record { marked = marked; below = still_below; once = still_once }
    where
      marked : (k : ℕ) → k < MOST_ITEMS → get_or (set marks place true) k false ≡ among (items ++ place ∷ []) k
      marked k within = by (cases_eq k place)
        where
          by : (k ≡ place) ⊎ (k ≡ place → ⊥) → get_or (set marks place true) k false ≡ among (items ++ place ∷ []) k
          by (inl same) =
              let here : (place == k) ≡ true = grind (arith, nat_tests, same) in
              ap (λ i. get_or (set marks place true) i false) same ∙ get_or-set_same marks place true false (omega (arith, inside, long)) ∙ sym (among_push items place k ∙ rw here (or_true (among items k)))
          by (inr differs) =
              let apart_here : (place == k) ≡ false = grind (arith, nat_tests, differs) in
              get_or-set_other marks place k true false differs ∙ kept.marked k within ∙ sym (among_push items place k ∙ rw apart_here (or_false (among items k)))

pub kept_none : KeptOnce (replicate MOST_ITEMS false) []
unfolding has_repeat
kept_none = record { marked = λ k within. get_or-replicate MOST_ITEMS k false false within; below = λ k there. cc there; once = refl }

-- One more item that is declared and new is kept.
pub item_kept : (n : ℕ) (seen : ItemsSeen) (x : ℕ) (more : List ℕ) → x < n → among seen.items x ≡ false → more ≡ seen.items ++ x ∷ [] → record seen { items = more } ≡ see_item n seen x
item_kept n seen x more declared free is = let known : nat_le n x ≡ false = grind (arith, nat_tests, declared) in rw (known, free, is) refl

pub write_kept : (n : ℕ) (reads : List ℕ) (seen : WritesSeen) (w : Write) (more : List Write) (unread : Bool) → write_reaches n w ≡ false → among (map written_item seen.writes) w.item ≡ false
    → more ≡ seen.writes ++ w ∷ [] → unread ≡ (seen.unread || is_unread reads w) → record seen { writes = more; unread = unread } ≡ see_write n reads seen w
write_kept n reads seen w more unread reach free is told = rw (reach, free, is, told) refl

pub item_inside : (n : ℕ) (w : Write) → write_reaches n w ≡ false → n ≤ MOST_ITEMS → w.item < MOST_ITEMS
item_inside n w none few = let known : nat_le n w.item ≡ false = left_false (nat_le n w.item) _ none in grind (arith, nat_tests, known, few)

-- Writes are kept at the front of an array; the rest of it is unused.
module _ (marks : List Bool) (writes : List Write) (count : ℕ) (long : length marks ≡ MOST_ITEMS) (full : length writes ≡ MOST_ITEMS) (few : count ≤ MOST_ITEMS) (kept : KeptOnce marks (map written_item (take count writes)))
    (w : Write) (inside : w.item < MOST_ITEMS) (free : get_or marks w.item false ≡ false) where
  pub write_room : count < MOST_ITEMS
  write_room =
      omega (arith, kept_room marks (map written_item (take count writes)) kept w.item inside free, length-map (take count writes) written_item, length-take-le count writes (omega (arith, few, full)))

  pub one_taken : take (count + 1) (set writes count w) ≡ take count writes ++ w ∷ []
  one_taken = take_more_set writes count w (omega (arith, write_room, full))

  pub writes_kept : (length (set writes count w) ≡ MOST_ITEMS) × (count + 1 ≤ MOST_ITEMS) × KeptOnce (set marks w.item true) (map written_item (take (count + 1) (set writes count w)))
  writes_kept = (
    length-set writes count w ∙ full,
    omega (arith, write_room),
    subst (KeptOnce (set marks w.item true)) (sym (ap (map written_item) one_taken ∙ map-append written_item (take count writes) (w ∷ []))) (kept_more marks (map written_item (take count writes)) kept w.item inside free long),
  )

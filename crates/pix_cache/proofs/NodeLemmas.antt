-- The tree over the copy slots: which of two weighs less, what changes with one place, and what the root is.
use Rattle.std.proofs.Common.{◌≡◌, ◌≢◌, ℕ, zero, suc, ◌+◌, ◌-◌, ◌*◌, ◌/◌, ◌<◌, ◌≤◌, Bool, true, false, if◌then◌else◌, nat_lt, List, length, get_or, map, drop, All, length-drop, refl, sym, ◌∙◌, ap, subst, arith, ◌⊎◌, inl, inr}
use Rattle.std.proofs.Math.ListN.{set}
use Rattle.std.proofs.lemmas.Bool.{cases_eq, cases_lt, le-ltb, lt-ltb}
use Rattle.std.proofs.lemmas.List.{get_or-drop, get_or-map, get_or-set_other, get_or-set_same, get_or_default, length-map, same_lists}
use Rattle.pix_cache.specs.declared.leaf.Leaf.{Leaf}
use Rattle.pix_cache.specs.Leaves.{lighter, nowhere, weight}
use Rattle.pix_cache.specs.Private.Trees.{IsNode, IsTree}
use Rattle.pix_cache.specs.Private.TreeFields.{TellCopySlots}

-- ---- weights
-- Two tests that decide the same are equal.
pub same_test : (m n p q : ℕ) → (m < n → p < q) → (n ≤ m → q ≤ p) → nat_lt m n ≡ nat_lt p q
same_test m n p q less more = by (cases_lt m n)
  where
    by : (m < n) ⊎ (n ≤ m) → nat_lt m n ≡ nat_lt p q
    by (inl l) = lt-ltb m n l ∙ sym (lt-ltb p q (less l))
    by (inr l) = le-ltb m n l ∙ sym (le-ltb p q (more l))

-- An empty copy slot is lighter than a copy.
pub empty_lighter : (a b : Leaf) → a.kept ≡ false → b.kept ≡ nat_lt (weight a) (weight b)
empty_lighter a b e = by a.kept b.kept e
  where
    by : (x y : Bool) → x ≡ false → y ≡ nat_lt (if x then a.pix * 65538 + (65536 - a.item) + 1 else 0) (if y then b.pix * 65538 + (65536 - b.item) + 1 else 0)
    by true y e = cc
    by false true e = sym (lt-ltb 0 (b.pix * 65538 + (65536 - b.item) + 1) (omega arith))
    by false false e = refl

-- A copy isn't lighter than an empty copy slot.
pub copy_heavier : (a b : Leaf) → b.kept ≡ false → false ≡ nat_lt (weight a) (weight b)
copy_heavier a b e = sym (le-ltb (weight a) (weight b) (let none : weight b ≡ 0 = ap (λ (x : Bool). if x then b.pix * 65538 + (65536 - b.item) + 1 else 0) e in omega arith))

-- What a copy weighs.
pub copy_weight : (a : Leaf) → a.kept ≡ true → weight a ≡ a.pix * 65538 + (65536 - a.item) + 1
copy_weight a e = ap (λ (x : Bool). if x then a.pix * 65538 + (65536 - a.item) + 1 else 0) e

-- Of two copies with different numbers, the one with the lesser number is lighter.
pub pix_lighter : (a b : Leaf) → a.kept ≡ true → b.kept ≡ true → (a.pix ≡ b.pix → ⊥) → nat_lt a.pix b.pix ≡ nat_lt (weight a) (weight b)
pix_lighter a b ka kb ne =
    let wa = copy_weight a ka in
    let wb = copy_weight b kb in
    same_test a.pix b.pix (weight a) (weight b) (λ l. omega arith) (λ l. let less : b.pix < a.pix = omega (arith, ne) in omega arith)

-- Of two copies with one number, the one with the greater item is lighter.
pub item_lighter : (a b : Leaf) → a.item < 65536 → b.item < 65536 → a.kept ≡ true → b.kept ≡ true → a.pix ≡ b.pix → nat_lt b.item a.item ≡ nat_lt (weight a) (weight b)
item_lighter a b la lb ka kb same =
    let wa = copy_weight a ka in
    let wb = copy_weight b kb in
    same_test b.item a.item (weight a) (weight b) (λ l. omega arith) (λ l. omega arith)

-- The lighter of two weighs no more than either, and is one of them.
pub lighter_least : (a b : Leaf) → (weight (lighter a b) ≤ weight a) × (weight (lighter a b) ≤ weight b)
lighter_least a b = by (cases_lt (weight b) (weight a))
  where
    by : (weight b < weight a) ⊎ (weight a ≤ weight b) → (weight (lighter a b) ≤ weight a) × (weight (lighter a b) ≤ weight b)
    by (inl l) = let e = ap (λ (x : Bool). weight (if x then b else a)) (lt-ltb (weight b) (weight a) l) in (omega arith, omega arith)
    by (inr l) = let e = ap (λ (x : Bool). weight (if x then b else a)) (le-ltb (weight b) (weight a) l) in (omega arith, omega arith)

lighter_one : (a b : Leaf) → (lighter a b ≡ a) ⊎ (lighter a b ≡ b)
lighter_one a b = by (nat_lt (weight b) (weight a))
  where
    by : (x : Bool) → ((if x then b else a) ≡ a) ⊎ ((if x then b else a) ≡ b)
    by true = inr refl
    by false = inl refl

-- ---- one place changed
-- A place stays a node if neither it nor a child was changed.
pub node_kept : (tree : List Leaf) (u : ℕ) (x : Leaf) (v : ℕ) → v ≢ u → v ≢ u / 2 → IsNode tree v → IsNode (set tree u x) v
node_kept tree u x v other apart h =
    get_or-set_other tree u v x nowhere other ∙ h
    ∙ ap (λ a. lighter a (get_or tree (2 * v + 1) nowhere)) (sym (get_or-set_other tree u (2 * v) x nowhere (λ e. apart (omega arith))))
    ∙ ap (lighter (get_or (set tree u x) (2 * v) nowhere)) (sym (get_or-set_other tree u (2 * v + 1) x nowhere (λ e. apart (omega arith))))

-- A mended place is a node.
pub node_mended : (tree : List Leaf) (v : ℕ) → 1 ≤ v → v < length tree → IsNode (set tree v (lighter (get_or tree (2 * v) nowhere) (get_or tree (2 * v + 1) nowhere))) v
node_mended tree v some l =
    let x = lighter (get_or tree (2 * v) nowhere) (get_or tree (2 * v + 1) nowhere) in
    get_or-set_same tree v x nowhere l
    ∙ ap (λ a. lighter a (get_or tree (2 * v + 1) nowhere)) (sym (get_or-set_other tree v (2 * v) x nowhere (λ e. absurd (omega arith))))
    ∙ ap (lighter (get_or (set tree v x) (2 * v) nowhere)) (sym (get_or-set_other tree v (2 * v + 1) x nowhere (λ e. absurd (omega arith))))

-- ---- the root
at_leaf : (tree : List Leaf) (copy_slots s : ℕ) → get_or (drop copy_slots tree) s nowhere ≡ get_or tree (copy_slots + s) nowhere
at_leaf tree copy_slots s = get_or-drop copy_slots tree s nowhere

-- The root weighs no more than any node, by the way up.
least_to : (copy_slots : ℕ) (tree : List Leaf) (fuel u : ℕ) → IsTree copy_slots tree → u ≤ fuel → 1 ≤ u → u < 2 * copy_slots → weight (get_or tree 1 nowhere) ≤ weight (get_or tree u nowhere)
least_to copy_slots tree zero u t f some l = absurd (omega arith)
least_to copy_slots tree (suc fuel) u t f some l = by (least_to copy_slots tree fuel) (cases_lt u 2)
  where
    by : ((v : ℕ) → IsTree copy_slots tree → v ≤ fuel → 1 ≤ v → v < 2 * copy_slots → weight (get_or tree 1 nowhere) ≤ weight (get_or tree v nowhere)) → (u < 2) ⊎ (2 ≤ u) → weight (get_or tree 1 nowhere) ≤ weight (get_or tree u nowhere)
    by up_to (inl one) = let e : u ≡ 1 = omega arith in subst (λ v. weight (get_or tree 1 nowhere) ≤ weight (get_or tree v nowhere)) (sym e) (omega arith)
    by up_to (inr more) =
        let up = up_to (u / 2) t (omega arith) (omega arith) (omega arith) in
        let node = ap weight (t.nodes (u / 2) (omega arith) (omega arith)) in
        let both = lighter_least (get_or tree (2 * (u / 2)) nowhere) (get_or tree (2 * (u / 2) + 1) nowhere) in
        side (cases_eq u (2 * (u / 2))) up node both.0 both.1
      where
        side : (u ≡ 2 * (u / 2)) ⊎ (u ≡ 2 * (u / 2) → ⊥) → weight (get_or tree 1 nowhere) ≤ weight (get_or tree (u / 2) nowhere)
            → weight (get_or tree (u / 2) nowhere) ≡ weight (lighter (get_or tree (2 * (u / 2)) nowhere) (get_or tree (2 * (u / 2) + 1) nowhere))
            → weight (lighter (get_or tree (2 * (u / 2)) nowhere) (get_or tree (2 * (u / 2) + 1) nowhere)) ≤ weight (get_or tree (2 * (u / 2)) nowhere)
            → weight (lighter (get_or tree (2 * (u / 2)) nowhere) (get_or tree (2 * (u / 2) + 1) nowhere)) ≤ weight (get_or tree (2 * (u / 2) + 1) nowhere)
            → weight (get_or tree 1 nowhere) ≤ weight (get_or tree u nowhere)
        side (inl even) up node left right = subst (λ v. weight (get_or tree 1 nowhere) ≤ weight (get_or tree v nowhere)) (sym even) (omega arith)
        side (inr odd) up node left right = subst (λ v. weight (get_or tree 1 nowhere) ≤ weight (get_or tree v nowhere)) (let e : 2 * (u / 2) + 1 ≡ u = omega (arith, odd) in e) (omega arith)

-- The root weighs no more than any leaf.
pub root_least : (copy_slots : ℕ) (tree : List Leaf) (s : ℕ) → IsTree copy_slots tree → s < copy_slots → weight (get_or tree 1 nowhere) ≤ weight (get_or (drop copy_slots tree) s nowhere)
root_least copy_slots tree s t l = subst (λ (a : Leaf). weight (get_or tree 1 nowhere) ≤ weight a) (sym (at_leaf tree copy_slots s)) (least_to copy_slots tree (copy_slots + s) (copy_slots + s) t (omega arith) (omega arith) (omega arith))

-- Each node is some leaf, by the way down.
leaf_from : (copy_slots : ℕ) (tree : List Leaf) (fuel v : ℕ) → IsTree copy_slots tree → 2 * copy_slots ≤ v + fuel → 1 ≤ v → v < 2 * copy_slots → (s : ℕ) × (s < copy_slots) × (get_or tree v nowhere ≡ get_or tree (copy_slots + s) nowhere)
leaf_from copy_slots tree zero v t f some l = absurd (omega arith)
leaf_from copy_slots tree (suc fuel) v t f some l = by (leaf_from copy_slots tree fuel) (cases_lt v copy_slots)
  where
    by : ((u : ℕ) → IsTree copy_slots tree → 2 * copy_slots ≤ u + fuel → 1 ≤ u → u < 2 * copy_slots → (s : ℕ) × (s < copy_slots) × (get_or tree u nowhere ≡ get_or tree (copy_slots + s) nowhere)) → (v < copy_slots) ⊎ (copy_slots ≤ v) → (s : ℕ) × (s < copy_slots) × (get_or tree v nowhere ≡ get_or tree (copy_slots + s) nowhere)
    by down (inr leaf) = (v - copy_slots, omega arith, ap (λ k. get_or tree k nowhere) (let e : v ≡ copy_slots + (v - copy_slots) = omega arith in e))
    by down (inl node) = side (lighter_one (get_or tree (2 * v) nowhere) (get_or tree (2 * v + 1) nowhere))
      where
        side : (lighter (get_or tree (2 * v) nowhere) (get_or tree (2 * v + 1) nowhere) ≡ get_or tree (2 * v) nowhere) ⊎ (lighter (get_or tree (2 * v) nowhere) (get_or tree (2 * v + 1) nowhere) ≡ get_or tree (2 * v + 1) nowhere)
            → (s : ℕ) × (s < copy_slots) × (get_or tree v nowhere ≡ get_or tree (copy_slots + s) nowhere)
        side (inl left) = let r = down (2 * v) t (omega arith) (omega arith) (omega arith) in (r.0, r.1, t.nodes v some node ∙ left ∙ r.2)
        side (inr right) = let r = down (2 * v + 1) t (omega arith) (omega arith) (omega arith) in (r.0, r.1, t.nodes v some node ∙ right ∙ r.2)

-- The root is the leaf of its slot.
pub root_leaf : (copy_slots : ℕ) (tree : List Leaf) → IsTree copy_slots tree → 1 ≤ copy_slots → ((s : ℕ) → s < copy_slots → (get_or (drop copy_slots tree) s nowhere).copy_slot ≡ s) →
    ((get_or tree 1 nowhere).copy_slot < copy_slots) × (get_or (drop copy_slots tree) (get_or tree 1 nowhere).copy_slot nowhere ≡ get_or tree 1 nowhere)
root_leaf copy_slots tree t some told =
    let r = leaf_from copy_slots tree (2 * copy_slots) 1 t (omega arith) (omega arith) (omega arith) in
    let copy_slot : (get_or tree 1 nowhere).copy_slot ≡ r.0 = ap (λ a. a.copy_slot) (r.2 ∙ sym (at_leaf tree copy_slots r.0)) ∙ told r.0 r.1 in
    let below = r.1 in
    (omega arith, ap (λ s. get_or (drop copy_slots tree) s nowhere) copy_slot ∙ at_leaf tree copy_slots r.0 ∙ sym r.2)

-- The root is a leaf, and no leaf weighs less.
pub root_is : (copy_slots : ℕ) (tree : List Leaf) (r : Leaf) → IsTree copy_slots tree → TellCopySlots (drop copy_slots tree) → 1 ≤ copy_slots → r ≡ get_or tree 1 r →
    (r.copy_slot < length (drop copy_slots tree)) × (get_or (drop copy_slots tree) r.copy_slot nowhere ≡ r) × All (λ a. weight r ≤ weight a) (drop copy_slots tree)
root_is copy_slots tree r t told some e =
    let long : length (drop copy_slots tree) ≡ copy_slots = omega (arith, length-drop copy_slots tree, t.size) in
    let root : get_or tree 1 nowhere ≡ r = get_or_default tree 1 nowhere r (omega (arith, t.size)) ∙ sym e in
    let at = root_leaf copy_slots tree t some (λ s l. told s (omega arith)) in
    let copy_slot = ap (λ (b : Leaf). b.copy_slot) root in
    let within = at.0 in (
      omega arith,
      ap (λ k. get_or (drop copy_slots tree) k nowhere) (sym copy_slot) ∙ at.1 ∙ root,
      λ k d l. (let w = root_least copy_slots tree k t (omega arith) in let heavy = ap weight root in let same = ap weight (get_or_default (drop copy_slots tree) k nowhere d l) in omega arith),
    )

-- If each leaf was changed by one function, the leaves are the old ones changed by it.
pub leaves_mapped : (copy_slots : ℕ) (old new : List Leaf) (f : Leaf → Leaf) → length new ≡ length old → length old ≡ 2 * copy_slots → ((s : ℕ) → s < copy_slots → get_or (drop copy_slots new) s nowhere ≡ f (get_or (drop copy_slots old) s nowhere)) →
    drop copy_slots new ≡ map f (drop copy_slots old)
leaves_mapped copy_slots old new f same size each = same_lists (drop copy_slots new) (map f (drop copy_slots old))
    (omega (arith, length-drop copy_slots new, length-drop copy_slots old, length-map (drop copy_slots old) f))
    (λ k d l. (let short : k < length (drop copy_slots old) = omega (arith, length-drop copy_slots new, length-drop copy_slots old) in
    get_or_default (drop copy_slots new) k d nowhere l ∙ each k (omega (arith, length-drop copy_slots new)) ∙ sym (get_or-map f (drop copy_slots old) k nowhere d short)))

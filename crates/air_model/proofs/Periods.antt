-- An item that comes at the slots of one remainder: how often it comes, how far apart, and how long to wait for it. Nothing
-- here concerns disks: `ComesAt` is all that is known of the slots.
use Rattle.std.proofs.Common.{◌≡◌, ◌≤◌, ◌<◌, ◌↔◌, ◌⊎◌, inl, inr, ◌+◌, ◌-◌, ◌*◌, ◌%◌, ◌++◌, ℕ, zero, suc, Bool, true, false, cond, zero-add, Option, Some, None, List, [], ◌∷◌, length, length-append, get_or, take, drop, refl, sym, subst, ap, ◌∙◌, arith}
use Rattle.std.specs.List.{count_by}
use Rattle.std.proofs.lemmas.List.{get_or_append_left, get_or-append_right, get_or_default, get_or-drop, get_or_past, get_or-take, length-drop, length-take, nil_from_length, take-append-drop}
use Rattle.std.proofs.lemmas.List.Sums.{position_or_len_is, sum_by-append, sum_by-cons}
use Rattle.std.proofs.lemmas.Bool.{cases_lt}
use Rattle.std.proofs.lemmas.Nat.{mod_below}
use Rattle.std.proofs.Math.Nat.{add-mod-mod, add-mod_left, add-mod_right, mod-add-mod, mod-eq_of_lt, mod-mod_of_dvd}
use Rattle.std.proofs.lemmas.Nat.Gcd.{dvd_of_mod-eq-zero}
use Rattle.std.proofs.Math.Nat.{mul-mod_left}
use Rattle.air_model.specs.Airings.{ComesEvery, IsNextWake, airings, carries, next_wake, slot_item}

-- The item is aired in just the slots whose number leaves this remainder.
abbrev pub ComesAt : List (Option ℕ) → ℕ → ℕ → ℕ → Type 0
ComesAt slots i gap first = (s : ℕ) → s < length slots → (slot_item slots s ≡ Some i) ↔ (s % gap ≡ first)

count_cons : {X : Type 0} (p : X → Bool) (x : X) (xs : List X) (b : Bool) → p x ≡ b → count_by p (x ∷ xs) ≡ cond b 1 0 + count_by p xs
count_cons p x xs b e = sum_by-cons (λ y. cond (p y) 1 0) x xs ∙ ap (λ b. cond b 1 0 + count_by p xs) e

-- If no place passes, none is counted.
count_none : {X : Type 0} (p : X → Bool) (xs : List X) → ((k : ℕ) (d : X) → k < length xs → p (get_or xs k d) ≡ false) → count_by p xs ≡ 0
count_none p [] none = refl
count_none p (x ∷ xs) none =
    count_cons p x xs false (none 0 x (omega arith)) ∙ (rw (count_none p xs (λ k d below. none (suc k) d (omega arith))) refl)

-- If just one place passes, one is counted.
count_one : {X : Type 0} (p : X → Bool) (xs : List X) (f : ℕ) → f < length xs → ((k : ℕ) (d : X) → k < length xs → p (get_or xs k d) ≡ true → k ≡ f)
    → ((d : X) → p (get_or xs f d) ≡ true) → count_by p xs ≡ 1
count_one p [] f below alone here = absurd (omega arith)
count_one {X = X} p (x ∷ xs) zero below alone here =
    count_cons p x xs true (here x) ∙ ap (λ n. 1 + n) (count_none p xs (λ k d under. by (p (get_or xs k d)) (λ e. let z = alone (suc k) d (omega arith) e in omega arith)))
  where
    by : (b : Bool) → (b ≡ true → ⊥) → b ≡ false
    by false never = refl
    by true never = absurd (never refl)
count_one p (x ∷ xs) (suc f) below alone here =
    count_cons p x xs false (by (p x) refl) ∙ zero-add (count_by p xs) ∙ count_one p xs f (omega arith) (λ k d under e. let m = alone (suc k) d (omega arith) e in omega arith) here
  where
    by : (b : Bool) → p x ≡ b → p x ≡ false
    by false e = e
    by true e = absurd (let z = alone 0 x (omega arith) e in omega arith)

-- If the places that pass are those of one remainder, one of each period is counted.
pub count_periodic : {X : Type 0} (p : X → Bool) (t g f : ℕ) (xs : List X) → f < g → length xs ≡ t * g
    → ((k : ℕ) (d : X) → k < length xs → p (get_or xs k d) ≡ true → k % g ≡ f) → ((k : ℕ) (d : X) → k < length xs → k % g ≡ f → p (get_or xs k d) ≡ true)
    → count_by p xs ≡ t
count_periodic p zero g f xs below long only all = ap (count_by p) (nil_from_length xs (omega (arith, long)))
count_periodic {X = X} p (suc t) g f xs below long only all =
    let room : g ≤ length xs = omega (arith, long) in
    let front : length (take g xs) ≡ g = omega (arith, length-take g xs) in
    let rest : length (drop g xs) ≡ t * g = omega (arith, length-drop g xs, long) in
    let one : count_by p (take g xs) ≡ 1 =
    count_one p (take g xs) f (omega arith)
    (λ k d under e. sym (mod-eq_of_lt {n = k} {m = g} (omega arith)) ∙ only k d (omega arith) (ap p (sym (get_or-take g xs k d (omega arith))) ∙ e))
    (λ d. ap p (get_or-take g xs f d below) ∙ all f d (omega arith) (mod-eq_of_lt below)) in
    let more : count_by p (drop g xs) ≡ t =
    count_periodic p t g f (drop g xs) below rest
    (λ k d under e. sym (add-mod_left g k) ∙ only (g + k) d (omega (arith, length-drop g xs)) (ap p (sym (get_or-drop g xs k d)) ∙ e))
    (λ k d under e. ap p (get_or-drop g xs k d) ∙ all (g + k) d (omega (arith, length-drop g xs)) (add-mod_left g k ∙ e)) in
    ap (count_by p) (sym (take-append-drop g xs)) ∙ sum_by-append (λ y. cond (p y) 1 0) (take g xs) (drop g xs) ∙ (rw (one, more) (omega arith))

-- Going around the cycle keeps the remainder.
pub round_rest : (n t g : ℕ) → n % (t * g) % g ≡ n % g
round_rest n t g = mod-mod_of_dvd g n (dvd_of_mod-eq-zero g (mul-mod_left t g))

turn : (f g k : ℕ) → f < g → 0 < k → k < g → (f + k) % g ≡ f → ⊥
turn f g k below some less e = by (cases_lt (f + k) g)
  where
    by : ((f + k < g) ⊎ (g ≤ f + k)) → ⊥
    by (inl under) = let m = mod-eq_of_lt under in omega arith
    by (inr over) =
        let back : f + k - g + g ≡ f + k = omega arith in
        let m : (f + k - g) % g ≡ f = sym (add-mod_right (f + k - g) g) ∙ ap (λ n. n % g) back ∙ e in
        let low : f + k - g < g = omega arith in
        let same = sym (mod-eq_of_lt low) ∙ m in omega arith

-- Two places of one remainder are at least a period apart.
apart : (s g f k : ℕ) → f < g → 0 < k → k < g → s % g ≡ f → (s + k) % g ≡ f → ⊥
apart s g f k below some less here there =
    turn f g k below some less (ap (λ x. (x + k) % g) (sym here) ∙ mod-add-mod s g k ∙ there)

-- The number of steps to the next place of a remainder.
wake : (s g f : ℕ) → f < g → (s + (f + (g - s % g)) % g) % g ≡ f
wake s g f below =
    let low = mod_below s g (omega arith) in
    let sum : s % g + (f + (g - s % g)) ≡ f + g = omega arith in
    add-mod-mod s (f + (g - s % g)) g ∙ sym (mod-add-mod s g (f + (g - s % g))) ∙ ap (λ n. n % g) sum ∙ add-mod_right f g ∙ mod-eq_of_lt below

carries_is : (i : ℕ) (o : Option ℕ) → carries i o ≡ true → o ≡ Some i
carries_is i None e = cc e
carries_is i (Some j) e = ap Some (grind arith)

is_carries : (i : ℕ) (o : Option ℕ) → o ≡ Some i → carries i o ≡ true
is_carries i None e = cc e
is_carries i (Some j) e = grind arith

not_carries : (i : ℕ) (o : Option ℕ) → (o ≡ Some i → ⊥) → carries i o ≡ false
not_carries i o other = by (carries i o) refl
  where
    by : (b : Bool) → carries i o ≡ b → carries i o ≡ false
    by false e = e
    by true e = absurd (other (carries_is i o e))

-- Only a slot of the list carries an item.
carried_within : (slots : List (Option ℕ)) (s i : ℕ) → slot_item slots s ≡ Some i → s < length slots
carried_within slots s i e = by (cases_lt s (length slots))
  where
    by : ((s < length slots) ⊎ (length slots ≤ s)) → s < length slots
    by (inl under) = under
    by (inr over) = absurd (let past = get_or_past slots s None over in cc)

-- Only one wait is the least.
one_wake : (slots : List (Option ℕ)) (s i j k : ℕ) → IsNextWake slots s i j → IsNextWake slots s i k → j ≡ k
one_wake slots s i j k a b = by (cases_lt j k) (cases_lt k j)
  where
    by : ((j < k) ⊎ (k ≤ j)) → ((k < j) ⊎ (j ≤ k)) → j ≡ k
    by (inl less) o = absurd (b.first j less a.aired)
    by (inr over) (inl less) = absurd (a.first k less b.aired)
    by (inr over) (inr under) = omega arith

-- The slots from one on, followed by the cycle again, are the slots around the cycle.
around : (slots : List (Option ℕ)) (s j : ℕ) → s < length slots → j < length slots → get_or (drop s slots ++ slots) j None ≡ get_or slots ((s + j) % length slots) None
around slots s j within less = by (cases_lt (s + j) (length slots))
  where
    by : ((s + j < length slots) ⊎ (length slots ≤ s + j)) → get_or (drop s slots ++ slots) j None ≡ get_or slots ((s + j) % length slots) None
    by (inl under) =
        get_or_append_left (drop s slots) slots None j (omega (arith, length-drop s slots)) ∙ get_or-drop s slots j None ∙ ap (λ n. get_or slots n None) (sym (mod-eq_of_lt under))
    by (inr over) =
        let back : s + j - length slots + length slots ≡ s + j = omega arith in
        let low : s + j - length slots < length slots = omega arith in
        let turned : (s + j) % length slots ≡ j - (length slots - s) = ap (λ n. n % length slots) (sym back) ∙ add-mod_right (s + j - length slots) (length slots) ∙ mod-eq_of_lt low ∙ (omega arith) in
        get_or-append_right (drop s slots) slots (length slots - s) j None (length-drop s slots) (omega arith) ∙ ap (λ n. get_or slots n None) (sym turned)

-- The least wait is the number of slots before the item's next slot.
wake_found : (slots : List (Option ℕ)) (s i k : ℕ) → s < length slots → k < length slots → IsNextWake slots s i k → next_wake slots s i ≡ k
unfolding next_wake
wake_found slots s i k within under is =
    position_or_len_is (carries i) (drop s slots ++ slots) k None (omega (arith, length-append (drop s slots) slots))
    (λ j less. not_carries i _ (λ e. is.first j less (sym (around slots s j within (omega arith)) ∙ e)))
    (λ below. is_carries i _ (around slots s k within under ∙ is.aired))

module _ (slots : List (Option ℕ)) (i t g f : ℕ) (below : f < g) (some : 0 < t) (long : length slots ≡ t * g) (comes : ComesAt slots i g f) where
  round : (n : ℕ) → ((slot_item slots (n % length slots) ≡ Some i) → n % g ≡ f) × (n % g ≡ f → (slot_item slots (n % length slots) ≡ Some i))
  round n =
      let whole : 0 < t * g = grind arith in
      let under : n % length slots < length slots = mod_below n (length slots) (omega arith) in
      let rest : n % length slots % g ≡ n % g = ap (λ l. n % l % g) long ∙ round_rest n t g in
      let both = comes (n % length slots) under in
      ((λ h. sym rest ∙ both.0 h), (λ e. both.1 (rest ∙ e)))

  pub airings_are : airings slots i ≡ t
  airings_are =
      count_periodic (carries i) t g f slots below long
      (λ k d under e. (comes k under).0 (carries_is i (get_or slots k None) (ap (carries i) (at k None d under) ∙ e)))
      (λ k d under e. is_carries i (get_or slots k d) (at k d None under ∙ (comes k under).1 e))
    where
      at : (k : ℕ) (d e : Option ℕ) → k < length slots → get_or slots k d ≡ get_or slots k e
      at k d e under = get_or_default slots k d e under

  pub comes_every : ComesEvery slots i g
  comes_every = record {
    some = omega arith;
    again = λ s here. (round (s + g)).1 (add-mod_right s g ∙ (comes s (carried_within slots s i here)).0 here);
    between = λ s k here some less there. apart s g f k below some less ((comes s (carried_within slots s i here)).0 here) ((round (s + k)).0 there);
  }

  wake_is : (s : ℕ) → IsNextWake slots s i ((f + (g - s % g)) % g)
  wake_is s =
      let k = (f + (g - s % g)) % g in
      let there = wake s g f below in record {
        aired = (round (s + k)).1 there;
        first = λ j less here. apart (s + j) g f (k - j) below (omega arith) (let top = mod_below (f + (g - s % g)) g (omega arith) in omega arith) ((round (s + j)).0 here) (ap (λ n. n % g) (later s j k less) ∙ there);
      }
    where
      later : (s j k : ℕ) → j < k → s + j + (k - j) ≡ s + k
      later s j k less = omega arith

  wake_at : (s : ℕ) → s < length slots → next_wake slots s i ≡ (f + (g - s % g)) % g
  wake_at s within = wake_found slots s i ((f + (g - s % g)) % g) within (let top = mod_below (f + (g - s % g)) g (omega arith) in fits t some long) (wake_is s)
    where
      fits : (t : ℕ) → 0 < t → length slots ≡ t * g → (f + (g - s % g)) % g < length slots
      fits zero some long = absurd (omega arith)
      fits (suc t) some long = let top = mod_below (f + (g - s % g)) g (omega arith) in omega (arith, long)

  first_at : 0 < length slots → next_wake slots 0 i ≡ f
  first_at more =
      let none : 0 % g ≡ 0 = mod-eq_of_lt {n = 0} {m = g} (omega arith) in
      let sum : f + (g - 0 % g) ≡ f + g = omega arith in
      wake_at 0 more ∙ ap (λ n. n % g) sum ∙ add-mod_right f g ∙ mod-eq_of_lt below

  pub next_wake_is : (s : ℕ) → s < length slots
      → ((k : ℕ) → IsNextWake slots s i k ↔ (k ≡ next_wake slots s i)) × (next_wake slots s i ≡ (next_wake slots 0 i + (g - s % g)) % g)
  next_wake_is s within =
      let at = wake_at s within in (
        (λ k. ((λ is. one_wake slots s i k _ is (wake_is s) ∙ sym at), (λ e. subst (IsNextWake slots s i) (sym (e ∙ at)) (wake_is s)))),
        at ∙ ap (λ n. (n + (g - s % g)) % g) (sym (first_at (omega arith))),
      )

-- Updates dealt to four updaters in turn, and the script that commits them: it commits as many updates of an updater as the
-- updater was dealt.
use Rattle.std.proofs.Common.{◌≡◌, ◌<◌, ◌≤◌, ◌+◌, ◌*◌, ◌%◌, ◌++◌, ◌∷◌, [], ℕ, zero, suc, List, Option, Some, None, Bool, true, false, cond, length, map, get_or, refl, sym, ap, ◌∙◌, arith, inl, inr, append_assoc, set}
use Rattle.std.specs.Prelude.{◌==◌, ◌||◌, ◌⊎◌, All, nat_lt, count_by, sum_by, if◌then◌else◌}
use Rattle.std.specs.List.{enumerate_from, filter, flat_map, range_with_len}
use Rattle.std.specs.Option.{option_map_or}
use Rattle.std.proofs.Math.Nat.{mod-lt}
use Rattle.std.proofs.lemmas.Bool.{cases_lt, ne_eqb}
use Rattle.std.proofs.lemmas.List.{append-nil, length-append, length-map, map-append}
use Rattle.std.proofs.lemmas.List.Concat.{length-flat_map}
use Rattle.std.proofs.lemmas.List.Elements.{All-filter, All-map, filter-append}
use Rattle.std.proofs.lemmas.Bool.Decides.{nat_tests}
use Rattle.std.proofs.lemmas.List.FromFn.{get_or-enumerate_from, get_or-map-range_with_len, length-enumerate_from, length-range_with_len}
use Rattle.std.proofs.lemmas.List.Sums.{count_by-le-length, length-filter, sum_by-append, sum_by-cons, sum_by-le}
use Rattle.air_model.specs.Decks.{scripted_commits}
use Rattle.air_model.specs.Drills.{dealt_to, drill_script, turn_of}
use Rattle.item_catalog.specs.DeckLimits.{is_scripted_start}
use Rattle.item_catalog.specs.Faults.{count_starts, script_passes}

-- ---- what an updater is dealt

enumerated : {A : Type 0} (P : A → Type 0) (n : ℕ) (xs : List A) → All P xs → All (λ (u : ℕ × A). P u.1) (enumerate_from n xs)
enumerated P n xs all k d below =
    let short : k < length xs = omega (arith, length-enumerate_from n xs) in
    rw (get_or-enumerate_from n xs k d short) (all k d.1 short)

pub dealt_all : {A : Type 0} (P : A → Type 0) (xs : List A) (by : ℕ) → All P xs → All P (dealt_to xs by)
dealt_all {A} P xs by all =
    All-map P (λ (u : ℕ × A). u.1) (filter (λ u. u.0 % 4 == by) (enumerate_from 0 xs))
    (All-filter (λ (u : ℕ × A). u.0 % 4 == by) (λ u. P u.1) (enumerate_from 0 xs) (enumerated P 0 xs all))

-- How many of these numbers are an updater's.
abbrev turns : ℕ → List ℕ → ℕ
turns by numbers = count_by (λ u. u % 4 == by) numbers

counted : {A : Type 0} (by n : ℕ) (xs : List A) → count_by (λ (u : ℕ × A). u.0 % 4 == by) (enumerate_from n xs) ≡ turns by (range_with_len n (length xs))
counted by n [] = refl
counted {A} by n (x ∷ xs) =
    sum_by-cons (λ (u : ℕ × A). cond (u.0 % 4 == by) 1 0) (n, x) (enumerate_from (n + 1) xs)
    ∙ ap (λ c. cond (n % 4 == by) 1 0 + c) (counted by (n + 1) xs)
    ∙ sym (sum_by-cons (λ u. cond (u % 4 == by) 1 0) n (range_with_len (n + 1) (length xs)))

length-dealt : {A : Type 0} (xs : List A) (by : ℕ) → length (dealt_to xs by) ≡ turns by (range_with_len 0 (length xs))
length-dealt {A} xs by =
    length-map (filter (λ (u : ℕ × A). u.0 % 4 == by) (enumerate_from 0 xs)) (λ u. u.1)
    ∙ length-filter (λ (u : ℕ × A). u.0 % 4 == by) (enumerate_from 0 xs) ∙ counted by 0 xs

pub dealt_few : {A : Type 0} (xs : List A) (by : ℕ) → length (dealt_to xs by) ≤ length xs
dealt_few xs by = omega (arith, length-dealt xs by, count_by-le-length (λ u. u % 4 == by) (range_with_len 0 (length xs)), length-range_with_len 0 (length xs))

-- ---- what the script commits

abbrev counts : ℕ → Option ℕ → ℕ
counts by part = cond (option_map_or (λ who. who == by) part false) 1 0

turn_counted : (by u : ℕ) → sum_by (counts by) (turn_of u) ≡ cond (u % 4 == by) 1 0
turn_counted by u = at (u % 5 == 0)
  where
    at : (starts : Bool) → sum_by (counts by) (cond starts (None ∷ Some (u % 4) ∷ []) (Some (u % 4) ∷ [])) ≡ cond (u % 4 == by) 1 0
    at true = sum_by-cons (counts by) None (Some (u % 4) ∷ []) ∙ omega (arith, sum_by-cons (counts by) (Some (u % 4)) [])
    at false = sum_by-cons (counts by) (Some (u % 4)) [] ∙ omega arith

turns_counted : (by a n : ℕ) → sum_by (counts by) (flat_map turn_of (range_with_len a n)) ≡ turns by (range_with_len a n)
turns_counted by a zero = refl
turns_counted by a (suc n) =
    let one = turn_counted by a in let rest = turns_counted by (a + 1) n in
    let both = sum_by-append (counts by) (turn_of a) (flat_map turn_of (range_with_len (a + 1) n)) in
    let told = sum_by-cons (λ u. cond (u % 4 == by) 1 0) a (range_with_len (a + 1) n) in
    both ∙ ap (λ c. c + sum_by (counts by) (flat_map turn_of (range_with_len (a + 1) n))) one ∙ ap (λ c. cond (a % 4 == by) 1 0 + c) rest ∙ sym told

script_counted : (by n : ℕ) → scripted_commits by (drill_script n) ≡ turns by (range_with_len 0 n)
script_counted by n =
    let both = sum_by-append (counts by) (flat_map turn_of (range_with_len 0 n)) (None ∷ None ∷ []) in
    let none : sum_by (counts by) (None ∷ None ∷ []) ≡ 0 = refl in
    omega (arith, both, none, turns_counted by 0 n)

-- No number is the turn of an updater after the fourth.
no_turn : (by a n : ℕ) → 4 ≤ by → turns by (range_with_len a n) ≡ 0
no_turn by a zero high = refl
no_turn by a (suc n) high =
    let first : (a % 4 == by) ≡ false = ne_eqb (a % 4) by (λ e. omega (arith, mod-lt a {m = 4} (omega arith))) in
    sum_by-cons (λ u. cond (u % 4 == by) 1 0) a (range_with_len (a + 1) n) ∙ ap (λ b. cond b 1 0 + turns by (range_with_len (a + 1) n)) first ∙ omega (arith, no_turn by (a + 1) n high)

pub script_fits : {A : Type 0} (xs : List A) (n by : ℕ) → length xs ≡ n → scripted_commits by (drill_script n) ≤ length (get_or (map (dealt_to xs) (range_with_len 0 4)) by [])
script_fits {A} xs n by e = at (cases_lt by 4)
  where
    at : (by < 4) ⊎ (4 ≤ by) → scripted_commits by (drill_script n) ≤ length (get_or (map (dealt_to xs) (range_with_len 0 4)) by [])
    at (inl low) =
        let own = ap length (get_or-map-range_with_len (dealt_to xs) 0 4 by by [] low (omega arith)) in
        omega (arith, script_counted by n, own, length-dealt xs by, ap (λ n. turns by (range_with_len 0 n)) e)
    at (inr high) = omega (arith, script_counted by n, no_turn by 0 n high)

turn_short : (u : ℕ) → length (turn_of u) ≤ 2
turn_short u = at (u % 5 == 0)
  where
    at : (starts : Bool) → length (cond starts (None ∷ Some (u % 4) ∷ []) (Some (u % 4) ∷ [])) ≤ 2
    at true = omega arith
    at false = omega arith

pub turns_short : (n : ℕ) → length (flat_map turn_of (range_with_len 0 n)) ≤ n * 2
turns_short n =
    omega (
      arith,
      length-flat_map turn_of (range_with_len 0 n),
      length-range_with_len 0 n,
      sum_by-le (λ u. length (turn_of u)) 2 (range_with_len 0 n) (λ k d below. turn_short (get_or (range_with_len 0 n) k d)),
    )

pub script_short : (n : ℕ) → length (drill_script n) ≤ n * 2 + 2
script_short n = omega (arith, length-append (flat_map turn_of (range_with_len 0 n)) (None ∷ None ∷ []), turns_short n)

-- ---- one more update

pub turns_more : (a n u : ℕ) → a + n ≡ u → flat_map turn_of (range_with_len a (n + 1)) ≡ flat_map turn_of (range_with_len a n) ++ turn_of u
turns_more a zero u e = append-nil (turn_of a) ∙ ap turn_of (let f : a ≡ u = omega arith in f)
turns_more a (suc n) u e =
    let next : suc n + 1 ≡ suc (n + 1) = omega arith in
    ap (λ k. flat_map turn_of (range_with_len a k)) next ∙ ap (λ parts. turn_of a ++ parts) (turns_more (a + 1) n u (omega arith))
    ∙ sym (append_assoc (turn_of a) (flat_map turn_of (range_with_len (a + 1) n)) (turn_of u))

enumerate_more : {A : Type 0} (n : ℕ) (xs : List A) (x : A) (k : ℕ) → n + length xs ≡ k → enumerate_from n (xs ++ x ∷ []) ≡ enumerate_from n xs ++ (k, x) ∷ []
enumerate_more n [] x k e = ap (λ k. (k, x) ∷ []) (let f : n ≡ k = omega arith in f)
enumerate_more n (y ∷ xs) x k e = ap (λ rest. (n, y) ∷ rest) (enumerate_more (n + 1) xs x k (omega arith))

-- One more update goes to the updater whose turn it is.
dealt_more : {A : Type 0} (xs : List A) (x : A) (u by : ℕ) → length xs ≡ u → dealt_to (xs ++ x ∷ []) by ≡ dealt_to xs by ++ (if u % 4 == by then x ∷ [] else [])
dealt_more {A} xs x u by e =
    let test = λ (p : ℕ × A). p.0 % 4 == by in let value = λ (p : ℕ × A). p.1 in
    ap (λ ps. map value (filter test ps)) (enumerate_more 0 xs x u (omega arith))
    ∙ ap (map value) (filter-append test (enumerate_from 0 xs) ((u, x) ∷ []))
    ∙ map-append value (filter test (enumerate_from 0 xs)) (filter test ((u, x) ∷ []))
    ∙ ap (λ ys. dealt_to xs by ++ ys) (own (u % 4 == by))
  where
    own : (b : Bool) → map (λ (p : ℕ × A). p.1) (cond b ((u, x) ∷ []) []) ≡ cond b (x ∷ []) []
    own true = refl
    own false = refl

four : {A : Type 0} {a b c d e f g h : A} → a ≡ e → b ≡ f → c ≡ g → d ≡ h → a ∷ b ∷ c ∷ d ∷ [] ≡ e ∷ f ∷ g ∷ h ∷ []
four {A} {a} {b} {c} {d} {e} {f} {g} {h} p q r s = ap (λ x. x ∷ b ∷ c ∷ d ∷ []) p ∙ ap (λ x. e ∷ x ∷ c ∷ d ∷ []) q ∙ ap (λ x. e ∷ f ∷ x ∷ d ∷ []) r ∙ ap (λ x. e ∷ f ∷ g ∷ x ∷ []) s

pub deal_more : {A : Type 0} (xs : List A) (x : A) (u : ℕ) (lists : List (List A)) (old new : List A) → length xs ≡ u → lists ≡ map (dealt_to xs) (range_with_len 0 4) →
    old ≡ get_or lists (u % 4) old → new ≡ old ++ x ∷ [] → set lists (u % 4) new ≡ map (dealt_to (xs ++ x ∷ [])) (range_with_len 0 4)
deal_more {A} xs x u lists old new e dealt was now =
    ap (λ ls. set ls (u % 4) new) dealt ∙ by (u % 4) refl (mod-lt u {m = 4} (omega arith)) (was ∙ ap (λ ls. get_or ls (u % 4) old) dealt)
  where
    same : (by : ℕ) → (u % 4 == by) ≡ false → dealt_to xs by ≡ dealt_to (xs ++ x ∷ []) by
    same by f = sym (append-nil (dealt_to xs by)) ∙ ap (λ b. dealt_to xs by ++ (if b then x ∷ [] else [])) (sym f) ∙ sym (dealt_more xs x u by e)

    more : (by : ℕ) → (u % 4 == by) ≡ true → old ≡ dealt_to xs by → new ≡ dealt_to (xs ++ x ∷ []) by
    more by f o = now ∙ ap (λ ys. ys ++ x ∷ []) o ∙ ap (λ b. dealt_to xs by ++ (if b then x ∷ [] else [])) (sym f) ∙ sym (dealt_more xs x u by e)

    other : (r by : ℕ) → u % 4 ≡ r → (r == by) ≡ false → (u % 4 == by) ≡ false
    other r by f g = ap (λ k. k == by) f ∙ g

    by : (r : ℕ) → u % 4 ≡ r → r < 4 → old ≡ get_or (map (dealt_to xs) (range_with_len 0 4)) r old → set (map (dealt_to xs) (range_with_len 0 4)) r new ≡ map (dealt_to (xs ++ x ∷ [])) (range_with_len 0 4)
    by zero f l o = four (more 0 (ap (λ k. k == 0) f) o) (same 1 (other 0 1 f refl)) (same 2 (other 0 2 f refl)) (same 3 (other 0 3 f refl))
    by (suc zero) f l o = four (same 0 (other 1 0 f refl)) (more 1 (ap (λ k. k == 1) f) o) (same 2 (other 1 2 f refl)) (same 3 (other 1 3 f refl))
    by (suc (suc zero)) f l o = four (same 0 (other 2 0 f refl)) (same 1 (other 2 1 f refl)) (more 2 (ap (λ k. k == 2) f) o) (same 3 (other 2 3 f refl))
    by (suc (suc (suc zero))) f l o = four (same 0 (other 3 0 f refl)) (same 1 (other 3 1 f refl)) (same 2 (other 3 2 f refl)) (more 3 (ap (λ k. k == 3) f) o)
    by (suc (suc (suc (suc r)))) f l o = absurd (omega arith)

-- ---- the limits of a script

below : (a b : ℕ) → b ≤ a → nat_lt a b ≡ false
below a b l = grind (arith, nat_tests)

pub start_allowed : (script : List (Option ℕ)) → length script ≤ 5000 → script_passes script (None ∷ []) ≡ false
start_allowed script few =
    ap (λ b. b || nat_lt 10000 (count_starts script + 1)) (below 200000 (length script + 1) (omega arith))
    ∙ below 10000 (count_starts script + 1) (omega (arith, count_by-le-length is_scripted_start script))

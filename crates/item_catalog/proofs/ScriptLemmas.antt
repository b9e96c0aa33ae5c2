-- Scripts: one more event, the limits of many, and a test of each updater.
use Rattle.std.proofs.Common.{◌≡◌, ◌<◌, ◌≤◌, ◌+◌, ◌++◌, ◌∷◌, [], ℕ, zero, suc, List, Option, Some, Bool, true, false, cond, length, get_or, set, nat_le, nat_lt, refl, sym, ap, ◌∙◌, arith, inl, inr, ◌⊎◌, append_assoc, length-append}
use Rattle.std.specs.Prelude.{◌||◌, ◌==◌}
use Rattle.std.specs.List.{list_any}
use Rattle.std.specs.Option.{option_map_or}
use Rattle.std.proofs.lemmas.Bool.{cases_eq}
use Rattle.std.proofs.lemmas.Bool.Decides.{nat_tests}
use Rattle.std.proofs.lemmas.List.{get_or-set_same, get_or-set_other}
use Rattle.std.proofs.lemmas.List.Folds.{list_any-append}
use Rattle.std.proofs.lemmas.List.Sums.{sum_by-append}
use Rattle.air_base.specs.declared.limits.TheConstants.{MOST_EVENTS, MOST_STARTS, MOST_UPDATERS}
use Rattle.air_model.specs.Decks.{scripted_commits}
use Rattle.item_catalog.specs.DeckLimits.{is_scripted_start}
use Rattle.item_catalog.specs.Faults.{count_starts, script_passes, some_below}
use Rattle.item_catalog.specs.ListTests.{option_any}

-- The part is a commit of the updater.
abbrev pub is_commit_by : ℕ → Option ℕ → Bool
is_commit_by by part = option_map_or (λ who. who == by) part false

pub parts_all : (by : ℕ) (script events : List (Option ℕ)) → scripted_commits by (script ++ events) ≡ scripted_commits by script + scripted_commits by events
parts_all by script events = sum_by-append (λ x. cond (is_commit_by by x) 1 0) script events

pub starts_all : (script events : List (Option ℕ)) → count_starts (script ++ events) ≡ count_starts script + count_starts events
starts_all script events = sum_by-append (λ x. cond (is_scripted_start x) 1 0) script events

-- The counts with one more commit.
pub commits_more : (counts : List ℕ) (script : List (Option ℕ)) (by k : ℕ) → by < length counts → get_or counts k 0 ≡ scripted_commits k script → get_or counts by 0 ≡ scripted_commits by script
    → get_or (set counts by (get_or counts by 0 + 1)) k 0 ≡ scripted_commits k (script ++ Some by ∷ [])
commits_more counts script by k below at own = elim (cases_eq k by) [
  | inl e ↦ let one : scripted_commits by (Some by ∷ []) ≡ 1 = own_part by in
      rw e (get_or-set_same counts by (get_or counts by 0 + 1) 0 below ∙ omega (arith, parts_all by script (Some by ∷ [])))
  | inr differs ↦ let none = other_part by k differs in
      get_or-set_other counts by k (get_or counts by 0 + 1) 0 differs ∙ omega (arith, parts_all k script (Some by ∷ []))
]
  where
    own_part : (by : ℕ) → scripted_commits by (Some by ∷ []) ≡ 1
    own_part by = let e : (by == by) ≡ true = grind arith in rw e refl

    other_part : (by k : ℕ) → (k ≡ by → ⊥) → scripted_commits k (Some by ∷ []) ≡ 0
    other_part by k differs = let e : (by == k) ≡ false = grind arith in rw e refl

-- Some number below n.
pub some_none : (p : ℕ → Bool) → some_below 0 p ≡ false
unfolding some_below
some_none p = refl

pub some_more : (i : ℕ) (p : ℕ → Bool) → some_below i p ≡ false → p i ≡ false → some_below (i + 1) p ≡ false
unfolding some_below
some_more i p none here = let e : i + 1 ≡ suc i = omega arith in rw (e, none, here) refl

or_true : (b : Bool) → (b || true) ≡ true
or_true true = refl
or_true false = refl

pub some_at : (n i : ℕ) (p : ℕ → Bool) → i < n → p i ≡ true → some_below n p ≡ true
unfolding some_below
some_at zero i p below here = absurd (omega arith)
some_at (suc n) i p below here = by (cases_eq i n) (λ less. some_at n i p less here)
  where
    by : (i ≡ n) ⊎ (i ≡ n → ⊥) → (i < n → some_below n p ≡ true) → (some_below n p || p n) ≡ true
    by (inl e) more = ap (λ b. some_below n p || b) (ap p (sym e) ∙ here) ∙ or_true (some_below n p)
    by (inr differs) more = ap (λ b. b || p n) (more (omega arith))

pub some_same : (n : ℕ) (p q : ℕ → Bool) → ((k : ℕ) → k < n → p k ≡ q k) → some_below n p ≡ some_below n q
unfolding some_below
some_same zero p q h = refl
some_same (suc n) p q h = rw (some_same n p q (λ k below. h k (omega arith)), h n (omega arith)) refl

pub none_below : (n i : ℕ) (p : ℕ → Bool) → i < n → some_below n p ≡ false → p i ≡ false
none_below n i p below none = by (p i) refl
  where
    by : (b : Bool) → p i ≡ b → b ≡ false
    by false e = refl
    by true e = cc (some_at n i p below e, none)

-- The limits of no events, and of one more.
pub passes_none : (script : List (Option ℕ)) → length script ≤ MOST_EVENTS → count_starts script ≤ MOST_STARTS → script_passes script [] ≡ false
passes_none script few starts =
    let l : nat_lt MOST_EVENTS (length script + 0) ≡ false = grind arith in
    let s : nat_lt MOST_STARTS (count_starts script + 0) ≡ false = grind arith in
    rw (l, s) refl

or_each : (a b l m s t : Bool) → (((a || b) || (l || m)) || (s || t)) ≡ (((a || l) || s) || ((b || m) || t))
or_each true b l m s t = refl
or_each false true true m s t = refl
or_each false true false m true t = refl
or_each false true false m false t = refl
or_each false false true m s t = refl
or_each false false false true true t = refl
or_each false false false true false t = refl
or_each false false false false s t = refl

over_more : (limit c d : ℕ) → c ≤ d → nat_lt limit d ≡ (nat_lt limit c || nat_lt limit d)
over_more limit c d less = by (nat_lt limit c) (nat_lt limit d) refl refl
  where
    by : (a b : Bool) → nat_lt limit c ≡ a → nat_lt limit d ≡ b → b ≡ (a || b)
    by false b e f = refl
    by true true e f = refl
    by true false e f = let below : limit < c = grind (arith, nat_tests) in let above : d ≤ limit = grind (arith, nat_tests) in absurd (omega arith)

passes_events : (script done : List (Option ℕ)) (event : Option ℕ)
    → nat_lt MOST_EVENTS (length script + length (done ++ event ∷ [])) ≡ (nat_lt MOST_EVENTS (length script + length done) || nat_lt MOST_EVENTS (length (script ++ done) + 1))
passes_events script done event =
    let more : length script + length (done ++ event ∷ []) ≡ length (script ++ done) + 1 = omega (arith, length-append script done, length-append done (event ∷ [])) in
    let all : length script + length done ≡ length (script ++ done) = omega (arith, length-append script done) in
    rw (more, all) (over_more MOST_EVENTS (length (script ++ done)) (length (script ++ done) + 1) (omega arith))

passes_starts : (script done : List (Option ℕ)) (event : Option ℕ)
    → nat_lt MOST_STARTS (count_starts script + count_starts (done ++ event ∷ [])) ≡ (nat_lt MOST_STARTS (count_starts script + count_starts done) || nat_lt MOST_STARTS (count_starts (script ++ done) + count_starts (event ∷ [])))
passes_starts script done event =
    let more : count_starts script + count_starts (done ++ event ∷ []) ≡ count_starts (script ++ done) + count_starts (event ∷ []) = omega (arith, starts_all script done, starts_all done (event ∷ [])) in
    let all : count_starts script + count_starts done ≡ count_starts (script ++ done) = omega (arith, starts_all script done) in
    rw (more, all) (over_more MOST_STARTS (count_starts (script ++ done)) (count_starts (script ++ done) + count_starts (event ∷ [])) (omega arith))

pub passes_more : (script done : List (Option ℕ)) (event : Option ℕ) → script_passes script (done ++ event ∷ []) ≡ (script_passes script done || script_passes (script ++ done) (event ∷ []))
passes_more script done event =
    rw (list_any-append (option_any (nat_le MOST_UPDATERS)) done (event ∷ []), passes_events script done event, passes_starts script done event)
    (or_each (list_any (option_any (nat_le MOST_UPDATERS)) done) (list_any (option_any (nat_le MOST_UPDATERS)) (event ∷ [])) (nat_lt MOST_EVENTS (length script + length done)) (nat_lt MOST_EVENTS (length (script ++ done) + 1))
    (nat_lt MOST_STARTS (count_starts script + count_starts done)) (nat_lt MOST_STARTS (count_starts (script ++ done) + count_starts (event ∷ []))))

-- A commit that passes no limit.
pub commit_fits : (script : List (Option ℕ)) (by : ℕ) → script_passes script (Some by ∷ []) ≡ false → (by < MOST_UPDATERS) × (length script + 1 ≤ MOST_EVENTS)
commit_fits script by h = at (nat_le MOST_UPDATERS by) (nat_lt MOST_EVENTS (length script + 1)) (nat_lt MOST_STARTS (count_starts script + 0)) refl refl h
  where
    at : (a b s : Bool) → nat_le MOST_UPDATERS by ≡ a → nat_lt MOST_EVENTS (length script + 1) ≡ b → (((a || false) || b) || s) ≡ false → (by < MOST_UPDATERS) × (length script + 1 ≤ MOST_EVENTS)
    at true b s e f h = cc h
    at false true s e f h = cc h
    at false false s e f h = (grind (arith, nat_tests, e), grind (arith, nat_tests, f))

-- One more event of a reading: whether a limit is passed, and the script that has it.
module _ (old done self : List (Option ℕ)) (event : Option ℕ) (passed next : Bool) (told : passed ≡ script_passes old done) (same : passed ≡ false → self ≡ old ++ done)
    (here : next ≡ (passed || script_passes self (event ∷ []))) where
  pub step_passes : next ≡ script_passes old (done ++ event ∷ [])
  step_passes = by passed refl
    where
      by : (b : Bool) → passed ≡ b → next ≡ script_passes old (done ++ event ∷ [])
      by true e = here ∙ rw e (sym (passes_more old done event ∙ rw (← told, e) refl))
      by false e = here ∙ rw (e, same e) (sym (passes_more old done event ∙ rw (← told, e) refl))

  pub step_taken : (new : List (Option ℕ)) → (next ≡ false → new ≡ self ++ event ∷ []) → next ≡ false → new ≡ old ++ (done ++ event ∷ [])
  step_taken new taken none = by passed refl
    where
      by : (b : Bool) → passed ≡ b → new ≡ old ++ (done ++ event ∷ [])
      by true e = cc (here, e, none)
      by false e = taken none ∙ rw (same e) (append_assoc old done (event ∷ []))

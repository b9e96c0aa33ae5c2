-- No kind of fault applies to the script of a deck that is well made and within the limits.
use Rattle.std.proofs.Common.{◌≡◌, ◌<◌, ◌≤◌, ◌+◌, ◌++◌, ◌∷◌, [], ℕ, zero, suc, List, Option, Some, None, Bool, true, false, cond, refl, ap, ◌∙◌, length, get_or, nat_le, nat_lt, arith, inl, inr}
use Rattle.std.specs.Prelude.{◌==◌, ◌||◌, All}
use Rattle.std.specs.List.{list_any}
use Rattle.std.specs.Option.{option_map_or}
use Rattle.std.proofs.lemmas.Bool.{cases_lt}
use Rattle.std.proofs.lemmas.Bool.Decides.{nat_tests}
use Rattle.std.proofs.lemmas.List.{get_or_past}
use Rattle.std.proofs.lemmas.List.Folds.{list_any_none}
use Rattle.std.proofs.lemmas.List.Sums.{get_or-le-sum_by}
use Rattle.air_base.specs.declared.limits.TheConstants.{MOST_EVENTS, MOST_STARTS, MOST_UPDATERS}
use Rattle.air_history.specs.UpdateLists.{UpdateLists}
use Rattle.air_model.specs.Decks.{scripted_commits}
use Rattle.item_catalog.specs.ListTests.{option_any}
use Rattle.item_catalog.specs.RecordKinds.{first_of}
use Rattle.item_catalog.specs.Faults.{count_starts, script_passes, script_tests, some_below}
use Rattle.item_catalog.specs.declared.faults.FaultKind.TheVariants as fault
use Rattle.item_catalog.proofs.DeclarationTexts.{SmallNumber}
use Rattle.item_catalog.proofs.TestLemmas.{neither, none_two, not_less, not_reached}

none_below : (n : ℕ) (test : ℕ → Bool) → ((k : ℕ) → test k ≡ false) → some_below n test ≡ false
unfolding some_below
none_below zero test h = refl
none_below (suc n) test h = neither (some_below n test) (test n) (none_below n test h) (h n)

abbrev is_commit_by : ℕ → Option ℕ → Bool
is_commit_by by part = option_map_or (λ who. who == by) part false

-- An updater with a part in the script is one of the updaters, if it has no more parts than updates.
pub committed : (updates : List (List UpdateLists)) (script : List (Option ℕ)) → length updates ≤ MOST_UPDATERS → ((by : ℕ) → scripted_commits by script ≤ length (get_or updates by []))
    → All (λ part. option_any (nat_le MOST_UPDATERS) part ≡ false) script
committed updates script few fits k d below = at (get_or script k d) refl
  where
    counted : (by : ℕ) → cond (is_commit_by by (get_or script k d)) 1 0 ≤ scripted_commits by script
    counted by = get_or-le-sum_by (λ part. cond (is_commit_by by part) 1 0) script k d below

    at : (part : Option ℕ) → get_or script k d ≡ part → option_any (nat_le MOST_UPDATERS) part ≡ false
    at None same = refl
    at (Some by) same = elim (cases_lt by MOST_UPDATERS) [
      | inl low ↦ not_reached MOST_UPDATERS by low
      | inr high ↦
          let own : (by == by) ≡ true = grind arith in
          let one : ◌≡◌ {A = ℕ} (cond (is_commit_by by (get_or script k d)) 1 0) 1 = ap (λ p. cond (is_commit_by by p) 1 0) same ∙ ap (λ b. cond b 1 0) own in
          let none : length (get_or updates by []) ≡ 0 = ap length (get_or_past updates by [] (omega arith)) in
          absurd (omega (arith, one, none, counted by, fits by))
    ]

pub small_events : (script : List (Option ℕ)) → All (λ part. option_any (nat_le MOST_UPDATERS) part ≡ false) script → All SmallNumber script
small_events script all k d below = by (get_or script k d) (all k d below)
  where
    by : (part : Option ℕ) → option_any (nat_le MOST_UPDATERS) part ≡ false → SmallNumber part
    by None h = tt
    by (Some who) h = let low : who < MOST_UPDATERS = grind (arith, nat_tests, h) in omega arith

more_given : (updates pad : List (List UpdateLists)) (by : ℕ) → length (get_or updates by []) ≤ length (get_or (updates ++ pad) by [])
more_given [] pad by = omega arith
more_given (own ∷ updates) pad zero = omega arith
more_given (own ∷ updates) pad (suc by) = more_given updates pad by

pub script_none : (updates pad : List (List UpdateLists)) (script : List (Option ℕ)) → All (λ part. option_any (nat_le MOST_UPDATERS) part ≡ false) script → ((by : ℕ) → scripted_commits by script ≤ length (get_or updates by []))
    → length script ≤ MOST_EVENTS → count_starts script ≤ MOST_STARTS → first_of (script_tests (λ by. length (get_or (updates ++ pad) by [])) [] script) ≡ None
script_none updates pad script known fits few starts =
    none_two fault.Limit fault.Overdrawn (script_passes [] script) (some_below MOST_UPDATERS (λ by. nat_lt (length (get_or (updates ++ pad) by [])) (scripted_commits by script)))
    (neither (list_any (option_any (nat_le MOST_UPDATERS)) script || nat_lt MOST_EVENTS (0 + length script)) (nat_lt MOST_STARTS (0 + count_starts script))
    (neither (list_any (option_any (nat_le MOST_UPDATERS)) script) (nat_lt MOST_EVENTS (0 + length script)) (list_any_none (option_any (nat_le MOST_UPDATERS)) script known)
    (not_less MOST_EVENTS (0 + length script) (omega arith)))
    (not_less MOST_STARTS (0 + count_starts script) (omega arith)))
    (none_below MOST_UPDATERS (λ by. nat_lt (length (get_or (updates ++ pad) by [])) (scripted_commits by script))
    (λ by. not_less (length (get_or (updates ++ pad) by [])) (scripted_commits by script) (omega (arith, fits by, more_given updates pad by))))

-- A legal history begins a whole one: the missing commits follow, updater by updater, and then the missing starts.
use Rattle.std.proofs.Common.{◌≡◌, ◌≢◌, ℕ, zero, suc, ◌+◌, ◌-◌, ◌≤◌, ◌<◌, ◌==◌, Bool, true, false, cond, List, [], ◌∷◌, ◌++◌, length, take, drop, refl, sym, ◌∙◌, ap, subst, inl, inr, arith}
use Rattle.std.specs.List.{filter}
use Rattle.std.proofs.lemmas.Bool.{cases_lt, eqb-true, eq-eqb}
use Rattle.std.proofs.lemmas.List.{append-nil, get_or_past, take-append-drop}
use Rattle.std.proofs.lemmas.List.Sums.{length-filter}
use Rattle.std.proofs.lemmas.List.Elements.{filter-append}
use Rattle.air_history.specs.declared.histories.Event.{Event}
use Rattle.air_history.specs.declared.histories.Event.TheVariants.{Commit, Start}
use Rattle.air_history.specs.UpdateLists.{UpdateLists}
use Rattle.air_history.specs.Histories.{is_start, starts}
use Rattle.air_model.specs.Decks.{Deck, IsLegal, IsWhole, count_made, is_by, updates_by}
use Rattle.air_model.specs.DeckLaws.{commits_from, made_by}
use Rattle.air_model.proofs.LegalLemmas.{legal, whole}
use Rattle.air_model.proofs.ClosingLemmas.{length_commits}
use Rattle.air_model.proofs.StartLemmas.{starts_append, starts_none, starts_start}

-- ---- commits of one updater

all_own : (by m : ℕ) (us : List UpdateLists) → filter (is_by by) (commits_from by m us) ≡ commits_from by m us
unfolding commits_from is_by
all_own by m [] = refl
all_own by m (u ∷ us) =
    ap (λ b. cond b (Commit by m u ∷ filter (is_by by) (commits_from by (suc m) us)) (filter (is_by by) (commits_from by (suc m) us))) (eq-eqb by by refl)
    ∙ ap (λ l. Commit by m u ∷ l) (all_own by (suc m) us)

not_same : (k by : ℕ) → k ≢ by → (k == by) ≡ false
not_same k by apart = other (k == by) refl
  where
    other : (b : Bool) → (k == by) ≡ b → b ≡ false
    other true t = absurd (apart (eqb-true k by t))
    other false f = refl

none_own : (by k m : ℕ) (us : List UpdateLists) → k ≢ by → filter (is_by by) (commits_from k m us) ≡ []
unfolding commits_from is_by
none_own by k m [] apart = refl
none_own by k m (u ∷ us) apart =
    ap (λ b. cond b (Commit k m u ∷ filter (is_by by) (commits_from k (suc m) us)) (filter (is_by by) (commits_from k (suc m) us))) (not_same k by apart)
    ∙ none_own by k (suc m) us apart

commits_start_none : (by m : ℕ) (us : List UpdateLists) → starts (commits_from by m us) ≡ 0
unfolding commits_from starts is_start
commits_start_none by m [] = refl
commits_start_none by m (u ∷ us) = commits_start_none by (suc m) us

commits_append : (by m : ℕ) (xs ys : List UpdateLists) → commits_from by m (xs ++ ys) ≡ commits_from by m xs ++ commits_from by (m + length xs) ys
unfolding commits_from
commits_append by m [] ys = ap (λ n. commits_from by n ys) (omega arith)
commits_append by m (x ∷ xs) ys = ap (λ l. Commit by m x ∷ l) (commits_append by (suc m) xs ys ∙ ap (λ n. commits_from by (suc m) xs ++ commits_from by n ys) (omega arith))

-- ---- what is missing

module _ (deck : Deck) (H : List Event) where
  -- The updater's further commits
  abbrev rest : ℕ → List Event
  rest by = commits_from by (count_made by H) (drop (count_made by H) (updates_by deck by))

  -- Those of the first n updaters
  abbrev missing : ℕ → List Event
  missing zero = []
  missing (suc n) = missing n ++ rest n

  missing_none : (n by : ℕ) → n ≤ by → filter (is_by by) (missing n) ≡ []
  missing_none zero by l = refl
  missing_none (suc n) by l =
      filter-append (is_by by) (missing n) (rest n)
      ∙ ap (λ l. l ++ filter (is_by by) (rest n)) (missing_none n by (omega arith))
      ∙ none_own by n (count_made n H) (drop (count_made n H) (updates_by deck n)) (omega arith)

  missing_own : (n by : ℕ) → by < n → filter (is_by by) (missing n) ≡ rest by
  missing_own zero by l = absurd (omega arith)
  missing_own (suc n) by l = elim (cases_lt by n) as (λ _. filter (is_by by) (missing (suc n)) ≡ rest by) [
    | inl before ↦ filter-append (is_by by) (missing n) (rest n)
        ∙ ap (λ l. l ++ filter (is_by by) (rest n)) (missing_own n by before)
        ∙ ap (λ l. rest by ++ l) (none_own by n (count_made n H) (drop (count_made n H) (updates_by deck n)) (omega arith))
        ∙ append-nil (rest by)
    | inr past ↦ let same : by ≡ n = omega arith in
        filter-append (is_by by) (missing n) (rest n)
        ∙ ap (λ l. l ++ filter (is_by by) (rest n)) (missing_none n by past)
        ∙ subst (λ k. filter (is_by by) (rest k) ≡ rest by) same (all_own by (count_made by H) (drop (count_made by H) (updates_by deck by)))
  ]

  missing_starts : (n : ℕ) → starts (missing n) ≡ 0
  missing_starts zero = starts_none
  missing_starts (suc n) = let both = starts_append (missing n) (rest n) in
      omega (arith, both, missing_starts n, commits_start_none n (count_made n H) (drop (count_made n H) (updates_by deck n)))

-- n starts.
abbrev some_starts : ℕ → List Event
some_starts zero = []
some_starts (suc n) = Start ∷ some_starts n

starts_only : (n : ℕ) → starts (some_starts n) ≡ n
starts_only zero = starts_none
starts_only (suc n) = let rest = starts_only n in let one = starts_start (some_starts n) in omega arith

starts_unmade : (by n : ℕ) → filter (is_by by) (some_starts n) ≡ []
unfolding is_by
starts_unmade by zero = refl
starts_unmade by (suc n) = starts_unmade by n

rest_none : (by n : ℕ) (us : List UpdateLists) → us ≡ [] → commits_from by n (drop n us) ≡ []
unfolding commits_from
rest_none by zero us e = ap (commits_from by 0) e
rest_none by (suc n) us e = ap (λ l. commits_from by (suc n) (drop (suc n) l)) e

missing_all : (deck : Deck) (H : List Event) (by : ℕ) → filter (is_by by) (missing deck H (length deck.updates)) ≡ rest deck H by
missing_all deck H by = elim (cases_lt by (length deck.updates)) as (λ _. filter (is_by by) (missing deck H (length deck.updates)) ≡ rest deck H by) [
  | inl l ↦ missing_own deck H (length deck.updates) by l
  | inr past ↦ missing_none deck H (length deck.updates) by past ∙ sym (rest_none by (count_made by H) (updates_by deck by) (get_or_past deck.updates by [] past))
]

pub whole_beyond : (deck : Deck) (H : List Event) → IsLegal deck H → starts H ≤ deck.settings.cycles → (later : List Event) × IsWhole deck (H ++ later)
unfolding made_by
whole_beyond deck H is most =
    let n = length deck.updates in
    let commits = missing deck H n in
    let more = some_starts (deck.settings.cycles - starts H) in
    let later = commits ++ more in
    let made : (by : ℕ) → filter (is_by by) later ≡ rest deck H by = λ by.
    filter-append (is_by by) commits more
    ∙ ap (λ l. filter (is_by by) commits ++ l) (starts_unmade by (deck.settings.cycles - starts H))
    ∙ append-nil (filter (is_by by) commits)
    ∙ missing_all deck H by in (
      later,
      (whole deck (H ++ later)).1 (
        λ by.
            let us = updates_by deck by in
            let c = count_made by H in
            let here : made_by by H ≡ commits_from by 0 (take c us) = (legal deck H).0 is by in
            let long : c ≡ length (take c us) = sym (length-filter (is_by by) H) ∙ ap length here ∙ length_commits by 0 (take c us) in
            filter-append (is_by by) H later ∙ ap (λ l. l ++ filter (is_by by) later) here ∙ ap (λ l. commits_from by 0 (take c us) ++ l) (made by)
            ∙ ap (λ m. commits_from by 0 (take c us) ++ commits_from by m (drop c us)) (omega (arith, long))
            ∙ sym (commits_append by 0 (take c us) (drop c us)) ∙ ap (commits_from by 0) (take-append-drop c us),
        (let a = starts_append H later in let b = starts_append commits more in let none = missing_starts deck H n in let only = starts_only (deck.settings.cycles - starts H) in omega arith),
      ),
    )

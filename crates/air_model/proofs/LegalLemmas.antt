-- Legal histories, updater by updater; the script's history; and what updates of a deck give a history.
use Rattle.std.proofs.Common.{◌≡◌, ℕ, zero, suc, ◌+◌, Bool, true, false, cond, ◌==◌, Some, List, [], ◌∷◌, length, take, drop, refl, sym, ◌∙◌, ap, subst, arith, ◌↔◌}
use Rattle.std.specs.List.{slice_get}
use Rattle.std.proofs.lemmas.Bool.{eqb-true, eq-eqb}
use Rattle.std.proofs.lemmas.List.{take_all}
use Rattle.std.proofs.lemmas.List.Sums.{length-filter}
use Rattle.air_history.specs.declared.histories.Event.{Event}
use Rattle.air_history.specs.declared.histories.Event.TheVariants.{Commit, Start}
use Rattle.air_history.specs.UpdateLists.{UpdateLists}
use Rattle.air_history.specs.Histories.{starts}
use Rattle.air_model.specs.Decks.{Deck, IsLegal, count_made, is_by, updates_by, IsWhole}
use Rattle.air_model.specs.DeckLaws.{commits_from, made_by}

-- ---- legal, updater by updater

dropped : (us : List UpdateLists) (n : ℕ) (u : UpdateLists) → slice_get us n ≡ Some u → drop n us ≡ u ∷ drop (suc n) us
dropped [] n u e = cc
dropped (x ∷ us) zero u e = let same : x ≡ u = cc in ap (λ y. y ∷ us) same
dropped (x ∷ us) (suc n) u e = dropped us n u e

-- How many commits of the updater there are.
abbrev number_made : ℕ → List Event → ℕ
number_made by H = length (made_by by H)

-- From place 0 on, each commit of the updater is its next, if n were made before.
abbrev Follows : ℕ → List UpdateLists → ℕ → List Event → Type 0
Follows by us n H = (p seq : ℕ) (u : UpdateLists) → slice_get H p ≡ Some (Commit by seq u) → (seq ≡ n + number_made by (take p H)) × (slice_get us seq ≡ Some u)

made_from : (by : ℕ) (us : List UpdateLists) (H : List Event) (n : ℕ) → Follows by us n H → made_by by H ≡ commits_from by n (take (number_made by H) (drop n us))
unfolding made_by commits_from is_by
made_from by us [] n h = refl
made_from by us (Start ∷ H) n h = made_from by us H n (λ p seq u e. h (suc p) seq u e)
made_from by us (Commit who seq u ∷ H) n h = step (who == by) refl (λ m f. made_from by us H m f)
  where
    step : (b : Bool) → (who == by) ≡ b → ((m : ℕ) → Follows by us m H → made_by by H ≡ commits_from by m (take (number_made by H) (drop m us))) →
        cond b (Commit who seq u ∷ made_by by H) (made_by by H) ≡ commits_from by n (take (length (cond b (Commit who seq u ∷ made_by by H) (made_by by H))) (drop n us))
    step true t rest =
        let same : who ≡ by = eqb-true who by t in
        let here = h 0 seq u (ap (λ w. Some (Commit w seq u)) same) in
        let number : seq ≡ n = omega (arith, here.0) in
        let given : slice_get us n ≡ Some u = subst (λ k. slice_get us k ≡ Some u) number here.1 in
        ap (λ w. Commit w seq u ∷ made_by by H) same ∙ ap (λ k. Commit by k u ∷ made_by by H) number
        ∙ ap (λ l. Commit by n u ∷ l) (rest (suc n) (λ p k v e.
        let both = h (suc p) k v e in
        let count : number_made by (take (suc p) (Commit who seq u ∷ H)) ≡ length (Commit who seq u ∷ made_by by (take p H)) = ap (λ b. length (cond b (Commit who seq u ∷ made_by by (take p H)) (made_by by (take p H)))) t in
        (omega (arith, both.0, count), both.1)))
        ∙ ap (λ l. commits_from by n (take (suc (number_made by H)) l)) (sym (dropped us n u given))
    step false f rest = rest n (λ p k v e.
        let both = h (suc p) k v e in
        let count : number_made by (take (suc p) (Commit who seq u ∷ H)) ≡ number_made by (take p H) = ap (λ b. length (cond b (Commit who seq u ∷ made_by by (take p H)) (made_by by (take p H)))) f in
        (omega (arith, both.0, count), both.1))

-- The commit at a place is that of its number among its updater's.
at_made : (by : ℕ) (H : List Event) (p : ℕ) (e : Event) → slice_get H p ≡ Some e → is_by by e ≡ true → slice_get (made_by by H) (number_made by (take p H)) ≡ Some e
unfolding made_by
at_made by [] p e s t = cc
at_made by (x ∷ H) zero e s t =
    let same : x ≡ e = cc in
    ap (λ b. slice_get (cond b (x ∷ made_by by H) (made_by by H)) 0) (ap (is_by by) same ∙ t) ∙ ap Some same
at_made by (x ∷ H) (suc p) e s t = step (is_by by x) refl (at_made by H p e s t)
  where
    step : (b : Bool) → is_by by x ≡ b → slice_get (made_by by H) (number_made by (take p H)) ≡ Some e →
        slice_get (cond b (x ∷ made_by by H) (made_by by H)) (length (cond b (x ∷ made_by by (take p H)) (made_by by (take p H)))) ≡ Some e
    step true _ rest = rest
    step false _ rest = rest

commits_at : (by m : ℕ) (us : List UpdateLists) (n who seq : ℕ) (u : UpdateLists) → slice_get (commits_from by m us) n ≡ Some (Commit who seq u) →
    (seq ≡ m + n) × (slice_get us n ≡ Some u)
unfolding commits_from
commits_at by m [] n who seq u e = cc
commits_at by m (v ∷ us) zero who seq u e =
    let number : m ≡ seq = cc in
    let same : v ≡ u = cc in
    (omega arith, ap Some same)
commits_at by m (v ∷ us) (suc n) who seq u e = let rest = commits_at by (suc m) us n who seq u e in (omega (arith, rest.0), rest.1)

in_take : (c : ℕ) (us : List UpdateLists) (n : ℕ) (u : UpdateLists) → slice_get (take c us) n ≡ Some u → slice_get us n ≡ Some u
in_take zero us n u e = cc
in_take (suc c) [] n u e = cc
in_take (suc c) (x ∷ us) zero u e = e
in_take (suc c) (x ∷ us) (suc n) u e = in_take c us n u e

count_of_made : (by : ℕ) (H : List Event) → number_made by H ≡ count_made by H
unfolding made_by
count_of_made by H = length-filter (is_by by) H

legal_made : (deck : Deck) (H : List Event) → IsLegal deck H → (by : ℕ) → made_by by H ≡ commits_from by 0 (take (count_made by H) (updates_by deck by))
legal_made deck H h by = made_from by (updates_by deck by) H 0 (λ p seq u e.
    let next = h p by seq u e in
    (next.number ∙ sym (count_of_made by (take p H)) ∙ omega arith, next.given))
    ∙ ap (λ n. commits_from by 0 (take n (updates_by deck by))) (count_of_made by H)

made_legal : (deck : Deck) (H : List Event) → ((by : ℕ) → made_by by H ≡ commits_from by 0 (take (count_made by H) (updates_by deck by))) → IsLegal deck H
unfolding is_by
made_legal deck H h p by seq u e =
    let n = number_made by (take p H) in
    let us = take (count_made by H) (updates_by deck by) in
    let there : slice_get (made_by by H) n ≡ Some (Commit by seq u) = at_made by H p (Commit by seq u) e (eq-eqb by by refl) in
    let is : (seq ≡ 0 + n) × (slice_get us n ≡ Some u) = commits_at by 0 us n by seq u (subst (λ l. slice_get l n ≡ Some (Commit by seq u)) (h by) there) in
    let number : seq ≡ n = omega (arith, is.0) in
    record { number = number ∙ count_of_made by (take p H); given = subst (λ k. slice_get (updates_by deck by) k ≡ Some u) (sym number) (in_take (count_made by H) (updates_by deck by) n u is.1) }

pub legal : (deck : Deck) (H : List Event) →
    IsLegal deck H ↔ ((by : ℕ) → made_by by H ≡ commits_from by 0 (take (count_made by H) (updates_by deck by)))
legal deck H = (legal_made deck H, made_legal deck H)

length_commits : (by m : ℕ) (us : List UpdateLists) → length (commits_from by m us) ≡ length us
unfolding commits_from
length_commits by m [] = refl
length_commits by m (u ∷ us) = let rest = length_commits by (suc m) us in omega arith

pub whole : (deck : Deck) (H : List Event) →
    IsWhole deck H ↔ (((by : ℕ) → made_by by H ≡ commits_from by 0 (updates_by deck by)) × (starts H ≡ deck.settings.cycles))
whole deck H = (
  λ h. (
    λ by. legal_made deck H h.legal by ∙ ap (commits_from by 0) (take_all (count_made by H) (updates_by deck by) (let all = h.all by in omega arith)),
    h.cycles,
  ),
  λ h.
      let all : (by : ℕ) → count_made by H ≡ length (updates_by deck by) = λ by. sym (count_of_made by H) ∙ ap length (h.0 by) ∙ length_commits by 0 (updates_by deck by) in
      record {
        legal = made_legal deck H (λ by. h.0 by ∙ ap (commits_from by 0) (sym (take_all (count_made by H) (updates_by deck by) (let same = all by in omega arith))));
        all = all;
        cycles = h.1;
      },
)

-- From what the passes of a closed station saw to a legal history, and to a whole one.
use Rattle.std.proofs.Common.{◌≡◌, ℕ, zero, suc, ◌≤◌, ◌==◌, Bool, true, false, cond, Some, List, [], ◌∷◌, length, take, get_or, All, refl, sym, ◌∙◌, ap, subst, inl, inr, arith}
use Rattle.std.specs.Prelude.{count_by}
use Rattle.std.specs.List.{filter, slice_get}
use Rattle.std.proofs.lemmas.Bool.{cases_lt, eqb-true}
use Rattle.std.proofs.lemmas.Option.{slice_get-get_or}
use Rattle.std.proofs.lemmas.List.{get_or_past}
use Rattle.std.proofs.lemmas.List.Sums.{length-filter}
use Rattle.std.proofs.lemmas.List.Elements.{All-head, All-tail}
use Rattle.air_history.specs.declared.histories.Event.{Event}
use Rattle.air_history.specs.declared.histories.Event.TheVariants.{Commit, Start}
use Rattle.air_history.specs.UpdateLists.{UpdateLists}
use Rattle.air_history.specs.Histories.{is_start, starts, EventFits}
use Rattle.air_model.specs.Decks.{Deck, IsLegal, IsWhole, is_by, updates_by}
use Rattle.air_model.specs.DeckLaws.{commits_from, made_by}
use Rattle.air_model.proofs.LegalLemmas.{legal, whole}
use Rattle.air_model.specs.Closings.{GoesOnWithout}
use Rattle.air_model.specs.RunClosings.{HaveMadeAll, HaveMadeSome, IsClosing}
use Rattle.air_model.proofs.ListLemmas.{same_left, same_count}

-- ---- the station's own definitions

-- A pass's own events are the history's
own_made : (by : ℕ) (seen H : List Event) → GoesOnWithout (is_by by) seen H → made_by by H ≡ made_by by seen
unfolding made_by
own_made by seen H (others, is, none) = ap (filter (is_by by)) is ∙ same_left (is_by by) seen others none

pub own_starts : (seen H : List Event) → GoesOnWithout is_start seen H → starts H ≡ starts seen
unfolding starts
own_starts seen H (others, is, none) = ap (count_by is_start) is ∙ same_count is_start seen others none

pub closing_starts : (deck : Deck) (passes : List (List Event)) (conductor H : List Event) → IsClosing deck passes conductor H → starts H ≡ starts conductor
closing_starts deck passes conductor H c = own_starts conductor H c.started

-- Only updaters commit
not_other : (n items by : ℕ) (e : Event) → n ≤ by → EventFits n items e → is_by by e ≡ false
unfolding is_by EventFits
not_other n items by Start l h = refl
not_other n items by (Commit who seq u) l h = other (who == by) refl
  where
    other : (b : Bool) → (who == by) ≡ b → b ≡ false
    other true t = absurd (let same : who ≡ by = eqb-true who by t in let below = h.0 in omega arith)
    other false f = refl

none_other : (n items by : ℕ) (H : List Event) → n ≤ by → All (EventFits n items) H → made_by by H ≡ []
unfolding made_by
none_other n items by [] l h = refl
none_other n items by (e ∷ H) l h =
    ap (λ b. cond b (e ∷ filter (is_by by) H) (filter (is_by by) H)) (not_other n items by e l (All-head (EventFits n items) e H h)) ∙ none_other n items by H l (All-tail (EventFits n items) e H h)

no_commits : (by : ℕ) (us : List UpdateLists) → us ≡ [] → commits_from by 0 us ≡ []
unfolding commits_from
no_commits by us e = ap (commits_from by 0) e

take_none : (n : ℕ) (us : List UpdateLists) → us ≡ [] → take n us ≡ []
take_none zero us e = refl
take_none (suc n) [] e = refl
take_none (suc n) (u ∷ us) e = cc

-- For each updater: what its pass made, or nothing
made_in : (deck : Deck) (passes : List (List Event)) (conductor H : List Event) → IsClosing deck passes conductor H → (by : ℕ)
    → (Q : List Event → Type 0) → ((seen : List Event) → slice_get passes by ≡ Some seen → Q (made_by by seen)) → (updates_by deck by ≡ [] → Q []) → Q (made_by by H)
made_in deck passes conductor H c by Q inside beyond = elim (cases_lt by (length passes)) as (λ _. Q (made_by by H)) [
  | inl l ↦ let seen = get_or passes by [] in
      let at : slice_get passes by ≡ Some seen = slice_get-get_or passes by [] l in
      subst Q (sym (own_made by seen H (c.each by seen at))) (inside seen at)
  | inr past ↦ subst Q (sym (none_other (length deck.updates) (length deck.items) by H (omega (arith, c.count)) c.fits)) (beyond (get_or_past deck.updates by [] (omega (arith, c.count))))
]

pub whole_closing : (deck : Deck) (passes : List (List Event)) (conductor H : List Event) → IsClosing deck passes conductor H → HaveMadeAll deck passes
    → starts conductor ≡ deck.settings.cycles → IsWhole deck H
whole_closing deck passes conductor H c all cycles = (whole deck H).1 (
  λ by. made_in deck passes conductor H c by (λ l. l ≡ commits_from by 0 (updates_by deck by)) (all by) (λ none. sym (no_commits by (updates_by deck by) none)),
  own_starts conductor H c.started ∙ cycles,
)

-- ---- a beginning of the updates

pub length_commits : (by m : ℕ) (us : List UpdateLists) → length (commits_from by m us) ≡ length us
unfolding commits_from
length_commits by m [] = refl
length_commits by m (u ∷ us) = let rest = length_commits by (suc m) us in omega arith

-- The commits are of the first updates, as many as there are commits
take_as_many : (by n : ℕ) (us : List UpdateLists) (l : List Event) → l ≡ commits_from by 0 (take n us) → l ≡ commits_from by 0 (take (length l) us)
take_as_many by n us l e = e ∙ ap (commits_from by 0) (same n us (length l) (ap length e ∙ length_commits by 0 (take n us)))
  where
    same : (n : ℕ) (us : List UpdateLists) (m : ℕ) → m ≡ length (take n us) → take n us ≡ take m us
    same zero us m e = ap (λ k. take k us) (sym e)
    same (suc n) [] zero e = refl
    same (suc n) [] (suc m) e = refl
    same (suc n) (u ∷ us) zero e = absurd (omega (arith, e))
    same (suc n) (u ∷ us) (suc m) e = ap (λ r. u ∷ r) (same n us m (omega (arith, e)))

pub legal_closing : (deck : Deck) (passes : List (List Event)) (conductor H : List Event) → IsClosing deck passes conductor H → HaveMadeSome deck passes → IsLegal deck H
unfolding made_by
legal_closing deck passes conductor H c some = (legal deck H).1 (λ by.
    let us = updates_by deck by in
    made_in deck passes conductor H c by (λ l. l ≡ commits_from by 0 (take (length l) us))
    (λ seen at. let s = some by seen at in take_as_many by s.0 us (made_by by seen) s.1)
    (λ none. sym (no_commits by (take 0 us) (take_none 0 us none)))
    ∙ ap (λ n. commits_from by 0 (take n us)) (length-filter (is_by by) H))

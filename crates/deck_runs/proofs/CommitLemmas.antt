-- One more commit of an updater's job.
use Rattle.std.proofs.Common.{◌≡◌, ℕ, suc, ◌+◌, ◌<◌, Bool, true, false, cond, ◌==◌, List, [], ◌∷◌, ◌++◌, length, take, get_or, refl, sym, ◌∙◌, ap, subst, arith, append_assoc}
use Rattle.std.specs.Prelude.{count_by}
use Rattle.std.specs.List.{filter}
use Rattle.std.proofs.lemmas.Bool.{cond-true, eq-eqb}
use Rattle.std.proofs.lemmas.List.{append-nil, take_more, length-take}
use Rattle.std.proofs.lemmas.List.Sums.{sum_by-append, sum_by-cons}
use Rattle.std.proofs.lemmas.List.Elements.{filter-append}
use mathlib.Core.List.{IsPrefix}
use Rattle.air_history.specs.declared.histories.Event.{Event}
use Rattle.air_history.specs.declared.histories.Event.TheVariants.{Commit}
use Rattle.air_history.specs.UpdateLists.{UpdateLists}
use Rattle.air_model.specs.Decks.{is_by, count_made}
use Rattle.air_model.specs.DeckLaws.{commits_from, made_by}
use Rattle.air_model.specs.Closings.{GoesOnWithout}
use Rattle.update_commit.proofs.EventLemmas.{made_own}
use Rattle.station.specs.PassStates.{PassState}
use Rattle.cycle_snapshot.proofs.PrefixLemmas.{prefix_self, prefix_trans}
use Rattle.deck_runs.specs.Commits.{Makes, MakesSome}

-- ---- events of others

none_left : {X : Type 0} (p : X → Bool) (xs : List X) → count_by p xs ≡ 0 → filter p xs ≡ []
none_left p [] h = refl
none_left {X} p (x ∷ xs) h = step (p x) refl (λ z. none_left p xs z)
  where
    step : (b : Bool) → p x ≡ b → (count_by p xs ≡ 0 → filter p xs ≡ []) → cond b (x ∷ filter p xs) (filter p xs) ≡ []
    step true t rest = absurd (let more = sum_by-cons (λ y. cond (p y) 1 0) x xs in let one : cond {A = ℕ} (p x) 1 0 ≡ 1 = ap (λ b. cond b 1 0) t in omega (arith, more, one, h))
    step false f rest = rest (let more = sum_by-cons (λ y. cond (p y) 1 0) x xs in omega (arith, more, h))

-- Events of others add nothing to what the updater made.
pub made_same : (by : ℕ) (seen later : List Event) → GoesOnWithout (is_by by) seen later → made_by by later ≡ made_by by seen
unfolding made_by
made_same by seen later g = ap (filter (is_by by)) g.1 ∙ filter-append (is_by by) seen g.0 ∙ ap (λ l. filter (is_by by) seen ++ l) (none_left (is_by by) g.0 g.2) ∙ append-nil (filter (is_by by) seen)

pub count_same : (by : ℕ) (seen later : List Event) → GoesOnWithout (is_by by) seen later → count_made by later ≡ count_made by seen
count_same by seen later g = ap (count_by (is_by by)) g.1 ∙ (let both = sum_by-append (λ x. cond (is_by by x) 1 0) seen g.0 in let none = g.2 in omega arith)

pub goes_prefix : (own : Event → Bool) (seen later : List Event) → GoesOnWithout own seen later → IsPrefix seen later
goes_prefix own seen later g = (g.0, sym g.1)

-- ---- its own commit

made_push : (by seq : ℕ) (u : UpdateLists) (G : List Event) → made_by by (G ++ Commit by seq u ∷ []) ≡ made_by by G ++ Commit by seq u ∷ []
unfolding made_by is_by
made_push by seq u G = filter-append (is_by by) G (Commit by seq u ∷ []) ∙ ap (λ l. filter (is_by by) G ++ l) (cond-true (by == by) (Commit by seq u ∷ []) [] (eq-eqb by by refl))

commits_push : (by seq : ℕ) (us : List UpdateLists) (u : UpdateLists) → commits_from by seq (us ++ u ∷ []) ≡ commits_from by seq us ++ Commit by (seq + length us) u ∷ []
unfolding commits_from
commits_push by seq [] u = let same : seq ≡ seq + 0 = omega arith in ap (λ n. Commit by n u ∷ []) same
commits_push by seq (v ∷ us) u =
    let same : suc seq + length us ≡ seq + suc (length us) = omega arith in
    ap (λ l. Commit by seq v ∷ l) (commits_push by (suc seq) us u ∙ ap (λ n. commits_from by (suc seq) us ++ Commit by n u ∷ []) same)

no_commits : (by seq : ℕ) (us : List UpdateLists) → commits_from by seq (take 0 us) ≡ []
unfolding commits_from
no_commits by seq us = refl

-- ---- the job

-- Before its first commit.
pub makes_none : (us : List UpdateLists) (p : PassState) → Makes (take 0 us) p p
makes_none us p = record {
  seen = prefix_self p.seen;
  made = sym (ap (λ l. made_by p.number p.seen ++ l) (no_commits p.number (count_made p.number p.seen) us) ∙ append-nil (made_by p.number p.seen));
}

-- One more commit. Before it the pass q had seen all of p's events and made k commits; `before` continues what q had seen by others' events.
module _ (us : List UpdateLists) (k : ℕ) (p q r : PassState) (before : List Event) (same : q.number ≡ p.number) (count : count_made p.number q.seen ≡ count_made p.number p.seen + k) (makes : Makes (take k us) p q) where
  pub makes_more : (u : UpdateLists) → k < length us → u ≡ get_or us k u → GoesOnWithout (is_by q.number) q.seen before
      → r.seen ≡ before ++ Commit q.number (count_made q.number q.seen) u ∷ [] → Makes (take (k + 1) us) p r × (count_made p.number r.seen ≡ count_made p.number p.seen + (k + 1))
  makes_more u l at goes is =
      let by = p.number in
      let n = count_made by p.seen in
      let g : GoesOnWithout (is_by by) q.seen before = subst (λ b. GoesOnWithout (is_by b) q.seen before) same goes in
      let here : r.seen ≡ before ++ Commit by (n + k) u ∷ [] = is ∙ ap (λ b. before ++ Commit b (count_made b q.seen) u ∷ []) same ∙ ap (λ m. before ++ Commit by m u ∷ []) count in
      let len : length (take k us) ≡ k = omega (arith, length-take k us) in
      let last : commits_from by n (take (k + 1) us) ≡ commits_from by n (take k us) ++ Commit by (n + k) u ∷ [] =
      ap (commits_from by n) (take_more us k u l ∙ ap (λ x. take k us ++ x ∷ []) (sym at)) ∙ commits_push by n (take k us) u ∙ ap (λ m. commits_from by n (take k us) ++ Commit by (n + m) u ∷ []) len in (
        record {
          seen = prefix_trans p.seen q.seen r.seen makes.seen (prefix_trans q.seen before r.seen (goes_prefix (is_by by) q.seen before g) (Commit by (n + k) u ∷ [], sym here));
          made = ap (made_by by) here ∙ made_push by (n + k) u before ∙ ap (λ l. l ++ Commit by (n + k) u ∷ []) (made_same by q.seen before g ∙ makes.made)
              ∙ append_assoc (made_by by p.seen) (commits_from by n (take k us)) (Commit by (n + k) u ∷ []) ∙ ap (λ l. made_by by p.seen ++ l) (sym last);
        },
        (let mine = ap (count_made by) here ∙ made_own by (n + k) u before in let others = count_same by q.seen before g in omega arith),
      )

  -- The commit ran out of memory.
  pub makes_stop : k < length us → GoesOnWithout (is_by q.number) q.seen r.seen → MakesSome us p r
  makes_stop l goes =
      let by = p.number in
      let g : GoesOnWithout (is_by by) q.seen r.seen = subst (λ b. GoesOnWithout (is_by b) q.seen r.seen) same goes in
      (k, l, record { seen = prefix_trans p.seen q.seen r.seen makes.seen (goes_prefix (is_by by) q.seen r.seen g); made = made_same by q.seen r.seen g ∙ makes.made })

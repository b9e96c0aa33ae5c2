-- What one more event makes of a history that continues only by events of others.
use Rattle.std.proofs.Common.{◌≡◌, ℕ, ◌+◌, Bool, cond, List, [], ◌∷◌, ◌++◌, Result, Ok, Err, length, get_or, refl, sym, ap, ◌∙◌, subst, arith}
use Rattle.std.specs.Prelude.{count_by, IfOk, MatchResult, OnOk}
use Rattle.std.proofs.lemmas.List.{length-append}
use Rattle.std.proofs.lemmas.List.Sums.{sum_by-append}
use Rattle.air_history.specs.declared.histories.Event.{Event}
use Rattle.air_history.specs.declared.histories.Event.TheVariants.{Commit, Start}
use Rattle.air_history.specs.Histories.{is_start, starts, since_start}
use Rattle.air_history.specs.UpdateLists.{UpdateLists}
use Rattle.air_model.specs.Decks.{is_by, count_made}
use Rattle.air_model.specs.Closings.{GoesOnWithout}
use Rattle.thread_pins.specs.SmallBatches.{first_batch, reads_and_sets}

-- Events of others count for nothing.
same_count : (own : Event → Bool) (seen later : List Event) → GoesOnWithout own seen later → count_by own later ≡ count_by own seen
same_count own seen later g = ap (count_by own) g.1 ∙ (let both = sum_by-append (λ x. cond (own x) 1 0) seen g.0 in let none = g.2 in omega arith)

-- One more event counts as it does alone.
one_more : (own : Event → Bool) (before : List Event) (e : Event) → count_by own (before ++ e ∷ []) ≡ count_by own before + count_by own (e ∷ [])
one_more own before e = sum_by-append (λ x. cond (own x) 1 0) before (e ∷ [])

-- A history of one event has none before it.
none_before : (before : List Event) (e c : Event) → e ∷ [] ≡ before ++ c ∷ [] → before ≡ []
none_before [] e c h = refl
none_before (x ∷ xs) e c h = absurd (let long = ap length h in let more = length-append xs (c ∷ []) in omega arith)

pub one_start : (seen later : List Event) → GoesOnWithout is_start seen later → seen ≡ first_batch → starts later ≡ 1
unfolding starts is_start
one_start seen later g e = same_count is_start seen later g ∙ ap (count_by is_start) e

-- ---- a commit

-- The update of the pins, as a commit.
abbrev commit : Event
commit = Commit 0 0 (reads_and_sets 0 1 5)

counts : (before : List Event) → count_made 0 before ≡ 0 → count_made 0 (before ++ commit ∷ []) ≡ 1
unfolding is_by
counts before none = let more = one_more (is_by 0) before commit in let one : count_by (is_by 0) (commit ∷ []) ≡ 1 = refl in omega arith

-- The history is the one before and the commit.
is_commit : (number : ℕ) (seen before new : List Event) (u : UpdateLists) → number ≡ 0 → seen ≡ [] → u ≡ reads_and_sets 0 1 5 →
    new ≡ before ++ Commit number (count_made number seen) u ∷ [] → new ≡ before ++ commit ∷ []
is_commit number seen before new u n s e is =
    is ∙ ap (λ k. before ++ Commit k (count_made k seen) u ∷ []) n ∙ ap (λ s. before ++ Commit 0 (count_made 0 s) u ∷ []) s ∙ ap (λ u. before ++ Commit 0 0 u ∷ []) e

none_made : (number : ℕ) (seen before : List Event) → number ≡ 0 → seen ≡ [] → GoesOnWithout (is_by number) seen before → count_made 0 before ≡ 0
none_made number seen before n s g = subst (λ k. count_made k before ≡ count_made k seen) n (same_count (is_by number) seen before g) ∙ ap (count_made 0) s

pub commits_once : {T E : Type 0} (r : Result T E) (A : T → Type 0) (N : Type 0) (number : ℕ) (seen before new : List Event) (u : UpdateLists) →
    number ≡ 0 → seen ≡ [] → u ≡ reads_and_sets 0 1 5 → GoesOnWithout (is_by number) seen before →
    MatchResult r (λ x. (new ≡ before ++ Commit number (count_made number seen) u ∷ []) × A x) (λ _. N) → OnOk r (count_made 0 new ≡ 1)
commits_once (Ok x) A N number seen before new u n s e g h = ap (count_made 0) (is_commit number seen before new u n s e h.0) ∙ counts before (none_made number seen before n s g)
commits_once (Err x) A N number seen before new u n s e g h = tt

-- Two histories of one event have the same.
same_event : (before : List Event) (e c : Event) → e ∷ [] ≡ before ++ c ∷ [] → e ≡ c
same_event before e c h = ap (λ l. get_or l 0 c) (h ∙ ap (λ l. l ++ c ∷ []) (none_before before e c h))

pub commits_update : {T E : Type 0} (r : Result T E) (A : T → Type 0) (N : Type 0) (number : ℕ) (seen before new : List Event) (u : UpdateLists) →
    number ≡ 0 → seen ≡ [] → u ≡ reads_and_sets 0 1 5 →
    MatchResult r (λ x. (new ≡ before ++ Commit number (count_made number seen) u ∷ []) × A x) (λ _. N) →
    OnOk r ((event : Event) → new ≡ event ∷ [] → event ≡ commit)
commits_update (Ok x) A N number seen before new u n s e h = λ event is. same_event before event commit (sym is ∙ is_commit number seen before new u n s e h.0)
commits_update (Err x) A N number seen before new u n s e h = tt

-- ---- a start

starts_more : (before : List Event) → starts before ≡ 0 → starts (before ++ Start ∷ []) ≡ 1
unfolding starts is_start
starts_more before none = let more = one_more is_start before Start in let one : count_by is_start (Start ∷ []) ≡ 1 = refl in omega arith

none_started : (seen before : List Event) → seen ≡ [] → GoesOnWithout is_start seen before → starts before ≡ 0
unfolding starts is_start
none_started seen before s g = same_count is_start seen before g ∙ ap (count_by is_start) s

pub starts_once : {E : Type 0} (r : Result ℕ E) (N : Type 0) (seen before new fresh : List Event) → seen ≡ [] → GoesOnWithout is_start seen before →
    MatchResult r (λ cycle. (new ≡ before ++ Start ∷ []) × (fresh ≡ since_start before ++ Start ∷ []) × (cycle ≡ starts new)) (λ _. N) → OnOk r (starts new ≡ 1)
starts_once (Ok x) N seen before new fresh s g h = ap starts h.0 ∙ starts_more before (none_started seen before s g)
starts_once (Err x) N seen before new fresh s g h = tt

one_cycle : starts (Start ∷ []) ≡ 1
unfolding starts is_start
one_cycle = refl

none_fresh : since_start [] ≡ []
unfolding since_start
none_fresh = refl

pub starts_fresh : {E : Type 0} (r : Result ℕ E) (N : Type 0) (before new fresh : List Event) →
    MatchResult r (λ cycle. (new ≡ before ++ Start ∷ []) × (fresh ≡ since_start before ++ Start ∷ []) × (cycle ≡ starts new)) (λ _. N) →
    IfOk r (λ cycle. new ≡ Start ∷ [] → (cycle ≡ 1) × (fresh ≡ Start ∷ []))
starts_fresh (Ok x) N before new fresh h = λ is. (
  h.2 ∙ ap starts is ∙ one_cycle,
  h.1 ∙ ap (λ l. since_start l ++ Start ∷ []) (none_before before Start Start (sym is ∙ h.0)) ∙ ap (λ l. l ++ Start ∷ []) none_fresh,
)
starts_fresh (Err x) N before new fresh h = tt

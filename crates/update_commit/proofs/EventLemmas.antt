-- One more event in a list: how many starts and commits the list then has, and what comes after its last start.
use Rattle.std.proofs.Common.{◌≡◌, ◌≢◌, ℕ, ◌+◌, ◌≤◌, Bool, true, false, cond, ◌==◌, List, [], ◌∷◌, ◌++◌, length, drop, refl, sym, ◌∙◌, ap, arith}
use Rattle.std.specs.Prelude.{◌||◌}
use Rattle.std.specs.List.{list_any}
use Rattle.std.proofs.lemmas.Bool.{cond-true, cond-false, eq-eqb, ne_eqb}
use Rattle.std.proofs.lemmas.List.{drop-append-le, drop_all}
use Rattle.std.proofs.lemmas.List.Folds.{list_any-append}
use Rattle.std.proofs.lemmas.List.Sums.{sum_by_push}
use Rattle.air_history.specs.declared.histories.Event.{Event}
use Rattle.air_history.specs.declared.histories.Event.TheVariants.{Commit, Start}
use Rattle.air_history.specs.UpdateLists.{UpdateLists}
use Rattle.air_history.specs.Histories.{is_start, starts, since_start}
use Rattle.air_model.specs.Decks.{is_by, count_made}

-- ---- how many

pub starts_none : starts [] ≡ 0
unfolding starts
starts_none = refl

pub starts_start : (G : List Event) → starts (G ++ Start ∷ []) ≡ starts G + 1
unfolding starts is_start
starts_start G = sum_by_push (λ e. cond (is_start e) 1 0) G Start

pub starts_commit : (G : List Event) (by seq : ℕ) (u : UpdateLists) → starts (G ++ Commit by seq u ∷ []) ≡ starts G
unfolding starts is_start
starts_commit G by seq u = let more = sum_by_push (λ e. cond (is_start e) 1 0) G (Commit by seq u) in omega arith

pub made_start : (by : ℕ) (G : List Event) → count_made by (G ++ Start ∷ []) ≡ count_made by G
unfolding is_by
made_start by G = let more = sum_by_push (λ e. cond (is_by by e) 1 0) G Start in omega arith

pub made_own : (by seq : ℕ) (u : UpdateLists) (G : List Event) → count_made by (G ++ Commit by seq u ∷ []) ≡ count_made by G + 1
unfolding is_by
made_own by seq u G =
    let more = sum_by_push (λ e. cond (is_by by e) 1 0) G (Commit by seq u) in
    let one : cond {A = ℕ} (by == by) 1 0 ≡ 1 = cond-true (by == by) 1 0 (eq-eqb by by refl) in omega arith

pub made_other : (by who seq : ℕ) (u : UpdateLists) (G : List Event) → by ≢ who → count_made by (G ++ Commit who seq u ∷ []) ≡ count_made by G
unfolding is_by
made_other by who seq u G other =
    let more = sum_by_push (λ e. cond (is_by by e) 1 0) G (Commit who seq u) in
    let none : cond {A = ℕ} (who == by) 1 0 ≡ 0 = cond-false (who == by) 1 0 (ne_eqb who by (λ e. other (sym e))) in omega arith

-- ---- after the last start

pub since_none : since_start [] ≡ []
unfolding since_start
since_none = refl

or_false : (b : Bool) → (b || false) ≡ b
or_false true = refl
or_false false = refl

or_true : (b : Bool) → (b || true) ≡ true
or_true true = refl
or_true false = refl

any_commit : (G : List Event) (by seq : ℕ) (u : UpdateLists) → list_any is_start (G ++ Commit by seq u ∷ []) ≡ list_any is_start G
unfolding is_start
any_commit G by seq u = list_any-append is_start G (Commit by seq u ∷ []) ∙ or_false (list_any is_start G)

any_start : (G : List Event) → list_any is_start (G ++ Start ∷ []) ≡ true
unfolding is_start
any_start G = list_any-append is_start G (Start ∷ []) ∙ or_true (list_any is_start G)

cond_push : {X : Type 0} (b : Bool) (xs ys zs : List X) (x : X) → xs ≡ ys ++ x ∷ [] → cond b xs (zs ++ x ∷ []) ≡ cond b ys zs ++ x ∷ []
cond_push true xs ys zs x e = e
cond_push false xs ys zs x e = refl

-- A commit joins what comes after the last start.
pub since_commit : (G : List Event) (by seq : ℕ) (u : UpdateLists) → since_start (G ++ Commit by seq u ∷ []) ≡ since_start G ++ Commit by seq u ∷ []
unfolding since_start is_start
since_commit [] by seq u = refl
since_commit (e ∷ G) by seq u =
    ap (λ b. cond b (since_start (G ++ Commit by seq u ∷ [])) (e ∷ G ++ Commit by seq u ∷ [])) (any_commit (e ∷ G) by seq u)
    ∙ cond_push (list_any is_start (e ∷ G)) (since_start (G ++ Commit by seq u ∷ [])) (since_start G) (e ∷ G) (Commit by seq u) (since_commit G by seq u)

-- Nothing comes after a start that is the last event.
pub since_new_start : (G : List Event) → since_start (G ++ Start ∷ []) ≡ []
unfolding since_start is_start
since_new_start [] = refl
since_new_start (e ∷ G) =
    ap (λ b. cond b (since_start (G ++ Start ∷ [])) (e ∷ G ++ Start ∷ [])) (any_start (e ∷ G)) ∙ since_new_start G

-- ---- the mark of what comes after the last start

pub fresh_commit : (G : List Event) (from by seq : ℕ) (u : UpdateLists) → from ≤ length G → drop from G ≡ since_start G →
    drop from (G ++ Commit by seq u ∷ []) ≡ since_start (G ++ Commit by seq u ∷ [])
fresh_commit G from by seq u within fresh =
    drop-append-le from G (Commit by seq u ∷ []) within ∙ ap (λ l. l ++ Commit by seq u ∷ []) fresh ∙ sym (since_commit G by seq u)

pub fresh_start : (G : List Event) (from : ℕ) → length (G ++ Start ∷ []) ≤ from → drop from (G ++ Start ∷ []) ≡ since_start (G ++ Start ∷ [])
fresh_start G from past = drop_all from (G ++ Start ∷ []) past ∙ sym (since_new_start G)

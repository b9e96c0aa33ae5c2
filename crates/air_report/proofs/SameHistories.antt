-- Each line of a legal history comes next, and they stand for the history itself.
use Rattle.std.proofs.Common.{◌≡◌, ◌+◌, ◌++◌, ◌∷◌, [], ℕ, zero, suc, List, Some, true, cond, refl, sym, ap, ◌∙◌, subst, append_assoc, length, map, nat_lt, take}
use Rattle.std.specs.Prelude.{◌==◌, slice_get}
use Rattle.std.proofs.lemmas.Bool.{eq-eqb, lt-ltb}
use Rattle.std.proofs.lemmas.List.{append-nil, map-append}
use Rattle.std.proofs.lemmas.List.Sums.{sum_by-append}
use Rattle.std.proofs.lemmas.Option.{get_or_from_slice_get, slice_get_within}
use Rattle.air_history.specs.UpdateLists.{UpdateLists}
use Rattle.air_history.specs.declared.histories.Event.{Event}
use Rattle.air_history.specs.declared.histories.Event.TheVariants as e
use Rattle.air_model.specs.Decks.{Deck, IsLegal, IsNextCommit, count_made, is_by, updates_by}
use Rattle.air_model.specs.Reports.{Report}
use Rattle.air_report.specs.LineFaults.{is_next}
use Rattle.air_report.specs.ReportLines.{commits_by, commits_of, event_in, its_line, lines_in, report_in}
use Rattle.air_report.specs.LineRules.{EachNext}
use Rattle.air_report.proofs.LegalLines.{legal}

-- The number of an updater's commits is that of their lines.
its_line_same : (by : ℕ) (H : List Event) → commits_by by (map its_line H) ≡ count_made by H
unfolding is_by
its_line_same by [] = refl
its_line_same by (x ∷ H) =
    sum_by-append (λ v. cond (commits_of by v) 1 0) (its_line x ∷ []) (map its_line H) ∙ ap (λ n. n + commits_by by (map its_line H)) (one x)
    ∙ ap (λ n. count_made by (x ∷ []) + n) (its_line_same by H) ∙ sym (sum_by-append (λ v. cond (is_by by v) 1 0) (x ∷ []) H)
  where
    one : (x : Event) → commits_by by (its_line x ∷ []) ≡ count_made by (x ∷ [])
    one (e.Commit b s update) = refl
    one e.Start = refl

module _ (deck : Deck) where
  -- Each commit among the events that are left is its updater's next, after those done and those before it.
  abbrev AllNext : List Event → List Event → Type 0
  AllNext done left = (p by seq : ℕ) (update : UpdateLists) → slice_get left p ≡ Some (e.Commit by seq update) → IsNextCommit deck (done ++ take p left) by seq update

  later : (done : List Event) (x : Event) (left : List Event) → AllNext done (x ∷ left) → AllNext (done ++ x ∷ []) left
  later done x left next p by seq update h =
      let P : List Event → Type 0 = λ before. IsNextCommit deck before by seq update in
      subst P (sym (append_assoc done (x ∷ []) (take p left))) (next (suc p) by seq update h)

  here : (done : List Event) (by seq : ℕ) (update : UpdateLists) (left : List Event) → AllNext done (e.Commit by seq update ∷ left) → IsNextCommit deck done by seq update
  here done by seq update left next =
      let P : List Event → Type 0 = λ before. IsNextCommit deck before by seq update in
      subst P (append-nil done) (next zero by seq update refl)

  line_next : (done : List Event) (x : Event) (left : List Event) → AllNext done (x ∷ left) → is_next deck (map its_line done) (its_line x) ≡ true
  line_next done (e.Commit by seq update) left next =
      let one = here done by seq update left next in
      let number : (seq == commits_by by (map its_line done)) ≡ true = eq-eqb seq (commits_by by (map its_line done)) (one.number ∙ sym (its_line_same by done)) in
      let within : nat_lt seq (length (updates_by deck by)) ≡ true = lt-ltb seq (length (updates_by deck by)) (slice_get_within (updates_by deck by) seq update one.given) in
      rw (number, within) refl
  line_next done e.Start left next = refl

  event_same : (done : List Event) (x : Event) (left : List Event) → AllNext done (x ∷ left) → event_in deck (its_line x) ≡ x
  event_same done (e.Commit by seq update) left next =
      let one = here done by seq update left next in
      ap (λ u. e.Commit by seq u) (get_or_from_slice_get (updates_by deck by) seq update (record { reads = []; writes = [] }) one.given)
  event_same done e.Start left next = refl

  each_next : (done left : List Event) → AllNext done left → EachNext deck (map its_line done) (map its_line left)
  each_next done [] next = tt
  each_next done (x ∷ left) next = (
    line_next done x left next,
    subst (λ es. EachNext deck es (map its_line left)) (map-append its_line done (x ∷ [])) (each_next (done ++ x ∷ []) left (later done x left next)),
  )

  all_same : (done left : List Event) → AllNext done left → map (event_in deck) (map its_line left) ≡ left
  all_same done [] next = refl
  all_same done (x ∷ left) next =
      ap (λ y. y ∷ map (event_in deck) (map its_line left)) (event_same done x left next) ∙ ap (λ es. x ∷ es) (all_same (done ++ x ∷ []) left (later done x left next))

  -- A history is legal if and only if each of its lines comes next and they stand for it.
  pub legal_next : (H : List Event) → IsLegal deck H → EachNext deck [] (map its_line H)
  legal_next H legal = each_next [] H legal

  pub legal_same : (H : List Event) → IsLegal deck H → map (event_in deck) (map its_line H) ≡ H
  legal_same H legal = all_same [] H legal

  pub same_legal : (H : List Event) → EachNext deck [] (map its_line H) → map (event_in deck) (map its_line H) ≡ H → IsLegal deck H
  same_legal H each same = let P : List Event → Type 0 = λ H. IsLegal deck H in subst P same (legal deck (map its_line H) each)

  pub report_same : (report : Report) → IsLegal deck report.history → report_in deck (lines_in report) ≡ report
  report_same report legal = ap (λ H. record report { history = H }) (legal_same report.history legal)

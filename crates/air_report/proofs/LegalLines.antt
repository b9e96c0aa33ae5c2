-- Lines of a history of which each comes next stand for a legal history.
use Rattle.std.proofs.Common.{◌≡◌, ◌<◌, ◌+◌, ◌++◌, ◌∷◌, [], ℕ, zero, suc, List, Some, true, cond, refl, sym, ap, ◌∙◌, subst, append_assoc, length, map, nat_lt, take, arith}
use Rattle.std.specs.Prelude.{◌==◌, slice_get}
use Rattle.std.proofs.lemmas.Bool.{and_parts}
use Rattle.std.proofs.lemmas.Bool.Decides.{nat_tests}
use Rattle.std.proofs.lemmas.List.{append-nil}
use Rattle.std.proofs.lemmas.List.Sums.{sum_by-append}
use Rattle.std.proofs.lemmas.Option.{slice_get-get_or}
use Rattle.air_history.specs.UpdateLists.{UpdateLists}
use Rattle.air_history.specs.declared.histories.Event.{Event}
use Rattle.air_history.specs.declared.histories.Event.TheVariants as e
use Rattle.air_model.specs.Decks.{Deck, IsLegal, IsNextCommit, count_made, is_by, updates_by}
use Rattle.air_report.specs.LineFaults.{is_next}
use Rattle.air_report.specs.ReportLines.{commits_by, commits_of, event_in}
use Rattle.air_report.specs.declared.reading.lines.EventLine.{EventLine}
use Rattle.air_report.specs.declared.reading.lines.EventLine.TheVariants.{Commit, Start}
use Rattle.air_report.specs.LineRules.{EachNext}

module _ (deck : Deck) where
  made_same : (by : ℕ) (lines : List EventLine) → count_made by (map (event_in deck) lines) ≡ commits_by by lines
  unfolding is_by
  made_same by [] = refl
  made_same by (x ∷ lines) =
      let first : count_made by (event_in deck x ∷ []) ≡ commits_by by (x ∷ []) = one x in
      sum_by-append (λ v. cond (is_by by v) 1 0) (event_in deck x ∷ []) (map (event_in deck) lines) ∙ ap (λ n. n + count_made by (map (event_in deck) lines)) first
      ∙ ap (λ n. commits_by by (x ∷ []) + n) (made_same by lines) ∙ sym (sum_by-append (λ v. cond (commits_of by v) 1 0) (x ∷ []) lines)
    where
      one : (x : EventLine) → count_made by (event_in deck x ∷ []) ≡ commits_by by (x ∷ [])
      one (Commit b s) = refl
      one Start = refl

  next_is : (done : List EventLine) (x : EventLine) (by seq : ℕ) (update : UpdateLists) → is_next deck done x ≡ true → event_in deck x ≡ e.Commit by seq update
      → IsNextCommit deck (map (event_in deck) done) by seq update
  next_is done (Commit b s) by seq update next same =
      let both = and_parts (s == commits_by b done) (nat_lt s (length (updates_by deck b))) next in
      let less : s < length (updates_by deck b) = grind (arith, nat_tests, both.1) in
      let number : s ≡ commits_by b done = grind (arith, nat_tests, both.0) in
      let who : b ≡ by = cc same in let which : s ≡ seq = cc same in let what : _ ≡ update = cc same in
      rw (← who, ← which, ← what) (record { number = number ∙ sym (made_same b done); given = slice_get-get_or (updates_by deck b) s (record { reads = []; writes = [] }) less })
  next_is done Start by seq update next same = cc same

  legal_from : (done todo : List EventLine) → EachNext deck done todo → (p by seq : ℕ) (update : UpdateLists)
      → slice_get (map (event_in deck) todo) p ≡ Some (e.Commit by seq update) → IsNextCommit deck (map (event_in deck) (done ++ take p todo)) by seq update
  legal_from done [] each zero by seq update h = cc h
  legal_from done [] each (suc p) by seq update h = cc h
  legal_from done (x ∷ xs) each zero by seq update h =
      let here : event_in deck x ≡ e.Commit by seq update = cc h in
      let P : List EventLine → Type 0 = λ es. IsNextCommit deck (map (event_in deck) es) by seq update in
      subst P (sym (append-nil done)) (next_is done x by seq update each.0 here)
  legal_from done (x ∷ xs) each (suc p) by seq update h =
      let P : List EventLine → Type 0 = λ es. IsNextCommit deck (map (event_in deck) es) by seq update in
      subst P (append_assoc done (x ∷ []) (take p xs)) (legal_from (done ++ x ∷ []) xs each.1 p by seq update h)

  take_same : (p : ℕ) (lines : List EventLine) → map (event_in deck) (take p lines) ≡ take p (map (event_in deck) lines)
  take_same zero lines = refl
  take_same (suc p) [] = refl
  take_same (suc p) (x ∷ lines) = ap (λ es. event_in deck x ∷ es) (take_same p lines)

  pub legal : (lines : List EventLine) → EachNext deck [] lines → IsLegal deck (map (event_in deck) lines)
  legal lines each p by seq update h =
      let P : List Event → Type 0 = λ before. IsNextCommit deck before by seq update in
      subst P (take_same p lines) (legal_from [] lines each p by seq update h)

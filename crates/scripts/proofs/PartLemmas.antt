-- The parts of a deck's script, and the events that they give.
--
-- A script that fits never runs out of an updater's updates: `part_fits`. `event_at` and the steps of a run cite these.
use Rattle.std.proofs.Common.{◌≡◌, ℕ, ◌+◌, ◌<◌, ◌≤◌, Bool, cond, Option, Some, None, List, [], length, take, get_or, set, false, ◌==◌, refl, sym, ◌∙◌, ap, inl, inr, arith}
use Rattle.std.specs.List.{slice_get}
use Rattle.std.specs.Option.{option_map_or}
use Rattle.std.proofs.lemmas.Bool.{cases_eq, cases_lt, eq-eqb, ne_eqb}
use Rattle.std.proofs.lemmas.List.{get_or-set_other, get_or-set_same, get_or_default, get_or_past, length-set}
use Rattle.std.proofs.lemmas.List.Sums.{count_by_more_no, count_by_more_yes, sum_by-take-le}
use Rattle.std.proofs.lemmas.Option.{get_or_from_slice_get}
use Rattle.air_history.specs.declared.histories.Event.TheVariants.{Commit, Start}
use Rattle.air_history.specs.UpdateLists.{UpdateLists}
use Rattle.air_model.specs.Decks.{Deck, ScriptFits, event_of, scripted_commits, updates_by}
use Rattle.scripts.specs.Private.RunSteps.{CountsScripted}

-- The part is a commit of the updater.
abbrev is_commit_by : ℕ → Option ℕ → Bool
is_commit_by by part = option_map_or (λ who. who == by) part false

module _ (deck : Deck) (k by : ℕ) (here : slice_get deck.script k ≡ Some (Some by)) (within : k < length deck.script) where
  -- the part at the place
  pub part_is : get_or deck.script k None ≡ Some by
  part_is = get_or_from_slice_get deck.script k (Some by) None here

  -- with it the updater has one part more
  pub one_more_part : scripted_commits by (take (k + 1) deck.script) ≡ scripted_commits by (take k deck.script) + 1
  one_more_part = count_by_more_yes (is_commit_by by) deck.script k None within (ap (is_commit_by by) part_is ∙ eq-eqb by by refl)

  -- so its updater has a next update
  pub part_fits : ScriptFits deck → scripted_commits by (take k deck.script) < length (updates_by deck by)
  part_fits fits =
      let all : scripted_commits by (take (k + 1) deck.script) ≤ scripted_commits by deck.script = sum_by-take-le (λ part. cond (is_commit_by by part) 1 0) deck.script (k + 1) in
      omega (arith, one_more_part, fits by)

  -- and is one of the deck's
  pub updater_within : ScriptFits deck → by < length deck.updates
  updater_within fits = elim (cases_lt by (length deck.updates)) as (λ _. by < length deck.updates) [
    | inl less ↦ less
    | inr past ↦ absurd (let none : length (updates_by deck by) ≡ 0 = ap length (get_or_past deck.updates by [] past) in omega (arith, part_fits fits))
  ]

  -- the event of the part
  pub commit_is : (seq : ℕ) (u : UpdateLists) → seq ≡ scripted_commits by (take k deck.script) → seq < length (updates_by deck by) → u ≡ get_or (updates_by deck by) seq u
      → Commit by seq u ≡ event_of deck (take k deck.script) (get_or deck.script k None)
  unfolding event_of
  commit_is seq u number below is =
      let none : UpdateLists = record { reads = []; writes = [] } in
      let update : u ≡ get_or (updates_by deck by) seq none = is ∙ get_or_default (updates_by deck by) seq u none below in
      ap (λ u. Commit by seq u) update ∙ ap (λ n. Commit by n (get_or (updates_by deck by) n none)) number ∙ ap (event_of deck (take k deck.script)) (sym part_is)

  -- one part more of this updater, and of no other
  pub counts_more : (made : List ℕ) → CountsScripted deck k made → by < length made → CountsScripted deck (k + 1) (set made by (get_or made by 0 + 1))
  counts_more made counts below = λ who l.
      let more = get_or made by 0 + 1 in
      let long = length-set made by more in
      elim (cases_eq who by) as (λ _. get_or (set made by more) who 0 ≡ scripted_commits who (take (k + 1) deck.script)) [
        | inl same ↦
            let own : get_or made by 0 ≡ scripted_commits by (take k deck.script) = counts by below in
            let at : more ≡ scripted_commits by (take (k + 1) deck.script) = omega (arith, one_more_part) in
            ap (λ w. get_or (set made by more) w 0) same ∙ get_or-set_same made by more 0 below ∙ at ∙ ap (λ w. scripted_commits w (take (k + 1) deck.script)) (sym same)
        | inr other ↦
            get_or-set_other made by who more 0 other ∙ counts who (omega arith)
            ∙ sym (count_by_more_no (is_commit_by who) deck.script k None within (ap (is_commit_by who) part_is ∙ ne_eqb by who (λ e. other (sym e))))
      ]

-- No part more where the part is a start.
pub counts_same : (deck : Deck) (k : ℕ) (made : List ℕ) → slice_get deck.script k ≡ Some None → k < length deck.script → CountsScripted deck k made → CountsScripted deck (k + 1) made
counts_same deck k made here within counts = λ who l.
    let part : get_or deck.script k None ≡ None = get_or_from_slice_get deck.script k None None here in
    counts who l ∙ sym (count_by_more_no (is_commit_by who) deck.script k None within (ap (is_commit_by who) part))

-- The update that was read.
pub update_read : (updates own : List UpdateLists) (seq : ℕ) (copy u : UpdateLists) → updates ≡ own → u ≡ get_or updates seq u → copy ≡ u → copy ≡ get_or own seq copy
update_read updates own seq copy u e is same = same ∙ is ∙ ap (λ l. get_or l seq u) e ∙ ap (get_or own seq) (sym same)

-- The event of a start.
pub start_is : (deck : Deck) (k : ℕ) → slice_get deck.script k ≡ Some None → Start ≡ event_of deck (take k deck.script) (get_or deck.script k None)
unfolding event_of
start_is deck k here = ap (event_of deck (take k deck.script)) (sym (get_or_from_slice_get deck.script k None None here))

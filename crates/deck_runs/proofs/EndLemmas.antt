-- From the closed station to a whole history.
use Rattle.std.proofs.Common.{◌≡◌, ℕ, zero, suc, ◌<◌, ◌≤◌, Bool, true, false, Some, List, [], ◌∷◌, ◌++◌, length, get_or, take, map, All, refl, sym, ap, ◌∙◌, subst, arith, append_assoc}
use Rattle.std.specs.Prelude.{slice_get, IsTrue, MatchBool}
use Rattle.std.proofs.lemmas.Option.{get_or_from_slice_get, slice_get_within}
use Rattle.std.proofs.lemmas.List.{get_or-map, length-map, take_all}
use Rattle.turnstile.specs.Passes.{TurnstileId}
use Rattle.air_history.specs.declared.histories.Event.{Event}
use Rattle.air_history.specs.Histories.{is_start, starts, EventFits}
use Rattle.air_model.specs.Closings.{GoesOnWithout}
use Rattle.air_model.specs.Decks.{Deck, IsWhole, is_by, updates_by, values_in}
use Rattle.air_model.specs.DeckLaws.{commits_from, made_by}
use Rattle.station.specs.PassStates.{PassState, new_pass, with_seen}
use Rattle.deck_runs.specs.declared.jobs.crews.UpdaterRun.{UpdaterRun}
use Rattle.deck_runs.specs.Private.Crews.{passes_of}
use Rattle.air_model.specs.RunClosings.{HaveMadeAll, HaveMadeSome, IsClosing}
use Rattle.air_model.proofs.ClosingLemmas.{closing_starts, legal_closing, whole_closing}
use Rattle.air_model.proofs.BeyondLemmas.{whole_beyond}
use Rattle.deck_runs.specs.Private.StageSteps.{BeginsWhole, HaveEnded, IsEnd}

-- What the updaters' passes have seen.
abbrev seen_by : List UpdaterRun → List (List Event)
seen_by runs = map (λ run. run.pass.seen) runs

run_of : (runs : List UpdaterRun) (by : ℕ) (seen : List Event) → slice_get (seen_by runs) by ≡ Some seen → (run : UpdaterRun) × (slice_get runs by ≡ Some run) × (run.pass.seen ≡ seen)
run_of [] by seen e = cc
run_of (run ∷ runs) zero seen e = let same : run.pass.seen ≡ seen = cc in (run, refl, same)
run_of (run ∷ runs) (suc by) seen e = run_of runs by seen e

-- What an updater made, whether all or not.
some_made : (deck : Deck) (by : ℕ) (seen : List Event) (done : Bool) → MatchBool done
    (made_by by seen ≡ commits_from by 0 (updates_by deck by))
    ((n : ℕ) × (n < length (updates_by deck by)) × (made_by by seen ≡ commits_from by 0 (take n (updates_by deck by))))
    → (n : ℕ) × (made_by by seen ≡ commits_from by 0 (take n (updates_by deck by)))
some_made deck by seen true all = let us = updates_by deck by in (length us, all ∙ ap (commits_from by 0) (sym (take_all (length us) us (omega arith))))
some_made deck by seen false some = (some.0, some.2)

all_made : (deck : Deck) (by : ℕ) (seen : List Event) (done : Bool) → IsTrue done → MatchBool done
    (made_by by seen ≡ commits_from by 0 (updates_by deck by))
    ((n : ℕ) × (n < length (updates_by deck by)) × (made_by by seen ≡ commits_from by 0 (take n (updates_by deck by))))
    → made_by by seen ≡ commits_from by 0 (updates_by deck by)
all_made deck by seen true t all = all
all_made deck by seen false t some = cc

module _ (station : TurnstileId) (deck : Deck) (runs : List UpdaterRun) (ended : HaveEnded station deck runs) where
  made_some : HaveMadeSome deck (seen_by runs)
  made_some by seen e =
      let (run, at, same) = run_of runs by seen e in
      let some = some_made deck by run.pass.seen run.done (ended.each by run at).made in
      (some.0, ap (made_by by) (sym same) ∙ some.1)

  made_all : All (λ (run : UpdaterRun). IsTrue run.done) runs → HaveMadeAll deck (seen_by runs)
  made_all done by seen e =
      let (run, at, same) = run_of runs by seen e in
      let here : IsTrue run.done = subst (λ (r : UpdaterRun). IsTrue r.done) (get_or_from_slice_get runs by run run at) (done by run (slice_get_within runs by run at)) in
      ap (made_by by) (sym same) ∙ all_made deck by run.pass.seen run.done here (ended.each by run at).made

  closing : (conductor H : List Event) → All (λ (p : PassState). GoesOnWithout (is_by p.number) p.seen H) (passes_of runs) → GoesOnWithout is_start conductor H
      → All (EventFits (length deck.updates) (length (values_in deck))) H → IsClosing deck (seen_by runs) conductor H
  closing conductor H each started fits = record {
    count = length-map runs (λ (run : UpdaterRun). run.pass.seen) ∙ ended.count;
    each = λ by seen e.
        let (run, at, same) = run_of runs by seen e in
        let l : by < length runs = slice_get_within runs by run at in
        let there = each by run.pass (let b = length-map runs (λ (r : UpdaterRun). r.pass) in omega arith) in
        let is : get_or (passes_of runs) by run.pass ≡ run.pass = get_or-map (λ (r : UpdaterRun). r.pass) runs by run run.pass l ∙ ap (λ (r : UpdaterRun). r.pass) (get_or_from_slice_get runs by run run at) in
        let own : GoesOnWithout (is_by run.pass.number) run.pass.seen H = subst (λ (p : PassState). GoesOnWithout (is_by p.number) p.seen H) is there in
        let number : run.pass.number ≡ by = ap (λ (p : PassState). p.number) (ended.each by run at).pass in
        subst (λ k. GoesOnWithout (is_by k) seen H) number (subst (λ s. GoesOnWithout (is_by run.pass.number) s H) same own);
    started = started;
    fits = subst (λ n. All (EventFits (length deck.updates) n) H) (length-map deck.items (λ i. i.value)) fits;
  }

  -- What `close` says of the passes and of the conductor's.
  module _ (p : PassState) (H : List Event) (passes : List PassState) (is : p ≡ with_seen (new_pass station deck (length deck.updates)) p.seen) (same : passes ≡ passes_of runs)
      (each : All (λ (q : PassState). GoesOnWithout (is_by q.number) q.seen H) passes) (started : GoesOnWithout is_start p.seen H) (fits : All (EventFits p.updaters (length p.values)) H) where
    closed : IsClosing deck (seen_by runs) p.seen H
    closed = closing p.seen H (subst (All (λ (q : PassState). GoesOnWithout (is_by q.number) q.seen H)) same each) started (subst (λ (q : PassState). All (EventFits q.updaters (length q.values)) H) is fits)

    pub begins : starts p.seen ≤ deck.settings.cycles → BeginsWhole deck p.seen
    begins few =
        let count = closing_starts deck (seen_by runs) p.seen H closed in
        let more = whole_beyond deck H (legal_closing deck (seen_by runs) p.seen H closed made_some) (omega arith) in
        (started.0 ++ more.0, subst (IsWhole deck) (ap (λ l. l ++ more.0) started.1 ∙ append_assoc p.seen started.0 more.0) more.1)

    pub ends : All (λ (run : UpdaterRun). IsTrue run.done) runs → IsEnd deck p.seen H
    ends done = record { goes_on = started; whole = λ cycles. whole_closing deck (seen_by runs) p.seen H closed (made_all done) cycles }

-- The updaters of a stage, before the jobs and after.
use Rattle.std.proofs.Common.{◌≡◌, ℕ, ◌+◌, ◌*◌, ◌<◌, ◌≤◌, Bool, Some, List, [], length, get_or, take, All, inl, inr, sym, ap, ◌∙◌, subst, arith}
use Rattle.std.specs.Prelude.{slice_get, Contains, MatchBool, vec_capacity}
use Rattle.std.proofs.lemmas.Option.{slice_get-get_or, slice_get_cases, slice_get_within, get_or_from_slice_get}
use Rattle.std.proofs.lemmas.List.{get_or-map, length-map}
use Rattle.std.proofs.lemmas.List.Elements.{All-map}
use Rattle.turnstile.specs.Passes.{TurnstileId}
use Rattle.air_history.specs.declared.histories.Event.{Event}
use Rattle.air_history.specs.Boards.{board_of}
use Rattle.air_history.specs.Histories.{starts}
use Rattle.air_model.specs.Buckets.{entry_len}
use Rattle.air_model.specs.Decks.{Deck, updates_by, values_in}
use Rattle.air_model.specs.DeckLaws.{commits_from, made_by}
use Rattle.bucket_codec.specs.declared.offsets.TheConstants.{HEAD_BYTES}
use Rattle.station.specs.PassStates.{PassState, new_pass, numbers_of, with_seen}
use Rattle.air_sender.specs.DeckGroups.{HasGroups}
use Rattle.deck_runs.specs.declared.jobs.crews.ConductorRun.{ConductorRun}
use Rattle.deck_runs.specs.declared.jobs.crews.UpdaterRun.{UpdaterRun}
use Rattle.deck_runs.specs.Private.Crews.{CanConduct, EachDone, HasMadeUpdates, HasNewPass, passes_of}
use Rattle.deck_runs.specs.PublishedBatches.{GoesOn}
use Rattle.deck_runs.specs.Private.StageSteps.{AreNewUpdaters, HasEndedUpdates, HaveEnded, IsPlayed, IsUnplayed}
use Rattle.deck_runs.specs.declared.threads.stages.Stage.{Stage}

pub all_ready : (station : TurnstileId) (deck : Deck) (runs : List UpdaterRun) → AreNewUpdaters station deck runs → All (HasNewPass station deck) runs
unfolding HasNewPass
all_ready station deck runs new k d l =
    let is = new.each k (get_or runs k d) (slice_get-get_or runs k d l) in
    let number : (get_or runs k d).pass.number ≡ k = ap (λ (p : PassState). p.number) is in
    (is ∙ ap (new_pass station deck) (sym number), let count = new.count in omega arith)

-- What an updater made, by its pass or by its number.
abbrev MadeBy : Deck → Bool → List Event → ℕ → Type 0
MadeBy deck done seen by = MatchBool done
    (made_by by seen ≡ commits_from by 0 (updates_by deck by))
    ((n : ℕ) × (n < length (updates_by deck by)) × (made_by by seen ≡ commits_from by 0 (take n (updates_by deck by))))

has_ended : (station : TurnstileId) (deck : Deck) (by : ℕ) (run now : UpdaterRun) → run.pass ≡ new_pass station deck by → HasMadeUpdates deck run now → HasEndedUpdates station deck by now
unfolding HasMadeUpdates
has_ended station deck by run now new done = record {
  pass = done.0 ∙ ap (λ p. with_seen p now.pass.seen) new;
  made = subst (MadeBy deck now.done now.pass.seen) (ap (λ (p : PassState). p.number) new) done.1;
}

pub have_ended : (station : TurnstileId) (deck : Deck) (runs now : List UpdaterRun) → AreNewUpdaters station deck runs → EachDone deck runs now → HaveEnded station deck now
have_ended station deck runs now new done = record {
  count = done.0 ∙ new.count;
  each = λ by run at.
      let within = slice_get_within now by run at in
      let l : by < length runs = let same = done.0 in omega arith in
      let was = get_or runs by run in
      let d : HasMadeUpdates deck was (get_or now by run) = done.1 by run l in
      has_ended station deck by was run (new.each by was (slice_get-get_or runs by run l)) (subst (HasMadeUpdates deck was) (get_or_from_slice_get now by run run at) d);
}

-- ---- their passes

module _ (station : TurnstileId) (deck : Deck) (runs : List UpdaterRun) (h : HaveEnded station deck runs) where
  ended_at : (k : ℕ) (d : UpdaterRun) → k < length runs → HasEndedUpdates station deck k (get_or runs k d)
  ended_at k d l = h.each k (get_or runs k d) (slice_get-get_or runs k d l)

  -- Each pass is of the station, and its number is its place.
  pub same_station : All (λ (p : PassState). p.station ≡ station) (passes_of runs)
  same_station = All-map (λ (p : PassState). p.station ≡ station) (λ (run : UpdaterRun). run.pass) runs (λ k d l. ap (λ (p : PassState). p.station) (ended_at k d l).pass)

  pub all_numbers : (by : ℕ) → by < length deck.updates → Contains (numbers_of (passes_of runs)) by
  all_numbers by l = elim (slice_get_cases runs by).1 as (λ _. Contains (numbers_of (passes_of runs)) by) [
    | inl (run, within, at, here) ↦ (
      by,
      (let a = length-map (passes_of runs) (λ (p : PassState). p.number) in let b = length-map runs (λ (r : UpdaterRun). r.pass) in omega arith),
      get_or-map (λ (p : PassState). p.number) (passes_of runs) by run.pass by (let b = length-map runs (λ (r : UpdaterRun). r.pass) in omega arith)
          ∙ ap (λ (p : PassState). p.number) (get_or-map (λ (r : UpdaterRun). r.pass) runs by run run.pass within ∙ (ended_at by run within).pass),
    )
    | inr past ↦ absurd (let count = h.count in let long = past.0 in omega arith)
  ]

-- New passes, in the order of their numbers, make new updaters.
pub new_updaters : (station : TurnstileId) (deck : Deck) (runs : List UpdaterRun) (ps : List PassState) → passes_of runs ≡ ps → length ps ≡ length deck.updates → ((by : ℕ) (p : PassState) → slice_get ps by ≡ Some p → p ≡ new_pass station deck by)
    → AreNewUpdaters station deck runs
new_updaters station deck runs ps same count each = record {
  count = sym (length-map runs pass) ∙ ap length same ∙ count;
  each = λ by run at.
      let l = slice_get_within runs by run at in
      let many = length-map runs pass in
      let there : get_or ps by run.pass ≡ run.pass = ap (λ (xs : List PassState). get_or xs by run.pass) (sym same) ∙ get_or-map pass runs by run run.pass l ∙ ap pass (get_or_from_slice_get runs by run run at) in
      sym there ∙ each by (get_or ps by run.pass) (slice_get-get_or ps by run.pass (let sized = ap length same in omega arith));
}
  where
    pass : UpdaterRun → PassState
    pass run = run.pass

-- The conductor of such parts.
pub can_conduct : (deck : Deck) (at : TurnstileId) (run : ConductorRun) (station : TurnstileId) (pass : PassState) → at ≡ station → run.pass ≡ pass → pass ≡ new_pass station deck (length deck.updates)
    → run.board ≡ board_of (values_in deck) [] → HEAD_BYTES + entry_len deck.settings.version * length deck.items ≤ length run.buf.items → HasGroups deck run.groups → CanConduct at deck run
can_conduct deck at run station pass same is new board buffer groups = record { pass = is ∙ new ∙ ap (λ t. new_pass t deck (length deck.updates)) (sym same); board = board; buffer = buffer; groups = groups }

-- A stage after the jobs.
pub is_played : (s t : Stage) → IsUnplayed s → GoesOn s.conductor.pass t.conductor.pass → starts t.conductor.pass.seen ≤ s.planned.now.settings.cycles → EachDone s.planned.now s.updaters.items t.updaters.items → t.planned ≡ s.planned → t.station ≡ s.station → t.passes ≡ s.passes → IsPlayed t
is_played s t unplayed on few done planned station passes =
    let same : t.planned.now ≡ s.planned.now = ap (λ p. p.now) planned in
    let at_first : (s.conductor.pass ≡ new_pass t.station t.planned.now (length t.planned.now.updates)) =
    unplayed.conductor.pass ∙ ap (λ d. new_pass s.station d (length d.updates)) (sym same) ∙ ap (λ at. new_pass at t.planned.now (length t.planned.now.updates)) (sym station) in
    record {
      pass = on.same ∙ ap (λ p. with_seen p t.conductor.pass.seen) at_first;
      few = subst (λ d. starts t.conductor.pass.seen ≤ d.settings.cycles) (sym same) few;
      updaters = subst (λ d. HaveEnded t.station d t.updaters.items) (sym same)
          (subst (λ at. HaveEnded at s.planned.now t.updaters.items) (sym station) (have_ended s.station s.planned.now s.updaters.items t.updaters.items unplayed.updaters done));
      room = (ap (λ p. p.items) passes ∙ unplayed.room.0, let most = unplayed.room.1 in let size = ap vec_capacity passes in let count = done.0 in omega arith);
    }

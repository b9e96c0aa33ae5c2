-- What the conductor's pass has seen, and the batches that are published of it.
use Rattle.std.proofs.Common.{◌≡◌, ◌⊎◌, ℕ, ◌+◌, ◌≤◌, cond, List, [], ◌∷◌, ◌++◌, length, All, inl, inr, refl, sym, ◌∙◌, ap, subst, arith, append_assoc, length-append}
use Rattle.std.specs.Prelude.{Result, Ok, Err, OnErr}
use Rattle.std.proofs.lemmas.List.{append-nil}
use Rattle.std.proofs.lemmas.List.Elements.{All-append, All-from_recursion, All-nil}
use Rattle.std.proofs.lemmas.List.Sums.{sum_by-cons}
use Rattle.air_history.specs.declared.histories.Event.{Event}
use Rattle.air_history.specs.declared.histories.Event.TheVariants.{Commit, Start}
use Rattle.air_history.specs.Histories.{is_start, starts, since_start, EventFits, ItemsFit, events_in}
use Rattle.air_history.specs.Tables.{BasesRead}
use Rattle.air_history.specs.Boards.{Board, board_of}
use Rattle.air_model.specs.Closings.{GoesOnWithout}
use Rattle.update_commit.proofs.EventLemmas.{since_none, since_commit, since_new_start, starts_none}
use Rattle.station.specs.PassStates.{PassState, with_seen}
use Rattle.cycle_snapshot.specs.Batches.{IsBatch}
use Rattle.control_matrix.specs.BoardSteps.{step_all}
use Rattle.cycle_snapshot.specs.SnapshotStates.{PublisherState, with_batch}
use Rattle.cycle_snapshot.proofs.BatchLemmas.{starts_append, events_more, board_all, board_values}
use Rattle.cycle_snapshot.proofs.PrefixLemmas.{prefix_self, prefix_trans}
use Rattle.air_model.specs.MonitorSights.{EndsAtStart}
use Rattle.deck_runs.specs.PublishedBatches.{AreInStep, GoesOn, IsBoardOf, IsUpTo, PublishesOn}
use Rattle.deck_runs.specs.Private.CycleSteps.{AddsBatch}

-- ---- after the last start

pub starts_head : (e : Event) (G : List Event) → starts (e ∷ G) ≡ cond (is_start e) 1 0 + starts G
unfolding starts
starts_head e G = sum_by-cons (λ e. cond (is_start e) 1 0) e G

pub starts_one : starts (Start ∷ []) ≡ 1
unfolding starts is_start
starts_one = refl

-- Commits are added to what comes after the last start.
since_quiet : (F o : List Event) → starts o ≡ 0 → since_start (F ++ o) ≡ since_start F ++ o
unfolding is_start
since_quiet F [] h = ap since_start (append-nil F) ∙ sym (append-nil (since_start F))
since_quiet F (Start ∷ o) h = absurd (let a = starts_head Start o in omega arith)
since_quiet F (Commit by seq u ∷ o) h =
    let e = Commit by seq u in
    ap since_start (sym (append_assoc F (e ∷ []) o)) ∙ since_quiet (F ++ e ∷ []) o (let a = starts_head e o in omega arith)
    ∙ ap (λ l. l ++ o) (since_commit F by seq u) ∙ append_assoc (since_start F) (e ∷ []) o

-- What comes after a list that ends at a start, and has no start.
since_ends : (E o : List Event) → EndsAtStart E → starts o ≡ 0 → since_start (E ++ o) ≡ o
since_ends E o (inl none) h = since_quiet E o h ∙ ap (λ l. l ++ o) (ap since_start none ∙ since_none)
since_ends E o (inr some) h = since_quiet E o h ∙ ap (λ l. l ++ o) (ap since_start some.1 ∙ since_new_start some.0)

pub no_starts : (seen later : List Event) (g : GoesOnWithout is_start seen later) → starts g.0 ≡ 0
unfolding starts
no_starts seen later g = g.2

-- ---- what is published of what was seen

-- Events of others come after it.
pub up_to_on : (n : ℕ) (seen before : List Event) (bs : List (List Event)) → IsUpTo n seen bs → GoesOnWithout is_start seen before → IsUpTo n before bs
up_to_on n seen before bs up g = let quiet = no_starts seen before g in record {
  later = up.later ++ g.0;
  begins = g.1 ∙ ap (λ l. l ++ g.0) up.begins ∙ append_assoc (events_in bs) up.later g.0;
  ends = up.ends;
  rest = let a = starts_append up.later g.0 in let b = up.rest in omega arith;
  count = let a = ap starts g.1 ∙ starts_append seen g.0 in let b = up.count in omega arith;
}

-- If all starts are published, what is not published yet is what comes after the last start.
pub up_to_since : (G : List Event) (bs : List (List Event)) (up : IsUpTo 0 G bs) → since_start G ≡ up.later
up_to_since G bs up = ap since_start up.begins ∙ since_ends (events_in bs) up.later up.ends up.rest

-- A start that is not published.
pub up_to_start : (G new : List Event) (bs : List (List Event)) → IsUpTo 0 G bs → new ≡ G ++ Start ∷ [] → IsUpTo 1 new bs
up_to_start G new bs up is = record {
  later = up.later ++ Start ∷ [];
  begins = is ∙ ap (λ l. l ++ Start ∷ []) up.begins ∙ append_assoc (events_in bs) up.later (Start ∷ []);
  ends = up.ends;
  rest = let a = starts_append up.later (Start ∷ []) in let b = up.rest in let one = starts_one in omega arith;
  count = let a = ap starts is ∙ starts_append G (Start ∷ []) in let b = up.count in let one = starts_one in omega arith;
}

-- The start is published, with what came after the one before.
pub up_to_batch : (G new fresh : List Event) (bs : List (List Event)) → IsUpTo 0 G bs → new ≡ G ++ Start ∷ [] → fresh ≡ since_start G ++ Start ∷ [] → IsUpTo 0 new (bs ++ fresh ∷ [])
up_to_batch G new fresh bs up is f =
    let all : new ≡ events_in (bs ++ fresh ∷ []) =
    is ∙ ap (λ l. l ++ Start ∷ []) (up.begins ∙ ap (λ l. events_in bs ++ l) (sym (up_to_since G bs up))) ∙ append_assoc (events_in bs) (since_start G) (Start ∷ []) ∙ ap (λ l. events_in bs ++ l) (sym f) ∙ sym (events_more bs fresh) in
    record {
      later = [];
      begins = all ∙ sym (append-nil (events_in (bs ++ fresh ∷ [])));
      ends = inr (G, sym all ∙ is);
      rest = starts_none;
      count = let a = ap starts is ∙ starts_append G (Start ∷ []) in let b = up.count in let one = starts_one in let l = length-append bs (fresh ∷ []) in omega arith;
    }

-- The fresh events are a batch.
items_fit : (updaters n : ℕ) (e : Event) → EventFits updaters n e → ItemsFit n e
unfolding EventFits ItemsFit
items_fit updaters n (Commit by seq u) h = h.1
items_fit updaters n Start h = h

pub fresh_batch : (updaters n : ℕ) (seen before fresh : List Event) (bs : List (List Event)) → IsUpTo 0 seen bs → GoesOnWithout is_start seen before → fresh ≡ since_start before ++ Start ∷ [] → All (EventFits updaters n) fresh → IsBatch n fresh
fresh_batch updaters n seen before fresh bs up g f fits = let now = up_to_on 0 seen before bs up g in record {
  fits = λ k d l. items_fit updaters n _ (fits k d l);
  ends = (since_start before, f, ap starts (up_to_since before bs now) ∙ now.rest);
}

-- ---- passes, publishers and boards

pub goes_on : (p q : PassState) (before more : List Event) → q ≡ with_seen p q.seen → GoesOnWithout is_start p.seen before → q.seen ≡ before ++ more → GoesOn p q
goes_on p q before more same g is = record { same = same; seen = prefix_trans p.seen before q.seen (g.0, sym g.1) (more, sym is) }

pub goes_nowhere : (p : PassState) → GoesOn p p
goes_nowhere p = record { same = refl; seen = prefix_self p.seen }

pub goes_further : (p q r : PassState) → GoesOn p q → GoesOn q r → GoesOn p r
goes_further p q r a b = record { same = b.same ∙ ap (λ x. with_seen x r.seen) a.same; seen = prefix_trans p.seen q.seen r.seen a.seen b.seen }

pub on_station : (p q : PassState) → GoesOn p q → q.station ≡ p.station
on_station p q on = ap (λ x. x.station) on.same

pub on_values : (p q : PassState) → GoesOn p q → q.values ≡ p.values
on_values p q on = ap (λ x. x.values) on.same

pub on_most : (f g : PublisherState) → PublishesOn f g → g.most ≡ f.most
on_most f g on = ap (λ x. x.most) on.same

pub publishes_none : (f : PublisherState) → PublishesOn f f
publishes_none f = record { same = refl; batches = ([], append-nil f.batches); each = All-nil (IsBatch (length f.values)) }

pub publishes_batch : (f g : PublisherState) (b : List Event) → g ≡ with_batch f b → IsBatch (length f.values) b → PublishesOn f g
publishes_batch f g b is batch = record {
  same = is ∙ ap (λ (bs : List (List Event)). let x : PublisherState = record f { batches = bs } in x) (sym (ap (λ x. x.batches) is));
  batches = (b ∷ [], sym (ap (λ x. x.batches) is));
  each = All-from_recursion (IsBatch (length f.values)) (b ∷ []) (batch, tt);
}

pub publishes_further : (f g h : PublisherState) → PublishesOn f g → PublishesOn g h → PublishesOn f h
publishes_further f g h a b = record {
  same = b.same ∙ ap (λ (x : PublisherState). let y : PublisherState = record x { batches = h.batches } in y) a.same;
  batches = (a.batches.0 ++ b.batches.0, sym (append_assoc f.batches a.batches.0 b.batches.0) ∙ ap (λ l. l ++ b.batches.0) a.batches.1 ∙ b.batches.1);
  each = All-append (IsBatch (length f.values)) a.batches.0 b.batches.0 a.each (subst (λ (v : List ℕ). All (IsBatch (length v)) b.batches.0) (ap (λ x. x.values) a.same) b.each);
}

-- The board of the published list, with one batch more.
pub board_batch : (values : List ℕ) (b new : Board) (bs : List (List Event)) (fresh : List Event) → b ≡ board_of values (events_in bs) → new ≡ step_all b fresh → All (ItemsFit (length values)) fresh → All BasesRead fresh
    → new ≡ board_of values (events_in (bs ++ fresh ∷ []))
board_batch values b new bs fresh is stepped fits bases = stepped ∙ ap (λ x. step_all x fresh) is ∙ board_all values (events_in bs) fresh fits bases ∙ ap (board_of values) (sym (events_more bs fresh))

pub board_sized : (values : List ℕ) (b : Board) (G : List Event) → b ≡ board_of values G → length b.values ≡ length values
board_sized values b G is = ap (λ x. length x.values) is ∙ board_values values G

-- The board's cycle is the number of batches.
pub board_cycle : (p : PassState) (f : PublisherState) (b : Board) → AreInStep p f b → b.cycle ≡ starts p.seen
board_cycle p f b s =
    let up = s.published in
    ap (λ x. x.cycle) s.board ∙ (let a = ap starts up.begins ∙ starts_append (events_in f.batches) up.later in let z = up.rest in omega arith)

-- After a cycle was begun they are in step again.
pub in_step : (p q : PassState) (f g : PublisherState) (b new : Board) (fresh : List Event) → AreInStep p f b → GoesOn p q → g ≡ with_batch f fresh → new ≡ step_all b fresh → IsBatch (length p.values) fresh → All BasesRead fresh
    → IsUpTo 0 q.seen (f.batches ++ fresh ∷ []) → AreInStep q g new
in_step p q f g b new fresh step on adds stepped is bases up =
    let values : q.values ≡ p.values = ap (λ x. x.values) on.same in
    let batches : g.batches ≡ f.batches ++ fresh ∷ [] = ap (λ x. x.batches) adds in
    record {
      values = ap (λ x. x.values) adds ∙ step.values ∙ sym values;
      published = subst (IsUpTo 0 q.seen) (sym batches) up;
      board = board_batch p.values b new f.batches fresh step.board stepped is.fits bases ∙ (λ i. board_of (sym values i) (events_in (sym batches i)));
    }

-- ---- the board of what was seen

up_to_board : (p : PassState) (bs : List (List Event)) (b : Board) → IsUpTo 0 p.seen bs → b ≡ board_of p.values (events_in bs) → IsBoardOf p b
up_to_board p bs b up is = record { beginning = events_in bs; later = up.later; begins = up.begins; ends = up.ends; rest = up.rest; board = is }

pub board_seen : (p : PassState) (f : PublisherState) (b : Board) → AreInStep p f b → IsBoardOf p b
board_seen p f b step = up_to_board p f.batches b step.published step.board

-- If no cycle was started, the board is that of the list as before.
pub board_kept : (p q : PassState) (f : PublisherState) (b : Board) → AreInStep p f b → GoesOn p q → IsUpTo 0 q.seen f.batches → IsBoardOf q b
board_kept p q f b step on up = up_to_board q f.batches b up (step.board ∙ ap (λ v. board_of v (events_in f.batches)) (sym (on_values p q on)))

-- If its events weren't published, the board still has them.
pub board_ahead : (p q : PassState) (f : PublisherState) (b new : Board) (fresh : List Event) → AreInStep p f b → GoesOn p q → new ≡ step_all b fresh → IsBatch (length p.values) fresh → All BasesRead fresh
    → IsUpTo 0 q.seen (f.batches ++ fresh ∷ []) → IsBoardOf q new
board_ahead p q f b new fresh step on stepped is bases up =
    let bs = f.batches ++ fresh ∷ [] in
    up_to_board q bs new up (board_batch p.values b new f.batches fresh step.board stepped is.fits bases ∙ ap (λ v. board_of v (events_in bs)) (sym (on_values p q on)))

-- It is at the last start.
pub board_at : (p : PassState) (b : Board) → IsBoardOf p b → b.cycle ≡ starts p.seen
board_at p b is =
    let both = ap starts is.begins ∙ starts_append is.beginning is.later in
    let none = is.rest in
    ap (λ x. x.cycle) is.board ∙ omega arith

-- At most one start more than batches was seen.
pub few_starts : (n : ℕ) (seen : List Event) (bs : List (List Event)) → length bs + 1 ≤ n → IsUpTo 0 seen bs ⊎ IsUpTo 1 seen bs → starts seen ≤ n
few_starts n seen bs l (inl up) = let c = up.count in omega arith
few_starts n seen bs l (inr up) = let c = up.count in omega arith

-- One batch more, and so one start.
pub one_start : (seen now : List Event) (f g : PublisherState) → IsUpTo 0 seen f.batches → AddsBatch f g → IsUpTo 0 now g.batches → starts now ≤ starts seen + 1
one_start seen now f g before adds after =
    let more : length g.batches ≡ length f.batches + 1 = ap (λ x. length x.batches) adds.1 ∙ length-append f.batches (adds.0 ∷ []) in
    let first = before.count in
    let last = after.count in
    omega arith

-- What holds in any case holds at a fault.
pub at_fault : {T E : Type 0} (Q : Type 0) (r : Result T E) → Q → OnErr r Q
at_fault Q (Ok x) h = tt
at_fault Q (Err e) h = h

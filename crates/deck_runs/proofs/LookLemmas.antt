-- One look more.
use Rattle.std.proofs.Common.{◌≡◌, ℕ, ◌+◌, ◌<◌, ◌≤◌, List, [], ◌∷◌, ◌++◌, length, All, min, inl, inr, refl, sym, ap, ◌∙◌, subst, arith, append_assoc}
use Rattle.std.proofs.lemmas.List.{append-nil}
use Rattle.std.proofs.lemmas.List.Elements.{All-head, All-tail}
use mathlib.Core.List.{IsPrefix}
use Rattle.cycle_snapshot.specs.SnapshotStates.{HasLooked, MonitorState}
use Rattle.cycle_snapshot.proofs.PrefixLemmas.{prefix_self, prefix_trans, prefix_whole}
use Rattle.cycle_snapshot.proofs.BatchLemmas.{starts_append}
use Rattle.air_history.specs.declared.histories.Event.TheVariants.{Start}
use Rattle.air_history.specs.Histories.{starts, events_in}
use Rattle.air_model.specs.declared.reports.LookLine.{LookLine}
use Rattle.air_model.specs.MonitorSights.{EndsAtStart}
use Rattle.deck_runs.specs.PublishedBatches.{IsUpTo}
use Rattle.air_history.specs.Boards.{frame_of}
use Rattle.air_history.specs.declared.histories.Event.{Event}
use Rattle.cycle_snapshot.specs.Batches.{IsBatch}
use Rattle.deck_runs.specs.Looks.{IsLookLineOf, LookedTimes, ShowsBeginning}

pub looked_none : (m : MonitorState) → m.looks < 18446744073709551616 → LookedTimes 0 m m
looked_none m l = record {
  seen = prefix_self m.seen;
  told = λ h. absurd (omega arith);
  batches = λ h. absurd (omega arith);
  few = λ h. absurd (omega arith);
  kept = λ h. absurd (omega arith);
  looks = let e : m.looks ≡ min (m.looks + 0) 18446744073709551615 = omega arith in e;
  same = refl;
}

pub looked_more : (m n o : MonitorState) (k : ℕ) → LookedTimes k m n → HasLooked n o → LookedTimes (k + 1) m o
looked_more m n o k t l =
    let values : n.values ≡ m.values = ap (λ x. x.values) t.same in
    record {
      seen = prefix_trans m.seen n.seen o.seen t.seen l.seen;
      told = λ h. subst (λ (f : List (List Event)). IsPrefix f o.seen) (ap (λ x. x.told) t.same) l.told;
      batches = λ h. subst (λ (v : List ℕ). All (IsBatch (length v)) o.seen) values l.batches;
      few = λ h. let most = ap (λ x. x.most) t.same in let few = l.few in omega arith;
      kept = λ h. l.kept ∙ ap (λ v. frame_of v (events_in o.seen)) values;
      looks = let a = l.looks in let b = t.looks in let e : o.looks ≡ min (m.looks + (k + 1)) 18446744073709551615 = omega arith in e;
      same = l.same ∙ ap (λ (x : MonitorState). let y : MonitorState = record x { seen = o.seen; kept = o.kept; looks = o.looks } in y) t.same;
    }

-- ---- what the looks show

events_both : (bs cs : List (List Event)) → events_in (bs ++ cs) ≡ events_in bs ++ events_in cs
events_both [] cs = refl
events_both (b ∷ bs) cs = ap (λ l. b ++ l) (events_both bs cs) ∙ sym (append_assoc b (events_in bs) (events_in cs))

-- Whole batches end at a start.
batches_end : (n : ℕ) (bs : List (List Event)) → All (IsBatch n) bs → EndsAtStart (events_in bs)
batches_end n [] all = inl refl
batches_end n (b ∷ bs) all = step (events_in bs) (batches_end n bs (All-tail (IsBatch n) b bs all))
  where
    is : IsBatch n b
    is = All-head (IsBatch n) b bs all

    step : (E : List Event) → EndsAtStart E → EndsAtStart (b ++ E)
    step E (inl none) = inr (is.ends.0, ap (λ l. b ++ l) none ∙ append-nil b ∙ is.ends.1)
    step E (inr some) = inr (b ++ some.0, ap (λ l. b ++ l) some.1 ∙ sym (append_assoc b some.0 (Start ∷ [])))

-- A frame of the first of all batches.
beginning_shown : (values : List ℕ) (conductor : List Event) (all seen : List (List Event)) (n : MonitorState) (line : LookLine) → IsUpTo 0 conductor all → IsPrefix seen all → All (IsBatch (length values)) seen
    → n.kept ≡ frame_of values (events_in seen) → IsLookLineOf n line → ShowsBeginning values conductor line
beginning_shown values conductor all seen n line up pre batches kept is = record {
  beginning = events_in seen;
  later = events_in pre.0 ++ up.later;
  begins = up.begins ∙ ap (λ l. l ++ up.later) (ap events_in (sym pre.1) ∙ events_both seen pre.0) ∙ append_assoc (events_in seen) (events_in pre.0) up.later;
  ends = batches_end (length values) seen batches;
  cycle = is.cycle ∙ ap (λ f. f.cycle) kept;
  total = is.total ∙ ap (λ f. f.total) kept;
}

pub shows : (conductor : List Event) (all told : List (List Event)) (times : ℕ) (m n o : MonitorState) (glance look : LookLine) → IsUpTo 0 conductor all → length all ≡ m.most → 1 ≤ times → LookedTimes times m n → IsLookLineOf n glance
    → IsPrefix all told → HasLooked (record n { told = told }) o → IsLookLineOf o look → ShowsBeginning m.values conductor glance × ShowsBeginning m.values conductor look × (look.cycle ≡ starts conductor)
shows conductor all told times m n o glance look up full some t g pre l s =
    let values : n.values ≡ m.values = ap (λ x. x.values) t.same in
    let most : n.most ≡ m.most = ap (λ x. x.most) t.same in
    let whole : all ≡ o.seen = prefix_whole all o.seen (prefix_trans all told o.seen pre l.told) (let few = l.few in omega arith) in
    let kept : o.kept ≡ frame_of m.values (events_in all) = l.kept ∙ (λ i. frame_of (values i) (events_in (sym whole i))) in
    let batches : All (IsBatch (length m.values)) all = subst (All (IsBatch (length m.values))) (sym whole) (subst (λ (v : List ℕ). All (IsBatch (length v)) o.seen) values l.batches) in (
      beginning_shown m.values conductor all n.seen n glance up (subst (IsPrefix n.seen) (sym whole) l.seen) (t.batches (omega arith)) (t.kept (omega arith)) g,
      beginning_shown m.values conductor all all o look up (prefix_self all) batches kept s,
      s.cycle ∙ ap (λ f. f.cycle) kept ∙ (let a = ap starts up.begins ∙ starts_append (events_in all) up.later in let z = up.rest in omega arith),
    )

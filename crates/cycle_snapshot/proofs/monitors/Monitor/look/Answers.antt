use Rattle.std.proofs.Common.{◌≡◌, ◌≤◌, ◌∙◌, sym, ap, subst, Some, Option, length, All}
use mathlib.Core.List.{IsPrefix}
use Rattle.std.specs.Prelude.{MatchOption}
use Rattle.left_right.specs.Sides.{view}
use Rattle.air_history.specs.Boards.{frame_of}
use Rattle.air_history.specs.Histories.{events_in}
use Rattle.cycle_snapshot.specs.Batches.{IsBatch}
use Rattle.cycle_snapshot.specs.Beginnings.{Beginning}
use Rattle.cycle_snapshot.specs.SideRule.{HasCopied}
use Rattle.cycle_snapshot.specs.SnapshotStates.{MonitorState, HasLooked}
use Rattle.cycle_snapshot.specs.MonitorFields.{starting_values, most_in, last_view}
use Rattle.cycle_snapshot.proofs.PrefixLemmas.{prefix_self, prefix_trans}
use Rattle.cycle_snapshot.proofs.BatchLemmas.{board_values}
use Rattle.cycle_snapshot.proofs.SightLemmas.{at_some}
use Rattle.cycle_snapshot.proofs.monitors.Monitor.look.Goals as goal

pub invariant_of-self : goal.invariant_of-self
invariant_of-self c =
    let v = c.self.invariant in let list = c.in-Some-list.list in
    let at : view c.in-Some.reader.place ≡ Some v.side = at_some (λ r. view r.place) c.self.inside.reader c.in-Some.reader v.side (sym c.take.ensures.value ∙ c.in-Some.is) v.is in
    let t = c.take_frame-reader.ensures.looked v.side at in
    let y = t.0 in let kept = c.take_frame-reader.new.kept in
    let took : HasCopied y c.self.inside.told kept list = subst (λ (o : Option Beginning). MatchOption o (kept ≡ c.self.inside.kept) (HasCopied y c.self.inside.told kept)) c.in-Some-list.is t.3 in
    record {
      side = y;
      is = t.1;
      seen_of = ap (λ l. l.publisher) took.list;
      seen_begins = subst (λ (l : Beginning). IsPrefix l.batches y.list.batches) (sym took.list) (prefix_self y.list.batches);
      told_of = v.told_of ∙ sym t.2.publisher;
      sized = ap (λ f. length f.values) took.kept ∙ board_values y.values (events_in y.list.batches);
    }

pub returns-in-Some-list : goal.returns-in-Some-list
returns-in-Some-list c =
    let v = c.self.invariant in let list = c.in-Some-list.list in
    let at : view c.in-Some.reader.place ≡ Some v.side = at_some (λ r. view r.place) c.self.inside.reader c.in-Some.reader v.side (sym c.take.ensures.value ∙ c.in-Some.is) v.is in
    let t = c.take_frame-reader.ensures.looked v.side at in
    let y = t.0 in let kept = c.take_frame-reader.new.kept in
    let took : HasCopied y c.self.inside.told kept list = subst (λ (o : Option Beginning). MatchOption o (kept ≡ c.self.inside.kept) (HasCopied y c.self.inside.told kept)) c.in-Some-list.is t.3 in
    let place = c.take_frame-reader.result.0.place in
    let n : MonitorState = record { publisher = c.self.inside.told.publisher; values = starting_values (view place); most = most_in (view place); seen = list.batches; told = c.self.inside.told.batches; kept = kept; looks = c.saturating_add-self-inside.result } in
    let values : y.values ≡ starting_values (last_view c.self.inside) = t.2.values ∙ ap starting_values (sym v.is) in
    let most : y.most ≡ most_in (last_view c.self.inside) = t.2.most ∙ ap most_in (sym v.is) in
    subst (λ (m : MonitorState). HasLooked m n) c.self.view_is record {
      seen = subst (λ (l : Beginning). IsPrefix c.self.inside.seen.batches l.batches) (sym took.list) (prefix_trans c.self.inside.seen.batches v.side.list.batches y.list.batches v.seen_begins t.2.batches);
      told = subst (λ (l : Beginning). IsPrefix c.self.inside.told.batches l.batches) (sym took.list) took.told;
      batches = subst (λ (l : Beginning). All (IsBatch (length (starting_values (last_view c.self.inside)))) l.batches) (sym took.list) (subst (λ vs. All (IsBatch (length vs)) y.list.batches) values took.shown.batches);
      few = subst (λ (l : Beginning). length l.batches ≤ most_in (last_view c.self.inside)) (sym took.list) (subst (λ k. length y.list.batches ≤ k) most took.shown.few);
      kept = took.kept ∙ (λ i. frame_of (values i) (events_in (sym took.list i).batches));
      looks = c.saturating_add-self-inside.ensures;
      same = λ i. record n { values = (ap starting_values t.1 ∙ values) i; most = (ap most_in t.1 ∙ most) i };
    }

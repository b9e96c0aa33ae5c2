use Rattle.std.proofs.Common.{◌≡◌, length, sym, ◌∙◌, ap, subst}
use mathlib.Core.List.{IsPrefix}
use Rattle.air_history.specs.Boards.{frame_of}
use Rattle.air_history.specs.Histories.{events_in}
use Rattle.cycle_snapshot.specs.Beginnings.{Beginning}
use Rattle.cycle_snapshot.proofs.PrefixLemmas.{prefix_self}
use Rattle.cycle_snapshot.proofs.BatchLemmas.{board_values}
use Rattle.cycle_snapshot.proofs.publishers.Publisher.monitor.Goals as goal

pub invariant_of-result : goal.invariant_of-result
invariant_of-result c =
    let v = c.self.invariant in let x = c.self.inside.writer.desk.shown.value in
    let one = c.again.ensures ∙ sym v.list in
    let two = c.again-2.ensures ∙ sym v.list in
    let kept : c.in_ok-kept.kept ≡ frame_of x.values (events_in x.list.batches) = c.in_ok-kept.ensures x.values (events_in x.list.batches) (ap (λ y. y.board) c.published.ensures ∙ v.shown.board) in
    record {
      side = x;
      is = c.in_ok-reader.ensures.reader ∙ v.sees;
      seen_of = ap (λ l. l.publisher) one;
      seen_begins = subst (λ (l : Beginning). IsPrefix l.batches x.list.batches) (sym one) (prefix_self x.list.batches);
      told_of = ap (λ l. l.publisher) two;
      sized = ap (λ f. length f.values) kept ∙ board_values x.values (events_in x.list.batches);
    }

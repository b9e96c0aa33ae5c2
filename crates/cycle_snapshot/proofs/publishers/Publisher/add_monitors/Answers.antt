use Rattle.std.proofs.Common.{◌≡◌, ◌∙◌, sym, ap, subst, All, [], ◌∷◌, length, length-append, arith}
use Rattle.std.proofs.lemmas.List.Elements.{All-push}
use Rattle.cycle_snapshot.specs.SnapshotStates.{MonitorState, new_monitor}
use Rattle.cycle_snapshot.proofs.publishers.Publisher.add_monitors.Goals as goal

pub loop-preserved : goal.loop-preserved
loop-preserved c =
    let i = c.loop.invariant in let m = c.in_ok-monitor.field-0 in
    let P : MonitorState → Type 0 = λ m. m ≡ new_monitor c.args.self.now in
    record {
      same = c.monitor.ensures.same ∙ i.same;
      count = let a = ap length c.push_reserved.ensures.items ∙ length-append c.loop.all.items (m ∷ []) in let n = i.count in omega arith;
      room = let k = c.push_reserved.ensures.capacity in let n = i.room in omega arith;
      each = subst (All P) (sym c.push_reserved.ensures.items) (All-push P c.loop.all.items m i.each (c.in_ok-monitor.ensures.first ∙ ap new_monitor i.same));
    }

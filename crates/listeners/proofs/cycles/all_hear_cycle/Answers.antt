use Rattle.std.proofs.Common.{◌∙◌, ap, sym, subst, arith}
use Rattle.air_model.specs.Programs.{program as slots_of}
use Rattle.receiver_core.specs.Receivers.{heard_count}
use Rattle.listeners.specs.AiredCycles.{AreFitting}
use Rattle.listeners.specs.Listeners.{Listener}
use Rattle.listeners.proofs.ReaderLemmas.{left_at, one_hears}
use Rattle.listeners.proofs.cycles.all_hear_cycle.Goals as goal

pub hear_cycle-requires-clause-counts : goal.hear_cycle-requires-clause-counts
hear_cycle-requires-clause-counts g c =
    let d = c.listener-item.result in
    let i = c.loop-listener.listener-index in
    let same = ap (λ (l : Listener). heard_count l.state.counts) (left_at d c.loop-listener.invariant.heard) in
    let long = c.loop-listener.invariant.heard.long in
    let within = c.loop-listener-test.true in
    let most = c.requires.counts i d (omega arith) in
    omega arith

pub hear_cycle-requires-clause-fitting : goal.hear_cycle-requires-clause-fitting
hear_cycle-requires-clause-fitting g c =
    let d = c.listener-item.result in
    let i = c.loop-listener.listener-index in
    let long = c.loop-listener.invariant.heard.long in
    let within = c.loop-listener-test.true in
    subst (λ (l : Listener). AreFitting l.air c.args.form c.args.program.now.edition (slots_of c.args.program.now.disks) (g.S.Source.board c.args.source.now)) (sym (left_at d c.loop-listener.invariant.heard))
    (c.requires.fitting i d (omega arith))

pub hear_cycle-requires-clause-own : goal.hear_cycle-requires-clause-own
hear_cycle-requires-clause-own g c =
    let d = c.listener-item.result in
    let i = c.loop-listener.listener-index in
    let long = c.loop-listener.invariant.heard.long in
    let within = c.loop-listener-test.true in
    c.requires.own i d (omega arith) ∙ ap (λ (l : Listener). l.air.items) (sym (left_at d c.loop-listener.invariant.heard))

pub loop-listener-preserved : goal.loop-listener-preserved
loop-listener-preserved g c =
    let within = c.loop-listener-test.true in
    let long = c.loop-listener.invariant.heard.long in
    record {
      heard = one_hears c.listener-item.result c.hear_cycle.new.listener c.loop-listener.invariant.heard (omega arith) c.in_ok-hear_cycle.ensures.heard;
      buffer = c.in_ok-hear_cycle.ensures.buffer ∙ c.loop-listener.invariant.buffer;
    }

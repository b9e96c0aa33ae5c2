use Rattle.std.proofs.Common.{refl, sym, ◌∙◌}
use Rattle.receiver_core.proofs.StateLemmas.{in_own_state}
use Rattle.receiver_core.proofs.TurnLemmas.{came_to_end, came_to_line, fewer_items, still_on, still_same, waits_none, waits_some}
use Rattle.receiver_core.proofs.receivers.Receiver.settle_to_line.Goals as goal

pub loop-self-init : goal.loop-self-init
loop-self-init c = record { free = c.requires.given; same = in_own_state c.args.self.now c.requires.given; goes_on = refl }

pub loop-self-preserved : goal.loop-self-preserved
loop-self-preserved c =
    let old = c.args.self.now in
    let l = c.loop-self.self in
    let i = c.loop-self.invariant in
    record {
      free = waits_none c.self.inside c.turn.new.self c.self.view_is (sym c.is_some.ensures ∙ c.if-is_some.false);
      same = still_same old l c.turn.new.self i.same i.free c.turn.ensures.state;
      goes_on = still_on old l c.turn.new.self i.same i.free c.turn.ensures.state i.goes_on;
    }

pub loop-self-smaller : goal.loop-self-smaller
loop-self-smaller c =
    let old = c.args.self.now in
    let i = c.loop-self.invariant in
    fewer_items old c.loop-self.self c.turn.new.self i.same i.free c.turn.ensures.state (sym c.turn.ensures.used ∙ c.loop-self-test.true)
    (waits_none c.self.inside c.turn.new.self c.self.view_is (sym c.is_some.ensures ∙ c.if-is_some.false))

pub returns-then-is_some : goal.returns-then-is_some
returns-then-is_some c =
    let i = c.loop-self.invariant in
    came_to_line c.args.self.now c.loop-self.self c.turn.new.self i.same i.free c.turn.ensures.state i.goes_on
    (waits_some c.self.inside c.turn.new.self c.self.view_is (sym c.is_some.ensures ∙ c.if-is_some.true))

pub returns : goal.returns
returns c =
    let i = c.loop-self.invariant in
    came_to_end c.args.self.now c.loop-self.self c.turn.new.self i.same i.free c.turn.ensures.state i.goes_on (sym c.turn.ensures.used ∙ c.loop-self-test.false)

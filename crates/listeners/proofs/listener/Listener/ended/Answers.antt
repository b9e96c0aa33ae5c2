use Rattle.std.proofs.Common.{◌≡◌, ◌∙◌, ap}
use Rattle.listeners.specs.Private.Endings.{lines_and_counts}
use Rattle.listeners.specs.Listeners.{end_state}
use Rattle.listeners.proofs.HearLemmas.{listener_ended}
use Rattle.listeners.proofs.listener.Listener.ended.Goals as goal

pub returns : goal.returns
returns c =
    let took = c.in_ok-take_verdicts.ensures in
    let over = c.in_ok-end_queries.ensures in
    let inner = c.self.inside in
    let told : (c.end_queries.new.lines.items, c.end_queries.new.receiver.state.counts) ≡ lines_and_counts (end_state c.args.self) =
    listener_ended inner.number {old = inner.receiver} {mid = c.take_verdicts.new.receiver} {L = inner.lines.items} {M = c.take_verdicts.new.lines.items} c.end_queries.new.receiver
    c.end_queries.new.lines.items (record { air = took.air; reader = took.reader; state = took.state }) over.told over.settled.given
    ∙ ap (λ l. lines_and_counts (end_state l)) c.self.view_is in
    ap (λ n. (c.end_queries.new.lines.items, n)) c.counts.ensures ∙ told

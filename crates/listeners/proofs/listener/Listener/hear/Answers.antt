use Rattle.std.proofs.Common.{◌∙◌, ap, arith}
use Rattle.std.specs.Result.{result_ok}
use Rattle.receiver_core.specs.Receivers.{heard_count}
use Rattle.listeners.specs.Listeners.{Listener, hears_one}
use Rattle.listeners.proofs.HearLemmas.{listener_heard, refused_alone, took_counts}
use Rattle.listeners.proofs.listener.Listener.hear.Goals as goal

pub hear-requires-clause-counts : goal.hear-requires-clause-counts
hear-requires-clause-counts c =
    let took = c.in_ok-take_verdicts.ensures in
    let inner = c.self.inside in
    let same = took_counts {r = inner.receiver} {M = inner.lines.items} {mid = c.take_verdicts.new.receiver} {N = c.take_verdicts.new.lines.items}
    (record { air = took.air; reader = took.reader; state = took.state }) in
    let seen = ap (λ (l : Listener). heard_count l.state.counts) c.self.view_is in
    let most = c.requires.counts in
    omega arith

pub returns-clause-heard : goal.returns-clause-heard
returns-clause-heard c =
    let took = c.in_ok-take_verdicts.ensures in
    let inner = c.self.inside in
    listener_heard inner.number {old = inner.receiver} {mid = c.take_verdicts.new.receiver} {M = inner.lines.items} {N = c.take_verdicts.new.lines.items} c.hear.new.self (result_ok c.args.heard.now)
    (record { air = took.air; reader = took.reader; state = took.state }) c.hear.ensures.air c.hear.ensures.reader c.hear.ensures.state
    ∙ ap (hears_one (result_ok c.args.heard.now)) c.self.view_is

pub returns-clause-alone : goal.returns-clause-alone
returns-clause-alone c =
    let took = c.in_ok-take_verdicts.ensures in
    let inner = c.self.inside in
    refused_alone c.args.heard.now c.args.self.now _
    (listener_heard inner.number {old = inner.receiver} {mid = c.take_verdicts.new.receiver} {M = inner.lines.items} {N = c.take_verdicts.new.lines.items} c.hear.new.self (result_ok c.args.heard.now)
    (record { air = took.air; reader = took.reader; state = took.state }) c.hear.ensures.air c.hear.ensures.reader c.hear.ensures.state
    ∙ ap (hears_one (result_ok c.args.heard.now)) c.self.view_is)

use Rattle.std.proofs.Common.{◌∙◌, ap}
use Rattle.air_model.specs.Reports.{counts_lines, verdict_lines}
use Rattle.air_model.proofs.ReceiverLemmas.{true_sessions_are}
use Rattle.air_sender.specs.AiredBytes.{aired_bytes}
use Rattle.listeners.proofs.histories.history_sessions.Goals as goal

pub end-requires : goal.end-requires
end-requires c = (c.args.planned.now, aired_bytes c.args.planned.now c.args.events.now, c.in_ok-hearers.ensures, c.requires.few)

pub returns-clause-verdicts : goal.returns-clause-verdicts
returns-clause-verdicts c =
    let deck = c.args.planned.now in
    let H = c.args.events.now in
    c.in_ok-sessions.ensures.verdicts deck (aired_bytes deck H) c.in_ok-hearers.ensures ∙ ap verdict_lines (true_sessions_are deck H c.requires.can)

pub returns-clause-counts : goal.returns-clause-counts
returns-clause-counts c =
    let deck = c.args.planned.now in
    let H = c.args.events.now in
    c.in_ok-sessions.ensures.counts deck (aired_bytes deck H) c.in_ok-hearers.ensures ∙ ap counts_lines (true_sessions_are deck H c.requires.can)

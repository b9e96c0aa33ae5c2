use Rattle.std.proofs.Common.{◌∙◌, sym, subst}
use Rattle.air_model.specs.AiredLaws.{CanAir}
use Rattle.air_sender.proofs.TapeLemmas.{script_airs}
use Rattle.session_pins.proofs.SessionLemmas.{one_cycle_few, one_start, pair_history, pair_lines, pair_verdicts}
use Rattle.session_pins.proofs.script_pins.sessions_without_their_counts.Goals as goal

pub history_sessions-requires-clause-can : goal.history_sessions-requires-clause-can
history_sessions-requires-clause-can c =
    let deck = c.args.planned.now in
    let plan = c.shows_planned.ensures in
    subst (CanAir deck) (pair_history deck c.requires.deck ∙ sym c.requires.events) (script_airs deck plan.made plan.limits.script plan.short)

pub history_sessions-requires-clause-few : goal.history_sessions-requires-clause-few
history_sessions-requires-clause-few c = one_cycle_few c.args.planned.now c.args.events.now c.requires.deck c.requires.events

pub history_sessions-requires-clause-cycles : goal.history_sessions-requires-clause-cycles
history_sessions-requires-clause-cycles c = one_start c.args.events.now c.requires.events

pub returns-clause-verdicts : goal.returns-clause-verdicts
returns-clause-verdicts c = c.in_ok-sessions.ensures.verdicts ∙ pair_verdicts c.args.planned.now c.args.events.now c.requires.deck c.requires.events

pub returns-clause-lines : goal.returns-clause-lines
returns-clause-lines c = c.in_ok-sessions.ensures.counts ∙ pair_lines c.args.planned.now c.args.events.now c.requires.deck c.requires.events

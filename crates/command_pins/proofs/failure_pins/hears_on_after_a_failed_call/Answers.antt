use Rattle.command_pins.proofs.FailureLemmas.{had_left}
use Rattle.command_pins.proofs.failure_pins.hears_on_after_a_failed_call.Goals as goal

pub returns : goal.returns
returns g c = λ heard is.
    let E = g.E.Ear in
    had_left E.state c.args.planned.now.settings.hears _ c.args.ear.now c.ear_sessions.new.ear c.ear_sessions.result heard c.requires.waiting c.requires.faults c.ear_sessions.ensures.fault is (c.ear_sessions.ensures.first heard is)

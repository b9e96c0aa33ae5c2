use Rattle.thread_pins.proofs.CastLemmas.{had_sent}
use Rattle.thread_pins.proofs.run_pins.sends_on_after_a_failed_call.Goals as goal

pub returns : goal.returns
returns g c = λ sent is.
    had_sent g.M.Mast.state c.args.mast.now c.cast_run.new.mast c.requires.unsent c.requires.faults sent (c.cast_run.ensures.first sent is) c.args.planned.now c.cast_run.result c.cast_run.ensures.fault is

use Rattle.std.proofs.lemmas.Result.{IfOk-weaker}
use Rattle.thread_pins.proofs.MadeLemmas.{first_made, second_made}
use Rattle.thread_pins.proofs.run_pins.one_updater_done_for_all.Goals as goal

pub returns-clause-second : goal.returns-clause-second
returns-clause-second g c = IfOk-weaker c.run_threads.result _ _ (λ run is. second_made c.args.planned.now run.history c.requires is.whole) c.run_threads.ensures.run

pub returns-clause-first : goal.returns-clause-first
returns-clause-first g c = IfOk-weaker c.run_threads.result _ _ (λ run is. first_made c.args.planned.now run.history c.requires is.whole) c.run_threads.ensures.run

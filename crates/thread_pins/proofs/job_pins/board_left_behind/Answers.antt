use Rattle.deck_runs.proofs.CycleLemmas.{board_at}
use Rattle.thread_pins.proofs.job_pins.board_left_behind.Goals as goal

pub returns-clause-board : goal.returns-clause-board
returns-clause-board g c = board_at c.conductor_job.new.pass c.conductor_job.new.board c.conductor_job.ensures.board

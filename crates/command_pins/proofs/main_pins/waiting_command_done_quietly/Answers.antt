use Rattle.command_pins.proofs.WordLemmas.{words_or_none}
use Rattle.command_pins.proofs.main_pins.waiting_command_done_quietly.Goals as goal

pub returns : goal.returns
returns g c = words_or_none _ _ c.air_quiet.result (rw c.requires.words at c.air_quiet.ensures.answers)

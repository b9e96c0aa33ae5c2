use Rattle.std.proofs.Common.{refl}
use Rattle.command_pins.proofs.SplitLemmas.{line_told, not_done, slots_told}
use Rattle.command_pins.proofs.main_pins.own_slots_printed.Goals as goal

pub returns-clause-done : goal.returns-clause-done
returns-clause-done g c = λ e. not_done _ _ _ _ refl c.requires.spelled (rw c.requires.words at c.air_main.ensures.answers) e

pub returns-clause-slots : goal.returns-clause-slots
returns-clause-slots g c = λ slots e. slots_told _ _ _ _ slots refl c.requires.spelled (rw c.requires.words at c.air_main.ensures.answers) e

pub returns-clause-line : goal.returns-clause-line
returns-clause-line g c = λ slots e calm. line_told _ _ _ _ slots refl c.requires.spelled c.requires.printed c.requires.faults calm (rw c.requires.words at c.air_main.ensures.answers) e

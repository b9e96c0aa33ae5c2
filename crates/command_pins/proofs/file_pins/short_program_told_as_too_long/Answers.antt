use Rattle.command_pins.proofs.ProgramLemmas.{told_above}
use Rattle.command_pins.proofs.file_pins.short_program_told_as_too_long.Goals as goal

pub returns : goal.returns
returns c = λ slots e. told_above c.read_runnable_deck.result _ _ _ slots c.read_runnable_deck.ensures.refused e

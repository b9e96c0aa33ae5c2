use Rattle.command_pins.proofs.RowLemmas.{no_fault}
use Rattle.command_pins.proofs.file_pins.always_a_deck_fault.Goals as goal

pub returns : goal.returns
returns c = λ row kind e.
    no_fault c.read_deck_file.result _ _ _ c.requires.0 c.requires.1 row kind c.requires.2 c.requires.3
    (c.not_both_law.ensures c.requires.0 c.requires.1 row kind c.requires.3) c.read_deck_file.ensures.refused e

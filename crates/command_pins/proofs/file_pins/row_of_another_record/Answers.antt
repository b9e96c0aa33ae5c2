use Rattle.command_pins.proofs.RowLemmas.{first_row}
use Rattle.command_pins.proofs.file_pins.row_of_another_record.Goals as goal

pub returns : goal.returns
returns c = λ row kind e. first_row c.read_deck_file.result _ _ _ row kind c.requires c.read_deck_file.ensures.refused e

use Rattle.std.proofs.Common.{◌∙◌, arith}
use Rattle.command_pins.proofs.ProgramLemmas.{told_slots}
use Rattle.command_pins.proofs.file_pins.too_long_by_another_number.Goals as goal

pub returns : goal.returns
returns c = λ slots e. told_slots c.plan_deck.result c.args.deck slots c.plan_deck.ensures.refused e (omega (arith, c.requires)) ∙ c.requires

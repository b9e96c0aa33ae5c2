use Rattle.report_pins.specs.SmallDeck.{small_deck}
use Rattle.report_pins.proofs.laws.written_report_with_a_fault.Goals as goal

pub returns : goal.returns
returns c = λ report row kind wide right. c.read_back_law.ensures.faultless small_deck report wide right row kind

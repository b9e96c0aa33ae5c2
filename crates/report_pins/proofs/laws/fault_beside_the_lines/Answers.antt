use Rattle.report_pins.specs.SmallDeck.{small_deck, two_commits}
use Rattle.report_pins.proofs.laws.fault_beside_the_lines.Goals as goal

pub returns : goal.returns
returns c = λ lines row kind. c.not_both_reports_law.ensures small_deck two_commits lines row kind

use Rattle.report_pins.specs.SmallDeck.{small_deck, two_commits}
use Rattle.report_pins.proofs.laws.two_reports_of_a_text.Goals as goal

pub returns : goal.returns
returns c = λ a b. c.one_report_law.ensures small_deck two_commits a b

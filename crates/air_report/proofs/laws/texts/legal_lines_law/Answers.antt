use Rattle.air_report.proofs.SameHistories.{legal_next, legal_same, same_legal}
use Rattle.air_report.proofs.laws.texts.legal_lines_law.Goals as goal

pub returns : goal.returns
returns c = λ deck H. ((λ legal. (legal_next deck H legal, legal_same deck H legal)), λ lines. same_legal deck H lines.0 lines.1)

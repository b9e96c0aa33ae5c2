use Rattle.air_history.proofs.MarkLemmas.{Marking}
use Rattle.air_history.proofs.scans.descends.Given as goal

abbrev pub invariant-loop-at : goal.invariant-loop-at
invariant-loop-at l = Marking l.events l.place l.at l.marks.items l.sought.items

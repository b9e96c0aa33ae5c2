use Rattle.std.proofs.Common.{◌≡◌, ◌++◌, take}
use Rattle.live_replay.specs.Audits.{found_in}
use Rattle.live_replay.specs.Findings.{verdict_cause}
use Rattle.live_replay.proofs.audits.add_verdicts.Given as goal

abbrev pub invariant-loop-place : goal.invariant-loop-place
invariant-loop-place l = l.found.items ≡ l.initial.found.items ++ found_in (verdict_cause l.replay.deck l.replay.history) l.rows (take l.place l.lines)

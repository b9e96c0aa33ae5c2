use Rattle.std.proofs.Common.{◌≡◌, ◌≤◌, count_by, take}
use Rattle.live_replay.specs.FindingTexts.{differs}
use Rattle.live_replay.proofs.audits.texts.differing_count.Given as goal

abbrev pub invariant-loop-finding : goal.invariant-loop-finding
invariant-loop-finding l = (l.count ≡ count_by differs (take l.finding-index l.found)) × (l.count ≤ l.finding-index)

use Rattle.std.proofs.Common.{sym}
use Rattle.live_replay.specs.Findings.{places_read}
use Rattle.live_replay.proofs.AloneLemmas.{consistent_between}
use Rattle.live_replay.proofs.alone.is_consistent.Goals as goal

pub returns-then-end-first : goal.returns-then-end-first
returns-then-end-first c =
    let range = c.range_of_all-range in
    sym (consistent_between c.args.replay.now.history (places_read c.args.reads.now) range.result.first range.result.end c.if-end-first.true range.ensures.late range.ensures.before)

use Rattle.std.proofs.Common.{◌<◌, [], IfSome, length, sym, ap, subst, ◌∙◌}
use Rattle.std.proofs.lemmas.Bool.{and_parts}
use Rattle.live_replay.specs.Findings.{place_of_line}
use Rattle.live_replay.proofs.AloneLemmas.{origin_within}
use Rattle.live_replay.proofs.NextLemmas.{late_from}
use Rattle.live_replay.proofs.alone.range_of.Goals as goal

pub after_origin-requires : goal.after_origin-requires
after_origin-requires c =
    let H = c.args.replay.now.history in
    subst (λ G. IfSome c.around-near.result.origin (λ w. w < length G)) (sym c.events.ensures.listed)
    (subst (λ o. IfSome o (λ w. w < length H)) (sym c.around-near.ensures.origin) (origin_within H [] (place_of_line c.args.read.now)))

pub returns-clause-late : goal.returns-clause-late
returns-clause-late c = λ q late. c.around-near.ensures.next q (and_parts _ _ late).0 (late_from c.args.replay.now.history (place_of_line c.args.read.now) q late)

pub returns-clause-before : goal.returns-clause-before
returns-clause-before c = subst (λ o. IfSome o (λ w. w < c.after_origin.result)) c.around-near.ensures.origin c.after_origin.ensures.after

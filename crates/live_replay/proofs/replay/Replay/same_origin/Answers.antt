use Rattle.std.proofs.Common.{ap, ◌∙◌}
use Rattle.air_history.specs.Histories.{front, writer}
use Rattle.air_history.specs.Places.{same_place}
use Rattle.air_history.specs.Reads.{origin}
use Rattle.live_replay.proofs.replay.Replay.same_origin.Goals as goal

pub returns : goal.returns
unfolding origin
returns c =
    let H = c.args.self.now.history in
    c.same_place.ensures ∙ ap (λ o. same_place o c.origin-2.result) c.origin.ensures
    ∙ ap (same_place (writer (front H c.args.c) c.args.item)) c.origin-2.ensures

use Rattle.std.proofs.Common.{All, length, sym, ap, subst, ◌∙◌}
use Rattle.air_history.specs.Histories.{ItemsFit}
use Rattle.live_replay.specs.Private.Replays.{DeckAndHistory}
use Rattle.live_replay.proofs.ReplayLemmas.{kept_fits}
use Rattle.live_replay.proofs.replay.Replay.events.Goals as goal

pub returns-clause-fits : goal.returns-clause-fits
returns-clause-fits c =
    let Fits : DeckAndHistory → Type 0 = λ t. All (ItemsFit (length t.deck.items)) t.history in
    subst (All (ItemsFit (length c.args.self.now.deck.items))) (sym (c.events.ensures.listed ∙ ap (λ (t : DeckAndHistory). t.history) c.self.view_is))
    (subst Fits c.self.view_is (kept_fits c.self.inside c.self.invariant))

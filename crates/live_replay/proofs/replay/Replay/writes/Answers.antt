use Rattle.std.proofs.Common.{◌<◌, List, length, sym, ap, subst, ◌∙◌}
use Rattle.air_model.specs.Decks.{values_in}
use Rattle.live_replay.specs.declared.writes.ItemWrite.{ItemWrite}
use Rattle.live_replay.specs.Private.Replays.{DeckAndHistory}
use Rattle.live_replay.specs.Private.Writes.{writes_from}
use Rattle.live_replay.proofs.ReplayLemmas.{kept_writes}
use Rattle.live_replay.proofs.replay.Replay.writes.Goals as goal

pub returns : goal.returns
returns c =
    let Kept : DeckAndHistory → List ItemWrite = λ t. writes_from (values_in t.deck) t.history c.args.item 0 (length t.history) in
    let within : c.args.item < length c.self.inside.deck.now.items = subst (λ (t : DeckAndHistory). c.args.item < length t.deck.items) (sym c.self.view_is) c.requires in
    c.index.ensures ∙ kept_writes c.self.inside c.self.invariant c.args.item c.index.result.now within ∙ ap Kept c.self.view_is

use Rattle.std.proofs.Common.{◌≡◌, ◌<◌, ◌≤◌, length, ap, arith}
use Rattle.air_model.specs.Decks.{values_in}
use Rattle.live_replay.specs.Private.Replays.{DeckAndHistory}
use Rattle.live_replay.proofs.ReplayLemmas.{total_next, total_whole, values_length}
use Rattle.live_replay.proofs.replay.Replay.total.Goals as goal

pub loop-item-preserved : goal.loop-item-preserved
loop-item-preserved c =
    let same : length c.self.inside.deck.now.items ≡ length c.args.self.now.deck.items = ap (λ (t : DeckAndHistory). length t.deck.items) c.self.view_is in
    let below : c.loop-item.item < length (values_in c.args.self.now.deck) = omega (arith, c.loop-item-test.true, c.items-item-end.ensures.told, values_length c.args.self.now.deck) in
    total_next (values_in c.args.self.now.deck) c.args.self.now.history c.args.cycle c.loop-item.item c.loop-item.total c.value-total.result below c.loop-item.invariant c.value-total.ensures

pub returns : goal.returns
returns c =
    let same : length c.self.inside.deck.now.items ≡ length c.args.self.now.deck.items = ap (λ (t : DeckAndHistory). length t.deck.items) c.self.view_is in
    let all : length (values_in c.args.self.now.deck) ≤ c.loop-item.item = omega (arith, c.loop-item-test.false, c.items-item-end.ensures.told, values_length c.args.self.now.deck) in
    total_whole (values_in c.args.self.now.deck) c.args.self.now.history c.args.cycle c.loop-item.item c.loop-item.total all c.loop-item.invariant

use Rattle.std.proofs.Common.{◌∙◌, ap, length, sym}
use Rattle.receiver_core.proofs.receivers.Receiver.come_to.Goals as goal

pub reorder-requires-clause-numbers : goal.reorder-requires-clause-numbers
reorder-requires-clause-numbers c =
    let k = c.self.invariant in
    k.deck.numbers c.max-now.result ∙ sym (ap length k.cache.pix ∙ k.deck.numbers c.self.inside.latest)

use Rattle.std.proofs.Common.{◌≤◌, arith, ap, length}
use Rattle.std.proofs.lemmas.List.{length-map}
use Rattle.air_base.specs.declared.limits.TheConstants.{MOST_RATE}
use Rattle.air_model.specs.Decks.{Deck, Item}
use Rattle.item_catalog.specs.Decks.{plain_item}
use Rattle.item_catalog.proofs.DiskLemmas.{all_at}
use Rattle.item_catalog.proofs.deck.Deck.rate.Goals as goal

pub returns-clause-most : goal.returns-clause-most
returns-clause-most c =
    all_at plain_item (λ (i : Item). i.rate ≤ MOST_RATE) c.self.inside.items.items c.args.i c.index.result.now
    (omega (arith, ap (λ (d : Deck). length d.items) c.self.view_is, length-map c.self.inside.items.items plain_item)) c.index.ensures c.self.invariant.limits.rates

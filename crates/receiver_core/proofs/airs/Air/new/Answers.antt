use Rattle.std.proofs.Common.{length, ◌∙◌, ap}
use Rattle.air_model.specs.Decks.{Deck}
use Rattle.air_model.specs.declared.deck.Settings.{Settings}
use Rattle.receiver_core.proofs.AirLemmas.{air_is, pix_counted}
use Rattle.receiver_core.proofs.airs.Air.new.Goals as goal

pub returns-clause-told : goal.returns-clause-told
returns-clause-told c =
    let told = c.deck-deck.ensures.told in
    let settings = c.settings-settings.ensures ∙ ap (λ (deck : Deck). deck.settings) told in
    air_is c.args.planned.now _ _ _ _ _ (ap (λ (s : Settings). s.policy) settings) (ap (λ (s : Settings). s.group) settings) (ap (λ (s : Settings). s.version) settings)
    (c.items.ensures.told ∙ ap (λ (deck : Deck). length deck.items) told) (c.in_ok-share.ensures ∙ c.plans.ensures.told)

pub returns-clause-numbers : goal.returns-clause-numbers
returns-clause-numbers c = λ k. pix_counted c.args.planned.now _ k (returns-clause-told c)

use Rattle.std.proofs.Common.{◌≡◌, ◌∙◌, length, ap, sym, subst, arith}
use Rattle.air_ether.specs.HeardPlaces.{IsPlacesAfter}
use Rattle.air_model.specs.declared.deck.Settings.{Settings}
use Rattle.air_model.specs.Decks.{Deck}
use Rattle.air_model.specs.Ethers.{Odds}
use Rattle.receiver_core.specs.Receivers.{heard_count}
use Rattle.listeners.specs.Listeners.{Listener}
use Rattle.listeners.proofs.PlaceReaderLemmas.{none_given, none_heard}
use Rattle.listeners.proofs.place_listeners.PlaceListener.new.Goals as goal

pub returns : goal.returns
returns c =
    let deck = c.args.planned.now in
    let ether = c.in_ok-new.field-0 in
    let made = c.in_ok-new.ensures in
    let none : heard_count c.in_ok-new-2.field-0.state.counts ≡ 0 = ap (λ (l : Listener). heard_count l.state.counts) c.in_ok-new-2.ensures in
    let settings = c.settings-set.ensures ∙ ap (λ (d : Deck). d.settings) c.deck-deck.ensures.told in
    record {
      opened = made.open.0;
      quiet = made.open.2;
      pushes = made.open.1;
      odds = made.odds ∙ ap (λ (s : Settings). let o : Odds = record { loss = s.loss; again = s.again; late = s.late } in o) settings;
      counts = omega (arith, none, made.few, made.open.1);
      follows = subst (λ n. IsPlacesAfter deck.settings.seed c.args.number n ether) (sym (ap length (none_given deck c.args.number)))
          (subst (λ (s : Settings). IsPlacesAfter s.seed c.args.number 0 ether) settings made.follows);
      heard = none_heard deck c.args.number c.in_ok-new-2.field-0 c.in_ok-new-2.ensures;
    }

-- The commits of a run of two updaters, of which the second has two updates.
use Rattle.std.proofs.Common.{◌≡◌, ◌∙◌, List, [], ◌∷◌, get_or, ap}
use Rattle.air_history.specs.declared.histories.Event.{Event}
use Rattle.air_history.specs.declared.histories.Event.TheVariants.{Commit}
use Rattle.air_history.specs.UpdateLists.{UpdateLists}
use Rattle.air_model.specs.Decks.{Deck, IsWhole}
use Rattle.air_model.specs.DeckLaws.{commits_from, made_by}
use Rattle.air_model.proofs.LegalLemmas.{whole}
use Rattle.thread_pins.specs.SmallBatches.{adds_to}

pub second_made : (deck : Deck) (H : List Event) → deck.updates ≡ [] ∷ (adds_to 1 0 3 ∷ adds_to 0 1 1 ∷ []) ∷ [] → IsWhole deck H
    → made_by 1 H ≡ Commit 1 0 (adds_to 1 0 3) ∷ Commit 1 1 (adds_to 0 1 1) ∷ []
unfolding commits_from
second_made deck H given is = ((whole deck H).0 is).0 1 ∙ ap (λ (us : List (List UpdateLists)). commits_from 1 0 (get_or us 1 [])) given

pub first_made : (deck : Deck) (H : List Event) → deck.updates ≡ [] ∷ (adds_to 1 0 3 ∷ adds_to 0 1 1 ∷ []) ∷ [] → IsWhole deck H → made_by 0 H ≡ []
unfolding commits_from
first_made deck H given is = ((whole deck H).0 is).0 0 ∙ ap (λ (us : List (List UpdateLists)). commits_from 0 0 (get_or us 0 [])) given

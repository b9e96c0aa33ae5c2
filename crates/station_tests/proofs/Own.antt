-- The passes of a new station are its own, and have the deck's items.
use Rattle.std.proofs.Common.{◌≡◌, ℕ, List, length, All, refl, sym, subst, get_or}
use Rattle.std.specs.Prelude.{Some}
use Rattle.std.specs.List.{slice_get}
use Rattle.std.proofs.lemmas.List.{length-map}
use Rattle.std.proofs.lemmas.Option.{slice_get-get_or}
use Rattle.turnstile.specs.Passes.{TurnstileId}
use Rattle.air_model.specs.Decks.{Deck}
use Rattle.station.specs.PassStates.{PassState, new_pass}

pub own_all : (station : TurnstileId) (deck : Deck) (ps : List PassState)
    → ((by : ℕ) (p : PassState) → slice_get ps by ≡ Some p → p ≡ new_pass station deck by)
    → All (λ (p : PassState). (p.station ≡ station) × (length p.values ≡ length deck.items)) ps
own_all station deck ps each = λ k d less.
    let own = λ (p : PassState). (p.station ≡ station) × (length p.values ≡ length deck.items) in
    subst own (sym (each k (get_or ps k d) (slice_get-get_or ps k d less))) (refl, length-map deck.items (λ i. i.value))

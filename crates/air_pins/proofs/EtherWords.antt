-- What the next bucket or place of a small ether is, once what is due is computed.
use Rattle.std.proofs.Common.{◌≡◌, ℕ, Bool, List, Option, Some, None, MatchOption, Bor, length, ap, ◌∙◌, sym}
use Rattle.std.specs.Prelude.{slice_get}
use Rattle.air_model.specs.Ethers.{Odds}
use Rattle.air_ether.specs.HeardPlaces.{places_of}
use Rattle.air_ether.specs.HeardSoFar.{Ether, due_of}
use Rattle.air_pins.specs.SmallEthers.{HasGivenBytes, HasGivenPlaces}

-- What is due of the ether is what is due for the odds that it has.
due_is : (seed : ℕ) (odds : Odds) (pushed : List (List ℕ)) (given : ℕ) (ended : Bool) (e : Ether) → HasGivenBytes seed odds pushed given ended e →
    due_of seed 0 e.odds pushed e.ended ≡ due_of seed 0 odds pushed ended
due_is seed odds pushed given ended e g = ap (λ o. due_of seed 0 o pushed e.ended) g.odds_are ∙ ap (λ t. due_of seed 0 odds pushed t) g.told

-- If one more bucket is due, it is given.
pub next_gives : (seed : ℕ) (odds : Odds) (pushed : List (List ℕ)) (given : ℕ) (ended : Bool) (e : Ether) (r : Option (Bor (List ℕ))) (due : List (List ℕ)) (b : List ℕ) →
    HasGivenBytes seed odds pushed given ended e → due_of seed 0 odds pushed ended ≡ due → slice_get due given ≡ Some b → (given ≡ length due → ⊥) →
    MatchOption r (given ≡ length (due_of seed 0 e.odds pushed e.ended)) (λ x. slice_get (due_of seed 0 e.odds pushed e.ended) given ≡ Some x.now) →
    MatchOption r ⊥ (λ x. x.now ≡ b)
next_gives seed odds pushed given ended e None due b g is at more h = more (h ∙ ap length (due_is seed odds pushed given ended e g ∙ is))
next_gives seed odds pushed given ended e (Some x) due b g is at more h =
    let here = sym h ∙ ap (λ d. slice_get d given) (due_is seed odds pushed given ended e g ∙ is) ∙ at in cc

-- If no further bucket is due, None is given.
pub next_gives_none : (seed : ℕ) (odds : Odds) (pushed : List (List ℕ)) (given : ℕ) (ended : Bool) (e : Ether) (r : Option (Bor (List ℕ))) →
    HasGivenBytes seed odds pushed given ended e → slice_get (due_of seed 0 odds pushed ended) given ≡ None →
    MatchOption r (given ≡ length (due_of seed 0 e.odds pushed e.ended)) (λ x. slice_get (due_of seed 0 e.odds pushed e.ended) given ≡ Some x.now) →
    MatchOption r (Unit {0}) (λ _. ⊥)
next_gives_none seed odds pushed given ended e None g none h = tt
next_gives_none seed odds pushed given ended e (Some x) g none h =
    let here = sym h ∙ ap (λ d. slice_get d given) (due_is seed odds pushed given ended e g) ∙ none in cc

-- The places that are due of the ether are those of its pushes, for the odds that it has.
places_are : (seed : ℕ) (odds : Odds) (pushes given : ℕ) (ended : Bool) (e : Ether) → HasGivenPlaces seed odds pushes given ended e →
    places_of seed 0 e.odds e.pushes e.ended ≡ places_of seed 0 odds pushes ended
places_are seed odds pushes given ended e g =
    ap (λ o. places_of seed 0 o e.pushes e.ended) g.odds_are ∙ ap (λ n. places_of seed 0 odds n e.ended) g.pushed ∙ ap (places_of seed 0 odds pushes) g.told

-- If one more place is due of these, it is given.
pub place_given : (due found : List ℕ) (given place : ℕ) (r : Option ℕ) → found ≡ due → slice_get due given ≡ Some place → (given ≡ length due → ⊥) →
    MatchOption r (given ≡ length found) (λ p. slice_get found given ≡ Some p) → r ≡ Some place
place_given due found given place None is at more h = absurd (more (h ∙ ap length is))
place_given due found given place (Some p) is at more h = sym h ∙ ap (λ d. slice_get d given) is ∙ at

-- The same of an ether without bytes.
pub next_place_gives : (seed : ℕ) (odds : Odds) (pushes given : ℕ) (ended : Bool) (e : Ether) (r : Option ℕ) (due : List ℕ) (place : ℕ) →
    HasGivenPlaces seed odds pushes given ended e → places_of seed 0 odds pushes ended ≡ due → slice_get due given ≡ Some place → (given ≡ length due → ⊥) →
    MatchOption r (given ≡ length (places_of seed 0 e.odds e.pushes e.ended)) (λ p. slice_get (places_of seed 0 e.odds e.pushes e.ended) given ≡ Some p) → r ≡ Some place
next_place_gives seed odds pushes given ended e r due place g is at more h =
    place_given due (places_of seed 0 e.odds e.pushes e.ended) given place r (places_are seed odds pushes given ended e g ∙ is) at more h

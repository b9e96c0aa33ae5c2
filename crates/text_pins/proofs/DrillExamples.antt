-- The drill of seed 2 and size 1: its number of items, its seed, and the generator of its items; and the disks of 26 items.
use Rattle.std.specs.Prelude.{◌≡◌, [], ◌∷◌, length, refl}
use Rattle.air_model.specs.Draws.{draw, draw_each, generator}
use Rattle.air_model.specs.Drills.{draw_item, draw_query, draw_update, drill_deck, drill_disks}

eighteen_items : length (drill_deck 2 1).items ≡ 18
unfolding draw draw_each draw_update draw_query drill_deck
eighteen_items = refl

own_seed : (drill_deck 2 1).settings.seed ≡ 2
unfolding draw draw_each draw_update draw_query drill_deck
own_seed = refl

own_generator : (drill_deck 2 1).items ≡ (draw_each 18 (λ i. draw_item) (generator 2 1)).0
unfolding draw draw_each draw_update draw_query drill_deck
own_generator = refl

disks_of_26 : drill_disks 26 ≡ record { size = 3; freq = 4 } ∷ record { size = 6; freq = 2 } ∷ record { size = 17; freq = 1 } ∷ []
disks_of_26 = refl

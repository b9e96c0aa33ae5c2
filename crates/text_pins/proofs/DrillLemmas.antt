-- The first update of seed 3, drawn among five items.
use Rattle.std.proofs.Common.{◌≡◌, ◌∷◌, ◌∙◌, [], Err, IfOk, Ok, Result, ap, get_or, refl, sym}
use Rattle.rand_pcg.specs.Lcg.{Lcg}
use Rattle.air_base.specs.declared.memory.NoMemory.{NoMemory}
use Rattle.air_history.specs.UpdateLists.{UpdateLists}
use Rattle.air_model.specs.Draws.{draw, draw_each, generator}
use Rattle.air_model.specs.Drills.{draw_query, draw_update, drill_deck}
use Rattle.text_pins.specs.SmallWrites.{write_from_base}

pub update_drawn : (result : Result (UpdateLists × Lcg) NoMemory) (words : Lcg) → words ≡ generator 3 1
    → IfOk result (λ drawn. draw_update 5 words ≡ drawn)
    → IfOk result (λ drawn. drawn.0 ≡ record { reads = 4 ∷ 0 ∷ []; writes = write_from_base 0 4 97 ∷ write_from_base 1 0 49 ∷ [] })
unfolding draw draw_each draw_update
update_drawn (Ok drawn) words seeded told = sym (ap (λ p. p.0) told) ∙ rw seeded refl
update_drawn (Err error) words seeded told = told

-- The first query of the drill of seed 1 and size 1.
pub query_of_drill : get_or (drill_deck 1 1).queries 0 [] ≡ (13 ∷ 2 ∷ 9 ∷ 16 ∷ []) ∷ []
unfolding draw draw_each draw_update draw_query drill_deck
query_of_drill = refl

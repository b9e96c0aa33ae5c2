-- The first draws of the drill of seed 1 and size 1, by an independent program, and the parts of it that aren't drawn.
use Rattle.std.specs.Prelude.{◌≡◌, ℕ, [], ◌∷◌, false, Some, None, map, get_or, length, refl}
use Rattle.air_history.specs.declared.updates.Write.{Write}
use Rattle.air_model.specs.Decks.{rates_in, values_in}
use Rattle.air_model.specs.Draws.{draw, draw_each, generator}
use Rattle.air_model.specs.Drills.{dealt_to, draw_item, draw_query, draw_update, drill_deck, drill_disks, drill_script}

-- The first three items.
first_items : (draw_each 3 (λ i. draw_item) (generator 1 1)).0
    ≡ record { value = 849; rate = 65 } ∷ record { value = 655; rate = 28 } ∷ record { value = 638; rate = 98 } ∷ []
unfolding draw draw_each
first_items = refl

-- The values and the rates of all.
all_values : values_in (drill_deck 1 1) ≡ 849 ∷ 655 ∷ 638 ∷ 406 ∷ 874 ∷ 249 ∷ 549 ∷ 996 ∷ 52 ∷ 398 ∷ 735 ∷ 965 ∷ 93 ∷ 699 ∷ 841 ∷ 982 ∷ 931 ∷ 422 ∷ []
unfolding draw draw_each draw_update draw_query drill_deck
all_values = refl

all_rates : rates_in (drill_deck 1 1) ≡ 65 ∷ 28 ∷ 98 ∷ 100 ∷ 44 ∷ 48 ∷ 66 ∷ 21 ∷ 90 ∷ 65 ∷ 15 ∷ 41 ∷ 19 ∷ 14 ∷ 35 ∷ 78 ∷ 14 ∷ 28 ∷ []
unfolding draw draw_each draw_update draw_query drill_deck
all_rates = refl

-- A write of a constant, and of a constant added to a base.
abbrev set_to : ℕ → ℕ → Write
set_to item amount = record { item = item; base = None; minus = false; amount = amount }

abbrev add_to : ℕ → ℕ → ℕ → Write
add_to item base amount = record { item = item; base = Some base; minus = false; amount = amount }

-- The updates of updaters 0 and 2: of all updates these are the first, the third, the fifth, the seventh and the ninth.
first_updates : get_or (drill_deck 1 1).updates 0 []
    ≡ record { reads = []; writes = set_to 6 20 ∷ set_to 7 22 ∷ [] } ∷ record { reads = []; writes = set_to 0 12 ∷ set_to 1 29 ∷ [] }
    ∷ record { reads = 9 ∷ []; writes = add_to 13 9 81 ∷ [] } ∷ []
unfolding draw draw_each draw_update draw_query drill_deck
first_updates = refl

third_updates : get_or (drill_deck 1 1).updates 2 []
    ≡ record { reads = 5 ∷ []; writes = add_to 9 5 16 ∷ [] } ∷ record { reads = 8 ∷ 9 ∷ []; writes = add_to 0 8 24 ∷ add_to 1 9 19 ∷ [] } ∷ []
unfolding draw draw_each draw_update draw_query drill_deck
third_updates = refl

-- The queries, one for each reader.
all_queries : (drill_deck 1 1).queries ≡ ((13 ∷ 2 ∷ 9 ∷ 16 ∷ []) ∷ []) ∷ ((17 ∷ 6 ∷ []) ∷ []) ∷ ((11 ∷ 0 ∷ 7 ∷ 14 ∷ []) ∷ []) ∷ ((4 ∷ 11 ∷ 0 ∷ []) ∷ [])
    ∷ ((12 ∷ []) ∷ []) ∷ ((10 ∷ 17 ∷ 6 ∷ 13 ∷ []) ∷ []) ∷ ((6 ∷ 13 ∷ 2 ∷ 9 ∷ []) ∷ []) ∷ ((1 ∷ []) ∷ []) ∷ []
unfolding draw draw_each draw_update draw_query drill_deck
all_queries = refl

-- The script of ten updates.
script_of_ten : drill_script 10 ≡ None ∷ Some 0 ∷ Some 1 ∷ Some 2 ∷ Some 3 ∷ Some 0 ∷ None ∷ Some 1 ∷ Some 2 ∷ Some 3 ∷ Some 0 ∷ Some 1 ∷ None ∷ None ∷ []
script_of_ten = refl

-- Six updates go to four updaters in turn.
dealt : map (dealt_to {A = ℕ} (10 ∷ 11 ∷ 12 ∷ 13 ∷ 14 ∷ 15 ∷ [])) (0 ∷ 1 ∷ 2 ∷ 3 ∷ []) ≡ (10 ∷ 14 ∷ []) ∷ (11 ∷ 15 ∷ []) ∷ (12 ∷ []) ∷ (13 ∷ []) ∷ []
dealt = refl

-- ---- another seed and another size, of which the seed is the greater

other_values : values_in (drill_deck 3 2) ≡ 417 ∷ 231 ∷ 297 ∷ 338 ∷ 720 ∷ 300 ∷ 872 ∷ 547 ∷ 991 ∷ 4 ∷ 452 ∷ 111 ∷ 906 ∷ 476 ∷ 885 ∷ 706 ∷ 21 ∷ 487 ∷ 517 ∷ 342 ∷ []
unfolding draw draw_each draw_update draw_query drill_deck
other_values = refl

other_queries : get_or (drill_deck 3 2).queries 6 [] ≡ (8 ∷ 15 ∷ 2 ∷ []) ∷ (15 ∷ 2 ∷ 9 ∷ 16 ∷ []) ∷ []
unfolding draw draw_each draw_update draw_query drill_deck
other_queries = refl

-- The ethers have the drill's seed, and the script commits twenty updates and starts six cycles.
own_seed : ((drill_deck 3 2).settings.seed ≡ 3) × (length (drill_deck 3 2).script ≡ 26)
unfolding drill_deck
own_seed = (refl, refl)

-- Forty items: five are aired four times a cycle, ten twice, and 25 once.
disks_of_forty : drill_disks 40 ≡ record { size = 5; freq = 4 } ∷ record { size = 10; freq = 2 } ∷ record { size = 25; freq = 1 } ∷ []
disks_of_forty = refl

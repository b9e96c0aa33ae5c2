-- How many slots the program of a drill's deck has: four minor cycles, in each of which a disk has a chunk of its items.
use Rattle.std.proofs.Common.{◌≡◌, ℕ, ◌+◌, ◌-◌, ◌*◌, ◌/◌, ◌≤◌, List, [], ◌∷◌, length, take, drop, refl, ap, ◌∙◌, arith}
use Rattle.std.proofs.lemmas.List.{length-take}
use Rattle.air_model.specs.Disks.{Disk, cut, order}
use Rattle.air_model.specs.Decks.{disks_in, rates_in}
use Rattle.air_model.specs.Drills.{drill_deck, drill_disks, drill_items}
use Rattle.air_model.specs.Programs.{chunk_len, least_common_multiple, minor_len, num_chunks, num_minors, program}
use Rattle.air_model.proofs.ProgramLemmas.{length_program}

-- Three disks, aired four times a cycle, twice and once.
abbrev three_disks : List ℕ → List ℕ → List ℕ → List Disk
three_disks hot warm cold = record { items = hot; freq = 4 } ∷ record { items = warm; freq = 2 } ∷ record { items = cold; freq = 1 } ∷ []

four_minors : (hot warm cold : List ℕ) → num_minors (three_disks hot warm cold) ≡ 4
unfolding num_minors least_common_multiple
four_minors hot warm cold = refl

minor_long : (hot warm cold : List ℕ) → minor_len 4 (three_disks hot warm cold) ≡ length hot + (length warm + 1) / 2 + (length cold + 3) / 4
unfolding minor_len chunk_len num_chunks
minor_long hot warm cold = omega arith

slots_long : (hot warm cold : List ℕ) → length (program (three_disks hot warm cold)) ≡ 4 * (length hot + (length warm + 1) / 2 + (length cold + 3) / 4)
slots_long hot warm cold =
    length_program (three_disks hot warm cold)
    ∙ ap (λ m. m * minor_len m (three_disks hot warm cold)) (four_minors hot warm cold)
    ∙ ap (λ n. 4 * n) (minor_long hot warm cold)

slots_few : (items : List ℕ) (n : ℕ) → 18 ≤ n → length (program (cut items (drill_disks n))) ≤ 2 * n
unfolding cut
slots_few items n some =
    let hot = take (n / 8) items in
    let behind = drop (n / 8) items in
    let warm = take (n / 4) behind in
    let cold = take (n - n / 8 - n / 4) (drop (n / 4) behind) in
    omega (arith, slots_long hot warm cold, length-take (n / 8) items, length-take (n / 4) behind, length-take (n - n / 8 - n / 4) (drop (n / 4) behind))

pub drill_slots : (seed size : ℕ) → 1 ≤ size → length (program (disks_in (drill_deck seed size) 0)) ≤ 2 * drill_items size
unfolding drill_deck
drill_slots seed size some = slots_few (order (rates_in (drill_deck seed size))) (drill_items size) (omega arith)

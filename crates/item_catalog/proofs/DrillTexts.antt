-- The last updater of a drill has an update: the fourth commits one.
use Rattle.std.proofs.Common.{◌≡◌, ◌<◌, ◌≤◌, ◌*◌, ◌^◌, ℕ, zero, suc, None, cond, sym, subst, length, arith}
use Rattle.std.specs.Prelude.{◌==◌, false}
use Rattle.std.specs.Option.{option_map_or}
use Rattle.std.proofs.lemmas.List.FromFn.{length-map-range_with_len}
use Rattle.std.proofs.lemmas.List.Sums.{get_or-le-sum_by}
use Rattle.air_model.specs.Decks.{scripted_commits, updates_by}
use Rattle.air_model.specs.Draws.{draw_each, generator}
use Rattle.air_model.specs.Drills.{dealt_to, draw_item, draw_update, drill_deck, drill_items, drill_script}
use Rattle.item_catalog.specs.Grammar.{Spells}
use Rattle.item_catalog.proofs.DrillLemmas.{drill_made}
use Rattle.item_catalog.specs.DeckTexts.{LastUpdates, deck_text}
use Rattle.item_catalog.proofs.SpelledDecks.{deck_spelled}

-- The script's fifth part is the fourth updater's, if there are at least four updates.
fourth_commits : (n : ℕ) → 4 ≤ n → 1 ≤ scripted_commits 3 (drill_script n)
fourth_commits zero more = absurd (omega arith)
fourth_commits (suc zero) more = absurd (omega arith)
fourth_commits (suc (suc zero)) more = absurd (omega arith)
fourth_commits (suc (suc (suc zero))) more = absurd (omega arith)
fourth_commits (suc (suc (suc (suc n)))) more =
    let script = drill_script (suc (suc (suc (suc n)))) in
    let long : 4 < length script = omega arith in
    get_or-le-sum_by (λ part. cond (option_map_or (λ who. who == 3) part false) 1 0) script 4 None long

drill_last : (seed size : ℕ) → seed < 2 ^ 64 → 1 ≤ size → size ≤ 100 → LastUpdates (drill_deck seed size)
unfolding drill_deck
drill_last seed size seeded some few last same =
    let deck = drill_deck seed size in
    let updates = (draw_each (10 * size) (λ (u : ℕ). draw_update (drill_items size)) (draw_each (drill_items size) (λ (i : ℕ). draw_item) (generator seed 1)).1).0 in
    let long : length deck.updates ≡ 4 = length-map-range_with_len (dealt_to updates) 0 4 in
    let third : last ≡ 3 = omega arith in
    let fits : scripted_commits 3 (drill_script (10 * size)) ≤ length (updates_by deck 3) = (drill_made seed size seeded some few).0.script 3 in
    subst (λ k. 0 < length (updates_by deck k)) (sym third) (omega (arith, fits, fourth_commits (10 * size) (omega arith)))

pub drill_spelled : (seed size : ℕ) → seed < 2 ^ 64 → 1 ≤ size → size ≤ 100 → Spells (deck_text (drill_deck seed size)) (drill_deck seed size)
drill_spelled seed size seeded some few =
    let law = drill_made seed size seeded some few in deck_spelled (drill_deck seed size) law.0 law.1 (drill_last seed size seeded some few)

-- A deck is spelled by its text; a deck that some text spells has a last updater with an update.
use Rattle.std.proofs.Common.{◌≡◌, ◌<◌, ◌+◌, ◌∷◌, [], ℕ, List, Bool, true, false, refl, sym, ap, ◌∙◌, subst, length, map, get_or, arith}
use Rattle.std.specs.Prelude.{◌==◌}
use Rattle.std.specs.List.{filter_map}
use Rattle.std.proofs.lemmas.Bool.Decides.{nat_tests}
use Rattle.std.proofs.lemmas.List.FromFn.{get_or-map-range_with_len, length-map-range_with_len}
use Rattle.air_history.specs.UpdateLists.{UpdateLists}
use Rattle.air_model.specs.Decks.{Deck, IsDeck}
use Rattle.air_model.specs.Rows.{rows_text}
use Rattle.item_catalog.specs.Declarations.{Declaration}
use Rattle.item_catalog.specs.Declarations as e
use Rattle.item_catalog.specs.DeckLimits.{WithinLimits}
use Rattle.item_catalog.specs.Decks.{deck_of}
use Rattle.item_catalog.specs.Faults.{declarations_in}
use Rattle.item_catalog.specs.Grammar.{RecordsSpell, Spells}
use Rattle.item_catalog.specs.Parts.{greatest_number, its_update, its_updaters, updaters_in, updates_in}
use Rattle.item_catalog.specs.DeckTexts.{LastUpdates, deck_declarations, deck_text, declaration_row}
use Rattle.item_catalog.proofs.DraftSections.{all_named, last_named}
use Rattle.item_catalog.proofs.DraftSteps.{declarations_spell}
use Rattle.item_catalog.proofs.DeckDrafts.{deck_back, deck_drafted, whole_draft}
use Rattle.item_catalog.proofs.DeckTests.{deck_passes, end_none, few_queries}

-- ---- a deck has a text

every_named : (updates : List (List UpdateLists)) → ((last : ℕ) → length updates ≡ last + 1 → 0 < length (get_or updates last [])) → all_named 0 updates ≡ length updates
every_named [] some = refl
every_named (own ∷ others) some =
    let long : length (own ∷ others) ≡ length others + 1 = omega arith in
    last_named 0 (own ∷ others) (length others) long (some (length others) long) ∙ omega arith

pub deck_spelled : (deck : Deck) → IsDeck deck → WithinLimits deck → LastUpdates deck → Spells (deck_text deck) deck
unfolding deck_text
deck_spelled deck made within last =
    let text = rows_text (map declaration_row (deck_declarations deck)) in
    let drafted = deck_drafted deck within.updaters (few_queries deck made within) in
    subst (λ d. Spells text d) (deck_back deck (every_named deck.updates last) made.readers)
    (declarations_spell (deck_declarations deck) (whole_draft deck) drafted (deck_passes deck made within) (end_none deck made within))

-- ---- what a text spells

-- The last updater that declarations name has an update.
module _ (last : ℕ) where
  abbrev own_updates : List Declaration → List UpdateLists
  own_updates declarations = filter_map (its_update last) declarations

  last_updates : (declarations : List Declaration) → greatest_number (map its_updaters declarations) ≡ last + 1 → 0 < length (own_updates declarations)
  last_updates [] same = absurd (omega arith)
  last_updates (e.DeclaredItem id value rate ∷ declarations) same = last_updates declarations (omega arith)
  last_updates (e.DeclaredDisk size freq ∷ declarations) same = last_updates declarations (omega arith)
  last_updates (e.DeclaredReplan cycle sizes freqs ∷ declarations) same = last_updates declarations (omega arith)
  last_updates (e.DeclaredUpdate by reads writes ∷ declarations) same = at (by == last) refl (last_updates declarations)
    where
      at : (b : Bool) → (by == last) ≡ b → (greatest_number (map its_updaters declarations) ≡ last + 1 → 0 < length (own_updates declarations)) → 0 < length (own_updates (e.DeclaredUpdate by reads writes ∷ declarations))
      at true h more = rw h (omega arith)
      at false h more = let other : by ≡ last → ⊥ = grind (arith, nat_tests) in rw h (more (omega (arith, other, same)))
  last_updates (e.DeclaredReader room age tries ∷ declarations) same = last_updates declarations (omega arith)
  last_updates (e.DeclaredQuery reader items ∷ declarations) same = last_updates declarations (omega arith)
  last_updates (e.DeclaredScript events ∷ declarations) same = last_updates declarations (omega arith)
  last_updates (e.DeclaredSetting s ∷ declarations) same = last_updates declarations (omega arith)

declarations_last : (declarations : List Declaration) → LastUpdates (deck_of declarations)
declarations_last declarations last same =
    let n = updaters_in declarations in
    let long : n ≡ last + 1 = sym (length-map-range_with_len (updates_in declarations) 0 n) ∙ same in
    let own = get_or-map-range_with_len (updates_in declarations) 0 n last last [] (omega arith) (omega arith) in
    omega (arith, ap length own, last_updates last declarations long)

pub spelled_last : (rows : List (List (List ℕ))) (deck : Deck) → RecordsSpell rows deck → LastUpdates deck
spelled_last rows deck spelled = subst LastUpdates (sym spelled.parts) (declarations_last (declarations_in rows))

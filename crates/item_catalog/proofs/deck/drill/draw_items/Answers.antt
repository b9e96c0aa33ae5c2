use Rattle.std.proofs.Common.{◌∷◌, [], ℕ, ◌∙◌, ap, map, sym}
use Rattle.std.proofs.lemmas.List.{map-append}
use Rattle.air_model.specs.Drills.{draw_item}
use Rattle.item_catalog.specs.Decks.{plain_item}
use Rattle.item_catalog.specs.declared.parts.ItemPart.{ItemPart}
use Rattle.item_catalog.proofs.DrawLemmas.{drawn_more, drawn_none}
use Rattle.item_catalog.proofs.deck.drill.draw_items.Goals as goal

pub loop-i-init : goal.loop-i-init
loop-i-init c = drawn_none (λ (i : ℕ). draw_item) c.args.generator.now ∙ ap (λ xs. (map plain_item xs, c.args.generator.now)) (sym c.new-items.ensures.items)

pub loop-i-preserved : goal.loop-i-preserved
loop-i-preserved c =
    let items = c.loop-i.items.items in let x : ItemPart = record { value = c.draw_item-value.result.0; rate = c.draw_item-value.result.1 } in let after = c.draw_item-value.new.generator in
    drawn_more (λ (i : ℕ). draw_item) c.loop-i._i c.args.generator.now c.loop-i.generator after (map plain_item items) (plain_item x) c.loop-i.invariant c.draw_item-value.ensures
    ∙ ap (λ xs. (xs, after)) (sym (map-append plain_item items (x ∷ [])) ∙ ap (map plain_item) (sym c.in_ok-push.ensures.items))

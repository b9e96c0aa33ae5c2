use Rattle.std.proofs.Common.{◌≡◌, ℕ, ◌+◌, ◌<◌, Option, List, [], ◌∷◌, ◌++◌, length, map, take, get_or, sym, ◌∙◌, ap, subst, arith}
use Rattle.std.specs.Prelude.{IfSome}
use Rattle.std.specs.List.{slice_get}
use Rattle.std.proofs.lemmas.List.{map_more}
use Rattle.std.proofs.lemmas.Option.{slice_get-get_or}
use Rattle.air_model.specs.Decks.{Item}
use Rattle.item_catalog.proofs.deck.Deck.values.Goals as goal

abbrev its_value : Item → ℕ
its_value item = item.value

-- One more value.
one_more : (items : List Item) (i v : ℕ) (before after : List ℕ) → i < length items → before ≡ map its_value (take i items)
    → IfSome (slice_get items i) (λ item. v ≡ item.value) → after ≡ before ++ v ∷ [] → after ≡ map its_value (take (i + 1) items)
one_more items i v before after below so_far is grew =
    let none : Item = record { value = 0; rate = 0 } in
    let own : v ≡ (get_or items i none).value = subst (λ (o : Option Item). IfSome o (λ item. v ≡ item.value)) (slice_get-get_or items i none below) is in
    grew ∙ ap (λ l. l ++ v ∷ []) so_far ∙ ap (λ v. map its_value (take i items) ++ v ∷ []) own ∙ sym (map_more its_value items i none below)

pub loop-i-preserved : goal.loop-i-preserved
loop-i-preserved c =
    let below : c.loop-i.i < length c.args.self.now.items = let told = c.items-i-end.ensures.told in omega arith in
    one_more c.args.self.now.items c.loop-i.i c.value.result c.loop-i.values.items c.push.new.self.items below c.loop-i.invariant c.value.ensures c.in_ok-push.ensures.items

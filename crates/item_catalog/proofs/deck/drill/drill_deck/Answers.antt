use Rattle.std.proofs.Common.{◌≡◌, ◌*◌, ℕ, List, [], ◌∙◌, ap, arith, map, subst, sym}
use Rattle.rand_pcg.specs.Lcg.{Lcg}
use Rattle.air_history.specs.UpdateLists.{UpdateLists}
use Rattle.air_model.specs.Decks.{IsDeck, Item}
use Rattle.air_model.specs.Draws.{Draw, draw_each}
use Rattle.air_model.specs.Drills.{draw_item, draw_query, draw_update, drill_deck, drill_items}
use Rattle.item_catalog.specs.DeckLimits.{WithinLimits}
use Rattle.item_catalog.specs.DeckFields.{deck_seen}
use Rattle.item_catalog.specs.Decks.{plain_item, plain_replan}
use Rattle.item_catalog.specs.Faults.{count_starts}
use Rattle.item_catalog.specs.Parts.{ReplanSaid}
use Rattle.item_catalog.specs.declared.deck.Deck.TheInside.{Inside}
use Rattle.item_catalog.proofs.DrillLemmas.{deck_drawn, same_parts}
use Rattle.item_catalog.proofs.deck.drill.drill_deck.Goals as goal
use Rattle.item_catalog.proofs.deck.drill.drill_deck.Goals.{After-drill_settings}

-- The fields of the deck that was made.
fields : After-drill_settings → Inside
fields c = record {
  items = c.in_ok-items.items;
  disks = c.in_ok-disks.disks;
  replans = c.new-replans.result;
  delta = 0;
  updates = c.in_ok-updates.updates;
  readers = c.in_ok-readers.readers;
  queries = c.in_ok-queries.queries;
  script = c.into_events-script.result.0;
  starts = c.into_events-script.result.1;
  settings = c.drill_settings.result;
}

seen : (c : After-drill_settings) → deck_seen (fields c) ≡ drill_deck c.args.seed c.args.size
unfolding fields
seen c =
    let size = c.args.size in let n = drill_items size in
    let item : ℕ → Draw Item = λ i. draw_item in
    let one : ℕ → Draw UpdateLists = λ u. draw_update n in
    let first = c.draw_items.new.generator in let second = c.in_ok-updates.left in
    let updates = (draw_each (10 * size) one first).0 in
    let left = (draw_each 8 (λ (r : ℕ). draw_each size (λ (q : ℕ). draw_query n)) second).1 in
    let none : c.new-replans.result.items ≡ [] = c.new-replans.ensures.items in
    ap (λ (replans : List ReplanSaid). record (deck_seen (fields c)) { replans = map (plain_replan 0) replans }) none
    ∙ same_parts c.in_ok-disks.ensures c.in_ok-updates.ensures.dealt c.in_ok-readers.ensures (c.into_events-script.ensures.events ∙ c.in_ok-drill_script.ensures) c.drill_settings.ensures
    ∙ sym (deck_drawn c.args.seed size (map plain_item c.in_ok-items.items.items) updates c.in_ok-queries.queries.items first second left
    (ap (draw_each n item) (sym c.new-generator.ensures) ∙ c.in_ok-items.ensures)
    (ap (λ (g : Lcg). (updates, g)) (sym c.in_ok-updates.ensures.left))
    (ap (λ queries. (queries, left)) (sym c.in_ok-queries.ensures)))

pub invariant_of-result : goal.invariant_of-result
unfolding fields
invariant_of-result c =
    let law = c.drill_law.ensures c.args.seed c.args.size (omega arith) c.requires.some c.requires.few in
    record {
      made = subst IsDeck (sym (seen c)) law.0;
      limits = subst WithinLimits (sym (seen c)) law.1;
      delta = omega arith;
      starts = c.into_events-script.ensures.starts ∙ ap count_starts (sym c.into_events-script.ensures.events);
    }

pub returns : goal.returns
unfolding fields
returns c = seen c

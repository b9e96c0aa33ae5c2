use Rattle.std.proofs.Common.{◌≡◌, ◌<◌, ◌≤◌, ◌∙◌, Some, All, ap, arith, get_or, length, map, subst, suc, sym}
use Rattle.std.proofs.lemmas.List.{get_or-map, length-map}
use Rattle.air_base.specs.declared.limits.TheConstants.{MOST_CYCLES}
use Rattle.air_model.specs.Decks.{Deck, Replan, no_replan}
use Rattle.air_model.specs.Disks.{DiskSpec}
use Rattle.item_catalog.specs.DeckLimits.{ReplanWithin}
use Rattle.item_catalog.specs.Decks.{plain_replan}
use Rattle.item_catalog.proofs.DiskLemmas.{all_at, map_at}
use Rattle.item_catalog.proofs.deck.Deck.replan.Goals as goal
use Rattle.item_catalog.proofs.deck.Deck.replan.Goals.{After-index}

within : (c : After-index) → c.args.k < length c.self.inside.replans.items
within c = omega (arith, length-map c.self.inside.replans.items (plain_replan c.self.inside.delta), ap (λ (d : Deck). length d.replans) c.self.view_is)

-- The replan of the number is that of its part.
there : (c : After-index) → get_or (map (plain_replan c.self.inside.delta) c.self.inside.replans.items) c.args.k no_replan ≡ plain_replan c.self.inside.delta c.index.result.now
there c = get_or-map (plain_replan c.self.inside.delta) c.self.inside.replans.items c.args.k c.index.result.now no_replan (within c) ∙ ap (plain_replan c.self.inside.delta) (sym c.index.ensures)

pub of_part-requires-clause-kept : goal.of_part-requires-clause-kept
of_part-requires-clause-kept c =
    let a = (goal.at.of_part-requires-clause-kept c).After-index in
    let f = plain_replan c.self.inside.delta in let parts = c.self.inside.replans.items in let k = c.args.k in
    let inside = within a in
    record {
      from_two = all_at f (λ (r : Replan). 2 ≤ r.cycle) parts k c.index.result.now inside c.index.ensures c.self.invariant.made.from_two;
      within_a_run = all_at f (λ (r : Replan). r.cycle ≤ MOST_CYCLES) parts k c.index.result.now inside c.index.ensures c.self.invariant.made.within_a_run;
      aired = subst (λ (r : Replan). All (λ (d : DiskSpec). (0 < d.size) × (0 < d.freq)) r.disks) (there a) (c.self.invariant.made.aired (suc k) (omega (arith, length-map parts f)));
      limits = all_at f ReplanWithin parts k c.index.result.now inside c.index.ensures c.self.invariant.limits.replans;
    }

pub returns : goal.returns
returns c =
    let a = (goal.at.returns c).After-index in
    rw (← c.self.view_is) (map_at (plain_replan c.self.inside.delta) c.self.inside.replans.items c.args.k c.index.result.now (within a) c.index.ensures ∙ ap Some (sym c.of_part.ensures))

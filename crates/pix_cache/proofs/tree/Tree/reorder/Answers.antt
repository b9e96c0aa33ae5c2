use Rattle.std.proofs.Common.{◌≡◌, ◌∙◌, ◌<◌, ℕ, List, length, drop, get_or, map, sym, ap}
use Rattle.std.proofs.lemmas.List.{with_items_is}
use Rattle.pix_cache.specs.declared.leaf.Leaf.{Leaf}
use Rattle.pix_cache.specs.Leaves.{nowhere, renumbered_leaf}
use Rattle.pix_cache.proofs.NodeLemmas.{leaves_mapped}
use Rattle.pix_cache.proofs.tree.Tree.reorder.Goals as goal

pub returns : goal.returns
returns c =
    let copy_slots = c.self.inside.copy_slots in
    let old = c.self.inside.nodes.items in
    let new = c.renumber.new.nodes in
    let lent = c.deref_mut.ensures.value in
    let sizes : length new ≡ length old = c.renumber.auto.nodes ∙ ap length lent in
    let items = with_items_is c.self.inside.nodes new (sizes ∙ sym c.self.inside.nodes.ok.0) in
    let each : (s : ℕ) → s < copy_slots → get_or (drop copy_slots new) s nowhere ≡ renumbered_leaf c.args.pix.now (get_or (drop copy_slots old) s nowhere) = λ s l.
    c.renumber.ensures.leaves s l ∙ ap (λ (t : List Leaf). renumbered_leaf c.args.pix.now (get_or (drop copy_slots t) s nowhere)) lent in
    ap (drop copy_slots) items
    ∙ leaves_mapped copy_slots old new (renumbered_leaf c.args.pix.now) sizes c.self.invariant.tree.size each
    ∙ ap (map (renumbered_leaf c.args.pix.now)) c.self.view_is

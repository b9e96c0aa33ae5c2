use Rattle.std.proofs.Common.{◌≡◌, ◌<◌, ◌≤◌, ◌∙◌, List, All, length, get_or, sym, subst, arith}
use Rattle.std.proofs.lemmas.Bool.{ltb-false, ltb-true}
use Rattle.pix_cache.specs.declared.leaf.Leaf.{Leaf}
use Rattle.pix_cache.specs.Leaves.{copy_leaf, nowhere, weight}
use Rattle.pix_cache.proofs.NodeLemmas.{root_is}
use Rattle.pix_cache.proofs.tree.Tree.room_for.Goals as goal

pub returns-then-is_lighter : goal.returns-then-is_lighter
returns-then-is_lighter c =
    let root = root_is c.self.inside.copy_slots c.self.inside.nodes.items c.index.result.now c.self.invariant.tree c.self.invariant.told (omega (arith, c.if-self-eq0.false)) c.index.ensures in
    let light = ltb-true (weight (copy_leaf 0 c.args.pix c.args.item)) (weight c.index.result.now) (sym c.is_lighter.ensures ∙ c.if-is_lighter.true) in
    subst (All (λ a. weight (copy_leaf 0 c.args.pix c.args.item) < weight a)) c.self.view_is (λ k d l. (let w = root.2 k d l in omega arith))

pub returns : goal.returns
returns c =
    let root = root_is c.self.inside.copy_slots c.self.inside.nodes.items c.index.result.now c.self.invariant.tree c.self.invariant.told (omega (arith, c.if-self-eq0.false)) c.index.ensures in
    let heavy = ltb-false (weight (copy_leaf 0 c.args.pix c.args.item)) (weight c.index.result.now) (sym c.is_lighter.ensures ∙ c.if-is_lighter.false) in
    subst (λ (leaves : List Leaf). (c.index.result.now.copy_slot < length leaves) × (get_or leaves c.index.result.now.copy_slot nowhere ≡ c.index.result.now) × (weight c.index.result.now ≤ weight (copy_leaf 0 c.args.pix c.args.item)) × All (λ a. weight c.index.result.now ≤ weight a) leaves)
    c.self.view_is (root.0, root.1, heavy, root.2)

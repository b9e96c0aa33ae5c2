use Rattle.std.proofs.Common.{◌≡◌, ◌≢◌, ◌+◌, ◌*◌, ◌/◌, ◌<◌, ◌≤◌, ℕ, List, length, get_or, sym, ◌∙◌, subst, arith, ◌⊎◌, inl, inr, length-set}
use Rattle.std.proofs.Math.ListN.{set}
use Rattle.std.proofs.lemmas.Bool.{cases_eq}
use Rattle.std.proofs.lemmas.List.{drop-set-add, drop-set-lt}
use Rattle.pix_cache.specs.declared.leaf.Leaf.{Leaf}
use Rattle.pix_cache.specs.Leaves.{lighter, nowhere}
use Rattle.pix_cache.specs.Private.Trees.{IsNode}
use Rattle.pix_cache.proofs.NodeLemmas.{node_kept, node_mended}
use Rattle.pix_cache.proofs.nodes.place.Goals as goal

pub loop-node-init : goal.loop-node-init
loop-node-init c = record {
  some = omega arith;
  within = omega arith;
  nodes = λ v some l apart. node_kept c.args.nodes.now (c.args.copy_slots + c.args.leaf.copy_slot) c.args.leaf v (λ e. absurd (omega arith)) apart (c.requires.tree.nodes v some l);
  leaves = drop-set-add c.args.copy_slots c.args.nodes.now c.args.leaf.copy_slot c.args.leaf;
}

mended : (tree : List Leaf) (up : ℕ) (x : Leaf) (v : ℕ) → 1 ≤ up → up < length tree → x ≡ lighter (get_or tree (2 * up) nowhere) (get_or tree (2 * up + 1) nowhere) → v ≢ up / 2 →
    (v ≢ up → IsNode tree v) → (v ≡ up) ⊎ (v ≡ up → ⊥) → IsNode (set tree up x) v
mended tree up x v some l e apart h (inl same) = subst (IsNode (set tree up x)) (sym same) (subst (λ (y : Leaf). IsNode (set tree up y) up) (sym e) (node_mended tree up some l))
mended tree up x v some l e apart h (inr other) = node_kept tree up x v other apart (h other)

pub loop-node-preserved : goal.loop-node-preserved
loop-node-preserved c =
    let tree = c.loop-node.nodes in
    let up = c.loop-node.node / 2 in
    let size : length tree ≡ 2 * c.args.copy_slots = c.loop-node.auto.nodes ∙ length-set c.args.nodes.now _ _ ∙ c.requires.tree.size in
    let within = c.loop-node.invariant.within in
    let low : up < c.args.copy_slots = omega arith in
    let some : 1 ≤ up = omega arith in
    record {
      some = some;
      within = omega arith;
      nodes = λ v more l apart. mended tree up c.lighter_of.result v some (omega arith) c.lighter_of.ensures apart (c.loop-node.invariant.nodes v more l) (cases_eq v up);
      leaves = drop-set-lt c.args.copy_slots tree up c.lighter_of.result low ∙ c.loop-node.invariant.leaves;
    }

pub returns-clause-tree : goal.returns-clause-tree
returns-clause-tree c = record {
  size = c.loop-node.auto.nodes ∙ length-set c.args.nodes.now _ _ ∙ c.requires.tree.size;
  nodes = λ v some l. c.loop-node.invariant.nodes v some l (λ e. absurd (let w = c.loop-node.invariant.some in omega arith));
}

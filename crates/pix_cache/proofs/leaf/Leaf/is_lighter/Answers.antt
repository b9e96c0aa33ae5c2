use Rattle.std.proofs.Common.{arith}
use Rattle.pix_cache.proofs.NodeLemmas.{copy_heavier, empty_lighter, item_lighter, pix_lighter}
use Rattle.pix_cache.proofs.leaf.Leaf.is_lighter.Goals as goal

pub returns-then-not-self : goal.returns-then-not-self
returns-then-not-self c = empty_lighter c.args.self.now c.args.other.now c.if-not-self.true

pub returns-then-not-other : goal.returns-then-not-other
returns-then-not-other c = copy_heavier c.args.self.now c.args.other.now c.if-not-other.true

pub returns-then-self-other : goal.returns-then-self-other
returns-then-self-other c = pix_lighter c.args.self.now c.args.other.now c.if-not-self.false c.if-not-other.false c.if-self-other.true

pub returns : goal.returns
returns c = item_lighter c.args.self.now c.args.other.now (omega arith) (omega arith) c.if-not-self.false c.if-not-other.false c.if-self-other.false

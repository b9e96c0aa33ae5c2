use Rattle.std.proofs.Common.{◌∙◌, sym, None, false}
use Rattle.air_history.specs.declared.updates.Write.{Write}
use Rattle.air_history.proofs.RepeatedItemLemmas.{items_here, items_more}
use Rattle.air_history.proofs.updates.has_item_twice.Goals as goal

abbrev no_write : Write
no_write = record { item = 0; base = None; minus = false; amount = 0 }

pub returns-then-writes_item : goal.returns-then-writes_item
returns-then-writes_item c = sym (items_here c.args.writes.now c.loop-i.i no_write c.loop-i-test.true (sym c.writes_item.ensures ∙ c.if-writes_item.true)) ∙ c.loop-i.invariant

pub loop-i-preserved : goal.loop-i-preserved
loop-i-preserved c = items_more c.args.writes.now c.loop-i.i no_write c.loop-i-test.true (sym c.writes_item.ensures ∙ c.if-writes_item.false) ∙ c.loop-i.invariant

use Rattle.std.proofs.Common.{◌∙◌, ◌-◌, refl, ap, arith}
use Rattle.short_columns.proofs.ReadLemmas.{found, not_found, passed}
use Rattle.short_columns.proofs.reading.entry_of.Goals as goal

pub loop-j-init : goal.loop-j-init
loop-j-init c = refl

pub returns-then-item_at-item : goal.returns-then-item_at-item
returns-then-item_at-item c =
    found c.args.cycle c.args.at c.loop-j.j c.args.item c.item_at.result c.entry_of_age.result c.args.bytes.now (omega arith) c.item_at.ensures c.if-item_at-item.true
    (c.entry_of_age.ensures ∙ ap (λ a. c.args.cycle - a) c.age_at.ensures) c.loop-j.invariant

pub loop-j-preserved : goal.loop-j-preserved
loop-j-preserved c = passed c.args.cycle c.args.at c.loop-j.j c.args.item c.item_at.result c.args.bytes.now (omega arith) c.item_at.ensures c.if-item_at-item.false c.loop-j.invariant

pub returns : goal.returns
returns c = not_found c.args.cycle c.args.at c.loop-j.j c.args.item c.args.bytes.now (omega arith) c.loop-j.invariant

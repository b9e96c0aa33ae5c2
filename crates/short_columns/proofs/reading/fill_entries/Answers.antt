use Rattle.std.proofs.Common.{◌∙◌, ◌-◌, length, drop, ap, arith}
use Rattle.short_columns.specs.ShortColumns.{pairs_at, short_entries}
use Rattle.short_columns.proofs.ReadLemmas.{fill_end, fill_more, fill_start, item_below, put_all}
use Rattle.short_columns.proofs.reading.fill_entries.Goals as goal

pub loop-j-init : goal.loop-j-init
loop-j-init c =
    ap (put_all (drop 0 (pairs_at c.args.cycle c.args.at c.args.bytes.now))) (c.fill.ensures.after (λ y same. same)) ∙ fill_start c.args.cycle (length c.args.out.now) c.args.at c.args.bytes.now c.requires.told

pub bounds-out-item_at : goal.bounds-out-item_at
bounds-out-item_at c =
    let below = item_below c.args.cycle (length c.args.out.now) c.args.at c.loop-j.j c.args.bytes.now c.requires.told (omega arith) in
    let read = c.item_at.ensures in
    let long = c.fill.ensures.len in
    let same = c.loop-j.auto.out in
    omega arith

pub loop-j-preserved : goal.loop-j-preserved
loop-j-preserved c =
    fill_more c.args.cycle c.args.at c.loop-j.j c.item_at.result c.entry_of_age.result c.args.bytes.now c.loop-j.out (short_entries c.args.cycle (length c.args.out.now) c.args.at c.args.bytes.now) (omega arith)
    c.item_at.ensures (c.entry_of_age.ensures ∙ ap (λ a. c.args.cycle - a) c.age_at.ensures) c.loop-j.invariant

pub returns : goal.returns
returns c = fill_end c.args.cycle c.args.at c.loop-j.j c.args.bytes.now c.loop-j.out (short_entries c.args.cycle (length c.args.out.now) c.args.at c.args.bytes.now) (omega arith) c.loop-j.invariant

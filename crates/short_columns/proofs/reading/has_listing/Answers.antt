use Rattle.std.proofs.Common.{◌&&◌, nat_le, nat_lt, ◌∙◌, sym, arith}
use Rattle.std.proofs.lemmas.Bool.{and_parts, ltb-true}
use Rattle.short_columns.specs.ShortColumns.{is_young_age}
use Rattle.short_columns.proofs.ReadLemmas.{tests_end, tests_fail, tests_pass, tests_start}
use Rattle.short_columns.proofs.reading.has_listing.Goals as goal

pub loop-j-init : goal.loop-j-init
loop-j-init c = tests_start c.args.cycle c.args.n c.args.at c.args.bytes.now

pub returns-then-not-may_follow : goal.returns-then-not-may_follow
returns-then-not-may_follow c =
    tests_fail c.args.cycle c.args.n c.args.at c.loop-j.low c.loop-j.j c.item_at-item.result c.age_at.result c.args.bytes.now c.may_follow.result (omega arith) c.item_at-item.ensures c.age_at.ensures
    c.may_follow.ensures c.if-not-may_follow.true c.loop-j.invariant

pub overflow_add-low : goal.overflow_add-low
overflow_add-low c =
    let passed = sym c.may_follow.ensures ∙ c.if-not-may_follow.false in
    let first = and_parts (nat_le c.loop-j.low c.item_at-item.result && nat_lt c.item_at-item.result c.args.n) (is_young_age c.args.cycle c.age_at.result) passed in
    let below = ltb-true c.item_at-item.result c.args.n (and_parts (nat_le c.loop-j.low c.item_at-item.result) (nat_lt c.item_at-item.result c.args.n) first.0).1 in
    omega arith

pub loop-j-preserved : goal.loop-j-preserved
loop-j-preserved c =
    tests_pass c.args.cycle c.args.n c.args.at c.loop-j.low c.loop-j.j c.item_at-item.result c.age_at.result c.args.bytes.now c.may_follow.result (omega arith) c.item_at-item.ensures c.age_at.ensures
    c.may_follow.ensures c.if-not-may_follow.false c.loop-j.invariant

pub returns : goal.returns
returns c = tests_end c.args.cycle c.args.n c.args.at c.loop-j.low c.loop-j.j c.args.bytes.now (omega arith) c.loop-j.invariant

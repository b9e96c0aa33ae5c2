use Rattle.std.proofs.Common.{◌∷◌, [], ◌≤◌, ◌∙◌, length, map, take, refl, arith}
use Rattle.air_base.specs.Numbers.{number_text}
use Rattle.air_report.specs.RowWriters.{written_text}
use Rattle.air_report.proofs.RowSteps.{all_fields, few_fields, next_field, none_yet}
use Rattle.air_report.proofs.writing.fields.add_numbers.Goals as goal

pub loop-n-init : goal.loop-n-init
loop-n-init c = c.in_ok-put_field.ensures (written_text c.args.wtr.now) [] (omega arith) (none_yet c.args.wtr.now c.requires)

pub loop-n-preserved : goal.loop-n-preserved
loop-n-preserved c =
    let before = written_text c.args.wtr.now in
    let tag = c.args.tag.now in
    let ns = c.args.ns.now in
    let i = c.loop-n.n-index in
    let told = c.deref.ensures.value ∙ c.in_ok-write_u64.ensures.written ∙ rw c.clear.ensures.items refl in
    next_field number_text ns i 0 before tag c.deref.result.now c.put_field-in-loop-n.new.wtr (omega arith) told
    (c.in_ok-put_field-2.ensures before (tag ∷ map number_text (take i ns)) (few_fields number_text ns i tag (omega arith) (omega arith)) c.loop-n.invariant)

pub returns-clause-ready : goal.returns-clause-ready
returns-clause-ready c =
    let all : length c.args.ns.now ≤ c.loop-n.n-index = omega arith in
    c.in_ok-end_row.ensures.ready (written_text c.args.wtr.now) (c.args.tag.now ∷ map number_text c.args.ns.now)
    (all_fields number_text c.args.ns.now c.loop-n.n-index (written_text c.args.wtr.now) c.args.tag.now c.loop-n.wtr all c.loop-n.invariant)

pub returns-clause-text : goal.returns-clause-text
returns-clause-text c =
    let all : length c.args.ns.now ≤ c.loop-n.n-index = omega arith in
    c.in_ok-end_row.ensures.text (written_text c.args.wtr.now) (c.args.tag.now ∷ map number_text c.args.ns.now)
    (all_fields number_text c.args.ns.now c.loop-n.n-index (written_text c.args.wtr.now) c.args.tag.now c.loop-n.wtr all c.loop-n.invariant)

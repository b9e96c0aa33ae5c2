use Rattle.std.proofs.Common.{◌≡◌, ◌∙◌, ◌<◌, [], Some, arith, ap, length, sym}
use Rattle.std.proofs.lemmas.Bool.Decides.{nat_tests}
use Rattle.std.proofs.lemmas.List.{nil_from_length}
use Rattle.air_base.specs.NumberLists.{list_of}
use Rattle.air_base.specs.ReadParts.{part_values}
use Rattle.air_base.proofs.LeadingListLemmas.{after_short, prepend_none, list_bad, list_empty, list_last, list_more, list_spelled}
use Rattle.air_report.specs.LineTexts.{spelled_read}
use Rattle.air_report.proofs.reading.reads.read_reads.Goals as goal

pub returns-then-is_empty : goal.returns-then-is_empty
returns-then-is_empty c =
    let none : length c.args.text.now ≡ 0 = grind (arith, nat_tests) in
    ap Some (c.from_vec.ensures ∙ c.new-reads.ensures.items) ∙ sym (list_empty spelled_read c.args.text.now none)

pub loop-read-init : goal.loop-read-init
loop-read-init c =
    let some : 0 < length c.args.text.now = grind (arith, nat_tests) in
    rw c.new-reads.ensures.items (prepend_none (part_values spelled_read c.args.text.now) ∙ sym (list_spelled spelled_read c.args.text.now some))

pub returns-in_default : goal.returns-in_default
returns-in_default c = sym (list_bad spelled_read (list_of spelled_read c.args.text.now) c.loop-read.reads.items c.loop-read.rest.now c.loop-read.invariant c.in_default.ensures)

pub returns-in_default-split_first : goal.returns-in_default-split_first
returns-in_default-split_first c =
    let end : c.in-Some.after.now ≡ [] = nil_from_length c.in-Some.after.now c.in_default-split_first.ensures.cases in
    sym (list_last spelled_read (list_of spelled_read c.args.text.now) c.loop-read.reads.items c.loop-read.rest.now c.loop-read.invariant c.in-Some.read c.in-Some.ensures.0 (sym c.in-Some.ensures.1 ∙ end)
    ∙ ap Some (sym (c.from_vec-in_default-split_first.ensures ∙ c.in_ok-push.ensures.items)))

pub loop-read-smaller : goal.loop-read-smaller
loop-read-smaller c =
    let short = after_short c.loop-read.rest.now in
    omega (arith, ap length c.in-Some.ensures.1, c.in-Some-split_first.ensures.cases.1)

pub loop-read-preserved : goal.loop-read-preserved
loop-read-preserved c =
    let after = sym c.in-Some.ensures.1 ∙ c.in-Some-split_first.ensures.cases.0 in
    rw c.in_ok-push.ensures.items
    (list_more spelled_read (list_of spelled_read c.args.text.now) c.loop-read.reads.items c.loop-read.rest.now c.loop-read.invariant c.in-Some.read _ c.in-Some-split_first.more.now c.in-Some.ensures.0 after)

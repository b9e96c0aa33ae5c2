use Rattle.std.proofs.Common.{◌≡◌, ◌∙◌, ◌++◌, ◌∷◌, [], arith, ap, length, sym}
use Rattle.std.proofs.lemmas.List.{nil_from_length}
use Rattle.std.proofs.lemmas.Bool.Decides.{nat_tests}
use Rattle.item_catalog.specs.Writes.{spelled_write}
use Rattle.air_base.specs.NumberLists.{list_of}
use Rattle.item_catalog.specs.KeptLists.{see_write, writes_seen}
use Rattle.item_catalog.specs.Private.WriteParts.{write_said}
use Rattle.air_base.proofs.LeadingListLemmas.{after_short, list_bad, list_empty, list_last, list_more}
use Rattle.air_base.specs.ReadParts.{part_values, prepend}
use Rattle.air_base.proofs.PlainNumbers.{from_place}
use Rattle.item_catalog.proofs.SeenLemmas.{writes_more, read_none, read_some}
use Rattle.item_catalog.proofs.updates.write_lists.WriteList.read.Goals as goal

pub returns-then-is_empty-clause-read : goal.returns-then-is_empty-clause-read
unfolding writes_seen
returns-then-is_empty-clause-read c =
    let none : length c.args.text.now ≡ 0 = grind (arith, nat_tests) in
    read_some (list_of spelled_write c.args.text.now) [] _ (list_empty spelled_write c.args.text.now none) c.clear.ensures

pub returns-then-text-place-clause-read : goal.returns-then-text-place-clause-read
returns-then-text-place-clause-read c =
    let to = c.read_plain-place.ensures in
    read_some (list_of spelled_write c.args.text.now) to.0 _ (to.2.1 c.if-text-place.true) to.1

pub loop-write-init : goal.loop-write-init
loop-write-init c =
    let to = c.read_plain-place.ensures in
    (to.0, to.1, ap (λ l. prepend to.0 (part_values spelled_write l)) (from_place c.args.text.now c.read_plain-place.result) ∙ to.2.0 c.if-text-place.false)

pub returns-in_default-clause-read : goal.returns-in_default-clause-read
returns-in_default-clause-read c =
    let inv = c.loop-write.invariant in
    read_none (list_of spelled_write c.args.text.now) _ (list_bad spelled_write _ inv.0 c.loop-write.rest.now inv.2 c.in_default.ensures)

pub returns-in_default-split_first-clause-read : goal.returns-in_default-split_first-clause-read
returns-in_default-split_first-clause-read c =
    let inv = c.loop-write.invariant in
    let end : c.in-Some.after.now ≡ [] = nil_from_length c.in-Some.after.now c.in_default-split_first.ensures.cases in
    read_some (list_of spelled_write c.args.text.now) (inv.0 ++ (write_said c.in-Some.write) ∷ []) _ (list_last spelled_write _ inv.0 c.loop-write.rest.now inv.2 (write_said c.in-Some.write) c.in-Some.ensures.0 (sym c.in-Some.ensures.1 ∙ end))
    (c.see.ensures ∙ ap (λ s. see_write c.args.declared c.args.reads.now.items s (write_said c.in-Some.write)) inv.1 ∙ sym (writes_more c.args.declared c.args.reads.now.items inv.0 (write_said c.in-Some.write)))

pub loop-write-smaller : goal.loop-write-smaller
loop-write-smaller c =
    let short = after_short c.loop-write.rest.now in
    omega (arith, ap length c.in-Some.ensures.1, c.in-Some-split_first.ensures.cases.1)

pub loop-write-preserved : goal.loop-write-preserved
loop-write-preserved c =
    let inv = c.loop-write.invariant in (
      inv.0 ++ (write_said c.in-Some.write) ∷ [],
      c.see.ensures ∙ ap (λ s. see_write c.args.declared c.args.reads.now.items s (write_said c.in-Some.write)) inv.1 ∙ sym (writes_more c.args.declared c.args.reads.now.items inv.0 (write_said c.in-Some.write)),
      list_more spelled_write _ inv.0 c.loop-write.rest.now inv.2 (write_said c.in-Some.write) _ c.in-Some-split_first.more.now c.in-Some.ensures.0 (sym c.in-Some.ensures.1 ∙ c.in-Some-split_first.ensures.cases.0),
    )

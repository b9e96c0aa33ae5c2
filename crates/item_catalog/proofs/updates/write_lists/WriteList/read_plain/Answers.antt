use Rattle.std.proofs.Common.{◌≡◌, ◌≤◌, ◌∙◌, length, ◌++◌, ◌∷◌, [], ap, arith, sym}
use Rattle.item_catalog.specs.Writes.{spelled_write}
use Rattle.item_catalog.specs.KeptLists.{writes_seen, see_write}
use Rattle.item_catalog.specs.Private.WriteParts.{write_said}
use Rattle.air_base.proofs.PlainLists.{plain_further, reads_more, reads_none}
use Rattle.item_catalog.proofs.SeenLemmas.{writes_more}
use Rattle.item_catalog.proofs.updates.write_lists.WriteList.read_plain.Goals as goal

pub returns-then-text-lt-PLAIN_BYTES : goal.returns-then-text-lt-PLAIN_BYTES
unfolding writes_seen
returns-then-text-lt-PLAIN_BYTES c = reads_none spelled_write c.args.text.now (λ writes. c.args.self.now ≡ writes_seen c.args.declared c.args.reads.now.items writes) c.requires.some c.requires.none

pub loop-place-init : goal.loop-place-init
unfolding writes_seen
loop-place-init c = reads_none spelled_write c.args.text.now (λ writes. c.args.self.now ≡ writes_seen c.args.declared c.args.reads.now.items writes) c.requires.some c.requires.none

pub loop-place-smaller : goal.loop-place-smaller
loop-place-smaller c =
    let within : c.loop-place.place ≤ length c.args.text.now = omega (arith, c.loop-place-test.true) in
    let further = plain_further spelled_write c.args.text.now c.loop-place.place (write_said c.in-Some.write, c.in-Some.end) c.in-Some.ensures within in
    omega (arith, further, within, c.in-Some.ensures.1)

pub loop-place-preserved : goal.loop-place-preserved
loop-place-preserved c =
    let inv = c.loop-place.invariant in (
      inv.0 ++ (write_said c.in-Some.write) ∷ [],
      c.see.ensures ∙ ap (λ s. see_write c.args.declared c.args.reads.now.items s (write_said c.in-Some.write)) inv.1 ∙ sym (writes_more c.args.declared c.args.reads.now.items inv.0 (write_said c.in-Some.write)),
      reads_more spelled_write c.args.text.now c.loop-place.place (write_said c.in-Some.write, c.in-Some.end) c.in-Some.ensures inv.0 (omega (arith, c.loop-place-test.true)) inv.2,
    )

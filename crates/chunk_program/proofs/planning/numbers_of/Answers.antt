use Rattle.std.proofs.Common.{◌≤◌, ◌++◌, ◌∷◌, [], length, ap, sym, ◌∙◌, arith}
use Rattle.std.proofs.lemmas.List.{take_all}
use Rattle.chunk_program.specs.Editions.{program_pix}
use Rattle.chunk_program.proofs.EditionSteps.{count_pix, pix_more}
use Rattle.chunk_program.proofs.planning.numbers_of.Goals as goal

pub loop-item-preserved : goal.loop-item-preserved
loop-item-preserved c = record {
  made = c.in_ok-push.ensures.items ∙ ap (λ ns. ns ++ c.pix.result ∷ []) c.loop-item.invariant.made
      ∙ sym (pix_more c.args.deck.now c.args.program.now c.loop-item.item c.rate.result c.pix.result (let below = c.loop-item.invariant.all in omega arith) c.rate.ensures.told c.pix.ensures);
  all = c.loop-item.invariant.all;
}

pub returns : goal.returns
returns c =
    let all = program_pix c.args.deck.now c.args.program.now in
    let whole : length all ≤ c.loop-item.item = (let end = c.loop-item.invariant.all in let count = count_pix c.args.deck.now c.args.program.now in omega arith) in
    c.loop-item.invariant.made ∙ take_all c.loop-item.item all whole

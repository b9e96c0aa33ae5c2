use Rattle.item_catalog.proofs.DrawLemmas.{draw_told}
use Rattle.item_catalog.proofs.drills.draws.draw.Goals as goal

pub returns-clause-drawn : goal.returns-clause-drawn
returns-clause-drawn c = draw_told c.args.m c.next_word-word.result c.args.generator.now c.next_word-word.new.self c.next_word-word.ensures

use Rattle.std.proofs.Common.{refl, ap}
use Rattle.air_cli.specs.Split.{SplitGives}
use Rattle.air_cli.proofs.AnswerLemmas.{only_text}
use Rattle.air_cli.proofs.MakeLemmas.{one_end}
use Rattle.air_cli.proofs.commands.split.split.Goals as goal

pub returns-clause-made : goal.returns-clause-made
unfolding SplitGives
returns-clause-made g c =
    let reads = c.in_ok-deck.ensures.reads in
    let deck = c.in_ok-deck.deck in
    let split = c.in_ok-split.split in
    let own = c.in_ok-split.ensures in
    record {
      gives = (refl, (deck, c.in_ok-deck.ensures.deck, c.in_ok-deck.ensures.made, (own.few, (split.sizes, own.best.0, ap only_text c.in_ok-text.ensures))));
      read = λ name same. one_end (g.S.Shelf.state c.read_deck_file.new.shelf) c.args.name.now name reads.end same;
      calm = reads.calm;
    }

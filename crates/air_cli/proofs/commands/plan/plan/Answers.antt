use Rattle.std.proofs.Common.{refl, ap}
use Rattle.air_cli.specs.Plan.{PlanGives}
use Rattle.air_cli.proofs.AnswerLemmas.{only_text}
use Rattle.air_cli.proofs.MakeLemmas.{one_end}
use Rattle.air_cli.proofs.commands.plan.plan.Goals as goal

pub returns-clause-made : goal.returns-clause-made
unfolding PlanGives
returns-clause-made g c =
    let reads = c.in_ok-deck.ensures.reads in
    record {
      gives = (refl, (c.in_ok-deck.deck, c.in_ok-deck.ensures.deck, c.in_ok-deck.ensures.made, (c.in_ok-text.ensures.short, ap only_text c.in_ok-text.ensures.text)));
      read = λ name same. one_end (g.S.Shelf.state c.read_deck_file.new.shelf) c.args.name.now name reads.end same;
      calm = reads.calm;
    }

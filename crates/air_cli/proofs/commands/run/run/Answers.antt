use Rattle.std.proofs.Common.{ap}
use Rattle.air_cli.specs.ReportsAndTapes.{ReportAndTape}
use Rattle.air_cli.specs.Run.{RunGives}
use Rattle.air_cli.proofs.MakeLemmas.{one_end}
use Rattle.air_cli.proofs.commands.run.run.Goals as goal

pub returns-clause-made : goal.returns-clause-made
unfolding RunGives
returns-clause-made g c = λ tape.
    let reads = c.in_ok-planned.ensures.reads in
    let given = c.in_ok-given.ensures in
    record {
      gives = (ap (λ (g : ReportAndTape). g.differs) given.gives.1.given_is, (c.in_ok-planned.planned, c.in_ok-planned.ensures.deck, c.in_ok-planned.ensures.made, ((c.in_ok-planned.ensures.runnable, given.short), given.gives)));
      read = λ name same. one_end (g.S.Shelf.state c.read_runnable_deck.new.shelf) c.args.name.now name reads.end same;
      calm = reads.calm;
    }

use Rattle.air_cli.specs.Drill.{drill_meaning}
use Rattle.air_cli.proofs.DrillLemmas.{drill_facts, drill_made, drill_unmade}
use Rattle.air_cli.proofs.EndLemmas.{answers_ended, leaves_ended}
use Rattle.air_cli.proofs.RefusalLemmas.{reads_nothing}
use Rattle.air_cli.proofs.quiet.give_drill.Goals as goal

pub returns-clause-answers : goal.returns-clause-answers
returns-clause-answers g c =
    let S = g.S.Shelf in
    let meaning = drill_meaning c.args.seed c.args.size in
    let before = S.state c.args.shelf.now in
    answers_ended meaning (drill_facts c.args.seed c.args.size).sound c.drill-made.result before before (S.state c.give_or_refuse.new.shelf) c.give_or_refuse.result
    (drill_made c.args.seed c.args.size before c.drill-made.result c.drill-made.ensures.gives) (drill_unmade c.args.seed c.args.size before c.drill-made.result c.drill-made.ensures.refused)
    (reads_nothing meaning before) c.give_or_refuse.ensures

pub returns-clause-leaves : goal.returns-clause-leaves
returns-clause-leaves g c =
    let S = g.S.Shelf in
    let meaning = drill_meaning c.args.seed c.args.size in
    let before = S.state c.args.shelf.now in
    leaves_ended meaning c.drill-made.result before before (S.state c.give_or_refuse.new.shelf) c.give_or_refuse.result (reads_nothing meaning before) c.give_or_refuse.ensures

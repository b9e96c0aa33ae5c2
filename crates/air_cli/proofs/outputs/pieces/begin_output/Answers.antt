use Rattle.std.proofs.Common.{Bor, List, ℕ, ap}
use Rattle.std.specs.Prelude.{Option}
use Rattle.std.specs.Option.{option_map}
use Rattle.air_cli.proofs.OutputLemmas.{none_begun, output_begun, output_unbegun}
use Rattle.air_cli.proofs.outputs.pieces.begin_output.Goals as goal

abbrev told_name : Option (Bor (List ℕ)) → Option (List ℕ)
told_name = option_map (λ name. name.now)

pub returns-in-Some-clause-begun : goal.returns-in-Some-clause-begun
returns-in-Some-clause-begun g c =
    let S = g.S.Shelf in
    output_begun c.create.result (told_name c.args.output) c.in-Some.name.now (S.state c.args.shelf.now) (S.state c.create.new.self) (ap told_name c.in-Some.is)
    c.create.ensures.emptied c.create.ensures.rest c.create.ensures.cause

pub returns-in-Some-clause-cut : goal.returns-in-Some-clause-cut
returns-in-Some-clause-cut g c = λ tape.
    let S = g.S.Shelf in
    output_unbegun c.create.result (told_name c.args.output) c.in-Some.name.now tape (S.state c.args.shelf.now) (S.state c.create.new.self) (ap told_name c.in-Some.is)
    c.create.ensures.refused c.create.ensures.rest c.create.ensures.cause

pub returns-in-None-clause-begun : goal.returns-in-None-clause-begun
returns-in-None-clause-begun g c = none_begun (told_name c.args.output) (g.S.Shelf.state c.args.shelf.now) (ap told_name c.in-None.is)

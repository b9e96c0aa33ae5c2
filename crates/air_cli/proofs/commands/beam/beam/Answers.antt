use Rattle.std.proofs.Common.{Some, refl}
use Rattle.air_cli.specs.Beam.{beam_given, beam_meaning}
use Rattle.air_cli.proofs.BeamLemmas.{beam_facts}
use Rattle.air_cli.proofs.EndLemmas.{answers_unmade, leaves_unmade}
use Rattle.air_cli.proofs.PieceAnswers.{answers_pieces, leaves_pieces}
use Rattle.air_cli.proofs.commands.beam.beam.Goals as goal

pub returns-in-Ok : goal.returns-in-Ok
returns-in-Ok g c =
    let S = g.S.Shelf in
    let meaning = beam_meaning c.args.name.now c.args.output.now in
    let before = S.state c.args.shelf.now in
    let mid = S.state c.read_beam.new.shelf in
    let now = S.state c.print_written.new.shelf in
    let given = beam_given c.in-Ok.planned in
    let wrote = c.beam_to_output-written.ensures in
    let ends = c.print_written.ensures (Some c.args.output.now) given mid refl wrote.text wrote.whole wrote.stopped in
    record {
      answers = answers_pieces meaning given before mid now c.print_written.result refl c.in-Ok.ensures.made c.read_beam.ensures.reads ends.delivers ends.rest;
      leaves = leaves_pieces meaning before mid now c.read_beam.ensures.reads ends.rest ends.counts;
    }

pub returns-in-Err : goal.returns-in-Err
returns-in-Err g c =
    let S = g.S.Shelf in
    let meaning = beam_meaning c.args.name.now c.args.output.now in
    let before = S.state c.args.shelf.now in
    let mid = S.state c.read_beam.new.shelf in
    let now = S.state c.refuse_unmade.new.shelf in
    let reads = c.read_beam.ensures.reads in
    record {
      answers = answers_unmade meaning (beam_facts c.args.name.now c.args.output.now).sound before mid now c.in-Err.status c.refuse_unmade.result c.in-Err.ensures.unmade reads c.refuse_unmade.ensures;
      leaves = leaves_unmade meaning before mid now c.in-Err.status c.refuse_unmade.result reads c.refuse_unmade.ensures;
    }

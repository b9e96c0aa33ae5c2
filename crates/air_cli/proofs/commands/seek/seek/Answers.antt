use Rattle.air_cli.proofs.MakeLemmas.{one_end}
use Rattle.air_cli.proofs.SeekLemmas.{line_of_tape}
use Rattle.air_cli.proofs.commands.seek.seek.Goals as goal

pub returns-clause-made : goal.returns-clause-made
returns-clause-made g c =
    let S = g.S.Shelf in
    let tape = c.args.tape.now in
    let reads = c.in_ok-answer.ensures.reads in
    record {
      gives = line_of_tape tape c.args.item c.args.from (S.state c.args.shelf.now) c.in_ok-answer.answer c.in_ok-text.text.items c.in_ok-answer.ensures.sought c.in_ok-text.ensures;
      read = λ name same. one_end (S.state c.file_sought.new.shelf) tape name reads.end same;
      calm = reads.calm;
    }

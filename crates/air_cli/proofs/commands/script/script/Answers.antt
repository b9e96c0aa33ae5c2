use Rattle.std.proofs.Common.{Bor, List, ℕ, refl}
use Rattle.std.specs.Prelude.{Option}
use Rattle.std.specs.Option.{option_map}
use Rattle.air_cli.specs.Private.GivenTexts.{script_given}
use Rattle.air_cli.specs.Script.{script_meaning}
use Rattle.air_cli.proofs.EndLemmas.{answers_unmade, leaves_unmade}
use Rattle.air_cli.proofs.PieceAnswers.{answers_pieces, leaves_pieces}
use Rattle.air_cli.proofs.ScriptLemmas.{made_for, reads_for, script_facts, unmade_for}
use Rattle.air_cli.proofs.commands.script.script.Goals as goal

pub returns-in-Ok : goal.returns-in-Ok
returns-in-Ok g c =
    let S = g.S.Shelf in
    let deck = c.args.name.now in
    let output : Option (List ℕ) = option_map (λ (name : Bor (List ℕ)). name.now) c.args.output in
    let meaning = script_meaning deck output in
    let before = S.state c.args.shelf.now in
    let mid = S.state c.read_script.new.shelf in
    let now = S.state c.print_written.new.shelf in
    let given = script_given c.in-Ok.planned in
    let reads = reads_for deck output before mid c.read_script.ensures.reads in
    let wrote = c.air_to_output-written.ensures in
    let ends = c.print_written.ensures output given mid refl wrote.text wrote.whole wrote.stopped in
    record {
      answers = answers_pieces meaning given before mid now c.print_written.result refl (made_for deck output before mid given c.in-Ok.ensures.made) reads ends.delivers ends.rest;
      leaves = leaves_pieces meaning before mid now reads ends.rest ends.counts;
    }

pub returns-in-Err : goal.returns-in-Err
returns-in-Err g c =
    let S = g.S.Shelf in
    let deck = c.args.name.now in
    let output : Option (List ℕ) = option_map (λ (name : Bor (List ℕ)). name.now) c.args.output in
    let meaning = script_meaning deck output in
    let before = S.state c.args.shelf.now in
    let mid = S.state c.read_script.new.shelf in
    let now = S.state c.refuse_unmade.new.shelf in
    let reads = reads_for deck output before mid c.read_script.ensures.reads in
    let unmade = unmade_for deck output before mid c.in-Err.status c.in-Err.ensures.unmade in
    record {
      answers = answers_unmade meaning (script_facts deck output).sound before mid now c.in-Err.status c.refuse_unmade.result unmade reads c.refuse_unmade.ensures;
      leaves = leaves_unmade meaning before mid now c.in-Err.status c.refuse_unmade.result reads c.refuse_unmade.ensures;
    }

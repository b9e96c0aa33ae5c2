use Rattle.std.proofs.Common.{refl}
use Rattle.air_report.specs.declared.status.Status.TheVariants as status
use Rattle.air_cli.specs.Meanings.{no_command}
use Rattle.air_cli.proofs.RefusalLemmas.{answers_refused, keeps_all, leaves_refused, no_command_sound, reads_nothing}
use Rattle.air_cli.proofs.quiet.refuse_words.Goals as goal

pub returns-clause-answers : goal.returns-clause-answers
returns-clause-answers g c =
    let S = g.S.Shelf in
    let before = S.state c.args.shelf.now in
    answers_refused no_command no_command_sound before before (S.state c.refuse.new.shelf) status.Words c.refuse.result (λ e. cc) (reads_nothing no_command before) refl (λ read. keeps_all before)
    c.refuse.ensures.gives c.refuse.ensures.rest c.refuse.ensures.counts

pub returns-clause-leaves : goal.returns-clause-leaves
returns-clause-leaves g c =
    let S = g.S.Shelf in
    let before = S.state c.args.shelf.now in
    leaves_refused no_command before before (S.state c.refuse.new.shelf) (reads_nothing no_command before) c.refuse.ensures.rest c.refuse.ensures.counts

use Rattle.air_cli.proofs.ListenLemmas.{is_listening}
use Rattle.air_cli.proofs.commands.listen.hear_on_air.Goals as goal

pub returns-in_ok-text-in-Ok-clause-gives : goal.returns-in_ok-text-in-Ok-clause-gives
returns-in_ok-text-in-Ok-clause-gives g c =
    let E = g.E.Ear in
    let s = c.in-Ok.sessions in
    let heard = c.in-Ok.ensures in
    (heard.sessions.heard, is_listening c.args.planned.now c.args.port (E.state c.args.ear.now) (E.state c.ear_sessions.new.ear) c.in_ok-text-in-Ok.text.items s.verdicts.items s.counts.items heard.sessions c.shows_tape_truth.ensures c.in_ok-text-in-Ok.ensures heard.calm heard.port)

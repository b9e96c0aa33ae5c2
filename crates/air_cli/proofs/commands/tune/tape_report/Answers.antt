use Rattle.air_cli.proofs.TuneLemmas.{heard_text}
use Rattle.air_cli.proofs.commands.tune.tape_report.Goals as goal

pub returns-clause-heard : goal.returns-clause-heard
returns-clause-heard g c =
    let heard = c.in_ok-sessions.ensures.heard in
    let text = heard_text c.args.tape.now (g.S.Shelf.state c.args.shelf.now) c.args.planned.now c.in_ok-sessions.sessions c.in_ok-text.text.items heard c.in_ok-text.ensures in
    (heard.bytes, heard.told, (heard.fits, heard.whole, text))

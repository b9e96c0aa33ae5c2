use Rattle.std.proofs.Common.{inr}
use Rattle.command_pins.proofs.HeadlineLemmas.{audit_left}
use Rattle.command_pins.proofs.headline_pins.false_verdict_told_as_agreeing.Goals as goal

pub returns : goal.returns
returns g c = λ differs. audit_left c.args.shelf.now c.air_main.new.shelf c.air_main.result c.requires.printed ((rw c.requires.words at c.air_main.ensures.headline) (inr differs))

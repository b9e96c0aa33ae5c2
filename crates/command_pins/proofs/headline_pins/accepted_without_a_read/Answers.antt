use Rattle.std.proofs.Common.{inl}
use Rattle.command_pins.proofs.HeadlineLemmas.{tune_left}
use Rattle.command_pins.proofs.headline_pins.accepted_without_a_read.Goals as goal

pub returns : goal.returns
returns g c = λ ok. tune_left c.args.shelf.now c.air_main.new.shelf c.requires.printed c.requires.deck c.requires.tape ((rw c.requires.words at c.air_main.ensures.headline) (inl ok))

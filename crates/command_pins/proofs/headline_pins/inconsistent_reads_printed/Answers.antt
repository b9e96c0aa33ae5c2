use Rattle.std.proofs.Common.{inl}
use Rattle.command_pins.proofs.HeadlineLemmas.{run_left}
use Rattle.command_pins.proofs.headline_pins.inconsistent_reads_printed.Goals as goal

pub returns : goal.returns
returns g c = λ ok. run_left c.args.shelf.now c.air_main.new.shelf c.requires.printed ((rw c.requires.words at c.air_main.ensures.headline) (inl ok))

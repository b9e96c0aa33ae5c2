use Rattle.std.proofs.Common.{inl}
use Rattle.air_base.specs.Numbers.{number_of}
use Rattle.command_pins.proofs.HeadlineLemmas.{listen_left}
use Rattle.command_pins.proofs.headline_pins.noise_taken_for_buckets.Goals as goal

pub returns : goal.returns
unfolding number_of
returns g c = λ ok. listen_left c.args.shelf.now c.air_main.new.shelf c.args.ear.now c.air_main.new.ear c.requires.printed c.requires.deck c.requires.waiting ((rw c.requires.words at c.air_main.ensures.headline) (inl ok))

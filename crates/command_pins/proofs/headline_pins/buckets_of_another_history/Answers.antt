use Rattle.std.proofs.Common.{inl}
use Rattle.air_base.specs.Numbers.{number_of}
use Rattle.command_pins.proofs.HeadlineLemmas.{cast_left}
use Rattle.command_pins.proofs.headline_pins.buckets_of_another_history.Goals as goal

pub returns : goal.returns
unfolding number_of
returns g c = λ ok. cast_left c.args.shelf.now c.air_main.new.shelf c.args.mast.now c.air_main.new.mast c.requires.printed ((rw c.requires.words at c.air_main.ensures.headline) (inl ok))

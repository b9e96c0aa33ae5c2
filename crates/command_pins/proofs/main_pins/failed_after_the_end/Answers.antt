use Rattle.air_base.specs.Numbers.{number_of}
use Rattle.air_devices.specs.Memory.{shelved_of}
use Rattle.command_pins.proofs.EndLemmas.{calm_after_end}
use Rattle.command_pins.proofs.main_pins.failed_after_the_end.Goals as goal

pub returns : goal.returns
unfolding number_of
returns g c = λ count ended.
    calm_after_end (shelved_of c.args.shelf.now) c.args.mast.now c.air_main.new.mast c.requires.unsent c.requires.faults (rw c.requires.words at c.air_main.ensures.mast) count ended

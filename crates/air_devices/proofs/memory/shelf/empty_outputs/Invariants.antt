use Rattle.std.proofs.Common.{◌≡◌, map}
use Rattle.air_devices.specs.Memory.{empty_output}
use Rattle.air_devices.proofs.memory.shelf.empty_outputs.Given as goal

abbrev pub invariant-loop-name : goal.invariant-loop-name
invariant-loop-name l = l.outputs.items ≡ map (empty_output l.room) l.yielded

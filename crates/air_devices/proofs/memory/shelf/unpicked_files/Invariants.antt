use Rattle.std.proofs.Common.{◌≡◌, map}
use Rattle.air_devices.specs.Memory.{unpicked_file}
use Rattle.air_devices.proofs.memory.shelf.unpicked_files.Given as goal

abbrev pub invariant-loop-name : goal.invariant-loop-name
invariant-loop-name l = l.shelved.items ≡ map unpicked_file l.yielded

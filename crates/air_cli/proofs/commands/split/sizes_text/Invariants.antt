use Rattle.std.proofs.Common.{◌≡◌, map, take}
use Rattle.air_base.specs.NumberLists.{list_text}
use Rattle.air_base.specs.Numbers.{number_text}
use Rattle.air_cli.proofs.commands.split.sizes_text.Given as goal

abbrev pub invariant-loop-i : goal.invariant-loop-i
invariant-loop-i l = l.text.items ≡ list_text (map number_text (take l.i l.sizes))

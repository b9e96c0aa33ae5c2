use Rattle.std.proofs.Common.{◌≡◌, map, take}
use Rattle.air_base.specs.NumberLists.{list_text}
use Rattle.air_model.specs.Programs.{minor_cycle, num_minors}
use Rattle.air_model.specs.PlanTexts.{slot_text}
use Rattle.air_cli.proofs.commands.plan.rows.slots_text.Given as goal

abbrev pub invariant-loop-j : goal.invariant-loop-j
invariant-loop-j l = l.text.items ≡ list_text (map slot_text (take l.j (minor_cycle (num_minors l.program.disks) l.program.disks l.k)))

use Rattle.std.proofs.Common.{length, ap, arith}
use Rattle.air_model.specs.Programs.{program}
use Rattle.chunk_program.specs.Editions.{EditionDisks}
use Rattle.air_cli.proofs.PlanLemmas.{held_item}
use Rattle.air_cli.proofs.commands.plan.rows.put_item.Goals as goal

pub disk_of-requires : goal.disk_of-requires
disk_of-requires c = held_item c.args.planned.now c.args.edition c.program-program.result.now.disks c.args.i c.program-program.ensures.items (ap (λ (p : EditionDisks). p.disks) c.program-program.ensures.told) c.requires.item

pub times-requires : goal.times-requires
times-requires c = held_item c.args.planned.now c.args.edition c.program-program.result.now.disks c.args.i c.program-program.ensures.items (ap (λ (p : EditionDisks). p.disks) c.program-program.ensures.told) c.requires.item

pub gap-requires : goal.gap-requires
gap-requires c = held_item c.args.planned.now c.args.edition c.program-program.result.now.disks c.args.i c.program-program.ensures.items (ap (λ (p : EditionDisks). p.disks) c.program-program.ensures.told) c.requires.item

pub next_wake-requires-clause-slot : goal.next_wake-requires-clause-slot
next_wake-requires-clause-slot c = omega (arith, c.program-program.ensures.some, ap (λ (p : EditionDisks). length (program p.disks)) c.program-program.ensures.told)

pub next_wake-requires-clause-item : goal.next_wake-requires-clause-item
next_wake-requires-clause-item c = held_item c.args.planned.now c.args.edition c.program-program.result.now.disks c.args.i c.program-program.ensures.items (ap (λ (p : EditionDisks). p.disks) c.program-program.ensures.told) c.requires.item

pub pix-requires-clause-item : goal.pix-requires-clause-item
pix-requires-clause-item c = held_item c.args.planned.now c.args.edition c.program-program.result.now.disks c.args.i c.program-program.ensures.items (ap (λ (p : EditionDisks). p.disks) c.program-program.ensures.told) c.requires.item

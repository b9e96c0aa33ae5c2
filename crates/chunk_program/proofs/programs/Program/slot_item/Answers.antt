use Rattle.std.proofs.Common.{◌<◌, List, length, arith, ap, subst, sym}
use Rattle.std.specs.Prelude.{IfSome}
use Rattle.std.specs.List.{All}
use Rattle.air_model.specs.Disks.{Disk, all_items}
use Rattle.air_model.specs.Programs.{program}
use Rattle.chunk_program.proofs.ProgramLemmas.{carried_items, read_slot}
use Rattle.chunk_program.specs.Editions.{EditionDisks}
use Rattle.chunk_program.proofs.programs.Program.slot_item.Goals as goal

pub returns-clause-within : goal.returns-clause-within
returns-clause-within c =
    let always = c.self.invariant in let view = (ap (λ (p : EditionDisks). p.disks) c.self.view_is) in let disks = c.self.inside.disks.items in let s = c.args.slot in
    let below = subst (λ (l : List Disk). s < length (program l)) (sym view) c.requires in
    let slots = c.self.inside.slots.items in
    let carried = subst (All (λ o. IfSome o (λ i. i < length (all_items disks)))) (sym always.slots) (carried_items disks always.limits) in
    let within = read_slot (λ o. IfSome o (λ i. i < length (all_items disks))) slots s c.index.result.now carried (let same = ap length always.slots in omega arith) c.index.ensures in
    let item = c.index.result.now in subst (λ (l : List Disk). IfSome item (λ i. i < length (all_items l))) view within

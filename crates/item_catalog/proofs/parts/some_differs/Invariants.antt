use Rattle.std.proofs.Common.{◌≡◌, drop}
use Rattle.std.specs.List.{list_any}
use Rattle.item_catalog.specs.Faults.{differs_from}
use Rattle.item_catalog.specs.Parts.{ReplanSaid}
use Rattle.item_catalog.proofs.parts.some_differs.Given as goal

abbrev pub invariant-loop-replan : goal.invariant-loop-replan
invariant-loop-replan l = list_any (λ (r : ReplanSaid). differs_from l.items r.disks) (drop l.replan-index l.replans) ≡ list_any (λ (r : ReplanSaid). differs_from l.items r.disks) l.fn.replans

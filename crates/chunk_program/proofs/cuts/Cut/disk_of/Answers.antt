use Rattle.std.proofs.Common.{◌<◌, List, ap, ◌∙◌, length, subst, sym}
use Rattle.air_model.specs.Disks.{Disk, all_items}
use Rattle.air_model.specs.Airings.{disk_number}
use Rattle.chunk_program.proofs.PlaceSteps.{own_place}
use Rattle.chunk_program.proofs.cuts.Cut.disk_of.Goals as goal

pub returns : goal.returns
returns c =
    let always = c.self.invariant in
    let i = c.args.i in
    let within = subst (λ (l : List Disk). i < length (all_items l)) (sym c.self.view_is) c.requires in
    let own = own_place c.self.inside.disks.items c.self.inside.places.items i c.index.result.now always.limits always.places (always.len ∙ ap length always.order) within c.index.ensures in
    own.disk ∙ ap (λ (l : List Disk). disk_number l i) c.self.view_is

use Rattle.std.proofs.Common.{◌<◌, List, length, arith, ap, subst, sym, refl}
use Rattle.std.proofs.lemmas.Option.{slice_get_read}
use Rattle.air_model.specs.Disks.{Disk, all_items}
use Rattle.chunk_program.specs.Homes.{IsHome}
use Rattle.chunk_program.proofs.ProgramLemmas.{home_fits}
use Rattle.chunk_program.specs.Editions.{EditionDisks}
use Rattle.chunk_program.proofs.programs.Program.home.Goals as goal

pub returns-clause-home : goal.returns-clause-home
returns-clause-home c =
    let always = c.self.invariant in let view = (ap (λ (p : EditionDisks). p.disks) c.self.view_is) in let i = c.args.item in let disks = c.self.inside.disks.items in
    let below = subst (λ (l : List Disk). i < length (all_items l)) (sym view) c.requires in
    let at = slice_get_read c.self.inside.homes.items (length c.self.inside.homes.items) i c.index.result.now refl (let long = always.len in omega arith) c.index.ensures in
    let own = always.homes i c.index.result.now at in
    let h = c.index.result.now in subst (λ (l : List Disk). IsHome l i h) view own

pub returns-clause-few : goal.returns-clause-few
returns-clause-few c =
    let always = c.self.invariant in let view = (ap (λ (p : EditionDisks). p.disks) c.self.view_is) in let i = c.args.item in let disks = c.self.inside.disks.items in
    let below = subst (λ (l : List Disk). i < length (all_items l)) (sym view) c.requires in
    let at = slice_get_read c.self.inside.homes.items (length c.self.inside.homes.items) i c.index.result.now refl (let long = always.len in omega arith) c.index.ensures in
    let own = always.homes i c.index.result.now at in
    let fits = home_fits disks i c.index.result.now always.limits below (let same = ap length always.slots in let short = always.short in omega arith) own in
    fits.0

pub returns-clause-first : goal.returns-clause-first
returns-clause-first c =
    let always = c.self.invariant in let view = (ap (λ (p : EditionDisks). p.disks) c.self.view_is) in let i = c.args.item in let disks = c.self.inside.disks.items in
    let below = subst (λ (l : List Disk). i < length (all_items l)) (sym view) c.requires in
    let at = slice_get_read c.self.inside.homes.items (length c.self.inside.homes.items) i c.index.result.now refl (let long = always.len in omega arith) c.index.ensures in
    let own = always.homes i c.index.result.now at in
    let fits = home_fits disks i c.index.result.now always.limits below (let same = ap length always.slots in let short = always.short in omega arith) own in
    fits.1

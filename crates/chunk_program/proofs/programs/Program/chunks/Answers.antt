use Rattle.std.proofs.Common.{◌≡◌, List, slice_get, arith, ap, subst, ◌∙◌}
use Rattle.std.specs.Prelude.{IfSome}
use Rattle.air_model.specs.Disks.{Disk}
use Rattle.air_model.specs.Programs.{num_chunks, num_minors}
use Rattle.chunk_program.proofs.ProgramLemmas.{laid_disk, of_read}
use Rattle.chunk_program.specs.Editions.{EditionDisks}
use Rattle.chunk_program.proofs.programs.Program.chunks.Goals as goal

pub overflow_cast-result : goal.overflow_cast-result
overflow_cast-result c =
    let own = laid_disk c.self.inside _ c.from.result c.args.d c.index.result.now c.self.invariant (ap (λ (p : EditionDisks). p.disks) c.self.view_is) c.from.ensures c.requires c.index.ensures in
    let few = own.chunks in let is = c.chunks.ensures in omega arith

pub returns : goal.returns
returns c =
    let n = c.args.d in let d = c.index.result.now in let disks = c.self.inside.disks.items in
    let minors = c.from.ensures ∙ c.self.invariant.minors in
    let own = laid_disk c.self.inside _ c.from.result c.args.d c.index.result.now c.self.invariant (ap (λ (p : EditionDisks). p.disks) c.self.view_is) c.from.ensures c.requires c.index.ensures in
    let r = c.chunks.result in
    subst (λ (l : List Disk). IfSome (slice_get l n) (λ disk. r ≡ num_chunks (num_minors l) disk)) (ap (λ (p : EditionDisks). p.disks) c.self.view_is)
    (of_read (λ disk. r ≡ num_chunks (num_minors disks) disk) (slice_get disks n) d own.at (c.chunks.ensures ∙ ap (λ m. num_chunks m d) minors))

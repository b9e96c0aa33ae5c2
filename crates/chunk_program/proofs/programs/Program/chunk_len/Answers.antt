use Rattle.std.proofs.Common.{◌≡◌, List, slice_get, arith, ap, subst, ◌∙◌}
use Rattle.std.specs.Prelude.{IfSome}
use Rattle.air_model.specs.Disks.{Disk}
use Rattle.air_model.specs.Programs.{chunk_len, num_minors}
use Rattle.chunk_program.proofs.ProgramLemmas.{laid_disk, of_read}
use Rattle.chunk_program.specs.Editions.{EditionDisks}
use Rattle.chunk_program.proofs.programs.Program.chunk_len.Goals as goal

pub chunk_len-requires-clause-some : goal.chunk_len-requires-clause-some
chunk_len-requires-clause-some c =
    (laid_disk c.self.inside _ c.from.result c.args.d c.index.result.now c.self.invariant (ap (λ (p : EditionDisks). p.disks) c.self.view_is) c.from.ensures c.requires c.index.ensures).some

pub overflow_cast-result : goal.overflow_cast-result
overflow_cast-result c =
    let own = laid_disk c.self.inside _ c.from.result c.args.d c.index.result.now c.self.invariant (ap (λ (p : EditionDisks). p.disks) c.self.view_is) c.from.ensures c.requires c.index.ensures in
    let few = own.len in let is = c.chunk_len.ensures in omega arith

pub returns : goal.returns
returns c =
    let n = c.args.d in let d = c.index.result.now in let disks = c.self.inside.disks.items in
    let minors = c.from.ensures ∙ c.self.invariant.minors in
    let own = laid_disk c.self.inside _ c.from.result c.args.d c.index.result.now c.self.invariant (ap (λ (p : EditionDisks). p.disks) c.self.view_is) c.from.ensures c.requires c.index.ensures in
    let r = c.chunk_len.result in
    subst (λ (l : List Disk). IfSome (slice_get l n) (λ disk. r ≡ chunk_len (num_minors l) disk)) (ap (λ (p : EditionDisks). p.disks) c.self.view_is)
    (of_read (λ disk. r ≡ chunk_len (num_minors disks) disk) (slice_get disks n) d own.at (c.chunk_len.ensures ∙ ap (λ m. chunk_len m d) minors))

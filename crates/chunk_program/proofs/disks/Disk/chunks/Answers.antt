use Rattle.std.proofs.Common.{◌/◌, ap, ◌∙◌}
use Rattle.air_model.specs.Disks.{Disk}
use Rattle.air_model.specs.Programs.{num_chunks}
use Rattle.chunk_program.proofs.disks.Disk.chunks.Goals as goal

pub returns : goal.returns
unfolding num_chunks
returns c = let minors = c.args.minors in ap (λ f. minors / f) c.from.ensures ∙ ap (λ (d : Disk). minors / d.freq) c.self.view_is

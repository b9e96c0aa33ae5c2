use Rattle.std.proofs.Common.{◌*◌, ap, ◌∙◌}
use Rattle.air_model.specs.Airings.{pix_number}
use Rattle.chunk_program.proofs.programs.Program.pix.Goals as goal

pub returns : goal.returns
unfolding pix_number
returns c =
    let rate = c.args.rate in let parts = c.from-2.result in
    ap (λ r. r * parts) c.from.ensures ∙ ap (λ n. rate * n) (c.from-2.ensures ∙ c.home.ensures.home.chunks)

use Rattle.std.proofs.Common.{◌*◌, ap, subst, sym, ◌∙◌}
use Rattle.air_model.specs.Programs.{program}
use Rattle.air_model.specs.Airings.{ComesEvery, airings}
use Rattle.chunk_program.proofs.ProgramLemmas.{item_even, item_whole}
use Rattle.chunk_program.proofs.programs.Program.gap.Goals as goal

pub returns-clause-even : goal.returns-clause-even
returns-clause-even c =
    let disks = c.args.self.now.disks in let i = c.args.item in
    subst (ComesEvery (program disks) i) (sym c.home.ensures.home.gap) (item_even disks i c.home.ensures.limits c.requires)

pub returns-clause-all : goal.returns-clause-all
returns-clause-all c =
    let disks = c.args.self.now.disks in let i = c.args.item in
    ap (λ g. airings (program disks) i * g) c.home.ensures.home.gap ∙ item_whole disks i c.home.ensures.limits c.requires

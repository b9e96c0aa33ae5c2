use Rattle.std.proofs.Common.{subst, sym}
use Rattle.air_model.specs.Programs.{program}
use Rattle.air_model.specs.Airings.{IsNextWake}
use Rattle.chunk_program.proofs.ProgramLemmas.{home_wait, item_wait}
use Rattle.chunk_program.proofs.programs.Program.next_wake.Goals as goal

pub returns-clause-wait : goal.returns-clause-wait
returns-clause-wait c =
    home_wait c.args.self.now.disks c.args.item c.args.slot c.home-home.result c.home-home.ensures.limits c.requires.item c.requires.slot c.home-home.ensures.home

pub returns-clause-least : goal.returns-clause-least
returns-clause-least c =
    let disks = c.args.self.now.disks in let i = c.args.item in let s = c.args.slot in let limits = c.home-home.ensures.limits in
    let is = home_wait disks i s c.home-home.result limits c.requires.item c.requires.slot c.home-home.ensures.home in
    subst (IsNextWake (program disks) s i) (sym is) (item_wait disks i limits c.requires.item s c.requires.slot).0

use Rattle.std.proofs.Common.{◌≡◌, length, arith, ap, rules}
use Rattle.chunk_program.proofs.ProgramLemmas.{slots_some}
use Rattle.chunk_program.proofs.programs.Program.slots.Goals as goal

pub returns-clause-some : goal.returns-clause-some
returns-clause-some c =
    let always = c.self.invariant in
    let some = slots_some c.self.inside.disks.items always.limits in let long = ap length always.slots in
    let counted : c.len.result ≡ length c.self.inside.slots.items = search rules in omega arith

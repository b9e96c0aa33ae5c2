use Rattle.std.proofs.Common.{rules, ◌∙◌, ◌≤◌, length, map, arith, ap}
use Rattle.air_history.specs.Reads.{last_cycle}
use Rattle.air_history.specs.Clashes.{read_at}
use Rattle.air_history.specs.HeldReads.{HeldReads}
use Rattle.held_reads.proofs.HeldLemmas.{last_held}
use Rattle.held_reads.proofs.held.HeldEntries.last.Goals as goal

pub returns-clause-cycle : goal.returns-clause-cycle
returns-clause-cycle c =
    let within : c.self.inside.len ≤ length c.self.inside.places.items = omega arith in
    last_held c.self.inside.places.items c.self.inside.len c.index.result.now (omega arith) within (search rules)
    ∙ ap (λ (h : HeldReads). last_cycle (map read_at h.reads)) c.self.view_is

use Rattle.std.proofs.Common.{arith}
use Rattle.std.proofs.lemmas.Nat.{mul-le}
use Rattle.scripts.proofs.BeamPieces.{nothing_beamed}
use Rattle.scripts.proofs.script_beaming.ScriptBeaming.new.Goals as goal

pub overflow_mul-bytes : goal.overflow_mul-bytes
overflow_mul-bytes c =
    let few = c.longest_cycle.ensures.few in
    let same = c.from.ensures in
    let range = c.ranges.cycles in
    let all = mul-le c.from.result c.longest_cycle.result 4294967296 67567616 (omega arith) (omega arith) in
    omega arith

pub returns-clause-kept : goal.returns-clause-kept
returns-clause-kept c = record { run = c.in_ok-new.ensures.kept; some = c.requires }

pub returns-clause-nothing : goal.returns-clause-nothing
returns-clause-nothing c = nothing_beamed c.args.planned.now c.in_ok-new.field-0.events.items c.in_ok-new.ensures.empty

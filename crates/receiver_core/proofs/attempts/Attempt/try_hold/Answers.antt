use Rattle.std.proofs.Common.{◌∙◌, sym}
use Rattle.air_model.specs.Reads.{read_with}
use Rattle.receiver_core.proofs.AttemptLemmas.{clash_at, more_is, more_keeps, new_at}
use Rattle.receiver_core.proofs.attempts.Attempt.try_hold.Goals as goal

pub clash_under-requires : goal.clash_under-requires
clash_under-requires c = new_at c.self.inside c.args.self.now (read_with c.args.item c.args.cycle c.args.value c.args.entries.now) c.self.invariant c.self.view_is c.requires.new

pub hold-requires-clause-new : goal.hold-requires-clause-new
hold-requires-clause-new c = new_at c.self.inside c.args.self.now (read_with c.args.item c.args.cycle c.args.value c.args.entries.now) c.self.invariant c.self.view_is c.requires.new

pub returns-in-Some-clause-clash : goal.returns-in-Some-clause-clash
returns-in-Some-clause-clash c =
    sym c.in-Some.is ∙ c.clash_under.ensures
    ∙ clash_at c.self.inside c.args.self.now (read_with c.args.item c.args.cycle c.args.value c.args.entries.now) c.self.invariant c.self.view_is

pub returns-clause-clash : goal.returns-clause-clash
returns-clause-clash c =
    sym c.in_default.is ∙ c.clash_under.ensures
    ∙ clash_at c.self.inside c.args.self.now (read_with c.args.item c.args.cycle c.args.value c.args.entries.now) c.self.invariant c.self.view_is

pub invariant_of-self : goal.invariant_of-self
invariant_of-self c = more_keeps c.self.inside c.hold.new.self c.push.new.self (read_with c.args.item c.args.cycle c.args.value c.args.entries.now) c.self.invariant c.hold.ensures c.push.ensures

pub returns-clause-held : goal.returns-clause-held
returns-clause-held c = more_is c.self.inside c.args.self.now c.hold.new.self c.push.new.self (read_with c.args.item c.args.cycle c.args.value c.args.entries.now)
    c.self.invariant c.self.view_is c.hold.ensures c.push.ensures

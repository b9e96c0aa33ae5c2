use Rattle.std.proofs.Common.{◌∙◌, Some, refl, sym, ap}
use Rattle.std.specs.Option.{is_none}
use Rattle.air_devices.specs.Calls.{is_next_listed}
use Rattle.air_devices.proofs.CallLemmas.{is_next_call, keeps_but_output}
use Rattle.air_devices.proofs.MemoryLemmas.{output_absent, output_written}
use Rattle.air_devices.proofs.NamedLemmas.{fails_never, fails_then}
use Rattle.air_devices.proofs.memory.shelf.MemShelfShelf.create.Goals as goal

pub returns-in_default-clause-fails : goal.returns-in_default-clause-fails
returns-in_default-clause-fails c =
    fails_then (is_next_listed c.args.self.now.calls) _ (ap is_none (output_absent c.args.self.now.outputs.items c.args.name.now (sym c.output_place.ensures ∙ c.in_default.is)))

pub returns-clause-fails : goal.returns-clause-fails
returns-clause-fails c =
    let written = output_written c.args.self.now.outputs.items c.in-Some.place c.clear.new.self c.index_mut.result.now c.args.name.now (sym c.output_place.ensures ∙ c.in-Some.is) c.index_mut.ensures.value in
    fails_never (is_next_listed c.args.self.now.calls) _ (sym c.is_to_fail.ensures.listed ∙ c.if-is_to_fail.false) (ap is_none written.there)

pub returns-clause-call : goal.returns-clause-call
returns-clause-call c =
    let written = output_written c.args.self.now.outputs.items c.in-Some.place c.clear.new.self c.index_mut.result.now c.args.name.now (sym c.output_place.ensures ∙ c.in-Some.is) c.index_mut.ensures.value in
    record { calls = is_next_call c.args.self.now.calls _ c.is_to_fail.ensures.numbered; files = refl; outputs = written.names; rooms = written.rooms (ap (λ w. w.room) c.clear.ensures); room = refl }

pub returns-clause-emptied : goal.returns-clause-emptied
returns-clause-emptied c =
    let written = output_written c.args.self.now.outputs.items c.in-Some.place c.clear.new.self c.index_mut.result.now c.args.name.now (sym c.output_place.ensures ∙ c.in-Some.is) c.index_mut.ensures.value in
    ap (λ b. Some b) (written.now ∙ ap (λ w. w.bytes) c.clear.ensures)

pub returns-clause-rest : goal.returns-clause-rest
returns-clause-rest c =
    let written = output_written c.args.self.now.outputs.items c.in-Some.place c.clear.new.self c.index_mut.result.now c.args.name.now (sym c.output_place.ensures ∙ c.in-Some.is) c.index_mut.ensures.value in
    keeps_but_output c.args.self.now _ c.args.name.now written.others

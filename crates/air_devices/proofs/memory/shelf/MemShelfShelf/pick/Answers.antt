use Rattle.std.proofs.Common.{◌∙◌, Some, refl, sym, ap}
use Rattle.air_devices.specs.Calls.{is_next_listed}
use Rattle.air_devices.proofs.CallLemmas.{is_next_call, keeps_but_left}
use Rattle.air_devices.proofs.MemoryLemmas.{file_absent, file_moved}
use Rattle.air_devices.proofs.NamedLemmas.{fails_never, fails_then}
use Rattle.air_devices.proofs.memory.shelf.MemShelfShelf.pick.Goals as goal

pub returns-in_default-clause-fails : goal.returns-in_default-clause-fails
returns-in_default-clause-fails c =
    fails_then (is_next_listed c.args.self.now.calls) _ (file_absent c.args.self.now.files.items c.args.name.now (sym c.file_place.ensures ∙ c.in_default.is))

pub returns-clause-fails : goal.returns-clause-fails
returns-clause-fails c =
    let moved = file_moved c.args.self.now.files.items c.in-Some.place 0 c.index_mut.result.now c.args.name.now (sym c.file_place.ensures ∙ c.in-Some.is) c.index_mut.ensures.value in
    fails_never (is_next_listed c.args.self.now.calls) _ (sym c.is_to_fail.ensures.listed ∙ c.if-is_to_fail.false) moved.there

pub returns-clause-call : goal.returns-clause-call
returns-clause-call c =
    let moved = file_moved c.args.self.now.files.items c.in-Some.place _ c.index_mut.result.now c.args.name.now (sym c.file_place.ensures ∙ c.in-Some.is) c.index_mut.ensures.value in
    record { calls = is_next_call c.args.self.now.calls _ c.is_to_fail.ensures.numbered; files = moved.names; outputs = refl; rooms = refl; room = refl }

pub returns-clause-picked : goal.returns-clause-picked
returns-clause-picked c =
    let moved = file_moved c.args.self.now.files.items c.in-Some.place _ c.index_mut.result.now c.args.name.now (sym c.file_place.ensures ∙ c.in-Some.is) c.index_mut.ensures.value in
    ap (λ b. Some b) (moved.now ∙ sym moved.whole)

pub returns-clause-rest : goal.returns-clause-rest
returns-clause-rest c =
    let moved = file_moved c.args.self.now.files.items c.in-Some.place _ c.index_mut.result.now c.args.name.now (sym c.file_place.ensures ∙ c.in-Some.is) c.index_mut.ensures.value in
    keeps_but_left c.args.self.now _ c.args.name.now moved.bytes moved.others

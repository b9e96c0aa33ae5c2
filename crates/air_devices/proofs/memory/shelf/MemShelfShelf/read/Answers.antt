use Rattle.std.proofs.Common.{◌∙◌, ◌+◌, refl, sym, arith}
use Rattle.air_devices.proofs.CallLemmas.{is_next_call, keeps_but_left}
use Rattle.air_devices.proofs.MemoryLemmas.{beginning_taken, file_moved, nothing_left}
use Rattle.air_devices.proofs.memory.shelf.MemShelfShelf.read.Goals as goal

pub returns-in_default-clause-moved : goal.returns-in_default-clause-moved
returns-in_default-clause-moved c = (refl, λ _ _. nothing_left c.args.self.now.files.items c.args.name.now (sym c.file_place.ensures ∙ c.in_default.is))

pub returns-clause-moved : goal.returns-clause-moved
returns-clause-moved c =
    let d = c.index_mut-file.result.now in
    let count = c.move_beginning-count.result in
    let moved = file_moved c.args.self.now.files.items c.in-Some.place (d.at + count) d c.args.name.now (sym c.file_place.ensures ∙ c.in-Some.is) c.index_mut-file.ensures.value in
    let size = rw c.deref.ensures.value at c.move_beginning-count.ensures.count in
    let beginning = rw c.deref.ensures.value at c.move_beginning-count.ensures.beginning in
    let taken = beginning_taken c.args.self.now.files.items _ d count c.args.name.now c.move_beginning-count.new.buf moved (omega arith) beginning in
    (taken.bytes, taken.end)

pub returns-clause-call : goal.returns-clause-call
returns-clause-call c =
    let d = c.index_mut-file.result.now in
    let moved = file_moved c.args.self.now.files.items c.in-Some.place (d.at + c.move_beginning-count.result) d c.args.name.now (sym c.file_place.ensures ∙ c.in-Some.is) c.index_mut-file.ensures.value in
    record { calls = is_next_call c.args.self.now.calls _ c.is_to_fail.ensures.numbered; files = moved.names; outputs = refl; rooms = refl; room = refl }

pub returns-clause-rest : goal.returns-clause-rest
returns-clause-rest c =
    let d = c.index_mut-file.result.now in
    let moved = file_moved c.args.self.now.files.items c.in-Some.place (d.at + c.move_beginning-count.result) d c.args.name.now (sym c.file_place.ensures ∙ c.in-Some.is) c.index_mut-file.ensures.value in
    keeps_but_left c.args.self.now _ c.args.name.now moved.bytes moved.others

use Rattle.std.proofs.Common.{◌≡◌, ◌≤◌, ◌∙◌, ◌+◌, ◌-◌, ◌++◌, Some, true, false, length, take, refl, sym, ap, arith, rules}
use Rattle.std.proofs.lemmas.List.{take_all}
use Rattle.air_devices.specs.Calls.{is_next_listed}
use Rattle.air_devices.specs.Memory.{output_bytes, output_named, overflows, overflows_output}
use Rattle.air_devices.proofs.CallLemmas.{is_failed_call, is_next_call, keeps_but_output, output_added}
use Rattle.air_devices.proofs.MemoryLemmas.{output_absent, output_written, past_room}
use Rattle.air_devices.proofs.NamedLemmas.{fails_never, fails_then}
use Rattle.air_devices.proofs.memory.shelf.MemShelfShelf.append.Goals as goal

pub returns-in_default-clause-fails : goal.returns-in_default-clause-fails
returns-in_default-clause-fails c =
    fails_then (is_next_listed c.args.self.now.calls) _ (ap (λ o. overflows_output o c.args.bytes.now) (output_absent c.args.self.now.outputs.items c.args.name.now (sym c.output_place.ensures ∙ c.in_default.is)))

pub returns-then-not-add-clause-fails : goal.returns-then-not-add-clause-fails
returns-then-not-add-clause-fails c =
    let d = c.index_mut.result.now in
    let written = output_written c.args.self.now.outputs.items c.in-Some.place c.add.new.self d c.args.name.now (sym c.output_place.ensures ∙ c.in-Some.is) c.index_mut.ensures.value in
    let past : overflows d.written c.args.bytes.now ≡ true = past_room c.add.result d.written c.args.bytes.now c.if-not-add.true c.add.ensures.whole in
    fails_then (is_next_listed c.args.self.now.calls) _ (ap (λ o. overflows_output o c.args.bytes.now) written.there ∙ past)

pub returns-then-not-add-clause-call : goal.returns-then-not-add-clause-call
returns-then-not-add-clause-call c =
    let written = output_written c.args.self.now.outputs.items c.in-Some.place c.add.new.self c.index_mut.result.now c.args.name.now (sym c.output_place.ensures ∙ c.in-Some.is) c.index_mut.ensures.value in
    record {
      calls = is_failed_call c.args.self.now.calls _ _ c.is_to_fail.ensures.numbered c.fault-then-not-add.ensures.rest;
      files = refl;
      outputs = written.names;
      rooms = written.rooms (ap (λ w. w.room) c.add.ensures.added);
      room = refl;
    }

pub returns-then-not-add-clause-part : goal.returns-then-not-add-clause-part
returns-then-not-add-clause-part c =
    let n = c.args.name.now in
    let d = c.index_mut.result.now in
    let written = output_written c.args.self.now.outputs.items c.in-Some.place c.add.new.self d n (sym c.output_place.ensures ∙ c.in-Some.is) c.index_mut.ensures.value in
    let room = d.written.room - length d.written.bytes in
    (room, written.now ∙ ap (λ w. w.bytes) c.add.ensures.added ∙ ap (λ l. l ++ take room c.args.bytes.now) (sym written.was))

pub returns-then-not-add-clause-rest : goal.returns-then-not-add-clause-rest
returns-then-not-add-clause-rest c =
    let written = output_written c.args.self.now.outputs.items c.in-Some.place c.add.new.self c.index_mut.result.now c.args.name.now (sym c.output_place.ensures ∙ c.in-Some.is) c.index_mut.ensures.value in
    keeps_but_output c.args.self.now _ c.args.name.now written.others

pub returns-clause-fails : goal.returns-clause-fails
returns-clause-fails c =
    let d = c.index_mut.result.now in
    let written = output_written c.args.self.now.outputs.items c.in-Some.place c.add.new.self d c.args.name.now (sym c.output_place.ensures ∙ c.in-Some.is) c.index_mut.ensures.value in
    let fits : length d.written.bytes + length c.args.bytes.now ≤ d.written.room = search rules in
    let past : overflows d.written c.args.bytes.now ≡ false = grind arith in
    fails_never (is_next_listed c.args.self.now.calls) _ (sym c.is_to_fail.ensures.listed ∙ c.if-is_to_fail.false) (ap (λ o. overflows_output o c.args.bytes.now) written.there ∙ past)

pub returns-clause-call : goal.returns-clause-call
returns-clause-call c =
    let written = output_written c.args.self.now.outputs.items c.in-Some.place c.add.new.self c.index_mut.result.now c.args.name.now (sym c.output_place.ensures ∙ c.in-Some.is) c.index_mut.ensures.value in
    record {
      calls = is_next_call c.args.self.now.calls _ c.is_to_fail.ensures.numbered;
      files = refl;
      outputs = written.names;
      rooms = written.rooms (ap (λ w. w.room) c.add.ensures.added);
      room = refl;
    }

pub returns-clause-all : goal.returns-clause-all
returns-clause-all c =
    let n = c.args.name.now in
    let d = c.index_mut.result.now in
    let written = output_written c.args.self.now.outputs.items c.in-Some.place c.add.new.self d n (sym c.output_place.ensures ∙ c.in-Some.is) c.index_mut.ensures.value in
    let room = d.written.room - length d.written.bytes in
    let fits : length d.written.bytes + length c.args.bytes.now ≤ d.written.room = search rules in
    let whole : take room c.args.bytes.now ≡ c.args.bytes.now = take_all room c.args.bytes.now (omega arith) in
    written.now ∙ ap (λ w. w.bytes) c.add.ensures.added ∙ ap (λ l. l ++ take room c.args.bytes.now) (sym written.was) ∙ ap (λ l. output_bytes (output_named n c.args.self.now.outputs.items) ++ l) whole

pub returns-clause-rest : goal.returns-clause-rest
returns-clause-rest c =
    let written = output_written c.args.self.now.outputs.items c.in-Some.place c.add.new.self c.index_mut.result.now c.args.name.now (sym c.output_place.ensures ∙ c.in-Some.is) c.index_mut.ensures.value in
    keeps_but_output c.args.self.now _ c.args.name.now written.others

pub returns-in_default-clause-fitting : goal.returns-in_default-clause-fitting
returns-in_default-clause-fitting c = rw (output_absent c.args.self.now.outputs.items c.args.name.now (sym c.output_place.ensures ∙ c.in_default.is)) tt

pub returns-then-not-add-clause-fitting : goal.returns-then-not-add-clause-fitting
returns-then-not-add-clause-fitting c =
    let d = c.index_mut.result.now in
    let written = output_written c.args.self.now.outputs.items c.in-Some.place c.add.new.self d c.args.name.now (sym c.output_place.ensures ∙ c.in-Some.is) c.index_mut.ensures.value in
    output_added _ d _ c.args.self.now.calls c.args.bytes.now written.there (sym c.is_to_fail.ensures.listed ∙ c.if-is_to_fail.false)
    (ap (λ b. Some b) (written.now ∙ ap (λ w. w.bytes) c.add.ensures.added))

pub returns-clause-fitting : goal.returns-clause-fitting
returns-clause-fitting c =
    let d = c.index_mut.result.now in
    let written = output_written c.args.self.now.outputs.items c.in-Some.place c.add.new.self d c.args.name.now (sym c.output_place.ensures ∙ c.in-Some.is) c.index_mut.ensures.value in
    output_added _ d _ c.args.self.now.calls c.args.bytes.now written.there (sym c.is_to_fail.ensures.listed ∙ c.if-is_to_fail.false)
    (ap (λ b. Some b) (written.now ∙ ap (λ w. w.bytes) c.add.ensures.added))

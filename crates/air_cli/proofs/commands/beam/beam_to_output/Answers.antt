use Rattle.std.proofs.Common.{[], Some, refl, sym, inl, rules}
use Rattle.std.proofs.lemmas.List.{append-nil}
use Rattle.air_index.specs.IndexedTapes.{beam_tape_of}
use Rattle.air_report.specs.declared.status.Status.TheVariants as status
use Rattle.air_cli.specs.Private.OutputPieces.{IsStopped}
use Rattle.air_cli.proofs.commands.beam.beam_to_output.Goals as goal

pub returns-in_err-beam_script-clause-stopped : goal.returns-in_err-beam_script-clause-stopped
returns-in_err-beam_script-clause-stopped g c =
    let S = g.S.Shelf in
    let before = c.args.shelf.now in
    let h : IsStopped (Some c.args.output.now) (beam_tape_of c.args.planned.now) (S.state before) (S.state c.beam_script.new.output) c.in_err-beam_script.field-0.0 =
    c.in_err-beam_script.ensures.stopped before c.in-Ok.ensures.begun in
    search (rules, h)

pub returns-in_err-text-clause-stopped : goal.returns-in_err-text-clause-stopped
returns-in_err-text-clause-stopped g c =
    let S = g.S.Shelf in
    let d = c.args.planned.now in
    let before = c.args.shelf.now in
    let h : IsStopped (Some c.args.output.now) (beam_tape_of d) (S.state before) (S.state c.beam_script.new.output) status.NoMemory =
    inl (refl, record { so_far = beam_tape_of d; left = []; joined = sym (append-nil (beam_tape_of d)); taken = c.in_ok-beam_script.ensures.taken before c.in-Ok.ensures.begun }) in
    search (rules, h)

pub returns-clause-whole : goal.returns-clause-whole
returns-clause-whole g c = c.in_ok-beam_script.ensures.taken c.args.shelf.now c.in-Ok.ensures.begun

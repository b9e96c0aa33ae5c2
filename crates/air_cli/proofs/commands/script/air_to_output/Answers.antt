use Rattle.std.proofs.Common.{Bor, List, [], ℕ, refl, sym, inl, rules}
use Rattle.std.specs.Prelude.{Option}
use Rattle.std.specs.Option.{option_map}
use Rattle.std.proofs.lemmas.List.{append-nil}
use Rattle.air_model.specs.Outputs.{script_tape}
use Rattle.air_report.specs.declared.status.Status.TheVariants as status
use Rattle.air_cli.specs.Private.OutputPieces.{IsStopped}
use Rattle.air_cli.proofs.commands.script.air_to_output.Goals as goal

pub returns-in_err-aired-clause-stopped : goal.returns-in_err-aired-clause-stopped
returns-in_err-aired-clause-stopped g c =
    let S = g.S.Shelf in
    let output : Option (List ℕ) = option_map (λ (name : Bor (List ℕ)). name.now) c.args.output in
    let before = c.args.shelf.now in
    let h : IsStopped output (script_tape c.args.planned.now) (S.state before) (S.state c.air_script.new.output) c.in_err-aired.field-0.0 = c.in_err-aired.ensures.stopped before c.in-Ok.ensures.begun in
    search (rules, h)

pub returns-in_err-text-2-clause-stopped : goal.returns-in_err-text-2-clause-stopped
returns-in_err-text-2-clause-stopped g c =
    let S = g.S.Shelf in
    let output : Option (List ℕ) = option_map (λ (name : Bor (List ℕ)). name.now) c.args.output in
    let d = c.args.planned.now in
    let before = c.args.shelf.now in
    let h : IsStopped output (script_tape d) (S.state before) (S.state c.air_script.new.output) status.NoMemory =
    inl (refl, record { so_far = script_tape d; left = []; joined = sym (append-nil (script_tape d)); taken = c.in_ok-aired.ensures.taken before c.in-Ok.ensures.begun }) in
    search (rules, h)

pub returns-clause-whole : goal.returns-clause-whole
returns-clause-whole g c = c.in_ok-aired.ensures.taken c.args.shelf.now c.in-Ok.ensures.begun

pub returns-in_err-text-clause-stopped : goal.returns-in_err-text-clause-stopped
returns-in_err-text-clause-stopped g c =
    let S = g.S.Shelf in
    let output : Option (List ℕ) = option_map (λ (name : Bor (List ℕ)). name.now) c.args.output in
    let d = c.args.planned.now in
    let h : IsStopped output (script_tape d) (S.state c.args.shelf.now) (S.state c.begin_output.new.shelf) status.NoMemory =
    inl (refl, record { so_far = []; left = script_tape d; joined = refl; taken = c.in-Ok.ensures.begun }) in
    search (rules, h)

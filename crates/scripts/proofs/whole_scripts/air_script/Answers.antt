use Rattle.std.proofs.Common.{List, ℕ, sym, subst, arith}
use Rattle.air_model.specs.Outputs.{script_tape}
use Rattle.scripts.specs.Pieces.{tape_so_far}
use Rattle.scripts.proofs.SinkLemmas.{all_taken, failed_at, taken_on, wanting_after, wanting_first}
use Rattle.scripts.proofs.whole_scripts.air_script.Given.{Over}
use Rattle.scripts.proofs.whole_scripts.air_script.Goals as goal

-- What the sink says of the bytes that were taken since the output was as at first, or at which it failed; and what says that memory ran out.
abbrev Taken : (g : Over) → g.row.S.Denot → g.row.P.Denot → g.row.P.Denot → List ℕ → Type 0
Taken g sink first now = λ bytes. g.S.PieceSink.HasTaken sink bytes first now

abbrev Failed : (g : Over) → g.row.S.Denot → g.row.P.Denot → g.row.P.Denot → List ℕ → g.row.S-Fault.Denot → Type 0
Failed g sink first now = λ bytes. g.S.PieceSink.HasFailed sink bytes first now

abbrev Wants : (g : Over) → g.row.S-Fault.Denot → Type 0
Wants g = g.S.Fault.From.from_gives (record {})

pub returns-in_err-aired-clause-stopped : goal.returns-in_err-aired-clause-stopped
returns-in_err-aired-clause-stopped g c = λ first was.
    let sink = c.args.sink.now in
    let now = c.args.output.now in
    wanting_first (Wants g) (Taken g sink first now) (Failed g sink first now) (script_tape c.args.planned.now) c.from_residual.result c.from_residual.ensures.1 was

pub loop-aired-init : goal.loop-aired-init
loop-aired-init g c =
    record { kept = c.in_ok-aired.ensures.kept; taken = λ first was. subst (Taken g c.args.sink.now first c.args.output.now) (sym c.in_ok-aired.ensures.nothing) was }

pub loop-aired-preserved : goal.loop-aired-preserved
loop-aired-preserved g c =
    let d = c.args.planned.now in
    let before = c.loop-aired.aired in
    record {
      kept = c.in_ok-next_piece.ensures.kept;
      taken = λ first was. taken_on (Taken g c.args.sink.now first c.take.new.output) d before c.next_piece.new.self c.piece.result.now c.piece.ensures c.in_ok-next_piece.ensures.aired
          (c.in_ok-take.ensures.taken first (tape_so_far d before) (c.loop-aired.invariant.taken first was));
    }

pub loop-aired-smaller : goal.loop-aired-smaller
loop-aired-smaller g c =
    let left = c.is_done.ensures.left c.loop-aired-test.true in
    let on = c.in_ok-next_piece.ensures.on left in
    omega (arith, left, on)

pub returns-in_err-next_piece-clause-stopped : goal.returns-in_err-next_piece-clause-stopped
returns-in_err-next_piece-clause-stopped g c = λ first was.
    let sink = c.args.sink.now in
    let now = c.loop-aired.output in
    wanting_after (Wants g) (Taken g sink first now) (Failed g sink first now) c.args.planned.now c.loop-aired.aired c.from_residual-in_err-next_piece.result c.from_residual-in_err-next_piece.ensures.1
    c.loop-aired.invariant.kept (c.loop-aired.invariant.taken first was)

pub returns-in_err-take-clause-stopped : goal.returns-in_err-take-clause-stopped
returns-in_err-take-clause-stopped g c = λ first was.
    let sink = c.args.sink.now in
    let d = c.args.planned.now in
    let before = c.loop-aired.aired in
    let now = c.take.new.output in
    failed_at (Wants g) (Taken g sink first now) (Failed g sink first now) d before c.next_piece.new.self c.piece.result.now c.in_err-take.field-0.0 c.from_residual-in_err-take.result c.from_residual-in_err-take.ensures.1
    c.piece.ensures c.in_ok-next_piece.ensures.aired c.in_ok-next_piece.ensures.kept (λ rest. c.in_err-take.ensures.failed first (tape_so_far d before) rest (c.loop-aired.invariant.taken first was))

pub end-requires-clause-done : goal.end-requires-clause-done
end-requires-clause-done g c = c.is_done.ensures.done.0 c.loop-aired-test.false

pub returns-in_err-events-clause-stopped : goal.returns-in_err-events-clause-stopped
returns-in_err-events-clause-stopped g c = λ first was.
    let sink = c.args.sink.now in
    let now = c.loop-aired.output in
    wanting_after (Wants g) (Taken g sink first now) (Failed g sink first now) c.args.planned.now c.loop-aired.aired c.from_residual-in_err-events.result c.from_residual-in_err-events.ensures.1
    c.loop-aired.invariant.kept (c.loop-aired.invariant.taken first was)

pub returns-clause-taken : goal.returns-clause-taken
returns-clause-taken g c = λ first was.
    all_taken (Taken g c.args.sink.now first c.loop-aired.output) c.args.planned.now c.loop-aired.aired (c.is_done.ensures.done.0 c.loop-aired-test.false) (c.loop-aired.invariant.taken first was)

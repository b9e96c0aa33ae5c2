use Rattle.std.proofs.Common.{◌≡◌, ◌+◌, ◌++◌, ◌∙◌, ap, arith}
use Rattle.air_model.specs.Tapes.{TapeRead, tape_of, tape_read}
use Rattle.air_index.specs.IndexedTapes.{records_from}
use Rattle.air_index.proofs.BeamLemmas.{begins_more, slots_from}
use Rattle.air_index.proofs.CycleLemmas.{enough_for_cycle, left_after_cycle, left_read, none_left_out, nothing_written, written_after_cycle}
use Rattle.air_index.proofs.beams.put_cycles.Goals as goal

pub put_cycle-requires-clause-enough : goal.put_cycle-requires-clause-enough
put_cycle-requires-clause-enough c =
    enough_for_cycle c.args.plans.now c.args.first c.loop-done.done c.args.cycles (tape_read c.args.tape.now).records c.loop-done.buckets.records c.loop-done-test.true c.requires.counted
    c.loop-done.invariant.left

pub put_cycle-requires-clause-grammar : goal.put_cycle-requires-clause-grammar
put_cycle-requires-clause-grammar c =
    left_read (tape_read c.args.tape.now).records c.loop-done.buckets.records (slots_from c.args.plans.now (c.args.first + 1) c.loop-done.done) c.requires.grammar c.loop-done.invariant.left

pub loop-done-init : goal.loop-done-init
loop-done-init c = record {
  whole = ap (λ (t : TapeRead). t.cut) c.new-buckets.ensures ∙ c.requires.whole;
  left = ap (λ (t : TapeRead). t.records) c.new-buckets.ensures ∙ none_left_out c.args.plans.now (c.args.first + 1) (tape_read c.args.tape.now).records;
  written = nothing_written c.args.plans.now c.args.n (c.args.first + 1) (tape_read c.args.tape.now).records c.args.out.now.items;
}

pub loop-done-preserved : goal.loop-done-preserved
loop-done-preserved c =
    let bs = (tape_read c.args.tape.now).records in
    let inv = c.loop-done.invariant in
    record {
      whole = c.in_ok-put_cycle.ensures.whole;
      left = left_after_cycle c.args.plans.now c.args.first c.loop-done.done bs c.loop-done.buckets.records c.put_cycle.new.buckets.records inv.left c.in_ok-put_cycle.ensures.left;
      written = written_after_cycle c.args.plans.now c.args.n c.args.first c.loop-done.done bs c.loop-done.buckets.records c.args.out.now.items c.loop-done.out.items c.put_cycle.new.out.items
          inv.written inv.left c.in_ok-put_cycle.ensures.written;
    }

pub returns-clause-written : goal.returns-clause-written
returns-clause-written c =
    let end : c.loop-done.done ≡ c.args.cycles = omega (arith, c.loop-done-test.false, c.loop-done.auto.done-end) in
    c.loop-done.invariant.written ∙ ap (λ k. c.args.out.now.items ++ tape_of (records_from c.args.plans.now c.args.n (c.args.first + 1) k (tape_read c.args.tape.now).records)) end

pub returns-in_err-put_cycle-clause-begun : goal.returns-in_err-put_cycle-clause-begun
returns-in_err-put_cycle-clause-begun c =
    begins_more c.args.out.now.items c.loop-done.out.items c.put_cycle.new.out.items
    (tape_of (records_from c.args.plans.now c.args.n (c.args.first + 1) c.loop-done.done (tape_read c.args.tape.now).records)) c.loop-done.invariant.written c.put_cycle.ensures.begun

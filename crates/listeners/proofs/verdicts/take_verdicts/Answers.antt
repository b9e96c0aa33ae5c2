use Rattle.std.proofs.Common.{◌++◌, ◌∙◌, ap, sym}
use Rattle.receiver_core.specs.LinesGiven.{lines_given}
use Rattle.listeners.proofs.SettlingLemmas.{settles_last, settles_more, step_rests, with_lines}
use Rattle.listeners.proofs.verdicts.take_verdicts.Goals as goal

pub loop-verdict-preserved : goal.loop-verdict-preserved
loop-verdict-preserved c =
    let now = c.step.new.self in
    let given = lines_given c.step.result now.last in
    let line = ap (λ step. lines_given step now.last) c.in-Verdict.is in
    settles_more now given c.push_line.new.lines.items c.loop-verdict.invariant c.step.ensures.air c.step.ensures.reader c.step.ensures.state c.step.ensures.given
    (c.in_ok-push_line.ensures ∙ ap (λ ls. c.loop-verdict.lines.items ++ ls) (sym line))

pub returns : goal.returns
returns c =
    let now = c.step.new.self in
    let rests = step_rests c.step.result now.last c.loop-verdict.receiver now c.in_default.not-Verdict c.step.ensures.tells in
    record {
      settled = rests.1;
      state = settles_last now c.loop-verdict.invariant c.step.ensures.air c.step.ensures.reader (ap (λ ls. with_lines ls now.state) (sym rests.0) ∙ c.step.ensures.state) c.step.ensures.given;
      air = c.step.ensures.air ∙ c.loop-verdict.invariant.air;
      reader = c.step.ensures.reader ∙ c.loop-verdict.invariant.reader;
    }

use Rattle.std.proofs.Common.{◌≡◌, ◌≤◌, ◌++◌, ◌∙◌, Option, Some, refl, ap, sym}
use Rattle.std.specs.Prelude.{IsNone}
use Rattle.receiver_core.specs.LinesGiven.{lines_of}
use Rattle.listeners.proofs.EndLemmas.{ends_fewer, ends_last, ends_more, queries_in}
use Rattle.listeners.proofs.SettlingLemmas.{with_lines}
use Rattle.listeners.proofs.verdicts.end_queries.Goals as goal

not_none : {X : Type 0} {o : Option X} {x : X} → o ≡ Some x → IsNone o → ⊥
not_none is none = cc

pub loop-verdict-smaller : goal.loop-verdict-smaller
loop-verdict-smaller c =
    let now = c.end.new.self in
    let r = c.loop-verdict.receiver in
    let more = λ (past : queries_in r.reader ≤ r.state.query). let none : IsNone c.end.result = c.end.ensures.none.1 past in not_none c.in-Some.is none in
    ends_fewer r now (lines_of c.end.result now.last) c.end.ensures.state c.end.ensures.reader more

pub loop-verdict-preserved : goal.loop-verdict-preserved
loop-verdict-preserved c =
    let now = c.end.new.self in
    let line = ap (λ verdict. lines_of verdict now.last) c.in-Some.is in
    ends_more now (lines_of c.end.result now.last) c.push_line.new.lines.items c.loop-verdict.invariant c.end.ensures.settled c.end.ensures.air c.end.ensures.reader c.end.ensures.state c.end.ensures.given
    (c.in_ok-push_line.ensures ∙ ap (λ ls. c.loop-verdict.lines.items ++ ls) (sym line))

pub returns-clause-told : goal.returns-clause-told
returns-clause-told c =
    let now = c.end.new.self in
    let line = ap (λ verdict. lines_of verdict now.last) c.in_default.is in
    ends_last now c.loop-verdict.invariant (c.in_default.ensures.none.0 refl) (ap (λ ls. with_lines ls now.state) (sym line) ∙ c.end.ensures.state) c.end.ensures.given

use Rattle.std.proofs.Common.{◌≡◌, ◌<◌, ◌∙◌, [], ap, arith, sym, subst, length}
use Rattle.air_model.specs.Judges.{by_entries}
use Rattle.air_model.specs.Sessions.{State}
use Rattle.receiver_core.specs.declared.receivers.Step.TheVariants as given
use Rattle.receiver_core.specs.LastReads.{in_state, last_reads}
use Rattle.receiver_core.specs.LinesGiven.{StepTells, lines_given, lines_of}
use Rattle.receiver_core.specs.Receivers.{Receiver, steps_left}
use Rattle.receiver_core.specs.ReceiverSteps.{step}
use Rattle.receiver_core.specs.ReceiverFields.{receiver_in}
use Rattle.receiver_core.proofs.StepLemmas.{came, fewer_left, last_given, last_stepped, no_more_left, none_waits_now, one_waits_now, past, same_heard, settled_now, stepped_given, stepped_waits}
use Rattle.receiver_core.proofs.HeldCalls.{steps}
use Rattle.receiver_core.proofs.receivers.Receiver.step.Goals as goal
use Rattle.receiver_core.proofs.receivers.Receiver.step.Goals.{After-take-2, in-Some-take, in-None, in-None-2}

pub returns-in-Some-clause-state : goal.returns-in-Some-clause-state
returns-in-Some-clause-state c =
    let r = c.self.inside in
    let waits = sym c.take.ensures.value ∙ c.in-Some.is in
    ap (λ o. let t : State = record (receiver_in r).state { lines = lines_of o r.last } in t) (sym waits) ∙ ap (λ (t : Receiver). t.state) c.self.view_is
    ∙ sym (stepped_waits c.args.self.now (subst (λ (t : Receiver). 0 < length t.state.lines) c.self.view_is (one_waits_now r c.in-Some.verdict waits)))

pub returns-in-Some-clause-tells : goal.returns-in-Some-clause-tells
returns-in-Some-clause-tells c =
    let r = c.self.inside in
    subst (λ (old : Receiver). steps_left (receiver_in (record r { waiting = c.take.new.self })) < steps_left old) c.self.view_is
    (fewer_left r c.take.new.self c.in-Some.verdict (steps_left (receiver_in r)) c.take.ensures.after (sym c.take.ensures.value ∙ c.in-Some.is) (omega arith))

pub returns-in-Some-clause-last : goal.returns-in-Some-clause-last
returns-in-Some-clause-last c =
    let s = given.Verdict c.in-Some.verdict in
    last_given s c.self.inside.last ∙ ap (λ (r : Receiver). last_reads (lines_given s c.self.inside.last) r.last) c.self.view_is

-- No verdict waited before the settling.
none_waited : (c : After-take-2) → c.args.self.now.state.lines ≡ []
none_waited c = sym (ap (λ (t : Receiver). t.state.lines) c.self.view_is) ∙ none_waits_now c.self.inside (sym c.take.ensures.value ∙ c.in_default.is)

-- What settling came to is a step of the receiver as it was.
came_by_step : (c : After-take-2) → receiver_in c.self-2.inside ≡ in_state c.args.self.now (step (by_entries c.args.self.now.air.scheme) c.args.self.now.air c.args.self.now.reader c.args.self.now.state)
came_by_step c =
    let none = sym c.take.ensures.value ∙ c.in_default.is in
    c.self-2.view_is ∙ came c.self.inside c.take.new.self c.args.self.now c.settle_to_line.new.self c.self.view_is c.take.ensures.after none c.settle_to_line.ensures

pub returns-clause-state : goal.returns-clause-state
returns-clause-state c =
    let old = c.args.self.now in
    let r = c.self-2.inside in
    let a = (goal.at.returns-clause-state c).After-take-2 in
    let free = none_waited a in
    let is = came_by_step a in
    stepped_given old r free is c.match-take-2.result (elim c.match-take-2.branch [
      | in-Some-take w ↦ ap (λ s. lines_given s r.last) w.result-is ∙ ap (λ o. lines_of o r.last) (sym w.in-Some-take.is ∙ c.take-2.ensures.value)
      | in-None w ↦ ap (λ s. lines_given s r.last) w.result-is ∙ ap (λ o. lines_of o r.last) (sym w.in-None.is ∙ c.take-2.ensures.value)
      | in-None-2 w ↦ ap (λ s. lines_given s r.last) w.result-is ∙ ap (λ o. lines_of o r.last) (sym w.in-None.is ∙ c.take-2.ensures.value)
    ])

pub returns-clause-tells : goal.returns-clause-tells
returns-clause-tells c =
    let old = c.args.self.now in
    let r = c.self-2.inside in
    let a = (goal.at.returns-clause-tells c).After-take-2 in
    let free = none_waited a in
    let is = came_by_step a in
    let now = receiver_in (record r { waiting = c.take-2.new.self }) in
    elim c.match-take-2.branch [
      | in-Some-take w ↦ subst (λ s. StepTells s old now) (sym w.result-is)
          (fewer_left r c.take-2.new.self w.in-Some-take.verdict (steps_left old) c.take-2.ensures.after (sym c.take-2.ensures.value ∙ w.in-Some-take.is) (no_more_left old r free is))
      | in-None w ↦ subst (λ s. StepTells s old now) (sym w.result-is)
          (settled_now old r free is c.take-2.new.self c.take-2.ensures.after (sym c.take-2.ensures.value ∙ w.in-None.is), w.has.ensures.0 w.if-has.true)
      | in-None-2 w ↦ subst (λ s. StepTells s old now) (sym w.result-is)
          (settled_now old r free is c.take-2.new.self c.take-2.ensures.after (sym c.take-2.ensures.value ∙ w.in-None.is), past w.has.result r.query (length r.reader.queries) w.has.ensures.1 w.if-has.false)
    ]

pub returns-clause-last : goal.returns-clause-last
returns-clause-last c =
    let old = c.args.self.now in
    let r = c.self-2.inside in
    let a = (goal.at.returns-clause-last c).After-take-2 in
    let free = none_waited a in
    let is = came_by_step a in
    last_stepped old r free is c.match-take-2.result (elim c.match-take-2.branch [
      | in-Some-take w ↦ ap (λ s. lines_given s r.last) w.result-is ∙ ap (λ o. lines_of o r.last) (sym w.in-Some-take.is ∙ c.take-2.ensures.value)
      | in-None w ↦ ap (λ s. lines_given s r.last) w.result-is ∙ ap (λ o. lines_of o r.last) (sym w.in-None.is ∙ c.take-2.ensures.value)
      | in-None-2 w ↦ ap (λ s. lines_given s r.last) w.result-is ∙ ap (λ o. lines_of o r.last) (sym w.in-None.is ∙ c.take-2.ensures.value)
    ])

pub returns-clause-heard : goal.returns-clause-heard
returns-clause-heard c =
    let old = c.args.self.now in
    let r = c.self-2.inside in
    let a = (goal.at.returns-clause-heard c).After-take-2 in
    let free = none_waited a in
    let is = came_by_step a in
    same_heard old r free is

pub returns-in-Some-clause-held : goal.returns-in-Some-clause-held
returns-in-Some-clause-held c =
    steps c.args.self.now _ _ (returns-in-Some-clause-state c) (ap (λ (t : Receiver). t.air) c.self.view_is) (ap (λ (t : Receiver). t.reader) c.self.view_is)

pub returns-clause-held : goal.returns-clause-held
returns-clause-held c =
    let old = c.args.self.now in
    let a = (goal.at.returns-clause-held c).After-take-2 in
    let is = came_by_step a in
    steps old _ _ (returns-clause-state c) (ap (λ (t : Receiver). t.air) is) (ap (λ (t : Receiver). t.reader) is)

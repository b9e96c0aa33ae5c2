-- What a receiver hands out.
use Rattle.std.specs.Prelude.{◌<◌, ◌≤◌, List, [], ◌∷◌, length, Option, Some, None}
use Rattle.air_base.specs.declared.verdicts.ReadOf.{ReadOf}
use Rattle.air_base.specs.declared.verdicts.Verdict.{Verdict}
use Rattle.air_model.specs.Sessions.{SessionLine}
use Rattle.receiver_core.specs.declared.receivers.Step.{Step}
use Rattle.receiver_core.specs.declared.receivers.Step.TheVariants as step
use Rattle.receiver_core.specs.Receivers.{Receiver, IsSettled, steps_left}

-- The line of a verdict with its reads; none without a verdict.
abbrev pub lines_of : Option Verdict → List ReadOf → List SessionLine
lines_of None reads = []
lines_of (Some v) reads = record { verdict = v; reads = reads } ∷ []

-- The line that a step hands out.
abbrev pub lines_given : Step → List ReadOf → List SessionLine
lines_given (step.Verdict v) reads = record { verdict = v; reads = reads } ∷ []
lines_given step.Waiting reads = []
lines_given step.Done reads = []

-- A verdict leaves fewer to hand out; else the receiver is settled, waiting where a query is left, done where none is.
abbrev pub StepTells : Step → Receiver → Receiver → Type 0
StepTells (step.Verdict v) before now = steps_left now < steps_left before
StepTells step.Waiting before now = IsSettled now × (now.state.query < length now.reader.queries)
StepTells step.Done before now = IsSettled now × (length now.reader.queries ≤ now.state.query)

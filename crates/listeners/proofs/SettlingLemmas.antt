-- A receiver whose verdicts are handed out one by one settles as the rule says; so does one whose end is taken so.
-- The loops of `verdicts` cite these. Lines that were handed out stand before those of the state (`after`).
use Rattle.std.proofs.Common.{◌≡◌, Bool, true, false, cond, nat_lt, List, [], ◌++◌, length, refl, sym, ◌∙◌, ap, arith}
use Rattle.std.proofs.lemmas.Bool.{ltb-true}
use Rattle.std.proofs.lemmas.List.{append-nil}
use Rattle.air_model.specs.Judges.{Judge, by_entries}
use Rattle.air_model.specs.Sessions.{SessionLine, State, settle}
use Rattle.air_model.specs.SessionLaws.{after}
use Rattle.air_model.proofs.LineLemmas.{lines}
use Rattle.receiver_core.proofs.SettlingLemmas.{on_the_way}
use Rattle.air_base.specs.declared.verdicts.ReadOf.{ReadOf}
use Rattle.air_base.specs.declared.verdicts.Verdict.{Verdict}
use Rattle.receiver_core.specs.declared.receivers.Step.{Step}
use Rattle.receiver_core.specs.declared.receivers.Step.TheVariants as step
use Rattle.receiver_core.specs.LinesGiven.{StepTells, lines_given}
use Rattle.receiver_core.specs.ReceiverSteps
use Rattle.receiver_core.specs.Receivers.{IsSettled, Receiver, state_after_step}

-- A state with these lines in place of its own.
abbrev pub with_lines : List SessionLine → State → State
with_lines ls s = record s { lines = ls }

-- The judge of a receiver.
abbrev pub judge_of : Receiver → Judge
judge_of r = by_entries r.air.scheme

-- Where a state has no lines of its own, lines that it is given are those behind the ones handed out.
pub after_given : (L given : List SessionLine) (s : State) → s.lines ≡ [] → after (L ++ given) s ≡ after L (with_lines given s)
after_given L given s none = ap (λ ls. with_lines ls s) (ap (λ ls. (L ++ given) ++ ls) none ∙ append-nil (L ++ given))

module _ (r : Receiver) where
  -- a step leaves what settling comes to
  stepped_settles : settle (judge_of r) r.air r.reader (state_after_step r) ≡ settle (judge_of r) r.air r.reader r.state
  stepped_settles = by (nat_lt 0 (length r.state.lines))
    where
      by : (b : Bool) → settle (judge_of r) r.air r.reader (cond b r.state (ReceiverSteps.step (judge_of r) r.air r.reader r.state)) ≡ settle (judge_of r) r.air r.reader r.state
      by true = refl
      by false = (on_the_way (judge_of r) r.air r.reader r.state).steps

  -- a step without a line settles
  no_line_settles : (state_after_step r).lines ≡ [] → state_after_step r ≡ settle (judge_of r) r.air r.reader r.state
  no_line_settles none = by (nat_lt 0 (length r.state.lines)) refl none
    where
      by : (b : Bool) → nat_lt 0 (length r.state.lines) ≡ b → (cond b r.state (ReceiverSteps.step (judge_of r) r.air r.reader r.state)).lines ≡ []
          → cond b r.state (ReceiverSteps.step (judge_of r) r.air r.reader r.state) ≡ settle (judge_of r) r.air r.reader r.state
      by true some none = absurd (let more = ltb-true 0 (length r.state.lines) some in let empty : length r.state.lines ≡ 0 = ap length none in omega arith)
      by false waits none = (on_the_way (judge_of r) r.air r.reader r.state).no_line none

  -- the same with lines that were handed out
  given_settles : (L given : List SessionLine) (s : State) → with_lines given s ≡ state_after_step r → s.lines ≡ []
      → settle (judge_of r) r.air r.reader (after (L ++ given) s) ≡ settle (judge_of r) r.air r.reader (after L r.state)
  given_settles L given s told none =
      ap (settle (judge_of r) r.air r.reader) (after_given L given s none ∙ ap (after L) told)
      ∙ (lines (judge_of r) r.air r.reader L (state_after_step r)).settle ∙ ap (after L) stepped_settles ∙ sym ((lines (judge_of r) r.air r.reader L r.state).settle)

  none_settles : (L : List SessionLine) (s : State) → with_lines [] s ≡ state_after_step r → s.lines ≡ [] → after L s ≡ settle (judge_of r) r.air r.reader (after L r.state)
  none_settles L s told none =
      let same : s ≡ state_after_step r = ap (λ ls. with_lines ls s) none ∙ told in
      ap (after L) (same ∙ no_line_settles (ap (λ (t : State). t.lines) (sym same) ∙ none)) ∙ sym ((lines (judge_of r) r.air r.reader L r.state).settle)

-- From one receiver with lines to another with more, settling comes to the same.
pub record Settles (before : Receiver) (L : List SessionLine) (now : Receiver) (M : List SessionLine) : Type 0 where
  pub air : now.air ≡ before.air
  pub reader : now.reader ≡ before.reader
  pub state : settle (judge_of before) before.air before.reader (after M now.state) ≡ settle (judge_of before) before.air before.reader (after L before.state)

-- Settling a receiver like another.
settle_like : (r before : Receiver) (s : State) → r.air ≡ before.air → r.reader ≡ before.reader → settle (judge_of before) before.air before.reader s ≡ settle (judge_of r) r.air r.reader s
settle_like r before s air reader = ap (λ a. settle (by_entries a.scheme) a before.reader s) (sym air) ∙ ap (λ d. settle (judge_of r) r.air d s) (sym reader)

-- One more line was handed out.
pub settles_more : {before : Receiver} {L : List SessionLine} {r : Receiver} {M : List SessionLine} (now : Receiver) (given all : List SessionLine) → Settles before L r M → now.air ≡ r.air → now.reader ≡ r.reader
    → with_lines given now.state ≡ state_after_step r → now.state.lines ≡ [] → all ≡ M ++ given → Settles before L now all
settles_more {before} {L} {r} {M} now given all h air reader told none e = record {
  air = air ∙ h.air;
  reader = reader ∙ h.reader;
  state = ap (λ ls. settle (judge_of before) before.air before.reader (after ls now.state)) e ∙ settle_like r before (after (M ++ given) now.state) h.air h.reader
      ∙ given_settles r M given now.state told none ∙ sym (settle_like r before (after M r.state) h.air h.reader) ∙ h.state;
}

-- No line was left.
pub settles_last : {before : Receiver} {L : List SessionLine} {r : Receiver} {M : List SessionLine} (now : Receiver) → Settles before L r M → now.air ≡ r.air → now.reader ≡ r.reader
    → with_lines [] now.state ≡ state_after_step r → now.state.lines ≡ [] → after M now.state ≡ settle (judge_of before) before.air before.reader (after L before.state)
settles_last {before} {L} {r} {M} now h air reader told none =
    none_settles r M now.state told none ∙ sym (settle_like r before (after M r.state) h.air h.reader) ∙ h.state

-- A step that gives no verdict gives no line, and leaves a settled receiver.
pub step_rests : (s : Step) (reads : List ReadOf) (before now : Receiver) → ((v : Verdict) → s ≡ step.Verdict v → ⊥) → StepTells s before now → (lines_given s reads ≡ []) × IsSettled now
step_rests (step.Verdict v) reads before now never tells = absurd (never v refl)
step_rests step.Waiting reads before now never tells = (refl, tells.0)
step_rests step.Done reads before now never tells = (refl, tells.0)

use Rattle.std.proofs.Common.{length, ap, ◌∙◌}
use Rattle.air_model.specs.Sessions.{Reader, State}
use Rattle.receiver_core.specs.Receivers.{Receiver, state_after_step}
use Rattle.session_pins.proofs.CopyLemmas.{stepped, unlined, waits}
use Rattle.session_pins.proofs.receiver_core_pins.abort_on_kept_copy.Goals as goal

pub returns : goal.returns
returns c =
    let state = c.step.ensures.state ∙ ap state_after_step c.requires ∙ stepped in
    let now = unlined _ _ _ state c.step.ensures.given in
    let reader = c.step.ensures.reader ∙ ap (λ (r : Receiver). r.reader) c.requires in
    record {
      step = waits _ _ _ (ap (λ (s : State). s.lines) state) c.step.ensures.tells (ap (λ (r : Reader). length r.queries) reader) (ap (λ (s : State). s.query) now);
      state = now;
    }

use Rattle.std.proofs.Common.{false, true, not, IsTrue, ◌∙◌, ap, refl, subst, sym}
use Rattle.std.specs.Option.{is_some}
use Rattle.air_model.specs.Sessions.{copy_of, wanted}
use Rattle.receiver_core.specs.Receivers.{IsSettled, Receiver}
use Rattle.receiver_core.specs.ReceiverFields.{receiver_in}
use Rattle.receiver_core.proofs.StateLemmas.{settled_is}
use Rattle.receiver_core.proofs.receivers.Receiver.settled.Goals as goal

pub returns-then-is_none : goal.returns-then-is_none
returns-then-is_none c =
    let b = not c.has_copy.result in
    subst (λ (r : Receiver). (IsTrue b → IsSettled r) × (IsSettled r → IsTrue b)) c.self.view_is
    (settled_is c.self.inside true c.has_copy.result (c.is_none.ensures ∙ ap not c.if-is_none.true) (c.has_copy.ensures ∙ ap (λ (r : Receiver). is_some (copy_of (wanted r.reader r.state) r.state)) (sym c.self.view_is)))

pub returns-else-is_none : goal.returns-else-is_none
returns-else-is_none c =
    let v = receiver_in c.self.inside in
    subst (λ b. (IsTrue b → IsSettled c.args.self.now) × (IsSettled c.args.self.now → IsTrue b)) (sym c.if-is_none.false)
    (subst (λ (r : Receiver). (IsTrue false → IsSettled r) × (IsSettled r → IsTrue false)) c.self.view_is
    (settled_is c.self.inside false (is_some (copy_of (wanted v.reader v.state) v.state)) (c.is_none.ensures ∙ ap not c.if-is_none.false) refl))

use Rattle.std.proofs.Common.{[], ◌∙◌, ◌<◌, ap, get_or, subst}
use Rattle.std.specs.Prelude.{IfSome}
use Rattle.std.specs.List.{slice_get}
use Rattle.air_model.specs.Sessions.{query_of, wanted}
use Rattle.receiver_core.specs.HeldTruths.{first_unheld}
use Rattle.receiver_core.specs.Receivers.{Receiver}
use Rattle.receiver_core.specs.ReceiverFields.{receiver_in}
use Rattle.receiver_core.proofs.KeepsLemmas.{wanted_within}
use Rattle.receiver_core.proofs.WantedLemmas.{distinct_at, wanted_first}
use Rattle.receiver_core.proofs.receivers.Receiver.wanted.Goals as goal

pub returns-clause-told : goal.returns-clause-told
unfolding wanted query_of
returns-clause-told c = c.item.ensures ∙ ap (slice_get (get_or c.self.inside.reader.queries c.self.inside.query [])) c.len.ensures ∙ ap (λ (r : Receiver). wanted r.reader r.state) c.self.view_is

pub returns-clause-first : goal.returns-clause-first
unfolding wanted query_of
returns-clause-first c =
    let r = c.self.inside in
    c.item.ensures ∙ ap (slice_get (get_or r.reader.queries r.query [])) c.len.ensures
    ∙ wanted_first r.reader (receiver_in r).state (distinct_at r.reader r.query c.self.invariant.deck.distinct) c.self.invariant.held.first
    ∙ ap (λ (v : Receiver). first_unheld v.reader v.state) c.self.view_is

pub returns-clause-within : goal.returns-clause-within
unfolding wanted query_of
returns-clause-within c =
    let r = c.self.inside in
    subst (λ (v : Receiver). IfSome c.item.result (λ i. i < v.air.items)) c.self.view_is
    (wanted_within r c.item.result c.self.invariant (c.item.ensures ∙ ap (slice_get (get_or r.reader.queries r.query [])) c.len.ensures))

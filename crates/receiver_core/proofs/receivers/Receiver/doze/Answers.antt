use Rattle.std.proofs.Common.{◌∙◌, ap, length, max, subst, sym}
use Rattle.air_model.specs.Judges.{by_entries}
use Rattle.air_model.specs.SessionLaws.{dozed_through}
use Rattle.air_model.proofs.DozeLemmas as doze
use Rattle.receiver_core.specs.Receivers.{IsSettled, Receiver}
use Rattle.receiver_core.proofs.HeldCalls.{dozes}
use Rattle.receiver_core.proofs.StateLemmas.{dozed_settled}
use Rattle.receiver_core.proofs.receivers.Receiver.doze.Goals as goal

pub returns-clause-counted : goal.returns-clause-counted
returns-clause-counted c = ap (λ (r : Receiver). dozed_through c.args.buckets r.state.now r.state) (c.self.view_is ∙ c.come_to.ensures)

pub returns-clause-state : goal.returns-clause-state
returns-clause-state c = λ heard unwanted long newest.
    let old = c.args.self.now in
    returns-clause-counted c
    ∙ ap (λ n. dozed_through n (max old.state.now c.args.cycle) old.state) (sym long)
    ∙ ap (λ m. dozed_through (length heard) m old.state) (sym newest)
    ∙ sym (doze.dozes (by_entries old.air.scheme) old.air old.reader heard old.state unwanted)

pub returns-clause-settled : goal.returns-clause-settled
returns-clause-settled c =
    let old = c.args.self.now in
    let counted = ap (λ (r : Receiver). let t : Receiver = record r { state = dozed_through c.args.buckets r.state.now r.state } in t) (c.self.view_is ∙ c.come_to.ensures) in
    subst IsSettled (sym counted) (dozed_settled old c.args.buckets (max old.state.now c.args.cycle) c.requires.settled)

pub returns-clause-held : goal.returns-clause-held
returns-clause-held c =
    let old = c.args.self.now in
    let is = c.self.view_is ∙ c.come_to.ensures in
    dozes old _ c.args.buckets (max old.state.now c.args.cycle) (returns-clause-counted c) (ap (λ (r : Receiver). r.air) is) (ap (λ (r : Receiver). r.reader) is)

use Rattle.std.proofs.Common.{◌<◌, ◌≤◌, None, arith, ◌∙◌, ap, sym, subst, length}
use Rattle.air_base.specs.declared.verdicts.VerdictKind.TheVariants.{Unfinished}
use Rattle.air_model.specs.Sessions.{State}
use Rattle.air_model.proofs.MomentLemmas.{none_from}
use Rattle.pix_cache.specs.Caches.{Cache}
use Rattle.receiver_core.specs.LinesGiven.{lines_of}
use Rattle.receiver_core.specs.Receivers.{Receiver}
use Rattle.receiver_core.specs.ReceiverFields.{receiver_in}
use Rattle.receiver_core.proofs.KeepsLemmas.{emptied}
use Rattle.receiver_core.proofs.StateLemmas.{still_left}
use Rattle.receiver_core.proofs.StepLemmas.{bare_settled, ended, ended_copies, ended_left, ended_past, ended_waits, given_bare, last_ended, past, without_copies}
use Rattle.receiver_core.proofs.HeldCalls.{ends}
use Rattle.receiver_core.proofs.receivers.Receiver.end.Goals as goal

pub drop_all-requires-clause-numbers : goal.drop_all-requires-clause-numbers
drop_all-requires-clause-numbers c = ap length c.self.invariant.cache.pix ∙ c.self.invariant.deck.numbers c.self.inside.latest ∙ sym c.items.ensures

pub drop_all-requires-clause-within : goal.drop_all-requires-clause-within
drop_all-requires-clause-within c = λ i d l. let below = (c.self.invariant.cache.copies i d l).within in let all = c.items.ensures in omega arith

pub invariant_of-self-2 : goal.invariant_of-self-2
invariant_of-self-2 c = emptied c.self.inside c.drop_all.new.copies c.self.invariant c.drop_all.ensures

pub invariant_of-self : goal.invariant_of-self
invariant_of-self c = emptied c.self.inside c.drop_all.new.copies c.self.invariant c.drop_all.ensures

pub returns-then-not-has-clause-state : goal.returns-then-not-has-clause-state
returns-then-not-has-clause-state c =
    let r = c.self.inside in
    let v = receiver_in r in
    ap (λ (d : Cache). let t : State = record v.state { copies = d.copies; lines = lines_of None r.last } in t) c.drop_all.ensures
    ∙ ap (λ (old : Receiver). let t : State = record (without_copies old).state { lines = lines_of None old.last } in t) c.self.view_is
    ∙ ended_past c.args.self.now c.requires.settled (subst (λ (t : Receiver). length t.reader.queries ≤ t.state.query) c.self.view_is (past c.has.result r.query (length r.reader.queries) c.has.ensures.1 c.if-not-has.true))

pub returns-then-not-has-clause-settled : goal.returns-then-not-has-clause-settled
returns-then-not-has-clause-settled c =
    let r = c.self.inside in
    bare_settled (receiver_in (record r { copies = c.drop_all.new.copies })) (ap (λ (t : Receiver). t.state.lines) c.self.view_is ∙ c.requires.settled.given) (ap (λ (d : Cache). d.copies) c.drop_all.ensures)

pub returns-then-not-has-clause-last : goal.returns-then-not-has-clause-last
returns-then-not-has-clause-last c = last_ended None c.self.inside.last c.args.self.now.last (λ none. ap (λ (t : Receiver). t.last) c.self.view_is)

pub next_query-requires : goal.next_query-requires
next_query-requires c =
    let old = c.args.self.now in
    still_left (without_copies old) c.give.new.self Unfinished (given_bare c.self.inside old c.give.new.self c.drop_all.new.copies c.self.view_is c.drop_all.ensures c.give.ensures)
    (subst (λ (t : Receiver). t.state.query < length t.reader.queries) c.self.view_is (c.has.ensures.0 c.if-not-has.false))

pub returns-clause-state : goal.returns-clause-state
returns-clause-state c =
    let old = c.args.self.now in
    let v = receiver_in c.self-2.inside in
    let given = given_bare c.self.inside old c.give.new.self c.drop_all.new.copies c.self.view_is c.drop_all.ensures c.give.ensures in
    ap (λ o. let t : State = record v.state { lines = lines_of o v.last } in t) c.take.ensures.value
    ∙ ended_left old v (c.self-2.view_is ∙ ended (without_copies old) c.give.new.self c.next_query.new.self given c.next_query.ensures)
    (subst (λ (t : Receiver). t.state.query < length t.reader.queries) c.self.view_is (c.has.ensures.0 c.if-not-has.false))

pub returns-clause-none : goal.returns-clause-none
returns-clause-none c =
    let old = c.args.self.now in
    let given = given_bare c.self.inside old c.give.new.self c.drop_all.new.copies c.self.view_is c.drop_all.ensures c.give.ensures in
    let here : old.state.query < length old.reader.queries = subst (λ (t : Receiver). t.state.query < length t.reader.queries) c.self.view_is (c.has.ensures.0 c.if-not-has.false) in
    (λ none. absurd (ended_waits (without_copies old) c.self-2.inside (c.self-2.view_is ∙ ended (without_copies old) c.give.new.self c.next_query.new.self given c.next_query.ensures) (sym c.take.ensures.value ∙ none_from c.take.result none)), λ beyond. absurd (omega arith))

pub returns-clause-settled : goal.returns-clause-settled
returns-clause-settled c =
    let old = c.args.self.now in
    let r = c.self-2.inside in
    let given = given_bare c.self.inside old c.give.new.self c.drop_all.new.copies c.self.view_is c.drop_all.ensures c.give.ensures in
    bare_settled (receiver_in (record r { waiting = c.take.new.self })) (ap (λ o. lines_of o r.last) c.take.ensures.after)
    (ended_copies old (receiver_in r) (c.self-2.view_is ∙ ended (without_copies old) c.give.new.self c.next_query.new.self given c.next_query.ensures))

pub returns-clause-last : goal.returns-clause-last
returns-clause-last c =
    let old = c.args.self.now in
    let given = given_bare c.self.inside old c.give.new.self c.drop_all.new.copies c.self.view_is c.drop_all.ensures c.give.ensures in
    last_ended c.take.result c.self-2.inside.last old.last
    (λ none. absurd (ended_waits (without_copies old) c.self-2.inside (c.self-2.view_is ∙ ended (without_copies old) c.give.new.self c.next_query.new.self given c.next_query.ensures) (sym c.take.ensures.value ∙ none)))

pub returns-then-not-has-clause-held : goal.returns-then-not-has-clause-held
returns-then-not-has-clause-held c =
    ends c.args.self.now _ _ (returns-then-not-has-clause-state c) (ap (λ (t : Receiver). t.air) c.self.view_is) (ap (λ (t : Receiver). t.reader) c.self.view_is)

pub returns-clause-held : goal.returns-clause-held
returns-clause-held c =
    let old = c.args.self.now in
    let v = receiver_in c.self-2.inside in
    let given = given_bare c.self.inside old c.give.new.self c.drop_all.new.copies c.self.view_is c.drop_all.ensures c.give.ensures in
    let is = c.self-2.view_is ∙ ended (without_copies old) c.give.new.self c.next_query.new.self given c.next_query.ensures in
    ends old _ _ (returns-clause-state c) (ap (λ (t : Receiver). t.air) is) (ap (λ (t : Receiver). t.reader) is)

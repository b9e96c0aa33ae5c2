use Rattle.std.proofs.Common.{ap, ◌∙◌, sym, subst, Some, arith}
use Rattle.turnstile.specs.PassEntries.{Continues}
use Rattle.turnstile.proofs.SeatLemmas.{rests_outside}
use Rattle.turnstile.proofs.TicketLemmas.{takes}
use Rattle.turnstile.proofs.ServeLemmas.{serves}
use Rattle.turnstile.proofs.EnterLemmas.{enters, took, slot_held}
use Rattle.turnstile.proofs.turnstiles.Turnstile.enter.Goals as goal

pub fetch_add-ticket-requires : goal.fetch_add-ticket-requires
fetch_add-ticket-requires g c =
    let s = c.pass.invariant in
    let two = c.self.invariant.0 in
    let noted = ap (λ p. p.turn) c.pass.view_is ∙ c.requires.outside in
    let o = rests_outside _ s noted in
    (ap (λ p. p.turnstile) c.pass.view_is ∙ (c.requires.own ∙ sym c.self.view_is), omega arith, takes _ _ _ _ _ o.0 s.live s.calm noted)

pub load-served-requires : goal.load-served-requires
load-served-requires g c =
    let two = c.self.invariant.0 in
    let noted = ap (λ p. p.turn) c.pass.view_is ∙ c.requires.outside in
    let o = rests_outside _ c.pass.invariant noted in
    let e = c.fetch_add-ticket.ensures in
    let i = c.loop.invariant in (
      i.0 ∙ (e.0 ∙ (ap (λ p. p.turnstile) c.pass.view_is ∙ (c.requires.own ∙ sym c.self.view_is))),
      omega arith,
      serves _ _ _ _ _ (ap (λ m. m.1) i.1 ∙ (ap (λ m. m.1) e.2 ∙ o.1)) (ap (λ m. m.0.noted) i.1 ∙ (ap (λ m. m.0.noted) e.2 ∙ noted)),
    )

pub exchange-requires : goal.exchange-requires
exchange-requires g c =
    let noted = ap (λ p. p.turn) c.pass.view_is ∙ c.requires.outside in
    let held = rests_outside _ c.pass.invariant noted in
    let e = c.fetch_add-ticket.ensures in
    let i = c.loop.invariant in
    let l = c.load-served.ensures in
    let o = enters g.K.Chronicle.entries g.K.Chronicle.base c.pass.inside.seat.me c.fetch_add-ticket.new.seat.me c.loop.pass-inside.seat.me c.load-served.new.seat.me c.fetch_add-ticket.result c.load-served.result e.2 i.1 l.2 c.if-served-ticket.true in (
      l.0 ∙ (i.0 ∙ (e.0 ∙ (ap (λ p. p.turnstile) c.pass.view_is ∙ (c.requires.own ∙ sym c.self.view_is)))),
      (Some o.0, slot_held g.K.Chronicle.entries g.K.Chronicle.base c.pass.inside.seat.me c.load-served.new.seat.me c.fetch_add-ticket.result o.0 o.1),
    )

pub returns-then-served-ticket-clause-list : goal.returns-then-served-ticket-clause-list
returns-then-served-ticket-clause-list g c =
    let o = enters g.K.Chronicle.entries g.K.Chronicle.base c.pass.inside.seat.me c.fetch_add-ticket.new.seat.me c.loop.pass-inside.seat.me c.load-served.new.seat.me c.fetch_add-ticket.result c.load-served.result c.fetch_add-ticket.ensures.2 c.loop.invariant.1 c.load-served.ensures.2 c.if-served-ticket.true in
    let t = took g.K.Chronicle.entries g.K.Chronicle.base c.pass.inside.seat.me c.load-served.new.seat.me c.exchange.new.seat.me c.fetch_add-ticket.result o.0 c.in-Some-exchange.value c.exchange.result o.1 c.exchange.ensures.2 c.exchange.ensures.3 c.in-Some-exchange.is in
    subst (λ p. Continues p.numbers p.seen (g.K.Chronicle.entries c.in-Some-exchange.value)) c.pass.view_is
    (subst (λ x. Continues c.pass.inside.seat.me.0.sight.numbers c.pass.inside.seat.me.0.sight.entries (g.K.Chronicle.entries x)) t.0 o.3)

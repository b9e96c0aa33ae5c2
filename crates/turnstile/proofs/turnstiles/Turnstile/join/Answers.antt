use Rattle.std.proofs.Common.{ap, ◌∙◌, subst, sym, arith}
use lib.ListN.{get_elem?}
use Rattle.turnstile.specs.PassEntries.{Continues}
use Rattle.turnstile.proofs.EntryLists.{longer_goes_on}
use Rattle.turnstile.proofs.SeatLemmas.{rests_outside}
use Rattle.turnstile.proofs.JoinLemmas.{joins, compares}
use Rattle.turnstile.proofs.turnstiles.Turnstile.join.Goals as goal

pub join_seat-requires : goal.join_seat-requires
join_seat-requires g c =
    let two = c.self.invariant.0 in
    let noted = ap (λ p. p.turn) c.pass.view_is ∙ c.requires.outside.0 in
    let noted' = ap (λ p. p.turn) c.other.view_is ∙ c.requires.outside.1 in
    let o = rests_outside _ c.pass.invariant noted in
    let o' = rests_outside _ c.other.invariant noted' in (
      ap (λ p. p.turnstile) c.pass.view_is ∙ (c.requires.own.0 ∙ sym c.self.view_is),
      ap (λ p. p.turnstile) c.other.view_is ∙ (c.requires.own.1 ∙ sym c.self.view_is),
      o'.1,
      omega arith,
      joins _ _ _ _ _ _ o.0 noted c.pass.invariant.live o'.0 noted',
    )

pub load-requires : goal.load-requires
load-requires g c =
    let two = c.self.invariant.0 in
    let noted = ap (λ p. p.turn) c.pass.view_is ∙ c.requires.outside.0 in
    let e = c.join_seat.ensures in (
      e.0 ∙ (ap (λ p. p.turnstile) c.pass.view_is ∙ (c.requires.own.0 ∙ sym c.self.view_is)),
      omega arith,
      compares _ _ _ _ _ (ap (λ m. m.0.noted) e.2 ∙ noted),
    )

pub returns-clause-mine : goal.returns-clause-mine
returns-clause-mine g c =
    let e = c.join_seat.ensures.2 in
    let l = c.load.ensures.2 in
    let now = l.1.1 in
    let t = longer_goes_on _ _ _ _ _ (now 0 _ (ap (λ m. get_elem? m.0.old 0) e)) (now 1 _ (ap (λ m. get_elem? m.0.old 1) e)) in
    let is = ap (λ m. m.0.sight.entries) l.0 ∙ ap (λ m. m.0.sight.entries) e in
    subst (λ p. Continues p.numbers p.seen c.load.new.seat.me.0.sight.entries) c.pass.view_is (subst (Continues _ _) (sym is) t.0)

pub returns-clause-other : goal.returns-clause-other
returns-clause-other g c =
    let e = c.join_seat.ensures.2 in
    let l = c.load.ensures.2 in
    let now = l.1.1 in
    let t = longer_goes_on _ _ _ _ _ (now 0 _ (ap (λ m. get_elem? m.0.old 0) e)) (now 1 _ (ap (λ m. get_elem? m.0.old 1) e)) in
    let is = ap (λ m. m.0.sight.entries) l.0 ∙ ap (λ m. m.0.sight.entries) e in
    subst (λ p. Continues p.numbers p.seen c.load.new.seat.me.0.sight.entries) c.other.view_is (subst (Continues _ _) (sym is) t.1)

use Rattle.std.proofs.Common.{ap, ◌∙◌, subst, sym, arith}
use Rattle.std.specs.Prelude.{IfSome}
use Rattle.turnstile.specs.PassEntries.{Lengthens}
use Rattle.turnstile.proofs.SeatLemmas.{holds_inside, some_of}
use Rattle.turnstile.proofs.LeaveLemmas.{leaves_filled}
use Rattle.turnstile.proofs.turnstiles.Turnstile.leave.Goals as goal

pub fetch_add-requires : goal.fetch_add-requires
fetch_add-requires g c =
    let two = c.self.invariant.0 in
    let t = some_of _ c.requires.inside in
    let noted = ap (λ p. p.turn) c.pass.view_is ∙ t.1 in
    let m = subst (λ o. IfSome o (λ given. Lengthens c.args.pass.now.numbers given (g.K.Chronicle.entries c.args.turn.value))) t.1 c.requires.list in
    let own = subst (λ p. Lengthens p.numbers t.0 (g.K.Chronicle.entries c.args.turn.value)) (sym c.pass.view_is) m in
    let e = c.exchange-away.ensures in (
      e.0 ∙ (ap (λ p. p.turnstile) c.pass.view_is ∙ (c.requires.own ∙ sym c.self.view_is)),
      omega arith,
      leaves_filled _ _ _ _ _ _ _ _ own.0 e.3 (holds_inside _ _ c.pass.invariant noted) noted own.1 own.2 (ap (λ p. p.base) c.pass.view_is ∙ c.requires.base),
    )

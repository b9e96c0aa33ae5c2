use Rattle.std.proofs.Common.{◌≡◌, ◌∙◌, Bool, Some, false, slice_get, subst, arith}
use Rattle.air_model.specs.Ethers.{Odds}
use Rattle.air_ether.specs.HeardPlaces.{places_of}
use Rattle.air_ether.proofs.EtherLemmas.{places_get}
use Rattle.air_ether.proofs.place_ether.PlaceEther.next_before.Goals as goal

pub returns-in-Some-clause-given : goal.returns-in-Some-clause-given
returns-in-Some-clause-given c = λ seed number given so_far.
    let inv = c.loop-place.invariant in
    let n = c.loop-place.self.pushes in
    let p = c.in-Some.place in
    let at = c.in-Some.ensures.given seed number given (inv.follows seed number given so_far) in
    let mine = subst (λ (o : Odds). slice_get (places_of seed number o n c.loop-place.self.ended) given ≡ Some p) inv.odds at in
    let opened = subst (λ (b : Bool). slice_get (places_of seed number c.args.self.now.odds n b) given ≡ Some p) inv.opened mine in
    places_get seed number c.args.self.now.odds n c.args.last given p false inv.upto opened

pub returns-in-Some-clause-follows : goal.returns-in-Some-clause-follows
returns-in-Some-clause-follows c = λ seed number given so_far. c.in-Some.ensures.follows seed number given (c.loop-place.invariant.follows seed number given so_far)

pub loop-place-preserved : goal.loop-place-preserved
loop-place-preserved c =
    let inv = c.loop-place.invariant in
    let none = c.in_default.ensures in
    let pushed = c.push.ensures in
    let below = c.if-last-pushes.false in
    let count = c.pushes.ensures in
    record {
      odds = pushed.odds ∙ none.odds ∙ inv.odds;
      opened = pushed.open;
      from = omega (arith, pushed.pushes, none.pushes, inv.from);
      upto = omega (arith, pushed.pushes, count, below);
      fewer = omega (arith, pushed.pushes, pushed.few, none.pushes, none.less, count, below, inv.fewer);
      follows = λ seed number given so_far. pushed.follows seed number given (none.follows seed number given (inv.follows seed number given so_far));
    }

pub returns-then-last-pushes-clause-fewer : goal.returns-then-last-pushes-clause-fewer
returns-then-last-pushes-clause-fewer c =
    let inv = c.loop-place.invariant in
    let none = c.in_default.ensures in
    omega (arith, none.less, none.pushes, inv.fewer)

use Rattle.std.proofs.Common.{◌≡◌, ◌∙◌, ◌+◌, ◌<◌, Some, length, false, slice_get, refl, ap, subst, arith}
use Rattle.air_ether.specs.HeardPlaces.{IsPlacesAfter, left_before, places_of}
use Rattle.air_model.specs.Ethers.{Odds}
use Rattle.air_model.specs.Programs.{program as slots_of}
use Rattle.listeners.specs.Private.PlaceSteps.{places_to}
use Rattle.listeners.proofs.PlaceLemmas.{more_skipped}
use Rattle.listeners.proofs.places.skip_unwanted.Goals as goal

pub loop-wanted-init : goal.loop-wanted-init
loop-wanted-init c = record {
  odds = refl;
  opened = c.requires.open;
  from = c.requires.pushes.0;
  upto = c.requires.pushes.1;
  here = c.requires.start.0;
  near = c.requires.start.1;
  fewer = omega arith;
  given = λ seed number given h.
      let none : given ≡ given + 0 = omega arith in (
        subst (λ k. slice_get (places_to seed number c.args.ether.now (c.args.first + length (slots_of c.args.program.now.disks))) k ≡ Some c.args.start) none h.0,
        subst (λ k. IsPlacesAfter seed number (k + 1) c.args.ether.now) none h.1,
        λ j l. absurd (omega arith),
      );
}

pub loop-wanted-preserved : goal.loop-wanted-preserved
loop-wanted-preserved c =
    let inv = c.loop-wanted.invariant in
    let later = c.in-Some.ensures in
    let slots = slots_of c.args.program.now.disks in
    let last : c.args.first + c.from.result ≡ c.args.first + length slots = ap (λ n. c.args.first + n) (c.from.ensures ∙ c.slots.ensures.counted) in
    let k = c.loop-wanted.skipped in
    let low = later.pushes.0 in
    let high = later.pushes.1 in
    let less = later.fewer in
    let inside = later.within in
    record {
      odds = later.odds ∙ inv.odds;
      opened = later.open;
      from = omega (arith, low, inv.from);
      upto = omega (arith, high, last);
      here = omega (arith, inside.0, last);
      near = omega (arith, inside.1, inv.from);
      fewer = omega (arith, subst (λ n. left_before n c.next_before.new.self < left_before n c.loop-wanted.ether) last less, inv.fewer);
      given = λ seed number given h.
          let so = inv.given seed number given h in
          let more : given + k + 1 ≡ given + (k + 1) = omega arith in
          let at = later.given seed number (given + k + 1) so.1 in
          let mine = subst (λ n. slice_get (places_of seed number c.loop-wanted.ether.odds n false) (given + k + 1) ≡ Some c.in-Some.later) last at in
          let own = subst (λ (o : Odds). slice_get (places_of seed number o (c.args.first + length slots) false) (given + k + 1) ≡ Some c.in-Some.later) inv.odds mine in (
            subst (λ m. slice_get (places_to seed number c.args.ether.now (c.args.first + length slots)) m ≡ Some c.in-Some.later) more own,
            subst (λ m. IsPlacesAfter seed number (m + 1) c.next_before.new.self) more (later.follows seed number (given + k + 1) so.1),
            more_skipped slots c.args.first c.args.wanted (places_to seed number c.args.ether.now (c.args.first + length slots)) given k c.loop-wanted.place so.2 so.0 (c.is_unwanted.ensures c.loop-wanted-test.true),
          );
    }

pub returns-clause-given : goal.returns-clause-given
returns-clause-given c = λ seed number given h. let so = c.loop-wanted.invariant.given seed number given h in (so.0, so.1)

pub returns-clause-skipped : goal.returns-clause-skipped
returns-clause-skipped c = λ seed number given h. (c.loop-wanted.invariant.given seed number given h).2

pub returns-in_default-clause-skipped : goal.returns-in_default-clause-skipped
returns-in_default-clause-skipped c = λ seed number given h.
    let so = c.loop-wanted.invariant.given seed number given h in
    let slots = slots_of c.args.program.now.disks in
    more_skipped slots c.args.first c.args.wanted (places_to seed number c.args.ether.now (c.args.first + length slots)) given c.loop-wanted.skipped c.loop-wanted.place so.2 so.0 (c.is_unwanted.ensures c.loop-wanted-test.true)

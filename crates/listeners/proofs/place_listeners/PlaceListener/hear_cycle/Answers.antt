use Rattle.std.proofs.Common.{◌≡◌, ◌+◌, ◌-◌, ◌∙◌, false, length, map, ap, sym, subst, refl, arith}
use Rattle.std.specs.List.{range_with_len}
use Rattle.air_ether.specs.HeardPlaces.{places_of}
use Rattle.air_model.specs.Ethers.{Odds}
use Rattle.air_model.specs.Programs.{program as slots_of}
use Rattle.listeners.specs.AiredCycles.{AreFitting}
use Rattle.listeners.specs.Listeners.{hears}
use Rattle.listeners.specs.PlaceListeners.{given_at}
use Rattle.listeners.specs.Private.PlaceSteps.{places_to}
use Rattle.listeners.proofs.PlaceLemmas.{stretches_from}
use Rattle.listeners.proofs.SleepLemmas.{stretch_none}
use Rattle.listeners.proofs.place_listeners.PlaceListener.hear_cycle.Goals as goal

pub loop-more-init : goal.loop-more-init
loop-more-init g c = record {
  opened = c.requires.open;
  odds = refl;
  from = omega (arith, c.requires.at);
  upto = omega (arith, c.requires.at);
  air = refl;
  counts = omega arith;
  buffer = refl;
  all = λ e. cc;
  heard = λ seed number given member f m. (given, omega arith, f, λ e. cc, stretch_none (given_at member (places_to seed number c.args.self.now.ether (c.args.first + length (slots_of c.args.program.now.disks)))) given c.args.self.now.listener);
}

pub hear_places-requires-clause-fitting : goal.hear_places-requires-clause-fitting
hear_places-requires-clause-fitting g c =
    subst (λ a. AreFitting a c.args.form c.args.program.now.edition (slots_of c.args.program.now.disks) (g.S.Source.board c.args.source.now)) (sym c.loop-more.invariant.air) c.requires.fitting

pub loop-more-preserved : goal.loop-more-preserved
loop-more-preserved g c =
    let inv = c.loop-more.invariant in
    let step = c.in_ok-more.ensures in
    let end = c.args.first + length (slots_of c.args.program.now.disks) in
    record {
      opened = step.open;
      odds = step.odds ∙ inv.odds;
      from = step.pushes.0;
      upto = step.pushes.1;
      air = step.air ∙ inv.air;
      counts = omega (arith, step.counts, inv.counts);
      buffer = step.buffer ∙ inv.buffer;
      all = step.all;
      heard = λ seed number given member f m.
          let so = inv.heard seed number given member f m in
          let on = step.heard seed number so.0 member so.2 m in
          let same : places_to seed number c.loop-more.self.ether end ≡ places_to seed number c.args.self.now.ether end = ap (λ (o : Odds). places_of seed number o end false) inv.odds in
          let low = so.1 in
          let high = on.1 in (
            on.0,
            omega arith,
            on.2,
            λ e. on.3 e ∙ ap length same,
            stretches_from (given_at member (places_to seed number c.args.self.now.ether end)) given so.0 on.0 c.args.self.now.listener c.loop-more.self.listener c.hear_places.new.self low high so.4
                (on.4 ∙ ap (λ ps. hears (map (given_at member ps) (range_with_len so.0 (on.0 - so.0))) c.loop-more.self.listener) same),
          );
    }

pub returns-clause-heard : goal.returns-clause-heard
returns-clause-heard g c =
    let inv = c.loop-more.invariant in
    let over = inv.all c.loop-more-test.false in
    record {
      opened = inv.opened;
      quiet = over.1;
      odds = inv.odds;
      pushes = over.0;
      counts = inv.counts;
      heard = λ seed number given member f m. let so = inv.heard seed number given member f m in (so.0, so.1, so.2, so.3 c.loop-more-test.false, so.4);
    }

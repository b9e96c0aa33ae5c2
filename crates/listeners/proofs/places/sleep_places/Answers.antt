use Rattle.std.proofs.Common.{◌∙◌, ◌+◌, max, length, ap, sym, subst, arith}
use Rattle.air_model.specs.Programs.{program as slots_of}
use Rattle.air_model.specs.SessionLaws.{dozed_through}
use Rattle.listeners.specs.PlaceListeners.{given_at}
use Rattle.listeners.specs.Private.PlaceSteps.{AreSkipped, places_to}
use Rattle.listeners.specs.Private.Sleeping.{listening}
use Rattle.listeners.proofs.PlaceLemmas.{none_grew, slept_none, slept_places}
use Rattle.listeners.proofs.SleepLemmas.{before_end}
use Rattle.listeners.proofs.places.sleep_places.Goals as goal

pub returns-then-skipped-eq0-clause-slept : goal.returns-then-skipped-eq0-clause-slept
returns-then-skipped-eq0-clause-slept g c = λ seed number given recent member f members.
    let skipped = c.skip_unwanted-skipped.result.0 in
    let places = places_to seed number c.args.ether.now (c.args.first + length (slots_of c.args.program.now.disks)) in (
      given + skipped,
      omega arith,
      none_grew c.skip_unwanted-skipped.result.1 given c.skip_unwanted-skipped.result.0 c.skip_unwanted-skipped.ensures.some,
      c.skip_unwanted-skipped.ensures.given seed number given f,
      λ n L. slept_none (given_at member places) given skipped (listening n c.args.receiver.now L) c.if-skipped-eq0.true,
    )

pub returns-clause-slept : goal.returns-clause-slept
returns-clause-slept g c = λ seed number given recent member f members.
    let form = c.args.form in
    let e = c.args.program.now.edition in
    let slots = slots_of c.args.program.now.disks in
    let board = g.S.Source.board c.args.source.now in
    let old = c.args.receiver.now in
    let k = c.skip_unwanted-skipped.result.0 in
    let places = places_to seed number c.args.ether.now (c.args.first + length slots) in
    let counted = c.doze.ensures.counted ∙ ap (λ m. dozed_through k (max old.state.now m) old.state) c.its_cycle.ensures.found in (
      given + k,
      omega arith,
      none_grew c.skip_unwanted-skipped.result.1 given c.skip_unwanted-skipped.result.0 c.skip_unwanted-skipped.ensures.some,
      c.skip_unwanted-skipped.ensures.given seed number given f,
      λ n L.
          slept_places form e slots board c.args.first recent member members places given k n L old c.doze.new.self c.requires.settled c.requires.fitting
          (before_end 0 k (omega arith) (λ none. c.if-skipped-eq0.false (sym none)))
          (subst (λ w. AreSkipped slots c.args.first w places given k) c.wanted.ensures.told (c.skip_unwanted-skipped.ensures.skipped seed number given f))
          c.doze.ensures.air c.doze.ensures.reader counted,
    )

use Rattle.std.proofs.Common.{◌∙◌, refl, sym, subst, get_or, arith}
use Rattle.air_model.specs.Programs.{program as slots_of}
use Rattle.listeners.specs.Private.PlaceSteps.{CanHearPlaces, HearsPlaces}
use Rattle.listeners.proofs.PlaceReaderLemmas.{none_heard_yet, one_hears}
use Rattle.listeners.proofs.place_hearers.all_hear.Given.{Over}
use Rattle.listeners.proofs.place_hearers.all_hear.Goals as goal
use Rattle.listeners.proofs.place_hearers.all_hear.Goals.{After-reader-item}

pub loop-reader-init : goal.loop-reader-init
loop-reader-init g c = record {
  heard = none_heard_yet (HearsPlaces c.args.form c.args.program.now.edition (slots_of c.args.program.now.disks) (g.S.Source.board c.args.source.now) c.args.first c.args.recent.now) c.args.readers.items c.deref_mut-reader-items.result.now c.deref_mut-reader-items.ensures.value;
  buffer = refl;
}

-- The reader at hand can hear the cycle.
ready : (g : Over) (c : After-reader-item g) → CanHearPlaces c.args.form c.args.program.now.edition (slots_of c.args.program.now.disks) (g.S.Source.board c.args.source.now) c.args.first (get_or c.loop-reader.reader-items c.loop-reader.reader-index c.reader-item.result)
ready g c =
    let h = c.loop-reader.invariant.heard in
    let i = c.loop-reader.reader-index in
    let d = c.reader-item.result in
    let within = c.loop-reader-test.true in
    subst (CanHearPlaces c.args.form c.args.program.now.edition (slots_of c.args.program.now.disks) (g.S.Source.board c.args.source.now) c.args.first) (sym (h.left i d (omega arith)))
    (c.requires.ready i d (omega (arith, h.long, within)))

pub hear_cycle-requires-clause-at : goal.hear_cycle-requires-clause-at
hear_cycle-requires-clause-at g c = (ready g (goal.at.hear_cycle-requires-clause-at g c).After-reader-item).at

pub hear_cycle-requires-clause-fitting : goal.hear_cycle-requires-clause-fitting
hear_cycle-requires-clause-fitting g c = (ready g (goal.at.hear_cycle-requires-clause-fitting g c).After-reader-item).fitting

pub hear_cycle-requires-clause-open : goal.hear_cycle-requires-clause-open
hear_cycle-requires-clause-open g c = (ready g (goal.at.hear_cycle-requires-clause-open g c).After-reader-item).opened

pub hear_cycle-requires-clause-last : goal.hear_cycle-requires-clause-last
hear_cycle-requires-clause-last g c = (ready g (goal.at.hear_cycle-requires-clause-last g c).After-reader-item).last

pub hear_cycle-requires-clause-counts : goal.hear_cycle-requires-clause-counts
hear_cycle-requires-clause-counts g c = (ready g (goal.at.hear_cycle-requires-clause-counts g c).After-reader-item).counts

pub loop-reader-preserved : goal.loop-reader-preserved
loop-reader-preserved g c =
    let within = c.loop-reader-test.true in
    let h = c.loop-reader.invariant.heard in
    record {
      heard = one_hears (HearsPlaces c.args.form c.args.program.now.edition (slots_of c.args.program.now.disks) (g.S.Source.board c.args.source.now) c.args.first c.args.recent.now) c.loop-reader.reader-index c.args.readers.items c.loop-reader.reader-items
          c.reader-item.result c.hear_cycle.new.self h (omega (arith, within, h.long)) c.in_ok-hear_cycle.ensures.heard;
      buffer = c.in_ok-hear_cycle.ensures.buffer ∙ c.loop-reader.invariant.buffer;
    }

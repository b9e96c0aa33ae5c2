use Rattle.std.proofs.Common.{sym, subst, arith}
use Rattle.listeners.specs.Private.PlaceSteps.{HasEndedPlaces}
use Rattle.listeners.specs.PlaceListeners.{IsPlaceListener}
use Rattle.listeners.proofs.PlaceReaderLemmas.{none_heard_yet, one_hears}
use Rattle.listeners.proofs.place_hearers.end_each.Goals as goal

pub loop-reader-init : goal.loop-reader-init
loop-reader-init c = none_heard_yet (HasEndedPlaces c.args.recent.now) c.args.readers.items c.deref_mut-reader-items.result.now c.deref_mut-reader-items.ensures.value

pub end-requires : goal.end-requires
end-requires c =
    let h = c.loop-reader.invariant in
    let i = c.loop-reader.reader-index in
    let d = c.reader-item.result in
    let within = c.loop-reader-test.true in
    let given = c.requires in
    (given.0, i, given.1, subst (IsPlaceListener given.0 i given.1) (sym (h.left i d (omega arith))) (given.2 i d (omega (arith, h.long, within))), given.3, given.4)

pub loop-reader-preserved : goal.loop-reader-preserved
loop-reader-preserved c =
    let within = c.loop-reader-test.true in
    let h = c.loop-reader.invariant in
    one_hears (HasEndedPlaces c.args.recent.now) c.loop-reader.reader-index c.args.readers.items c.loop-reader.reader-items c.reader-item.result c.end.new.self h (omega (arith, within, h.long)) c.in_ok-end.ensures

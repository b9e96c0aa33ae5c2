use Rattle.std.proofs.Common.{◌<◌, All, length, sym, subst}
use Rattle.air_history.proofs.ColumnLemmas.{writes_fit}
use Rattle.live_replay.proofs.alone.is_met.Goals as goal

pub writes_sought-requires : goal.writes_sought-requires
writes_sought-requires c =
    subst (λ ws. All (λ w. w.item < length c.args.sought.now) ws) (sym c.writes.ensures)
    (writes_fit c.args.events.now (length c.args.sought.now) c.args.place c.index-events-place.result c.requires.fits c.requires.within c.index-events-place.is)

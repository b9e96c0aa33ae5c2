use Rattle.std.proofs.Common.{rules}
use Rattle.cycle_snapshot.proofs.SightLemmas.{admits, forks, merges}
use Rattle.cycle_snapshot.proofs.sides.open_reader.Goals as goal

pub reader-requires : goal.reader-requires
reader-requires c = admits

pub tell-told-requires : goal.tell-told-requires
tell-told-requires c = forks _ _

pub learn-requires : goal.learn-requires
learn-requires c = record { own = search rules; rule = merges _ _ _ _ }

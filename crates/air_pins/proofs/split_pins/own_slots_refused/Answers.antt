use Rattle.air_pins.proofs.SplitLemmas.{both_err, long_passes}
use Rattle.air_pins.proofs.split_pins.own_slots_refused.Goals as goal

pub returns : goal.returns
returns c = both_err c.best_split.result _ _ _ (long_passes c.args.deck.now c.requires.items c.requires.disks) c.best_split.ensures.much c.best_split.ensures.long

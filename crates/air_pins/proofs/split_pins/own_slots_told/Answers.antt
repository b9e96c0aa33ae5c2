use Rattle.air_pins.proofs.SplitLemmas.{both_err, longer_has_none, longer_is_refused, none_ok}
use Rattle.air_pins.proofs.split_pins.own_slots_told.Goals as goal

pub returns-clause-refused : goal.returns-clause-refused
returns-clause-refused c = none_ok c.best_split.result _ (λ split h. longer_has_none c.args.deck.now split.sizes c.requires.items c.requires.disks h.0) c.best_split.ensures.best

pub returns-clause-slots : goal.returns-clause-slots
returns-clause-slots c = both_err c.best_split.result _ _ _ (longer_is_refused c.args.deck.now c.requires.items c.requires.disks) c.best_split.ensures.much c.best_split.ensures.long

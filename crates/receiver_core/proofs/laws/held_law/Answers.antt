use Rattle.receiver_core.proofs.HeldLemmas.{ends_truly, hears_truly, held_sound, starts_truly, steps_truly}
use Rattle.receiver_core.proofs.laws.held_law.Goals as goal

pub returns-clause-starting : goal.returns-clause-starting
returns-clause-starting c = λ air H reader filled. starts_truly air H reader filled

pub returns-clause-hearing : goal.returns-clause-hearing
returns-clause-hearing c = λ values air H reader member s slots filled aired truly. hears_truly air H reader filled values member s slots aired truly

pub returns-clause-stepping : goal.returns-clause-stepping
returns-clause-stepping c = λ air H reader s filled truly. steps_truly air H reader filled s truly

pub returns-clause-ending : goal.returns-clause-ending
returns-clause-ending c = λ air H reader s filled truly. ends_truly air H reader filled s truly

pub returns-clause-sound : goal.returns-clause-sound
returns-clause-sound c = λ air H reader s truly. held_sound air H reader s truly

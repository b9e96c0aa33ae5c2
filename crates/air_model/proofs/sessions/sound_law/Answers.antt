use Rattle.air_model.proofs.SoundLemmas.{sound}
use Rattle.air_model.proofs.sessions.sound_law.Goals as goal

pub returns : goal.returns
returns c = sound

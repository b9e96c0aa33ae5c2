use Rattle.std.proofs.Common.{◌∙◌}
use Rattle.std.proofs.lemmas.Result.{on_ok_weaker}
use Rattle.air_model.specs.Tapes.{tape_read}
use Rattle.session_pins.proofs.ListenerLemmas.{both_sleep}
use Rattle.session_pins.proofs.listeners_pins.unwanted_bucket_uncounted.Goals as goal

pub returns : goal.returns
returns g c = on_ok_weaker c.hear.result (λ heard. heard ∙ both_sleep (tape_read c.args.tape.now) c.args.readers.now c.requires.tape c.requires.readers) c.hear.ensures

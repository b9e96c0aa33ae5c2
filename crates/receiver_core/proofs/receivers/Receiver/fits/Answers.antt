use Rattle.std.proofs.Common.{◌∙◌, ap}
use Rattle.air_model.specs.Aired.{fits}
use Rattle.receiver_core.specs.Receivers.{Receiver}
use Rattle.receiver_core.proofs.receivers.Receiver.fits.Goals as goal

pub returns : goal.returns
returns c = c.fits.ensures ∙ ap (λ (r : Receiver). fits r.air c.args.bucket.now) c.self.view_is

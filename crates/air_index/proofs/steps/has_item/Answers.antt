use Rattle.air_index.proofs.SearchLemmas.{busy, none_idle, some_busy}
use Rattle.air_index.proofs.steps.has_item.Goals as goal

pub returns-in-Idle : goal.returns-in-Idle
returns-in-Idle c = none_idle c.args.item c.args.bucket.now.body c.in-Idle.ensures

pub returns-in_default : goal.returns-in_default
returns-in_default c = some_busy c.args.item c.item.result c.args.bucket.now.body (busy c.kind.result c.args.bucket.now.body c.in_default.not-Idle c.kind.ensures) c.item.ensures

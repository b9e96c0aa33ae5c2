-- What becomes of a heard member, rule by rule.
use Rattle.std.specs.Prelude.{◌≡◌, ◌+◌, cond, Option, Some, None, Result, Ok, Err, ⊤}
use Rattle.air_base.specs.declared.verdicts.Counts.{Counts}
use Rattle.air_model.specs.Aired.{fits}
use Rattle.air_model.specs.Buckets.{Bucket}
use Rattle.air_model.specs.declared.bucket.BucketFault.{BucketFault}
use Rattle.air_model.specs.Reads.{Read}
use Rattle.air_model.specs.Sessions.{comes_late, is_wanted, read_in, wanted}
use Rattle.receiver_core.specs.declared.receivers.Fed.{Fed}
use Rattle.receiver_core.specs.declared.receivers.Fed.TheVariants as fed
use Rattle.receiver_core.specs.Receivers.{Receiver}

-- Of a bucket that fits: an idle one is dozed through, and so is one whose item isn't wanted; a wanted one is opened,
-- unless it comes too late.
unfoldable pub fed_read : Receiver → Option Read → Fed
fed_read r None = fed.Dozed
fed_read r (Some x) = cond (is_wanted (wanted r.reader r.state) x.item) (cond (comes_late r.air r.state x) fed.Late fed.Opened) fed.Dozed

-- What becomes of what was read of heard bytes: those with a fault are refused with that fault, and a bucket that doesn't
-- fit is foreign.
unfoldable pub fed_of : Receiver → Result Bucket BucketFault → Fed
fed_of r (Err fault) = fed.Refused fault
fed_of r (Ok b) = cond (fits r.air b) (fed_read r (read_in b.cycle b.body)) fed.Foreign

-- One more of the count of that name.
abbrev pub count_fed : Fed → Counts → Counts
count_fed (fed.Refused fault) c = record c { refused = c.refused + 1 }
count_fed fed.Foreign c = record c { foreign = c.foreign + 1 }
count_fed fed.Dozed c = record c { dozed = c.dozed + 1 }
count_fed fed.Late c = record c { late = c.late + 1 }
count_fed fed.Opened c = record c { opened = c.opened + 1 }

-- A refused and a foreign member change that count alone: so they change no attempt.
abbrev pub ChangesItsCountAlone : Fed → Receiver → Receiver → Type 0
ChangesItsCountAlone (fed.Refused fault) before now = now ≡ record before { state = record before.state { counts = count_fed (fed.Refused fault) before.state.counts } }
ChangesItsCountAlone fed.Foreign before now = now ≡ record before { state = record before.state { counts = count_fed fed.Foreign before.state.counts } }
ChangesItsCountAlone fed.Dozed before now = ⊤
ChangesItsCountAlone fed.Late before now = ⊤
ChangesItsCountAlone fed.Opened before now = ⊤

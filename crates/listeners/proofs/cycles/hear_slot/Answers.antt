use Rattle.std.proofs.Common.{◌∙◌, Some, ap}
use Rattle.std.specs.Result.{result_ok}
use Rattle.air_model.specs.Judges.{by_entries}
use Rattle.air_model.specs.Programs.{program as slots_of}
use Rattle.air_model.specs.Sessions.{hear}
use Rattle.air_sender.specs.BoardBuckets.{bucket_on}
use Rattle.listeners.proofs.HearLemmas.{listener_heard}
use Rattle.listeners.proofs.SleepLemmas.{took_settled}
use Rattle.listeners.proofs.cycles.hear_slot.Goals as goal

pub returns-clause-heard : goal.returns-clause-heard
returns-clause-heard g c = λ n L.
    let r = c.args.receiver.now in
    let b = bucket_on c.args.form c.args.program.now.edition (slots_of c.args.program.now.disks) (g.S.Source.board c.args.source.now) c.args.slot in
    listener_heard n {old = r} {mid = r} {M = L} {N = L} c.hear.new.self (Some b) (took_settled r L c.requires.settled) c.hear.ensures.air c.hear.ensures.reader
    (c.hear.ensures.state ∙ ap (λ h. hear (by_entries r.air.scheme) r.air r.reader (result_ok h) r.state) (c.decode.ensures.reading ∙ c.encode_source-len.ensures.decodes))

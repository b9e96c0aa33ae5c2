use Rattle.std.proofs.Common.{◌∙◌, [], sym, ap}
use Rattle.std.specs.Result.{result_ok}
use Rattle.air_model.specs.Buckets.{bucket_in}
use Rattle.air_model.specs.Judges.{by_entries}
use Rattle.air_model.specs.Sessions.{hear}
use Rattle.listeners.proofs.HearLemmas.{listener_heard}
use Rattle.listeners.proofs.PlaceLemmas.{one_counted}
use Rattle.listeners.proofs.SleepLemmas.{took_settled}
use Rattle.listeners.proofs.places.hear_place.Goals as goal

pub returns-then-place-first-clause-heard : goal.returns-then-place-first-clause-heard
returns-then-place-first-clause-heard g c = λ member members n L.
    let r = c.args.receiver.now in
    let below = c.if-place-first.true in
    let own = ap result_ok c.decode.ensures.reading ∙ ap bucket_in c.at.ensures ∙ sym (members.before c.args.place below c.requires.within.1) in
    listener_heard n {old = r} {mid = r} {M = L} {N = L} c.hear.new.self (member c.args.place) (took_settled r L c.requires.settled) c.hear.ensures.air c.hear.ensures.reader
    (c.hear.ensures.state ∙ ap (λ o. hear (by_entries r.air.scheme) r.air r.reader o r.state) own)

pub returns-clause-counts : goal.returns-clause-counts
returns-clause-counts g c = one_counted c.args.receiver.now c.hear_slot.new.receiver _ (c.hear_slot.ensures.heard 0 [])

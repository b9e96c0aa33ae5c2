use Rattle.std.proofs.Common.{◌≡◌, Ok, Some, true, ◌∙◌, ap, sym}
use Rattle.air_model.specs.Aired.{fits}
use Rattle.air_model.specs.Judges.{by_entries}
use Rattle.air_model.specs.Sessions.{comes_late, count_dozed, count_foreign, count_late, hear, read_in, wanted}
use Rattle.receiver_core.specs.FeedAnswers.{fed_of}
use Rattle.receiver_core.specs.LastReads.{in_state}
use Rattle.receiver_core.specs.Private.Attempts.{is_read_wanted, read_from_bucket}
use Rattle.receiver_core.specs.Receivers.{Receiver}
use Rattle.receiver_core.specs.ReceiverFields.{receiver_in}
use Rattle.receiver_core.proofs.HearLemmas.{at_newest, dozed_heard, fed_dozed, fed_foreign, fed_late, fed_opened, fits_counted, foreign_heard, late_heard, opened_heard, still_late, still_wanted, wanted_read}
use Rattle.receiver_core.proofs.OpenLemmas.{late_told}
use Rattle.receiver_core.proofs.receivers.Receiver.hear_bucket.Goals as goal
use Rattle.receiver_core.proofs.receivers.Receiver.hear_bucket.Goals.{After-is_late, After-wants}

pub returns-then-not-fits-clause-fed : goal.returns-then-not-fits-clause-fed
returns-then-not-fits-clause-fed c =
    fed_foreign (receiver_in c.self.inside) c.args.bucket.now (sym c.fits.ensures ∙ c.if-not-fits.true) ∙ ap (λ r. fed_of r (Ok c.args.bucket.now)) c.self.view_is

pub returns-then-not-fits-clause-heard : goal.returns-then-not-fits-clause-heard
unfolding count_foreign
returns-then-not-fits-clause-heard c =
    foreign_heard (receiver_in c.self.inside) c.args.bucket.now (ap (λ (r : Receiver). r.state.lines) c.self.view_is ∙ c.requires.given) (sym c.fits.ensures ∙ c.if-not-fits.true)
    ∙ ap (λ (r : Receiver). in_state r (hear (by_entries r.air.scheme) r.air r.reader (Some c.args.bucket.now) r.state)) c.self.view_is

-- ---- the receiver came to the cycle of a bucket that fits

fit : (c : After-wants) → fits c.args.self.now.air c.args.bucket.now ≡ true
fit c = sym (c.fits.ensures ∙ ap (λ (r : Receiver). fits r.air c.args.bucket.now) c.self.view_is) ∙ c.if-not-fits.false

came : (c : After-wants) → c.come_to.new.self ≡ at_newest c.args.bucket.now.cycle c.args.self.now
came c = c.come_to.ensures ∙ ap (λ n. at_newest n c.args.self.now) c.cycle-cycle.ensures

-- It wants what the receiver wanted before.
wants_still : (c : After-wants) → is_read_wanted (wanted c.args.self.now.reader c.args.self.now.state) (read_in c.args.bucket.now.cycle c.args.bucket.now.body) ≡ c.wants.result
wants_still c = still_wanted c.args.self.now c.come_to.new.self c.args.bucket.now (came c) (fit c) c.wants.result (sym c.wants.ensures)

-- And a read that comes too late for it came too late before.
late_still : (c : After-is_late) → comes_late c.args.self.now.air c.args.self.now.state (read_from_bucket c.args.bucket.now) ≡ c.is_late.result
late_still c =
    let w = (goal.at.After-is_late c).After-wants in
    still_late c.args.self.now c.come_to.new.self c.args.bucket.now (came w) (fit w) c.is_late.result
    (sym (ap (λ (r : Receiver). comes_late r.air r.state (read_from_bucket c.args.bucket.now)) c.self-2.view_is)
    ∙ late_told c.self-2.inside c.args.bucket.now c.is_late.result c.cycle-cycle.result c.self-2.invariant c.is_late.ensures c.cycle-cycle.ensures)

pub returns-then-not-wants-clause-fed : goal.returns-then-not-wants-clause-fed
returns-then-not-wants-clause-fed c =
    let w = (goal.at.returns-then-not-wants-clause-fed c).After-wants in
    fed_dozed c.args.self.now c.args.bucket.now (fit w) (wants_still w ∙ c.if-not-wants.true)

pub returns-then-not-wants-clause-heard : goal.returns-then-not-wants-clause-heard
unfolding count_dozed
returns-then-not-wants-clause-heard c =
    let w = (goal.at.returns-then-not-wants-clause-heard c).After-wants in
    ap (λ (r : Receiver). let t : Receiver = record r { state = count_dozed r.state } in t) c.self-2.view_is
    ∙ dozed_heard c.args.self.now c.come_to.new.self c.args.bucket.now (came w) (fit w) c.requires.given (wants_still w ∙ c.if-not-wants.true)

pub returns-then-is_late-clause-fed : goal.returns-then-is_late-clause-fed
returns-then-is_late-clause-fed c =
    let a = goal.at.returns-then-is_late-clause-fed c in
    fed_late c.args.self.now c.args.bucket.now (fit a.After-wants) (wants_still a.After-wants ∙ c.if-not-wants.false) (late_still a.After-is_late ∙ c.if-is_late.true)

pub returns-then-is_late-clause-heard : goal.returns-then-is_late-clause-heard
unfolding count_late
returns-then-is_late-clause-heard c =
    let a = goal.at.returns-then-is_late-clause-heard c in
    ap (λ (r : Receiver). let t : Receiver = record r { state = count_late r.state } in t) c.self-2.view_is
    ∙ late_heard c.args.self.now c.come_to.new.self c.args.bucket.now (came a.After-wants) (fit a.After-wants) c.requires.given (wants_still a.After-wants ∙ c.if-not-wants.false)
    (late_still a.After-is_late ∙ c.if-is_late.true)

pub open-requires-clause-busy : goal.open-requires-clause-busy
open-requires-clause-busy c = (wanted_read _ c.args.bucket.now (sym c.wants.ensures ∙ c.if-not-wants.false)).busy

pub open-requires-clause-counted : goal.open-requires-clause-counted
open-requires-clause-counted c =
    let w = (goal.at.open-requires-clause-counted c).After-wants in
    fits_counted c.args.self.now.air c.args.bucket.now (fit w) ∙ sym (ap (λ (r : Receiver). r.air.items) (came w))

pub open-requires-clause-wanted : goal.open-requires-clause-wanted
open-requires-clause-wanted c = (wanted_read _ c.args.bucket.now (sym c.wants.ensures ∙ c.if-not-wants.false)).item

pub returns-clause-fed : goal.returns-clause-fed
returns-clause-fed c =
    let a = goal.at.returns-clause-fed c in
    fed_opened c.args.self.now c.args.bucket.now (fit a.After-wants) (wants_still a.After-wants ∙ c.if-not-wants.false) (late_still a.After-is_late ∙ c.if-is_late.false)

pub returns-clause-heard : goal.returns-clause-heard
returns-clause-heard c =
    let a = goal.at.returns-clause-heard c in
    c.open.ensures
    ∙ opened_heard c.args.self.now c.come_to.new.self c.args.bucket.now (came a.After-wants) (fit a.After-wants) (wants_still a.After-wants ∙ c.if-not-wants.false) (late_still a.After-is_late ∙ c.if-is_late.false)

use Rattle.std.proofs.Common.{Ok, ◌∙◌, ap, sym, subst}
use Rattle.std.specs.Result.{result_ok}
use Rattle.air_model.specs.Judges.{by_entries}
use Rattle.air_model.specs.Sessions.{count_refused, hear}
use Rattle.receiver_core.specs.FeedAnswers.{ChangesItsCountAlone, count_fed, fed_of}
use Rattle.receiver_core.specs.LastReads.{last_reads}
use Rattle.receiver_core.specs.Receivers.{Receiver}
use Rattle.receiver_core.proofs.FeedLemmas.{alone, hear_counts, refused_is}
use Rattle.receiver_core.proofs.HeldCalls.{hears}
use Rattle.receiver_core.proofs.receivers.Receiver.hear.Goals as goal

pub returns-in-Err-clause-state : goal.returns-in-Err-clause-state
unfolding hear count_refused
returns-in-Err-clause-state c =
    let old = c.args.self.now in
    ap (λ (t : Receiver). count_refused t.state) c.self.view_is
    ∙ ap (λ o. hear (by_entries old.air.scheme) old.air old.reader o old.state) (sym (ap result_ok c.in-Err.is))

pub returns-in-Err-clause-last : goal.returns-in-Err-clause-last
unfolding last_reads
returns-in-Err-clause-last c =
    ap (λ (t : Receiver). t.last) c.self.view_is
    ∙ ap (λ L. last_reads L c.args.self.now.last) (sym (ap (λ (t : Receiver). t.state.lines) c.self.view_is ∙ c.requires.settled.given))

pub returns-in-Err-clause-fed : goal.returns-in-Err-clause-fed
unfolding fed_of
returns-in-Err-clause-fed c = ap (fed_of c.args.self.now) (sym c.in-Err.is)

pub returns-in-Ok-clause-fed : goal.returns-in-Ok-clause-fed
returns-in-Ok-clause-fed c = c.hear_bucket.ensures.fed ∙ ap (fed_of c.args.self.now) (sym c.in-Ok.is)

pub returns-in-Ok-clause-refused : goal.returns-in-Ok-clause-refused
returns-in-Ok-clause-refused c = λ fault.
    let told = refused_is c.args.self.now c.args.heard.now fault in
    let fed = c.hear_bucket.ensures.fed ∙ ap (fed_of c.args.self.now) (sym c.in-Ok.is) in
    (λ e. told.0 (sym fed ∙ e), λ err. fed ∙ told.1 err)

pub returns-in-Ok-clause-counted : goal.returns-in-Ok-clause-counted
returns-in-Ok-clause-counted c =
    let old = c.args.self.now in
    ap (λ (t : Receiver). t.state.counts) c.hear_bucket.ensures.heard ∙ hear_counts (by_entries old.air.scheme) old (Ok c.in-Ok.bucket)
    ∙ ap (λ f. count_fed f old.state.counts) (sym c.hear_bucket.ensures.fed)

pub returns-in-Ok-clause-alone : goal.returns-in-Ok-clause-alone
returns-in-Ok-clause-alone c =
    let old = c.args.self.now in
    subst (λ f. ChangesItsCountAlone f old c.hear_bucket.new.self) (sym c.hear_bucket.ensures.fed)
    (subst (ChangesItsCountAlone (fed_of old (Ok c.in-Ok.bucket)) old) (sym c.hear_bucket.ensures.heard) (alone (by_entries old.air.scheme) old (Ok c.in-Ok.bucket) c.requires.settled.given))

pub returns-in-Err-clause-held : goal.returns-in-Err-clause-held
returns-in-Err-clause-held c =
    hears (result_ok c.args.heard.now) c.args.self.now _ (returns-in-Err-clause-state c) (ap (λ (t : Receiver). t.air) c.self.view_is) (ap (λ (t : Receiver). t.reader) c.self.view_is)

pub returns-in-Ok-clause-held : goal.returns-in-Ok-clause-held
returns-in-Ok-clause-held c =
    let old = c.args.self.now in
    hears (result_ok c.args.heard.now) old c.hear_bucket.new.self
    (ap (λ (t : Receiver). t.state) c.hear_bucket.ensures.heard ∙ ap (λ o. hear (by_entries old.air.scheme) old.air old.reader o old.state) (sym (ap result_ok c.in-Ok.is)))
    (ap (λ (t : Receiver). t.air) c.hear_bucket.ensures.heard) (ap (λ (t : Receiver). t.reader) c.hear_bucket.ensures.heard)

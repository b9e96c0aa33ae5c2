use Rattle.std.proofs.Common.{◌≤◌, length, sym, ap, subst, arith}
use Rattle.air_model.specs.Reports.{counts_lines, verdict_lines}
use Rattle.air_model.specs.Decks.{script_history}
use Rattle.air_sender.specs.AiredBytes.{aired_bytes}
use Rattle.air_sender.proofs.TapeLemmas.{script_airs}
use Rattle.listeners.specs.declared.readers.TheConstants.{MOST_TAPE_RECORDS}
use Rattle.listeners.specs.Hearings.{AreHearing}
use Rattle.listeners.proofs.HistoryLemmas.{few_aired}
use Rattle.scripts.proofs.TapePieceLemmas.{ended_told, nothing_aired}
use Rattle.scripts.proofs.whole_scripts.hear_script.Goals as goal

pub loop-run-init : goal.loop-run-init
loop-run-init c =
    let deck = c.args.planned.now in
    let hearers = c.in_ok-hearers.hearers in
    record {
      kept = c.in_ok-run.ensures.kept;
      heard = subst (λ rs. AreHearing deck rs hearers) (sym (nothing_aired deck c.in_ok-run.run'.events.items c.in_ok-run.ensures.empty)) c.in_ok-hearers.ensures;
    }

pub next_heard-requires-clause-more : goal.next_heard-requires-clause-more
next_heard-requires-clause-more c = c.is_done.ensures.left c.loop-run-test.true

pub loop-run-smaller : goal.loop-run-smaller
loop-run-smaller c =
    let left = c.is_done.ensures.left c.loop-run-test.true in
    let one = c.in_ok-hearers-2.ensures.one in
    omega (arith, left, one)

pub end-requires : goal.end-requires
end-requires c =
    let deck = c.args.planned.now in
    let events = c.loop-run.run.events.items in
    let records = aired_bytes deck events in
    let done = c.is_done.ensures.done.0 c.loop-run-test.false in
    let few : length records ≤ MOST_TAPE_RECORDS = omega (arith, few_aired deck (script_history deck) c.requires, ap (λ H. length (aired_bytes deck H)) done) in
    (deck, records, c.loop-run.invariant.heard, few)

pub returns-clause-verdicts : goal.returns-clause-verdicts
returns-clause-verdicts c =
    let deck = c.args.planned.now in
    let events = c.loop-run.run.events.items in
    ended_told deck events verdict_lines c.in_ok-sessions.sessions.verdicts.items (script_airs deck c.shows_planned.ensures.made c.shows_planned.ensures.limits.script c.shows_planned.ensures.short)
    (c.is_done.ensures.done.0 c.loop-run-test.false) (c.in_ok-sessions.ensures.verdicts deck (aired_bytes deck events) c.loop-run.invariant.heard)

pub returns-clause-counts : goal.returns-clause-counts
returns-clause-counts c =
    let deck = c.args.planned.now in
    let events = c.loop-run.run.events.items in
    ended_told deck events counts_lines c.in_ok-sessions.sessions.counts.items (script_airs deck c.shows_planned.ensures.made c.shows_planned.ensures.limits.script c.shows_planned.ensures.short)
    (c.is_done.ensures.done.0 c.loop-run-test.false) (c.in_ok-sessions.ensures.counts deck (aired_bytes deck events) c.loop-run.invariant.heard)

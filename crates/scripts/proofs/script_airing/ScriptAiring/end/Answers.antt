use Rattle.std.proofs.Common.{◌≤◌, length, ap, arith}
use Rattle.air_model.specs.Reports.{counts_lines, verdict_lines}
use Rattle.listeners.specs.declared.readers.TheConstants.{MOST_TAPE_RECORDS}
use Rattle.air_model.specs.Decks.{script_history}
use Rattle.air_sender.specs.AiredBytes.{aired_bytes}
use Rattle.air_sender.proofs.TapeLemmas.{script_airs}
use Rattle.listeners.proofs.HistoryLemmas.{few_aired}
use Rattle.scripts.proofs.TapePieceLemmas.{ended_told}
use Rattle.scripts.proofs.script_airing.ScriptAiring.end.Goals as goal

pub end-requires : goal.end-requires
end-requires c =
    let deck = c.args.planned.now in
    let records = aired_bytes deck c.args.self.run.events.items in
    let few : length records ≤ MOST_TAPE_RECORDS = omega (arith, few_aired deck (script_history deck) c.requires.few, ap (λ H. length (aired_bytes deck H)) c.requires.done) in
    (deck, records, c.requires.kept.hearers, few)

pub returns-clause-verdicts : goal.returns-clause-verdicts
returns-clause-verdicts c =
    let deck = c.args.planned.now in
    let events = c.args.self.run.events.items in
    ended_told deck events verdict_lines c.in_ok-sessions.sessions.verdicts.items (script_airs deck c.shows_planned.ensures.made c.shows_planned.ensures.limits.script c.shows_planned.ensures.short) c.requires.done
    (c.in_ok-sessions.ensures.verdicts deck (aired_bytes deck events) c.requires.kept.hearers)

pub returns-clause-counts : goal.returns-clause-counts
returns-clause-counts c =
    let deck = c.args.planned.now in
    let events = c.args.self.run.events.items in
    ended_told deck events counts_lines c.in_ok-sessions.sessions.counts.items (script_airs deck c.shows_planned.ensures.made c.shows_planned.ensures.limits.script c.shows_planned.ensures.short) c.requires.done
    (c.in_ok-sessions.ensures.counts deck (aired_bytes deck events) c.requires.kept.hearers)

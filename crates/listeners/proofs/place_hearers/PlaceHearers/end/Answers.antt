use Rattle.std.proofs.Common.{◌∙◌, map, ap, subst, sym}
use Rattle.air_model.specs.Reports.{counts_lines, verdict_lines}
use Rattle.listeners.specs.Listeners.{AreNumbered, end_state}
use Rattle.listeners.proofs.PlaceReaderLemmas.{all_ended}
use Rattle.listeners.proofs.RunLemmas.{ethers_in, numbered_over, sessions_over_each}
use Rattle.listeners.proofs.place_hearers.PlaceHearers.end.Goals as goal

pub end_each-requires : goal.end_each-requires
end_each-requires c = let given = c.requires in (given.0, given.1, given.2.each, given.2.recent, given.3)

pub end_all-requires : goal.end_all-requires
end_all-requires c =
    let given = c.requires in
    subst AreNumbered (sym (c.in_ok-listeners.ensures ∙ all_ended given.0 given.1 c.args.self given.2 c.in_ok-readers.readers.items c.in_ok-readers.ensures)) (numbered_over given.0 (ethers_in given.0 given.1))

pub returns-clause-verdicts : goal.returns-clause-verdicts
returns-clause-verdicts c = λ deck pushed given.
    c.in_ok-sessions.ensures.verdicts ∙ ap (λ ls. verdict_lines (map end_state ls)) (c.in_ok-listeners.ensures ∙ all_ended deck pushed c.args.self given c.in_ok-readers.readers.items c.in_ok-readers.ensures)
    ∙ ap verdict_lines (sessions_over_each deck (ethers_in deck pushed))

pub returns-clause-counts : goal.returns-clause-counts
returns-clause-counts c = λ deck pushed given.
    c.in_ok-sessions.ensures.counts ∙ ap (λ ls. counts_lines (map end_state ls)) (c.in_ok-listeners.ensures ∙ all_ended deck pushed c.args.self given c.in_ok-readers.readers.items c.in_ok-readers.ensures)
    ∙ ap counts_lines (sessions_over_each deck (ethers_in deck pushed))

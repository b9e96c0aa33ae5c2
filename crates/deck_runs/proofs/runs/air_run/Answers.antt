use Rattle.std.proofs.Common.{◌≤◌, ◌+◌, ◌<◌, ◌∙◌, length, ap, subst, sym}
use Rattle.air_history.specs.Histories.{starts}
use Rattle.air_model.specs.AiredLaws.{CanAir}
use Rattle.air_model.specs.Outputs.{true_sessions}
use Rattle.air_model.specs.Runs.{Run}
use Rattle.air_model.specs.Reports.{counts_lines, verdict_lines}
use Rattle.air_sender.specs.AiredBytes.{aired_bytes}
use Rattle.listeners.specs.declared.readers.TheConstants.{MOST_TAPE_RECORDS}
use Rattle.deck_runs.proofs.HeardRunLemmas.{run_airs, run_few, run_starts, sent_tape}
use Rattle.deck_runs.proofs.runs.air_run.Goals as goal

pub history_sessions-requires-clause-can : goal.history_sessions-requires-clause-can
history_sessions-requires-clause-can g c =
    subst (CanAir c.args.planned.now) (sym (c.events.ensures.listed ∙ ap (λ (r : Run). r.history) c.run.view_is)) (run_airs c.args.planned.now c.in-Ok.run' c.shows_planned.ensures.made c.shows_planned.ensures.limits c.shows_planned.ensures.short c.in-Ok.ensures.run)

pub history_sessions-requires-clause-few : goal.history_sessions-requires-clause-few
history_sessions-requires-clause-few g c =
    subst (λ H. length (aired_bytes c.args.planned.now H) ≤ MOST_TAPE_RECORDS) (sym (c.events.ensures.listed ∙ ap (λ (r : Run). r.history) c.run.view_is)) (run_few c.args.planned.now c.in-Ok.run' c.in-Ok.ensures.run c.requires)

pub history_sessions-requires-clause-cycles : goal.history_sessions-requires-clause-cycles
history_sessions-requires-clause-cycles g c =
    subst (λ H. starts H + 1 < 4294967296) (sym (c.events.ensures.listed ∙ ap (λ (r : Run). r.history) c.run.view_is)) (run_starts c.args.planned.now c.in-Ok.run' c.shows_planned.ensures.limits c.in-Ok.ensures.run)

pub returns-clause-verdicts : goal.returns-clause-verdicts
returns-clause-verdicts g c = c.in_ok-sessions.ensures.verdicts ∙ ap (λ H. verdict_lines (true_sessions c.args.planned.now H)) (c.events.ensures.listed ∙ ap (λ (r : Run). r.history) c.run.view_is)

pub returns-clause-counts : goal.returns-clause-counts
returns-clause-counts g c = c.in_ok-sessions.ensures.counts ∙ ap (λ H. counts_lines (true_sessions c.args.planned.now H)) (c.events.ensures.listed ∙ ap (λ (r : Run). r.history) c.run.view_is)

pub returns-clause-tape : goal.returns-clause-tape
returns-clause-tape g c = sent_tape c.args.planned.now c.in-Ok.run' c.in_ok-tape.tape c.run_threads.new.mast c.in_ok-tape.ensures.fresh c.in-Ok.ensures.aired

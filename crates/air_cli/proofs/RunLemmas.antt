-- The report of a script is that of its history and of its readers' sessions. `script_report` cites these.
use Rattle.std.proofs.Common.{◌≡◌, ◌<◌, ◌≤◌, ◌^◌, List, [], length, ◌∙◌, ap, arith}
use Rattle.air_history.specs.declared.histories.Event.{Event}
use Rattle.air_history.specs.Histories.{starts}
use Rattle.air_history.proofs.ScanLemmas.{starts_within}
use Rattle.air_model.specs.Decks.{Deck, script_history}
use Rattle.air_model.specs.Reports.{counts_lines, report_text, session_report, verdict_lines}
use Rattle.air_model.specs.Sessions.{State}
use Rattle.air_model.specs.declared.reports.CountsLine.{CountsLine}
use Rattle.air_model.specs.declared.reports.VerdictLine.{VerdictLine}
use Rattle.air_sender.proofs.RunLoops.{script_length}

-- A script starts few cycles.
pub script_starts_few : (deck : Deck) → length deck.script ≤ 200000 → starts (script_history deck) < 2 ^ 32
script_starts_few deck few = let most = starts_within (script_history deck) in let long = script_length deck in omega arith

-- The report of the lines of sessions is that of the sessions.
pub report_same : (events H : List Event) (verdicts : List VerdictLine) (counts : List CountsLine) (told : List State) → events ≡ H
    → verdicts ≡ verdict_lines told → counts ≡ counts_lines told
    → report_text (record { history = events; verdicts = verdicts; counts = counts; glances = []; looks = [] }) ≡ report_text (session_report H told)
report_same events H verdicts counts told same lines counted =
    ap (λ h. report_text (record { history = h; verdicts = verdicts; counts = counts; glances = []; looks = [] })) same
    ∙ ap (λ v. report_text (record { history = H; verdicts = v; counts = counts; glances = []; looks = [] })) lines
    ∙ ap (λ n. report_text (record { history = H; verdicts = verdict_lines told; counts = n; glances = []; looks = [] })) counted

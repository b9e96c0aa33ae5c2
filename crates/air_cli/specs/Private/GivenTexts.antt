-- For private steps alone. A name for what each command gives.
use Rattle.std.specs.Prelude.{ℕ, false, List, []}
use Rattle.air_model.specs.Decks.{Deck}
use Rattle.air_model.specs.Outputs.{cast_output, plan_output, run_output, run_tape, script_output, script_tape}
use Rattle.air_model.specs.Runs.{Run}
use Rattle.disk_split.specs.Splits.{split_text}
use Rattle.live_replay.specs.FindingTexts.{findings_text, some_differ}
use Rattle.live_replay.specs.declared.findings.Finding.{Finding}
use Rattle.scripts.specs.DrillLines.{drill_output}
use Rattle.air_cli.specs.ReportsAndTapes.{ReportAndTape}

-- The text of the deck's plan, and no tape.
abbrev pub plan_given : Deck → ReportAndTape
plan_given d = record { text = plan_output d; tape = []; differs = false }

-- The text of the deck's split of these sizes, and no tape.
abbrev pub split_given : Deck → List ℕ → ReportAndTape
split_given d sizes = record { text = split_text d sizes; tape = []; differs = false }

-- The report of the deck's script, and its tape.
abbrev pub script_given : Deck → ReportAndTape
script_given d = record { text = script_output d; tape = script_tape d; differs = false }

-- The line of the drill, and no tape.
abbrev pub drill_given : ℕ → ℕ → ReportAndTape
drill_given seed size = record { text = drill_output seed size; tape = []; differs = false }

-- The text of findings, no tape, and whether some finding differs.
abbrev pub audit_given : List Finding → ReportAndTape
audit_given found = record { text = findings_text found; tape = []; differs = some_differ found }

-- The report of a run, and its tape. Nothing in it differs.
abbrev pub run_given : Deck → Run → ReportAndTape
run_given deck run = record { text = run_output deck run.history run.glances run.looks; tape = run_tape deck run.history; differs = false }

-- The report of a run without sessions, and no tape. Nothing in it differs.
abbrev pub cast_given : Run → ReportAndTape
cast_given run = record { text = cast_output run.history run.glances run.looks; tape = []; differs = false }

-- The commands: what a command of the code asks for, and what words mean to `air_quiet`.
use Rattle.std.specs.Prelude.{Option, Some}
use Rattle.std.specs.Option.{option_map}
use Rattle.air_cli.specs.declared.words.Command.{Command}
use Rattle.air_cli.specs.declared.words.Command.TheVariants as command
use Rattle.air_cli.specs.Audit.{audit_meaning}
use Rattle.air_cli.specs.Beam.{beam_meaning}
use Rattle.air_cli.specs.Drill.{drill_meaning}
use Rattle.air_cli.specs.Meanings.{Meaning, no_command}
use Rattle.air_cli.specs.Plan.{plan_meaning}
use Rattle.air_cli.specs.Script.{script_meaning}
use Rattle.air_cli.specs.Seek.{seek_meaning}
use Rattle.air_cli.specs.Split.{split_meaning}
use Rattle.air_cli.specs.Tune.{tune_meaning}
use Rattle.air_cli.specs.Words.{Request, AsksAudit, AsksBeam, AsksCast, AsksDrill, AsksListen, AsksPlan, AsksRun, AsksScript, AsksSeek, AsksSplit, AsksTune}

-- What a command of the code asks for, with each file by the bytes of its name.
abbrev pub asked_by : Command → Request
asked_by (command.Plan deck) = AsksPlan deck.now
asked_by (command.Split deck) = AsksSplit deck.now
asked_by (command.Script deck tape) = AsksScript deck.now (option_map (λ name. name.now) tape)
asked_by (command.Tune deck tape) = AsksTune deck.now tape.now
asked_by (command.Beam deck tape) = AsksBeam deck.now tape.now
asked_by (command.Seek tape item from) = AsksSeek tape.now item from
asked_by (command.Drill seed size) = AsksDrill seed size
asked_by (command.Audit deck report) = AsksAudit deck.now report.now
asked_by (command.Run deck tape) = AsksRun deck.now tape.now
asked_by (command.Cast deck port) = AsksCast deck.now port
asked_by (command.Listen deck port) = AsksListen deck.now port

-- What a request, or none, means to `air_quiet`. For a command that waits it is the same as for words that are no command.
abbrev pub quiet_meaning : Option Request → Meaning
quiet_meaning (Some (AsksPlan deck)) = plan_meaning deck
quiet_meaning (Some (AsksSplit deck)) = split_meaning deck
quiet_meaning (Some (AsksScript deck tape)) = script_meaning deck tape
quiet_meaning (Some (AsksTune deck tape)) = tune_meaning deck tape
quiet_meaning (Some (AsksBeam deck tape)) = beam_meaning deck tape
quiet_meaning (Some (AsksSeek tape item from)) = seek_meaning tape item from
quiet_meaning (Some (AsksDrill seed size)) = drill_meaning seed size
quiet_meaning (Some (AsksAudit deck report)) = audit_meaning deck report
quiet_meaning other = no_command

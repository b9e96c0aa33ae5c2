-- The facts of each command, by what words ask for.
use Rattle.std.proofs.Common.{Option, Some}
use Rattle.air_devices.specs.Ears.{EarState}
use Rattle.air_devices.specs.Masts.{MastState}
use Rattle.air_cli.specs.Commands.{quiet_meaning}
use Rattle.air_cli.specs.Meanings.{no_command}
use Rattle.air_cli.specs.OnAir.{words_meaning}
use Rattle.air_cli.specs.Words.{Request, AsksAudit, AsksBeam, AsksCast, AsksDrill, AsksListen, AsksPlan, AsksRun, AsksScript, AsksSeek, AsksSplit, AsksTune}
use Rattle.air_cli.proofs.InputLemmas.{CommandFacts, GivesOne}
use Rattle.air_cli.proofs.AuditLemmas.{audit_facts, audit_one}
use Rattle.air_cli.proofs.BeamLemmas.{beam_facts, beam_one}
use Rattle.air_cli.proofs.CastLemmas.{cast_facts}
use Rattle.air_cli.proofs.DrillLemmas.{drill_facts, drill_one}
use Rattle.air_cli.proofs.ListenLemmas.{listen_facts}
use Rattle.air_cli.proofs.PlanMeaningLemmas.{plan_facts, plan_one}
use Rattle.air_cli.proofs.RefusalLemmas.{no_command_sound}
use Rattle.air_cli.proofs.RunMeaningLemmas.{run_facts}
use Rattle.air_cli.proofs.ScriptLemmas.{script_facts, script_one}
use Rattle.air_cli.proofs.SeekLemmas.{seek_facts, seek_one}
use Rattle.air_cli.proofs.SplitLemmas.{split_facts, split_one}
use Rattle.air_cli.proofs.TuneLemmas.{tune_facts, tune_one}

no_command_facts : CommandFacts no_command
no_command_facts = record { sound = no_command_sound; inputs = record { fits = λ before now s told suits calm h. absurd suits } }

pub quiet_facts : (asked : Option Request) → CommandFacts (quiet_meaning asked)
quiet_facts (Some (AsksPlan deck)) = plan_facts deck
quiet_facts (Some (AsksSplit deck)) = split_facts deck
quiet_facts (Some (AsksScript deck tape)) = script_facts deck tape
quiet_facts (Some (AsksTune deck tape)) = tune_facts deck tape
quiet_facts (Some (AsksBeam deck tape)) = beam_facts deck tape
quiet_facts (Some (AsksSeek tape item from)) = seek_facts tape item from
quiet_facts (Some (AsksDrill seed size)) = drill_facts seed size
quiet_facts (Some (AsksAudit deck report)) = audit_facts deck report
quiet_facts other = no_command_facts

pub words_facts : (asked : Option Request) (mast mast_now : MastState) (ear ear_now : EarState) → CommandFacts (words_meaning asked mast mast_now ear ear_now)
words_facts (Some (AsksRun deck tape)) mast mast_now ear ear_now = run_facts deck tape
words_facts (Some (AsksCast deck port)) mast mast_now ear ear_now = cast_facts deck port mast mast_now
words_facts (Some (AsksListen deck port)) mast mast_now ear ear_now = listen_facts deck port ear ear_now
words_facts other mast mast_now ear ear_now = quiet_facts other

-- The inputs of a command that doesn't wait decide what it gives.
pub quiet_one : (asked : Option Request) → GivesOne (quiet_meaning asked)
quiet_one (Some (AsksPlan deck)) = record { one = plan_one deck }
quiet_one (Some (AsksSplit deck)) = record { one = split_one deck }
quiet_one (Some (AsksScript deck tape)) = record { one = script_one deck tape }
quiet_one (Some (AsksTune deck tape)) = record { one = tune_one deck tape }
quiet_one (Some (AsksBeam deck tape)) = record { one = beam_one deck tape }
quiet_one (Some (AsksSeek tape item from)) = record { one = seek_one tape item from }
quiet_one (Some (AsksDrill seed size)) = record { one = λ before other a b same first second. drill_one seed size a b first second }
quiet_one (Some (AsksAudit deck report)) = record { one = audit_one deck report }
quiet_one other = record { one = λ before other a b same first second. absurd first }

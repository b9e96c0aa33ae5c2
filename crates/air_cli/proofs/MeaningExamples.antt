-- Which command means what, and of which files, ports and numbers its refusals and gifts speak; what it refuses and gives at the limits of a tape.
use Rattle.std.proofs.Common.{◌≡◌, ◌≤◌, true, Some, length, refl, arith}
use Rattle.std.specs.Prelude.{codes}
use Rattle.air_devices.specs.Ears.{EarState}
use Rattle.air_devices.specs.Masts.{MastState}
use Rattle.air_devices.specs.Shelves.{ShelfState}
use Rattle.air_index.specs.IndexedTapes.{beam_tape_of}
use Rattle.air_model.specs.Decks.{Deck}
use Rattle.air_report.specs.declared.status.Status.TheVariants as status
use Rattle.chunk_program.specs.Plans.{AreShort}
use Rattle.air_cli.specs.Audit.{AuditCause, AuditGives, audit_meaning}
use Rattle.air_cli.specs.Beam.{BeamGives, beam_given, beam_meaning}
use Rattle.air_cli.specs.Cast.{CastCause, CastGives, cast_meaning}
use Rattle.air_cli.specs.Commands.{quiet_meaning}
use Rattle.air_cli.specs.Headline.{AuditStands, CastStands, Headline, ListenStands, QuietHeadline, RunStands, TuneStands}
use Rattle.air_cli.specs.HeardTapes.{UnheardCause}
use Rattle.air_cli.specs.Listen.{ListenCause, ListenGives, listen_meaning}
use Rattle.air_cli.specs.NamedDecks.{HasDeck}
use Rattle.air_cli.specs.OnAir.{words_meaning}
use Rattle.air_cli.specs.Plan.{plan_meaning}
use Rattle.air_cli.specs.ReportsAndTapes.{ReportAndTape}
use Rattle.air_cli.specs.Run.{run_meaning}
use Rattle.air_cli.specs.Script.{script_meaning}
use Rattle.air_cli.specs.Seek.{SeekGives, seek_meaning}
use Rattle.air_cli.specs.Split.{split_meaning}
use Rattle.air_cli.specs.Tune.{TuneCause, TuneGives, tune_meaning}
use Rattle.air_cli.specs.Words.{AsksAudit, AsksBeam, AsksCast, AsksListen, AsksPlan, AsksRun, AsksScript, AsksSeek, AsksSplit, AsksTune}
use Rattle.air_cli.proofs.ToldExamples.{untold}

-- ---- which command means what

pub record Quiet : Type 1 where
  split : quiet_meaning (Some (AsksSplit (codes "d"))) ≡ split_meaning (codes "d")
  script : quiet_meaning (Some (AsksScript (codes "d") (Some (codes "o")))) ≡ script_meaning (codes "d") (Some (codes "o"))
  beam : quiet_meaning (Some (AsksBeam (codes "d") (codes "o"))) ≡ beam_meaning (codes "d") (codes "o")
  seek : quiet_meaning (Some (AsksSeek (codes "t") 1 2)) ≡ seek_meaning (codes "t") 1 2

quiet : Quiet
quiet = record { split = refl; script = refl; beam = refl; seek = refl }

-- Over every mast and ear a run means the same, and so does a plan.
pub record OnAir : Type 1 where
  run : (mast mast_now : MastState) (ear ear_now : EarState) → words_meaning (Some (AsksRun (codes "d") (codes "o"))) mast mast_now ear ear_now ≡ run_meaning (codes "d") (codes "o")
  plan : (mast mast_now : MastState) (ear ear_now : EarState) → words_meaning (Some (AsksPlan (codes "d"))) mast mast_now ear ear_now ≡ plan_meaning (codes "d")

on_air : OnAir
on_air = record { run = λ mast mast_now ear ear_now. refl; plan = λ mast mast_now ear ear_now. refl }

-- What the headline says of a request, before and after a call.
pub record Stands : Type 1 where
  tune : (before now : ShelfState) → QuietHeadline (Some (AsksTune (codes "d") (codes "t"))) before now status.Ok ≡ TuneStands (codes "d") (codes "t") before now
  audit : (before now : ShelfState) → QuietHeadline (Some (AsksAudit (codes "d") (codes "r"))) before now status.Differs ≡ AuditStands (codes "d") (codes "r") before now status.Differs
  run : (mast mast_now : MastState) (ear ear_now : EarState) (before now : ShelfState)
      → Headline (Some (AsksRun (codes "d") (codes "o"))) mast mast_now ear ear_now before now status.Ok ≡ RunStands (codes "d") (codes "o") before now
  cast : (mast mast_now : MastState) (ear ear_now : EarState) (before now : ShelfState)
      → Headline (Some (AsksCast (codes "d") 7)) mast mast_now ear ear_now before now status.Ok ≡ CastStands (codes "d") 7 mast mast_now before now
  listen : (mast mast_now : MastState) (ear ear_now : EarState) (before now : ShelfState)
      → Headline (Some (AsksListen (codes "d") 7)) mast mast_now ear ear_now before now status.Ok ≡ ListenStands (codes "d") 7 ear ear_now before now
  other : (mast mast_now : MastState) (ear ear_now : EarState) (before now : ShelfState)
      → Headline (Some (AsksAudit (codes "d") (codes "r"))) mast mast_now ear ear_now before now status.Ok ≡ AuditStands (codes "d") (codes "r") before now status.Ok

stands : Stands
stands = record {
  tune = λ before now. refl;
  audit = λ before now. refl;
  run = λ mast mast_now ear ear_now before now. refl;
  cast = λ mast mast_now ear ear_now before now. refl;
  listen = λ mast mast_now ear ear_now before now. refl;
  other = λ mast mast_now ear ear_now before now. refl;
}

-- ---- of what a command's refusals and gifts speak

pub record Parts : Type 1 where
  audit_refuses : (audit_meaning (codes "d") (codes "r")).Refuses ≡ AuditCause (codes "d") (codes "r")
  audit_gives : (audit_meaning (codes "d") (codes "r")).Gives ≡ AuditGives (codes "d") (codes "r")
  tune_refuses : (tune_meaning (codes "d") (codes "t")).Refuses ≡ TuneCause (codes "d") (codes "t")
  tune_gives : (tune_meaning (codes "d") (codes "t")).Gives ≡ TuneGives (codes "d") (codes "t")
  seek_refuses : (seek_meaning (codes "t") 1 2).Refuses ≡ UnheardCause (codes "t") 1073741824
  seek_gives : (seek_meaning (codes "t") 1 2).Gives ≡ SeekGives (codes "t") 1 2
  cast_refuses : (old new : MastState) → (cast_meaning (codes "d") 7 old new).Refuses ≡ CastCause (codes "d") 7 old new
  cast_gives : (old new : MastState) → (cast_meaning (codes "d") 7 old new).Gives ≡ CastGives (codes "d") 7 old new
  listen_refuses : (old new : EarState) → (listen_meaning (codes "d") 7 old new).Refuses ≡ ListenCause (codes "d") 7 old new
  listen_gives : (old new : EarState) → (listen_meaning (codes "d") 7 old new).Gives ≡ ListenGives (codes "d") 7 old new
  beam_gives : (beam_meaning (codes "d") (codes "o")).Gives ≡ BeamGives (codes "d")

parts : Parts
parts = record {
  audit_refuses = refl;
  audit_gives = refl;
  tune_refuses = refl;
  tune_gives = refl;
  seek_refuses = refl;
  seek_gives = refl;
  cast_refuses = λ old new. refl;
  cast_gives = λ old new. refl;
  listen_refuses = λ old new. refl;
  listen_gives = λ old new. refl;
  beam_gives = refl;
}

-- ---- the greatest indexed tape

-- A well-made deck whose indexed tape has 1,073,741,824 bytes.
abbrev HasGreatest : Type 0
HasGreatest = HasDeck (codes "d") untold (λ d. AreShort d × (length (beam_tape_of d) ≡ 1073741824))

pub record Beams : Type 0 where
  -- it is written piece by piece
  by_pieces : (beam_meaning (codes "d") (codes "o")).by_pieces ≡ true
  -- it suits and is given, and no longer one
  suits : HasGreatest → (beam_meaning (codes "d") (codes "o")).Suits untold
  fits : (h : (beam_meaning (codes "d") (codes "o")).Suits untold) → length (beam_tape_of h.0) ≤ 1073741824
  gives : HasGreatest → (given : ReportAndTape) × BeamGives (codes "d") untold given
  given_fits : (given : ReportAndTape) → BeamGives (codes "d") untold given → (d : Deck) × (length (beam_tape_of d) ≤ 1073741824)

beams : Beams
unfolding BeamGives
beams = record {
  by_pieces = refl;
  suits = λ has. (has.0, has.1, has.2, (has.3.0, omega (arith, has.3.1)));
  fits = λ h. h.3.1;
  gives = λ has. (beam_given has.0, (refl, (has.0, has.1, has.2, (has.3.0, omega (arith, has.3.1), refl))));
  given_fits = λ given h. (h.1.0, h.1.3.1);
}

-- What an answer doesn't allow: outputs, texts, counts, masts and ears that are not as they were, each for one reason.
use Rattle.std.proofs.Common.{◌≡◌, ◌≤◌, ℕ, true, false, List, [], Some, None, get_or, refl, sym, ap, ◌∙◌, inl, inr, arith}
use Rattle.std.specs.Prelude.{codes, if◌then◌else◌, nat_eq, take, ◌⊎◌}
use Rattle.std.specs.Cmp.Lexicographic.{pointwise}
use Rattle.air_devices.specs.Counts.{Rose, one_count}
use Rattle.air_devices.specs.Ears.{EarState}
use Rattle.air_devices.specs.Masts.{MastState, nothing_sent}
use Rattle.air_devices.specs.Shelves.{ShelfState}
use Rattle.air_report.specs.declared.status.Status.TheVariants as status
use Rattle.live_replay.proofs.AuditExamples.{small}
use Rattle.air_cli.specs.Answers.{Completes, HasBegun, IsDone, IsSuccess, IsWanting, Leaves, NoCountRose, OutputFailed, PrintFailed, QuietAnswers}
use Rattle.air_cli.specs.Audit.{audit_meaning}
use Rattle.air_cli.specs.Cast.{HasSent, IsBrokenCast, cast_meaning}
use Rattle.air_cli.specs.Commands.{quiet_meaning}
use Rattle.air_cli.specs.Drill.{DrillGives, drill_meaning}
use Rattle.air_cli.specs.Headline.{AuditStands, NowHolds, QuietHeadline, ScriptStands}
use Rattle.air_cli.specs.Listen.{HasHeardPort, IsBrokenListening, listen_meaning}
use Rattle.air_cli.specs.Meanings.{Meaning, no_command}
use Rattle.air_cli.specs.NamedDecks.{DeckCause}
use Rattle.air_cli.specs.NamedFiles.{UnreadCause}
use Rattle.air_cli.specs.Outputs.{OutputHolds, OutputHoldsBeginning}
use Rattle.air_cli.specs.Plan.{plan_meaning}
use Rattle.air_cli.specs.Script.{script_meaning}
use Rattle.air_cli.specs.Tune.{tune_given, tune_meaning}
use Rattle.air_cli.specs.Words.{AsksAudit, AsksDrill, AsksPlan, AsksScript, AsksTune}
use Rattle.air_cli.proofs.ToldExamples.{files, its_deck, shelf}

-- ---- shelves as calls leave them

abbrev plan : Meaning
plan = plan_meaning (codes "d")

abbrev script : Meaning
script = script_meaning (codes "d") (Some (codes "o"))

-- The told shelf with another text printed; with another output `x`; with no file told; with nothing told that is left, or of outputs.
abbrev printed : List ℕ → ShelfState
printed text = record shelf { told = record shelf.told { printed = Some text } }

abbrev other_output : ShelfState
other_output = record shelf { told = record shelf.told { output = λ name. if pointwise nat_eq name (codes "x") then Some (codes "a") else Some [] } }

abbrev no_file : ShelfState
no_file = record shelf { told = record shelf.told { file = λ name. None } }

abbrev nothing_left : ShelfState
nothing_left = record shelf { told = record shelf.told { left = λ name. None } }

abbrev untold_outputs : ShelfState
untold_outputs = record shelf { told = record shelf.told { output = λ name. None } }

-- The same with one more failed reading, writing, or print.
abbrev read_failed : ShelfState → ShelfState
read_failed now = record now { faults = record (one_count 0) { reading = λ name. 1 } }

abbrev write_failed : ShelfState → ShelfState
write_failed now = record now { faults = record (one_count 0) { writing = λ name. 1 } }

abbrev print_failed : ShelfState → ShelfState
print_failed now = record now { faults = record (one_count 0) { printing = 1 } }

pub record Shelves : Type 0 where
  -- the output that was begun is the named one; no other changed, nothing was printed, and no count went up
  other_begun : HasBegun script shelf other_output → ⊥
  begun_and_printed : HasBegun script shelf (printed (codes "a")) → ⊥
  begun_and_failed : HasBegun script shelf (print_failed shelf) → ⊥
  failed_and_printed : OutputFailed script shelf (write_failed (printed (codes "a"))) → ⊥
  -- files stay, and what is left of one that is no input
  file_gone : Leaves plan shelf no_file → ⊥
  other_read : Leaves plan shelf nothing_left → ⊥
  -- counts of readings and of writings count
  reading_rose : NoCountRose shelf.faults (read_failed shelf).faults → ⊥
  writing_rose : NoCountRose shelf.faults (write_failed shelf).faults → ⊥
  -- if a count went up, nothing is said of the status
  where_one_rose : Completes plan shelf (read_failed shelf) status.ReadFault
  -- an output that was told is told again
  not_held : OutputHolds (Some (codes "o")) (codes "ab") shelf untold_outputs → ⊥
  not_held_now : NowHolds (codes "o") (codes "ab") shelf untold_outputs → ⊥
  not_held_in_part : OutputHoldsBeginning (codes "o") (codes "ab") shelf untold_outputs → ⊥

shelves : Shelves
shelves = record {
  other_begun = λ h. let named : Some (codes "o") ≡ Some h.name = h.named in let name : codes "o" ≡ h.name = cc in
      let same : Some (codes "a") ≡ Some [] = h.others (codes "x") (λ e. let letter : 111 ≡ 120 = ap (λ l. get_or l 0 0) (name ∙ sym e) in omega (arith, letter)) in cc;
  begun_and_printed = λ h. let same : Some (codes "a") ≡ Some [] = h.printed in cc;
  begun_and_failed = λ h. let same : 1 ≡ 0 = h.calm.printing in omega (arith, same);
  failed_and_printed = λ h. let same : Some (codes "a") ≡ Some [] = h.printed in cc;
  file_gone = λ h. let same : None ≡ Some its_deck = h.files (codes "d") in cc;
  other_read = λ h. let same : None ≡ files (codes "r") = h.left (codes "r") (λ e. let letter : 114 ≡ 100 = ap (λ l. get_or l 0 0) e in omega (arith, letter)) in cc;
  reading_rose = λ h. h.reading [] (inl (omega arith));
  writing_rose = λ h. h.writing [] (inl (omega arith));
  where_one_rose = λ tells suits calm. absurd (calm.reading [] (inl (omega arith)));
  not_held = λ h. let same : None ≡ Some (codes "ab") = h in cc;
  not_held_now = λ h. let same : None ≡ Some (codes "ab") = h in cc;
  not_held_in_part = in_part;
}
  where
    none : (n : ℕ) → None ≡ Some (take n (codes "ab")) → ⊥
    none n e = cc

    in_part : OutputHoldsBeginning (codes "o") (codes "ab") shelf untold_outputs → ⊥
    in_part (inl same) = let e : None ≡ Some [] = same in cc
    in_part (inr (n, e)) = none n e

-- What each other status means.
pub record Statuses : Type 0 where
  print : (now : ShelfState) → PrintFailed plan shelf now → QuietAnswers plan shelf now status.WriteFault
  output : (now : ShelfState) → OutputFailed script shelf now → QuietAnswers script shelf now status.WriteFault
  memory : (now : ShelfState) → IsWanting plan shelf now → QuietAnswers plan shelf now status.NoMemory
  no_print_from_memory : QuietAnswers plan shelf (printed (codes "a")) status.WriteFault → Rose 0 0
  differs : (now : ShelfState) → QuietAnswers plan shelf now status.Differs → IsDone plan shelf now status.Differs
  read : QuietAnswers plan shelf (read_failed shelf) status.ReadFault → Rose 0 1
  success : IsSuccess status.Ok × IsSuccess status.Differs
  no_success : IsSuccess status.ReadFault → ⊥

statuses : Statuses
unfolding QuietAnswers
statuses = record {
  print = λ now h. inr h;
  output = λ now h. inl h;
  memory = λ now h. h;
  no_print_from_memory = risen;
  differs = λ now h. h;
  read = λ h. inl (omega arith);
  success = (inl refl, inr refl);
  no_success = neither;
}
  where
    risen : OutputFailed plan shelf (printed (codes "a")) ⊎ PrintFailed plan shelf (printed (codes "a")) → Rose 0 0
    risen (inl h) = h.rose
    risen (inr h) = h.rose

    neither : IsSuccess status.ReadFault → ⊥
    neither (inl e) = cc
    neither (inr e) = cc

-- Why a file wasn't read.
pub record Unread : Type 0 where
  reading : UnreadCause (codes "d") 3 shelf (read_failed shelf) status.ReadFault
  not_reading : UnreadCause (codes "d") 3 shelf shelf status.ReadFault → ⊥
  memory : UnreadCause (codes "d") 3 shelf shelf status.NoMemory
  no_other : UnreadCause (codes "d") 3 shelf (read_failed shelf) status.Ok → ⊥
  deck_limit : DeckCause (codes "d") shelf shelf (status.TooLarge 67108865) → ⊥

unread : Unread
unfolding UnreadCause DeckCause
unread = record {
  reading = inl (omega arith);
  not_reading = no_rise;
  memory = tt;
  no_other = λ h. h;
  deck_limit = λ h. let limit : 67108865 ≡ 67108864 = h.0 in omega (arith, limit);
}
  where
    no_rise : Rose 0 0 → ⊥
    no_rise (inl less) = omega arith
    no_rise (inr last) = omega (arith, last.0)

-- ---- which command means what

pub record Meant : Type 1 where
  audit : quiet_meaning (Some (AsksAudit (codes "d") (codes "r"))) ≡ audit_meaning (codes "d") (codes "r")
  plan : quiet_meaning (Some (AsksPlan (codes "d"))) ≡ plan_meaning (codes "d")
  tune : quiet_meaning (Some (AsksTune (codes "d") (codes "t"))) ≡ tune_meaning (codes "d") (codes "t")
  drill : quiet_meaning (Some (AsksDrill 2 1)) ≡ drill_meaning 2 1
  drill_given : (drill_meaning 2 1).Gives shelf ≡ DrillGives 2 1
  audit_stands : QuietHeadline (Some (AsksAudit (codes "d") (codes "r"))) shelf shelf status.Differs ≡ AuditStands (codes "d") (codes "r") shelf shelf status.Differs
  script_stands : QuietHeadline (Some (AsksScript (codes "d") None)) shelf no_file status.Ok ≡ ScriptStands (codes "d") None shelf no_file

meant : Meant
meant = record { audit = refl; plan = refl; tune = refl; drill = refl; drill_given = refl; audit_stands = refl; script_stands = refl }

pub record NoCommand : Type 0 where
  no_input : no_command.IsInput (codes "d") → ⊥
  suits_nothing : no_command.Suits shelf → ⊥
  at_once : no_command.by_pieces ≡ false
  by_pieces : script.by_pieces ≡ true
  differs_not : (tune_given small []).differs ≡ false

no_commands : NoCommand
no_commands = record { no_input = λ h. h; suits_nothing = λ h. h; at_once = refl; by_pieces = refl; differs_not = refl }

-- ---- masts and ears

-- A mast and an ear with this count of calls that failed, on port 7; and one that tells nothing more.
abbrev mast : ℕ → MastState
mast faults = record { told = Some nothing_sent; faults = faults; port = Some 7 }

abbrev ear : ℕ → EarState
ear faults = record { told = Some []; faults = faults; port = Some 7 }

abbrev untold_mast : ℕ → MastState
untold_mast faults = record (mast faults) { told = None }

pub record OnAir : Type 0 where
  -- counts don't fall, and the port is that which was asked for
  sent_with_fewer : HasSent small 7 (mast 1) (mast 0) → ⊥
  heard_with_fewer : HasHeardPort small 7 (ear 1) (ear 0) → ⊥
  other_port : IsBrokenCast small 8 0 (mast 0) (mast 1) → ⊥
  other_ear : IsBrokenListening small 8 0 (ear 0) (ear 1) → ⊥
  -- what was told of the mast is told again
  untold_cast : IsBrokenCast small 7 0 (mast 0) (untold_mast 1) → ⊥
  -- neither succeeds if a call failed
  cast_failed : (cast_meaning (codes "d") 7 (mast 0) (mast 1)).Suits shelf → ⊥
  listening_failed : (listen_meaning (codes "d") 7 (ear 0) (ear 1)).Suits shelf → ⊥

on_air : OnAir
on_air = record {
  sent_with_fewer = λ h. let later : 1 ≤ 0 = h.later in omega arith;
  heard_with_fewer = λ h. let later : 1 ≤ 0 = h.later in omega arith;
  other_port = λ h. let port : Some 7 ≡ Some 8 = h.port in cc;
  other_ear = λ h. let port : Some 7 ≡ Some 8 = h.port in cc;
  untold_cast = λ h. let told : None ≡ Some _ = h.sent.sent in cc;
  cast_failed = λ h. h.1 (inl (omega arith));
  listening_failed = λ h. h.1 (inl (omega arith));
}

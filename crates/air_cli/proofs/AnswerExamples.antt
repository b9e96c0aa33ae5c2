-- What statuses of the top call mean on the told shelf: positive and negative examples of each relation.
use Rattle.std.proofs.Common.{◌≡◌, ◌≤◌, ℕ, zero, suc, Bool, true, false, List, [], ◌∷◌, Option, Some, None, get_or, length, refl, sym, ap, subst, inl, inr, arith}
use Rattle.std.specs.Prelude.{codes, if◌then◌else◌, nat_eq, take}
use Rattle.std.specs.Prelude.{◌⊎◌}
use Rattle.std.specs.Io.KnownBytes.{IsAtEnd}
use Rattle.std.specs.Cmp.Lexicographic.{pointwise}
use Rattle.csv.specs.Writing.{escaped, fields_text, is_blank}
use Rattle.air_base.specs.Numbers.{number_text}
use Rattle.air_devices.specs.Counts.{KeepsCounts, NoCountFalls, Rose, one_count}
use Rattle.air_devices.specs.Ears.{EarState}
use Rattle.air_devices.specs.Masts.{MastState, fresh_mast}
use Rattle.air_devices.specs.Shelves.{ShelfState}
use Rattle.air_model.specs.Outputs.{plan_output}
use Rattle.air_model.specs.Rows.{rows_text}
use Rattle.air_report.specs.declared.status.Status.TheVariants as status
use Rattle.live_replay.proofs.AuditExamples.{small}
use Rattle.air_cli.specs.Answers.{Completes, HasBegun, InputFailed, IsDone, IsWanting, Leaves, NoCountRose, OutputFailed, PrintFailed, QuietAnswers}
use Rattle.air_cli.specs.Deliveries.{IsBeginningGiven, IsGiven}
use Rattle.air_cli.specs.ReportsAndTapes.{ReportAndTape, given_status}
use Rattle.air_cli.specs.Meanings.{Meaning}
use Rattle.air_cli.specs.NamedDecks.{DeckCause}
use Rattle.air_cli.specs.NamedFiles.{UnreadCause}
use Rattle.air_cli.specs.OnAir.{LeavesEar, LeavesMast}
use Rattle.air_cli.specs.Outputs.{OutputHolds, OutputHoldsBeginning}
use Rattle.air_cli.specs.Plan.{plan_meaning}
use Rattle.air_cli.specs.Refusals.{IsSteady, PrintsUnlessFailed}
use Rattle.air_cli.specs.RunnableDecks.{UnrunnableCause}
use Rattle.air_cli.specs.Script.{script_meaning}
use Rattle.air_cli.specs.Words.{AsksCast, AsksListen}
use Rattle.air_cli.specs.Untouched.{IsRefusal, IsUntouched, KeepsOutputs}
use Rattle.air_cli.specs.Private.GivenTexts.{plan_given, script_given}
use Rattle.air_cli.proofs.CommandExamples.{plan_gives, script_gives}
use Rattle.air_cli.proofs.ToldExamples.{files, its_deck, plan_suits, shelf, tells_plan}

-- The command that is asked for.
abbrev plan : Meaning
plan = plan_meaning (codes "d")

-- ---- shelves as calls leave them

-- The told shelf, printed on; and its deck read to its end.
abbrev with_printed : List ℕ → ShelfState
with_printed text = record shelf { told = record shelf.told { printed = Some text } }

abbrev deck_read : List ℕ → ShelfState
deck_read text = record shelf { told = record shelf.told { left = λ name. if pointwise nat_eq name (codes "d") then Some [] else files name; printed = Some text } }

-- The same with one more failed reading, writing, or print.
abbrev read_failed : ShelfState → ShelfState
read_failed now = record now { faults = record (one_count 0) { reading = λ name. 1 } }

abbrev write_failed : ShelfState → ShelfState
write_failed now = record now { faults = record (one_count 0) { writing = λ name. 1 } }

abbrev print_failed : ShelfState → ShelfState
print_failed now = record now { faults = record (one_count 0) { printing = 1 } }

-- Each output holds these bytes.
abbrev holding : List ℕ → ShelfState → ShelfState
holding bytes now = record now { told = record now.told { output = λ name. Some bytes } }

no_rise : Rose 0 0 → ⊥
no_rise (inl less) = omega arith
no_rise (inr last) = omega (arith, last.0)

keeps : KeepsCounts shelf.faults shelf.faults
keeps = record { reading = λ name. refl; writing = λ name. refl; printing = refl }

no_fall : NoCountFalls shelf.faults shelf.faults
no_fall = record { reading = λ name. omega arith; writing = λ name. omega arith; printing = omega arith }

-- ---- outputs and texts

holds : OutputHolds (Some (codes "o")) (codes "ab") shelf (holding (codes "ab") shelf) × OutputHolds None (codes "ab") shelf shelf
holds = (refl, tt)

not_holds : OutputHolds (Some (codes "o")) (codes "ab") shelf (holding (codes "abc") shelf) → ⊥
not_holds h = let same : codes "abc" ≡ codes "ab" = cc in let n : 3 ≡ 2 = ap length same in omega (arith, n)

holds_part : OutputHoldsBeginning (codes "o") (codes "ab") shelf (holding (codes "a") shelf) × OutputHoldsBeginning (codes "o") (codes "ab") shelf shelf
holds_part = (inr (1, refl), inl refl)

-- Other bytes aren't the first of them.
not_holds_part : OutputHoldsBeginning (codes "o") (codes "ab") shelf (holding (codes "b") shelf) → ⊥
not_holds_part (inl same) = let none : Some (codes "b") ≡ Some [] = same in cc
not_holds_part (inr (zero, held)) = let none : Some (codes "b") ≡ Some [] = held in cc
not_holds_part (inr (suc n, held)) = let part : codes "b" ≡ 97 ∷ take n (codes "b") = cc in let letter : 98 ≡ 97 = ap (λ l. get_or l 0 0) part in omega (arith, letter)

given : IsGiven None (plan_given small) shelf (with_printed (plan_output small))
given = record { written = tt; printed = refl }

given_in_part : IsBeginningGiven None (plan_given small) shelf shelf
given_in_part = record { written = tt; printed = (0, refl) }

-- More than the text isn't a part of it.
not_given_in_part : IsBeginningGiven (Some (codes "o")) (record { text = codes "ab"; tape = codes "t"; differs = false }) shelf shelf → ⊥
not_given_in_part h = let written : Some [] ≡ Some (codes "t") = h.written in cc

prints : PrintsUnlessFailed (codes "ab") shelf (with_printed (codes "ab")) × PrintsUnlessFailed (codes "ab") shelf (print_failed (with_printed (codes "a")))
prints = (record { part = (2, refl); whole = λ calm. refl }, record { part = (1, refl); whole = λ calm. absurd (calm (inl (omega arith))) })

-- Only a part is printed only if a print failed.
not_prints : PrintsUnlessFailed (codes "ab") shelf (with_printed (codes "a")) → ⊥
not_prints h = let whole : codes "a" ≡ codes "ab" = h.whole no_rise in let n : 1 ≡ 2 = ap length whole in omega (arith, n)

steady : IsSteady shelf shelf × IsSteady shelf (print_failed shelf)
steady = (inl keeps, inr (inl (omega arith)))

not_steady : IsSteady shelf (read_failed shelf) → ⊥
not_steady (inl kept) = let same : 1 ≡ 0 = kept.reading [] in omega (arith, same)
not_steady (inr rose) = no_rise rose

keeps_outputs : KeepsOutputs shelf (deck_read [])
keeps_outputs name = refl

not_keeps_outputs : KeepsOutputs shelf (holding (codes "a") shelf) → ⊥
not_keeps_outputs h = let same : Some (codes "a") ≡ Some [] = h [] in cc

untouched : IsUntouched shelf (deck_read [])
untouched = record { printed = refl; outputs = λ name. refl }

not_untouched : (IsUntouched shelf (with_printed (codes "a")) → ⊥) × (IsUntouched shelf (holding (codes "a") shelf) → ⊥)
not_untouched = (λ h. let printed : Some (codes "a") ≡ Some [] = h.printed in cc, λ h. not_keeps_outputs h.outputs)

refusal : IsRefusal status.ReadFault shelf (with_printed (codes "fault,3\n"))
unfolding rows_text number_text escaped fields_text is_blank
refusal = record { line = record { part = (8, refl); whole = λ calm. refl }; outputs = λ name. refl }

-- A refusal prints its own line, and writes no output.
not_refusal : (IsRefusal status.ReadFault shelf shelf → ⊥) × (IsRefusal status.ReadFault shelf (holding (codes "a") shelf) → ⊥)
unfolding rows_text number_text escaped fields_text is_blank
not_refusal = (λ h. let whole : [] ≡ codes "fault,3\n" = h.line.whole no_rise in cc, λ h. not_keeps_outputs h.outputs)

-- ---- what each status means

done : IsDone plan shelf (deck_read (plan_output small)) status.Ok
done = record {
  gives = (plan_given small, plan_gives, refl, record { written = tt; printed = refl });
  read = λ name is. subst (λ n. IsAtEnd ((deck_read (plan_output small)).told.left n)) (sym is) refl;
  calm = record { reading = λ name. refl; writing = λ name. refl; printing = refl };
}

-- The command didn't succeed if a count went up, if the deck was left to read, or with another status.
not_done : (IsDone plan shelf (print_failed (deck_read (plan_output small))) status.Ok → ⊥)
    × (IsDone plan shelf (with_printed (plan_output small)) status.Ok → ⊥) × (IsDone plan shelf (deck_read (plan_output small)) status.WriteFault → ⊥)
not_done = (
  λ h. let same : 1 ≡ 0 = h.calm.printing in omega (arith, same),
  λ h. left (h.read (codes "d") refl),
  λ h. no_success h.gives.0.differs h.gives.2,
)
  where
    left : IsAtEnd (files (codes "d")) → ⊥
    left e = let none : its_deck ≡ [] = e in cc

    no_success : (differs : Bool) → status.WriteFault ≡ given_status differs → ⊥
    no_success false e = cc
    no_success true e = cc

answers : QuietAnswers plan shelf (deck_read (plan_output small)) status.Ok
unfolding QuietAnswers
answers = done

-- A plan has no tape that could be cut.
not_answers : QuietAnswers plan shelf (with_printed (codes "fault,6,0\n")) (status.TapeCut 0) → ⊥
unfolding QuietAnswers UnrunnableCause DeckCause UnreadCause
not_answers h = h.0

output_failed : OutputFailed (script_meaning (codes "d") (Some (codes "o"))) shelf (write_failed (holding [] shelf))
output_failed = record { name = codes "o"; named = refl; rose = inl (omega arith); gives = (script_given small, script_gives, inl refl); printed = refl }

-- A plan has no output that could fail.
not_output_failed : (now : ShelfState) → OutputFailed plan shelf now → ⊥
not_output_failed now h = let named : None ≡ Some h.name = h.named in cc

print_failed_part : PrintFailed plan shelf (print_failed shelf)
print_failed_part = record { rose = inl (omega arith); gives = (plan_given small, plan_gives, given_in_part_failed) }
  where
    given_in_part_failed : IsBeginningGiven None (plan_given small) shelf (print_failed shelf)
    given_in_part_failed = record { written = tt; printed = (0, refl) }

not_print_failed : PrintFailed plan shelf shelf → ⊥
not_print_failed h = no_rise h.rose

input_failed : InputFailed plan shelf (read_failed shelf)
input_failed = record { name = codes "d"; named = refl; rose = inl (omega arith) }

-- A failed write is no failed read.
not_input_failed : InputFailed plan shelf (write_failed shelf) → ⊥
not_input_failed h = no_rise h.rose

has_begun : HasBegun (script_meaning (codes "d") (Some (codes "o"))) shelf shelf
has_begun = record {
  pieces = refl;
  name = codes "o";
  named = refl;
  gives = (script_given small, script_gives, inl refl);
  others = λ other apart. refl;
  printed = refl;
  calm = keeps;
}

-- A plan writes no output by pieces.
not_begun : (now : ShelfState) → HasBegun plan shelf now → ⊥
not_begun now h = let pieces : false ≡ true = h.pieces in cc

wanting : IsWanting plan shelf shelf
wanting = record { untouched = inl (record { printed = refl; outputs = λ name. refl }); counts = inl keeps }

-- Out of memory, nothing is printed, and no count goes up except that of a failed read.
not_wanting : (IsWanting plan shelf (with_printed (codes "a")) → ⊥) × (IsWanting plan shelf (print_failed shelf) → ⊥)
not_wanting = (λ h. printed h.untouched, λ h. risen h.counts)
  where
    printed : IsUntouched shelf (with_printed (codes "a")) ⊎ HasBegun plan shelf (with_printed (codes "a")) → ⊥
    printed (inl h) = not_untouched.0 h
    printed (inr h) = not_begun (with_printed (codes "a")) h

    risen : KeepsCounts shelf.faults (print_failed shelf).faults ⊎ InputFailed plan shelf (print_failed shelf) → ⊥
    risen (inl h) = let same : 1 ≡ 0 = h.printing in omega (arith, same)
    risen (inr h) = no_rise h.rose

-- ---- what must succeed

no_count_rose : NoCountRose shelf.faults shelf.faults
no_count_rose = record { reading = λ name. no_rise; writing = λ name. no_rise; printing = no_rise }

count_rose : NoCountRose shelf.faults (print_failed shelf).faults → ⊥
count_rose h = h.printing (inl (omega arith))

completes : Completes plan shelf shelf status.Ok
completes tells suits calm = inl (plan_given small, plan_gives, refl)

-- It doesn't complete with another status: on the told shelf its inputs are told and suit it, and no count went up.
not_completes : Completes plan shelf shelf status.ReadFault → ⊥
not_completes h = by (h tells_plan plan_suits no_count_rose)
  where
    no_success : (differs : Bool) → status.ReadFault ≡ given_status differs → ⊥
    no_success false e = cc
    no_success true e = cc

    by : ((given : ReportAndTape) × plan.Gives shelf given × (status.ReadFault ≡ given_status given.differs)) ⊎ (status.ReadFault ≡ status.NoMemory) → ⊥
    by (inl (given, gives, is)) = no_success given.differs is
    by (inr e) = cc

-- ---- what is left

leaves : Leaves plan shelf (with_printed (plan_output small))
leaves = record { files = λ name. refl; left = λ name other. refl; outputs = λ name other. refl; counts = no_fall }

-- Other outputs, and files, are as they were.
not_leaves : (Leaves plan shelf (holding (codes "a") shelf) → ⊥) × (Leaves plan (print_failed shelf) shelf → ⊥)
not_leaves = (λ h. let same : ◌≡◌ {A = Option (List ℕ)} (Some (codes "a")) (Some []) = h.outputs (codes "o") (λ e. cc) in cc, λ h. let least : 1 ≤ 0 = h.counts.printing in omega arith)

-- A mast and an ear that were aimed and tuned.
abbrev aimed : MastState
aimed = record fresh_mast { port = Some 7 }

abbrev fresh_ear : EarState
fresh_ear = record { told = Some []; faults = 0; port = None }

abbrev tuned : EarState
tuned = record fresh_ear { port = Some 7 }

leaves_mast : LeavesMast None shelf fresh_mast fresh_mast × LeavesMast (Some (AsksCast (codes "d") 7)) shelf fresh_mast fresh_mast
leaves_mast = (refl, inl refl)

-- No other call than `cast` aims a mast, and only `listen` tunes an ear.
not_leaves_mast : (LeavesMast None shelf fresh_mast aimed → ⊥) × (LeavesMast (Some (AsksListen (codes "d") 7)) shelf fresh_mast aimed → ⊥)
not_leaves_mast = (λ h. let port : ◌≡◌ {A = Option ℕ} (Some 7) None = ap (λ (m : MastState). m.port) h in cc, λ h. let port : ◌≡◌ {A = Option ℕ} (Some 7) None = ap (λ (m : MastState). m.port) h in cc)

leaves_ear : LeavesEar None shelf fresh_ear fresh_ear × LeavesEar (Some (AsksListen (codes "d") 7)) shelf fresh_ear fresh_ear
leaves_ear = (refl, inl refl)

not_leaves_ear : (LeavesEar None shelf fresh_ear tuned → ⊥) × (LeavesEar (Some (AsksCast (codes "d") 7)) shelf fresh_ear tuned → ⊥)
not_leaves_ear = (λ h. let port : ◌≡◌ {A = Option ℕ} (Some 7) None = ap (λ (e : EarState). e.port) h in cc, λ h. let port : ◌≡◌ {A = Option ℕ} (Some 7) None = ap (λ (e : EarState). e.port) h in cc)

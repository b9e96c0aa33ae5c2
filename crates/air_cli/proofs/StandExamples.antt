-- What was given to an output and to the printer, and what wasn't; and the run of the told deck without any premise, for the law of one history is
-- proved.
use Rattle.std.proofs.Common.{◌≡◌, ℕ, false, List, [], Some, length, ap, refl, arith}
use Rattle.std.specs.Prelude.{codes, if◌then◌else◌, nat_eq}
use Rattle.std.specs.Cmp.Lexicographic.{pointwise}
use Rattle.air_devices.specs.Masts.{fresh_mast}
use Rattle.air_devices.specs.Shelves.{ShelfState}
use Rattle.air_model.specs.Outputs.{cast_output, run_tape}
use Rattle.air_report.specs.declared.status.Status.TheVariants as status
use Rattle.air_report.proofs.HistoryRows.{one_history}
use Rattle.deck_runs.specs.RunTruths.{IsTrueRun}
use Rattle.live_replay.proofs.AuditExamples.{its_bytes, small, ten}
use Rattle.air_cli.specs.Deliveries.{IsGiven}
use Rattle.air_cli.specs.Headline.{Headline}
use Rattle.air_cli.specs.ReportsAndTapes.{ReportAndTape}
use Rattle.air_cli.specs.Words.{AsksCast, AsksRun}
use Rattle.air_cli.proofs.HeadlineExamples.{its_cast, its_run}
use Rattle.air_cli.proofs.ListenExamples.{fresh_ear}
use Rattle.air_cli.proofs.RunExamples.{aimed, all_of_ten, is_true_run, ten_run}
use Rattle.air_cli.proofs.ToldExamples.{shelf}

-- ---- what was given

-- The told shelf, with this tape in the output `o`, and printed on.
abbrev holding : List ℕ → List ℕ → ShelfState
holding tape text = record shelf { told = record shelf.told { output = λ name. if pointwise nat_eq name (codes "o") then Some tape else Some []; printed = Some text } }

-- A short text, and a short tape.
abbrev short : ReportAndTape
short = record { text = codes "ab"; tape = codes "t"; differs = false }

its_given : IsGiven (Some (codes "o")) short shelf (holding (codes "t") (codes "ab"))
its_given = record { written = refl; printed = refl }

-- Not if a part of the text was printed, or another text, or if the tape wasn't written.
not_given : (IsGiven (Some (codes "o")) short shelf (holding (codes "t") (codes "a")) → ⊥) × (IsGiven (Some (codes "o")) short shelf (holding (codes "t") (codes "abc")) → ⊥)
    × (IsGiven (Some (codes "o")) short shelf (holding [] (codes "ab")) → ⊥)
not_given = (
  λ h. let part : codes "a" ≡ codes "ab" = h.printed in let n : 1 ≡ 2 = ap length part in omega (arith, n),
  λ h. let more : codes "abc" ≡ codes "ab" = h.printed in let n : 3 ≡ 2 = ap length more in omega (arith, n),
  λ h. let written : Some [] ≡ Some (codes "t") = h.written in cc,
)

-- ---- the run and the cast

true_of_ten : IsTrueRun small ten_run
true_of_ten = is_true_run one_history

the_run : Headline (Some (AsksRun (codes "d") (codes "o"))) fresh_mast fresh_mast (fresh_ear []) (fresh_ear []) shelf (holding (run_tape small ten) its_bytes) status.Ok
the_run = its_run one_history

the_cast : Headline (Some (AsksCast (codes "d") 7)) fresh_mast (aimed all_of_ten) (fresh_ear []) (fresh_ear []) shelf (holding [] (cast_output ten [] [])) status.Ok
the_cast = its_cast one_history

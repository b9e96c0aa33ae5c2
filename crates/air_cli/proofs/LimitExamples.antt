-- What answers mean at limits: the greatest size that is allowed, and the least that isn't. Only the number of the bytes is known.
use Rattle.std.proofs.Common.{◌≡◌, ◌≤◌, ℕ, List, [], Some, None, length, refl, ap, arith}
use Rattle.std.specs.Prelude.{codes}
use Rattle.air_devices.specs.Shelves.{ShelfState}
use Rattle.air_model.specs.Decks.{Deck, IsDeck}
use Rattle.item_catalog.specs.DeckLimits.{WithinLimits}
use Rattle.air_model.specs.Outputs.{script_tape}
use Rattle.air_model.specs.Tapes.{tape_read}
use Rattle.air_report.specs.declared.status.Status.TheVariants as status
use Rattle.deck_runs.specs.RunTapes.{run_tape_len}
use Rattle.item_catalog.specs.Grammar.{HasFault}
use Rattle.live_replay.proofs.AuditExamples.{small}
use Rattle.chunk_program.specs.Plans.{AreShort}
use Rattle.air_cli.specs.Audit.{HasReport}
use Rattle.air_cli.specs.NamedDecks.{IsFaulty}
use Rattle.air_cli.specs.ReportsAndTapes.{ReportAndTape}
use Rattle.air_cli.specs.Run.{CanRun}
use Rattle.air_cli.specs.Script.{script_meaning}
use Rattle.air_cli.specs.Truths.{IsTrueTape}
use Rattle.air_cli.specs.Tune.{IsTuned, TuneCause, tune_given, tune_meaning}
use Rattle.air_cli.proofs.ToldExamples.{shelf, short, small_made, untold}

-- A shelf whose every file has these bytes, and was read to its end.
abbrev of_bytes : List ℕ → ShelfState
of_bytes bytes = record shelf { told = record shelf.told { file = λ name. Some bytes; left = λ name. Some [] } }

pub record Limits : Type 0 where
  -- a report of 134,217,728 bytes
  report : (bytes : List ℕ) → length bytes ≡ 134217728 → HasReport (codes "d") (codes "r") untold (λ d other. other ≡ bytes)
  no_report : (bytes : List ℕ) → length bytes ≡ 134217729 → HasReport (codes "d") (codes "r") untold (λ d other. other ≡ bytes) → ⊥
  -- a deck of 67,108,864 bytes
  deck : (bytes : List ℕ) → length bytes ≡ 67108864 → HasFault bytes 3 7 → IsFaulty (codes "d") 3 7 (of_bytes bytes) (of_bytes bytes)
  no_deck : (bytes : List ℕ) → length bytes ≡ 67108865 → IsFaulty (codes "d") 3 7 (of_bytes bytes) (of_bytes bytes) → ⊥
  its_fault : (bytes : List ℕ) → IsFaulty (codes "d") 3 7 (of_bytes bytes) untold → HasFault bytes 3 7
  -- a tape of 1,073,741,824 bytes, of a run, of a script, and of one that is heard
  run : (d : Deck) → AreShort d → run_tape_len d ≡ 1073741824 → CanRun d
  no_run : (d : Deck) → run_tape_len d ≡ 1073741825 → CanRun d → ⊥
  script : (d : Deck) → IsDeck d × WithinLimits d → AreShort d → length (script_tape d) ≡ 1073741824 → (script_meaning (codes "d") None).Suits untold
  script_fits : (h : (script_meaning (codes "d") None).Suits untold) → length (script_tape h.0) ≤ 1073741824
  tape : (bytes : List ℕ) → length bytes ≡ 1073741824 → (tape_read bytes).cut ≡ None → IsTrueTape small (tape_read bytes).records → IsTuned small (tune_given small (tape_read bytes).records) bytes
  no_tape : (bytes : List ℕ) (given : ReportAndTape) → length bytes ≡ 1073741825 → IsTuned small given bytes → ⊥
  tape_suits : (bytes : List ℕ) → length bytes ≡ 1073741824 → (tape_read bytes).cut ≡ None → (tune_meaning (codes "d") (codes "t")).Suits untold
  tape_fits : (h : (tune_meaning (codes "d") (codes "t")).Suits untold) → length h.1.0 ≤ 1073741824
  cut : (bytes : List ℕ) → length bytes ≡ 1073741824 → (tape_read bytes).cut ≡ Some 5 → TuneCause (codes "d") (codes "t") untold untold (status.TapeCut 5)
  cut_fits : TuneCause (codes "d") (codes "t") untold untold (status.TapeCut 5) → (bytes : List ℕ) × (length bytes ≤ 1073741824)

limits : Limits
unfolding TuneCause
limits = record {
  report = λ bytes all. (small, tt, small_made, (bytes, tt, (omega (arith, all), refl)));
  no_report = λ bytes more h. let few : length h.3.0 ≤ 134217728 = h.3.2.0 in omega (arith, few, ap length h.3.2.1, more);
  deck = λ bytes all fault. record { read = refl; fault = (omega (arith, all), fault) };
  no_deck = λ bytes more h. let few : length bytes ≤ 67108864 = h.fault.0 in omega (arith, few, more);
  its_fault = λ bytes h. h.fault.1;
  run = λ d is_short all. (is_short, omega (arith, all));
  no_run = λ d more h. let few : run_tape_len d ≤ 1073741824 = h.1 in omega (arith, few, more);
  script = λ d made is_short all. (d, tt, made, (is_short, omega (arith, all)));
  script_fits = λ h. h.3.1;
  tape = λ bytes all whole true_is. record { fits = omega (arith, all); whole = whole; true_is = true_is; given_is = refl };
  no_tape = λ bytes given more h. let few : length bytes ≤ 1073741824 = h.fits in omega (arith, few, more);
  tape_suits = λ bytes all whole. ((small, tt, small_made, short), (bytes, tt, (omega (arith, all), whole)));
  tape_fits = λ h. h.1.2.0;
  cut = λ bytes all at. ((small, tt, small_made, short), (bytes, tt, (omega (arith, all), at)));
  cut_fits = λ h. (h.1.0, h.1.2.0);
}

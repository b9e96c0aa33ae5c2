-- What drills, judged reports and refusals are, each on values: a drill of seed 0 and size 1, the report of the told deck's script, and causes over
-- shelves of which a reading failed, or whose deck has a fault.
use Rattle.std.proofs.Common.{◌≡◌, ◌<◌, ◌≤◌, ℕ, zero, suc, [], ◌∷◌, Some, get_or, length, refl, inl, arith}
use Rattle.std.specs.Prelude.{codes}
use Rattle.csv.proofs.OnLiterals.{csv_on_literals}
use Rattle.air_base.specs.Numbers.{number_of}
use Rattle.air_devices.specs.Counts.{one_count}
use Rattle.air_devices.specs.Shelves.{ShelfState}
use Rattle.air_model.proofs.DeckLemmas.{events}
use Rattle.air_model.proofs.EtherLemmas.{heard_was_pushed}
use Rattle.air_model.proofs.RangeLemmas.{bytes_aired}
use Rattle.air_model.proofs.ReceiverLemmas.{receiver}
use Rattle.air_model.proofs.ScriptLemmas.{script}
use Rattle.air_model.specs.Aired.{scheme_in}
use Rattle.air_model.specs.Decks.{disks_in, script_history, values_in}
use Rattle.air_model.specs.Disks.{cut, order, order_with}
use Rattle.air_model.specs.Draws.{draw, draw_each}
use Rattle.air_model.specs.Drills.{draw_query, draw_update, drill_deck}
use Rattle.air_model.specs.Judges.{by_history}
use Rattle.air_model.specs.Programs.{chunk, chunk_len, least_common_multiple, minor_cycle, num_chunks, num_minors, program}
use Rattle.air_model.specs.Outputs.{ether_of, sessions_over}
use Rattle.air_model.specs.Reports.{Report, counts_lines, verdict_lines}
use Rattle.air_report.specs.declared.status.Status.TheVariants as status
use Rattle.item_catalog.proofs.DrillLemmas.{drill_made}
use Rattle.item_catalog.specs.Faults.{kinds_at}
use Rattle.item_catalog.specs.Fields.{freq_of}
use Rattle.item_catalog.specs.Grammar.{HasFault}
use Rattle.live_replay.proofs.AuditExamples.{small, small_is_deck}
use Rattle.air_cli.specs.Beam.{BeamCause}
use Rattle.air_cli.specs.Drill.{DrillGives}
use Rattle.air_cli.specs.Headline.{IsJudgedReport}
use Rattle.air_cli.specs.NamedDecks.{DeckCause, IsFaulty}
use Rattle.air_cli.specs.NamedFiles.{UnreadCause}
use Rattle.air_cli.specs.Private.GivenTexts.{drill_given}
use Rattle.air_cli.specs.RunnableDecks.{UnrunnableCause}
use Rattle.air_cli.specs.Script.{ScriptCause}
use Rattle.air_cli.specs.Split.{SplitCause}
use Rattle.air_cli.specs.Truths.{IsTrueScript}
use Rattle.air_cli.proofs.CommandExamples.{within}
use Rattle.air_cli.proofs.RightLemmas.{judged_report}
use Rattle.air_cli.proofs.ToldExamples.{shelf, short}
use Rattle.air_cli.proofs.TruthLemmas.{short_programs, true_script}

-- ---- drills

its_slots : length (program (disks_in (drill_deck 0 1) 0)) ≡ 28
unfolding drill_deck draw draw_each draw_update draw_query order order_with cut program least_common_multiple num_minors num_chunks chunk_len chunk minor_cycle
its_slots = refl

true_drill : IsTrueScript (drill_deck 0 1)
unfolding drill_deck
true_drill =
    let made = drill_made 0 1 (omega arith) (omega arith) (omega arith) in
    true_script (drill_deck 0 1) made.0 made.1 (short_programs (drill_deck 0 1) refl (omega (arith, its_slots))) script events bytes_aired heard_was_pushed receiver

its_drill : DrillGives 0 1 (drill_given 0 1)
unfolding DrillGives
its_drill = (true_drill, refl)

-- ---- judged reports

-- The report of the told deck's script, as its history judges it over what its reader's ether gives.
abbrev judged_one : Report
judged_one =
    let sessions = sessions_over (by_history (scheme_in small) 2 (values_in small) (script_history small)) small (ether_of small (script_history small)) in
    record { history = script_history small; verdicts = verdict_lines sessions; counts = counts_lines sessions; glances = []; looks = [] }

its_judged : IsJudgedReport small (script_history small) (ether_of small (script_history small)) judged_one
its_judged =
    let true_is : IsTrueScript small = true_script small small_is_deck within short script events bytes_aired heard_was_pushed receiver in
    judged_report small (script_history small) (ether_of small (script_history small)) judged_one refl refl true_is.sessions

-- ---- causes

-- The shelf with a failed reading of each file.
abbrev read_failed : ShelfState
read_failed = record shelf { faults = record (one_count 0) { reading = λ name. 1 } }

record Unread : Type 0 where
  script : ScriptCause (codes "d") shelf read_failed status.ReadFault
  split : SplitCause (codes "d") shelf read_failed status.ReadFault
  beam : BeamCause (codes "d") shelf read_failed status.ReadFault

unread : Unread
unfolding ScriptCause SplitCause BeamCause UnrunnableCause DeckCause UnreadCause
unread = record { script = inl (omega arith); split = inl (omega arith); beam = inl (omega arith) }

-- A deck of one item on a disk of two has fault 6 at its end, which is row 3.
abbrev bad_deck : ShelfState
bad_deck = record shelf { told = record shelf.told { file = λ name. Some (codes "item,0,5,1\ndisk,2,1\n"); left = λ name. Some [] } }

has_fault : HasFault (codes "item,0,5,1\ndisk,2,1\n") 3 6
unfolding HasFault kinds_at number_of freq_of csv_on_literals
has_fault = (
  2,
  refl,
  record {
    within = omega arith;
    first = before;
    least = record { one = (0, omega arith, refl); least = λ k d below. least k d below };
  },
)
  where
    before : (place : ℕ) → place < 2 → kinds_at ((codes "item" ∷ codes "0" ∷ codes "5" ∷ codes "1" ∷ []) ∷ (codes "disk" ∷ codes "2" ∷ codes "1" ∷ []) ∷ []) place ≡ []
    before zero below = refl
    before (suc zero) below = refl
    before (suc (suc place)) below = absurd (omega arith)

    least : (k d : ℕ) → k < 1 → 6 ≤ get_or (6 ∷ []) k d
    least zero d below = omega arith
    least (suc k) d below = absurd (omega arith)

its_fault : IsFaulty (codes "d") 3 6 bad_deck bad_deck
its_fault = record { read = refl; fault = (omega arith, has_fault) }

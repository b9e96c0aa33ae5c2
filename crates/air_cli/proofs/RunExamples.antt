-- A run of the told deck, its report and its tape, and a cast of it: positive and negative examples of each relation.
use Rattle.std.proofs.Common.{◌≡◌, ℕ, zero, suc, true, false, List, [], ◌∷◌, Option, Some, None, length, map, refl, ap, subst, inl, inr, arith}
use Rattle.std.specs.Prelude.{◌<◌, codes, slice_get}
use Rattle.std.proofs.lemmas.List.Elements.{All-nil}
use Rattle.csv.specs.Writing.{escaped, fields_text, is_blank}
use Rattle.air_base.specs.Numbers.{number_text}
use Rattle.air_devices.specs.Counts.{Rose}
use Rattle.air_devices.specs.Masts.{MastState, SentBuckets, fresh_mast, nothing_sent}
use Rattle.air_history.specs.Columns.{column_entry}
use Rattle.air_history.specs.Consistency.{consistent, descends_from, last_alone, runs_alone}
use Rattle.air_history.specs.Clashes.{clash_by_history, is_late, least}
use Rattle.air_history.specs.Descents.{descends, descends_in}
use Rattle.air_history.specs.Histories.{cycle_at, front, is_start, reads, starts, writer, writer_before, writes}
use Rattle.air_history.specs.Places.{greatest, last_place}
use Rattle.air_history.specs.Reads.{origin, stale}
use Rattle.air_history.specs.Tables.{table, value_after, value_on_base, write_of}
use Rattle.air_history.specs.UpdateLists.{UpdateLists}
use Rattle.air_history.specs.declared.histories.Event.TheVariants.{Commit}
use Rattle.air_model.specs.Aired.{body_fits, body_of, bucket_of, buckets_of, fits}
use Rattle.air_model.specs.Airings.{chunks_of, disk_number, pix_number}
use Rattle.air_model.specs.Buckets.{body_at, bucket_at, capped_body, capped_entries, count_of, entries_at, entries_of, entry_bytes, entry_count, entry_told, is_entry, is_placed, is_shaped, item_of, kind_of, raw_entries, reading, spelling, value_of}
use Rattle.air_model.specs.Copies.{keep, with_copy, without_item}
use Rattle.air_model.specs.Decks.{IsWhole, is_by, updates_by, values_in}
use Rattle.air_model.specs.Disks.{cut, order, order_with}
use Rattle.air_model.specs.Draws.{words_by}
use Rattle.air_model.specs.Ethers.{due_at, due_number, heard_by, heard_list, heard_places, places_due, times_heard}
use Rattle.air_model.specs.MonitorSights.{IsSeen}
use Rattle.air_model.specs.Judges.{by_history}
use Rattle.air_model.specs.Outputs.{run_output, true_sessions}
use Rattle.air_model.specs.Programs.{chunk, chunk_len, least_common_multiple, minor_cycle, num_chunks, num_minors, program}
use Rattle.air_model.specs.Reports.{report_text}
use Rattle.air_model.specs.Rows.{rows_text}
use Rattle.air_model.specs.Runs.{IsRun, Run}
use Rattle.air_model.specs.Sessions.{abort, accept_if_whole, copy_of, count_copied, count_dozed, count_foreign, count_late, count_opened, count_refused, decide, drop_copy, end, end_aged, end_query, hear, hear_all, hear_read, hold, is_unusable, judge_read, line_of, next_attempt, next_query, offer, open_bucket, query_of, session, settle, turn, turn_with, wanted, with_line}
use Rattle.air_report.specs.declared.status.Status.TheVariants as status
use Rattle.deck_runs.specs.Casts.{IsCastBeginning, all_sent, first_sent}
use Rattle.air_sender.specs.AiredBytes.{aired_bytes}
use Rattle.deck_runs.specs.RunTapes.{run_tape_len}
use Rattle.deck_runs.specs.RunTruths.{IsTrueRun}
use Rattle.deck_runs.proofs.HeardRunLemmas.{OneHistoryLaw, true_run}
use Rattle.live_replay.proofs.AuditExamples.{its_bytes, small, small_is_deck, ten}
use Rattle.chunk_program.specs.Plans.{AreShort}
use Rattle.air_cli.specs.Cast.{CastCause, CastGives, HasSent, IsBrokenCast, IsCast, IsCastRefusal, cast_meaning}
use Rattle.air_cli.specs.ReportsAndTapes.{ReportAndTape}
use Rattle.air_cli.specs.GivenRuns.{IsGivenRun}
use Rattle.air_cli.specs.Run.{RunCause, RunGives, run_meaning}
use Rattle.air_cli.specs.Private.GivenTexts.{cast_given, run_given}
use Rattle.air_cli.proofs.CommandExamples.{the_deck, within}
use Rattle.air_cli.proofs.ToldExamples.{can_run, run_bytes, shelf, short, small_made, spells_deck}

-- ---- the run

no_commit : (p by seq : ℕ) (update : UpdateLists) → slice_get ten p ≡ Some (Commit by seq update) → ⊥
no_commit zero by seq update e = cc
no_commit (suc zero) by seq update e = cc
no_commit (suc (suc zero)) by seq update e = cc
no_commit (suc (suc (suc zero))) by seq update e = cc
no_commit (suc (suc (suc (suc zero)))) by seq update e = cc
no_commit (suc (suc (suc (suc (suc zero))))) by seq update e = cc
no_commit (suc (suc (suc (suc (suc (suc zero)))))) by seq update e = cc
no_commit (suc (suc (suc (suc (suc (suc (suc zero))))))) by seq update e = cc
no_commit (suc (suc (suc (suc (suc (suc (suc (suc zero)))))))) by seq update e = cc
no_commit (suc (suc (suc (suc (suc (suc (suc (suc (suc zero))))))))) by seq update e = cc
no_commit (suc (suc (suc (suc (suc (suc (suc (suc (suc (suc p)))))))))) by seq update e = cc

none_made : (by : ℕ) → 0 ≡ length (updates_by small by)
none_made by = refl

is_whole : IsWhole small ten
unfolding is_by is_start starts
is_whole = record { legal = λ p by seq update e. absurd (no_commit p by seq update e); all = none_made; cycles = refl }

-- Each cycle was published as a batch of its own.
abbrev pub ten_run : Run
ten_run = record { history = ten; batches = map (λ event. event ∷ []) ten; glances = []; looks = [] }

is_run : IsRun small ten_run
unfolding is_start starts
is_run = record {
  whole = is_whole;
  glances = record { numbers = refl; each = All-nil (IsSeen (values_in small) ten) };
  looks = record { numbers = refl; each = All-nil (IsSeen (values_in small) ten); last = All-nil (λ line. line.cycle ≡ 10) };
}

-- By the law of one history all is true of it that is true of a run.
pub is_true_run : OneHistoryLaw → IsTrueRun small ten_run
is_true_run one_history = true_run one_history small ten_run small_is_deck within short is_run

is_given_run : OneHistoryLaw → IsGivenRun small (run_given small ten_run) ten_run
is_given_run one_history = record { run_is = is_run; true_is = is_true_run one_history; given_is = refl }

pub run_gives : OneHistoryLaw → RunGives (codes "d") shelf (run_given small ten_run)
unfolding RunGives
run_gives one_history = (refl, (small, spells_deck, small_made, (can_run, (ten_run, is_given_run one_history))))

-- Its report is the one that the shelf tells.
pub its_report : run_output small ten [] [] ≡ its_bytes
unfolding number_text escaped fields_text is_blank last_place greatest cycle_at front starts writer writer_before writes reads is_start descends descends_in column_entry value_on_base write_of value_after table origin stale descends_from runs_alone last_alone consistent least is_late clash_by_history body_at bucket_at count_of entries_at entry_told raw_entries entries_of entry_count is_placed is_shaped is_entry item_of kind_of reading spelling entry_bytes value_of words_by due_at due_number heard_list heard_by heard_places places_due times_heard keep without_item with_copy order order_with cut program least_common_multiple num_minors num_chunks chunk_len chunk minor_cycle disk_number chunks_of pix_number body_of bucket_of capped_entries capped_body buckets_of body_fits fits by_history session query_of wanted line_of with_line count_copied count_opened count_dozed count_late count_refused count_foreign next_query next_attempt accept_if_whole hold abort is_unusable drop_copy copy_of turn_with turn settle decide offer open_bucket end_aged judge_read hear_read hear hear_all end_query end rows_text report_text true_sessions
its_report = refl

-- A run with another tape, or with something that differs, isn't given.
not_given : (run : Run) → IsGivenRun small (record (run_given small run) { differs = true }) run → ⊥
not_given run h = let differs : true ≡ false = ap (λ (g : ReportAndTape). g.differs) h.given_is in cc

not_run : RunGives (codes "d") shelf (record (run_given small ten_run) { differs = true }) → ⊥
unfolding RunGives
not_run h = let differs : true ≡ false = h.0 in cc

-- Its tape isn't too long, with any number of bytes.
not_too_long : (bytes : ℕ) → RunCause (codes "d") shelf shelf (status.TooLong bytes) → ⊥
unfolding RunCause
not_too_long bytes (d, is, made, long) =
    let here = subst (λ d. AreShort d × (bytes ≡ run_tape_len d) × (1073741824 < bytes)) (the_deck d is) long in omega (arith, here.1, here.2, run_bytes)

-- It writes the named tape.
run_output_named : (run_meaning (codes "d") (codes "o")).output ≡ Some (codes "o")
run_output_named = refl

-- ---- a cast of it

-- A mast that was aimed at the port 7, and sent this.
abbrev pub aimed : SentBuckets → MastState
aimed sent = record { told = Some sent; faults = 0; port = Some 7 }

-- All buckets of the run and the end.
abbrev pub all_of_ten : SentBuckets
all_of_ten = all_sent (aired_bytes small ten)

no_part : IsCastBeginning small 0 (Some nothing_sent) (Some nothing_sent)
no_part = record { history = ten; whole = is_whole; within = omega arith; sent = refl }

is_cast : OneHistoryLaw → IsCast small 7 fresh_mast (aimed all_of_ten) (cast_given ten_run) ten_run
is_cast one_history = record {
  run_is = is_run;
  true_is = is_true_run one_history;
  given_is = refl;
  told = λ report legal same. one_history small report (record { history = ten; verdicts = []; counts = []; glances = []; looks = [] }) within legal is_whole.legal same;
  sent = refl;
  calm = refl;
  port = refl;
}

-- It doesn't hold on another port, nor without the end, nor if a call failed.
not_cast : (IsCast small 8 fresh_mast (aimed all_of_ten) (cast_given ten_run) ten_run → ⊥) × (IsCast small 7 fresh_mast (aimed (record all_of_ten { ended = None })) (cast_given ten_run) ten_run → ⊥)
    × (IsCast small 7 fresh_mast (record (aimed all_of_ten) { faults = 1 }) (cast_given ten_run) ten_run → ⊥)
not_cast = (
  λ h. let port : ◌≡◌ {A = Option ℕ} (Some 7) (Some 8) = h.port in let same : ◌≡◌ {A = ℕ} 7 8 = cc in omega (arith, same),
  λ h. let sent : Some (record all_of_ten { ended = None }) ≡ Some all_of_ten = h.sent in ended sent,
  λ h. let calm : 1 ≡ 0 = h.calm in omega (arith, calm),
)
  where
    ended : Some (record all_of_ten { ended = None }) ≡ Some all_of_ten → ⊥
    ended e = let same : record all_of_ten { ended = None } ≡ all_of_ten = cc in let end : ◌≡◌ {A = Option ℕ} None (Some (length (aired_bytes small ten))) = ap (λ (s : SentBuckets). s.ended) same in cc

pub cast_gives : OneHistoryLaw → CastGives (codes "d") 7 fresh_mast (aimed all_of_ten) shelf (cast_given ten_run)
unfolding CastGives
cast_gives one_history = (refl, (small, spells_deck, small_made, (can_run, (ten_run, is_cast one_history))))

not_cast_gives : CastGives (codes "d") 7 fresh_mast (aimed all_of_ten) shelf (record (cast_given ten_run) { tape = 1 ∷ [] }) → ⊥
unfolding CastGives
not_cast_gives h = let tape : ◌≡◌ {A = List ℕ} (1 ∷ []) [] = ap (λ (g : ReportAndTape). g.tape) h.1.3.1.1.given_is in cc

-- The mast failed before the first bucket.
is_broken : IsBrokenCast small 7 0 fresh_mast (record (aimed nothing_sent) { faults = 1 })
is_broken = record { rose = inl (omega arith); sent = no_part; port = refl }

-- It didn't fail if its count is as it was.
not_broken : IsBrokenCast small 7 0 fresh_mast (aimed nothing_sent) → ⊥
not_broken h = rises h.rose
  where
    rises : Rose 0 0 → ⊥
    rises (inl less) = omega arith
    rises (inr last) = omega (arith, last.0)

has_sent : HasSent small 7 fresh_mast (aimed nothing_sent) × HasSent small 7 fresh_mast (aimed all_of_ten)
has_sent = (record { sent = inl (0, no_part); later = omega arith; port = refl }, record { sent = inr (ten, is_whole, refl, refl); later = omega arith; port = refl })

not_has_sent : HasSent small 7 fresh_mast fresh_mast → ⊥
not_has_sent h = let port : ◌≡◌ {A = Option ℕ} None (Some 7) = h.port in cc

-- Once the end was sent, no call failed: a second end mark that fails isn't left so.
not_after_end : HasSent small 7 fresh_mast (record (aimed all_of_ten) { faults = 1 }) → ⊥
not_after_end h = elim h.sent as (λ _. ⊥) [
  | inl first ↦ unended first.0 (aired_bytes small first.1.history) first.1.sent
  | inr all ↦ (let calm : 1 ≡ 0 = all.3 in omega (arith, calm))
]
  where
    unended : (count : ℕ) (buckets : List (List ℕ)) → ◌≡◌ {A = Option SentBuckets} (Some all_of_ten) (Some (first_sent count buckets)) → ⊥
    unended count buckets e =
        let same : all_of_ten ≡ first_sent count buckets = cc in let end : ◌≡◌ {A = Option ℕ} (Some (length (aired_bytes small ten))) None = ap (λ (s : SentBuckets). s.ended) same in cc

cast_cause : CastCause (codes "d") 7 fresh_mast (record (aimed nothing_sent) { faults = 1 }) shelf shelf (status.AirFault 0)
unfolding CastCause
cast_cause = (small, spells_deck, small_made, (can_run, is_broken))

-- Out of memory, the mast may have sent the first buckets, but it didn't fail.
cast_without_memory : IsCastRefusal small 7 fresh_mast (aimed nothing_sent) status.NoMemory
unfolding IsCastRefusal
cast_without_memory = refl

not_without_memory : IsCastRefusal small 7 fresh_mast (record (aimed nothing_sent) { faults = 1 }) status.NoMemory → ⊥
unfolding IsCastRefusal
not_without_memory h = omega (arith, h)

-- A cast that is refused for its deck or its length never aimed.
not_cast_cause : (bytes : ℕ) → CastCause (codes "d") 7 fresh_mast (aimed nothing_sent) shelf shelf (status.TooLong bytes) → ⊥
unfolding CastCause
not_cast_cause bytes h = let port : ◌≡◌ {A = Option ℕ} (Some 7) None = ap (λ (m : MastState). m.port) h.1 in cc

not_cast_read : CastCause (codes "d") 7 fresh_mast (aimed nothing_sent) shelf shelf status.ReadFault → ⊥
unfolding CastCause
not_cast_read h = let port : ◌≡◌ {A = Option ℕ} (Some 7) None = ap (λ (m : MastState). m.port) h.1 in cc

-- It writes no output.
cast_output_named : (cast_meaning (codes "d") 7 fresh_mast fresh_mast).output ≡ None
cast_output_named = refl

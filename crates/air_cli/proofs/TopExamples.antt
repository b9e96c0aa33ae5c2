-- What the top says and refuses: runs, casts, tunings and listenings that stand; a run and a script whose tape isn't written; a run that isn't refused
-- for a failed reading; and sessions that a history doesn't decide so.
use Rattle.std.proofs.Common.{◌≡◌, ◌∙◌, All, ℕ, Bool, true, false, List, [], ◌∷◌, Some, None, length, ap, refl, subst, inl, inr, sum_by, arith}
use Rattle.std.specs.Prelude.{codes, if◌then◌else◌, nat_eq, ◌⊎◌}
use Rattle.std.specs.Cmp.Lexicographic.{pointwise}
use Rattle.air_base.specs.declared.verdicts.VerdictKind.TheVariants.{Accept, Unfinished}
use Rattle.air_devices.specs.Counts.{Rose, one_count}
use Rattle.air_devices.specs.Masts.{fresh_mast}
use Rattle.air_devices.specs.Shelves.{ShelfState}
use Rattle.air_history.specs.declared.histories.Event.TheVariants.{Start}
use Rattle.air_history.specs.Places.{last_place}
use Rattle.air_history.specs.Histories.{front, writer, writer_before, writes}
use Rattle.air_history.specs.Descents.{descends, descends_in}
use Rattle.air_history.specs.Tables.{table}
use Rattle.air_history.specs.Reads.{origin}
use Rattle.air_history.specs.Consistency.{descends_from, runs_alone, last_alone, consistent}
use Rattle.air_history.specs.Clashes.{least, is_late, clash_by_history, clash_by_entries}
use Rattle.air_model.specs.Aired.{body_fits, fits, scheme_in}
use Rattle.air_model.specs.Airings.{chunks_of, disk_number, pix_number}
use Rattle.air_model.specs.Buckets.{Bucket, Column, body_at, bucket_at, bucket_in, count_of, entries_at, entries_of, entry_bytes, entry_count, entry_told, is_entry, is_placed, is_shaped, item_of, kind_of, raw_entries, reading, spelling, value_of}
use Rattle.air_model.specs.Copies.{keep, without_item, with_copy}
use Rattle.air_model.specs.Decks.{Deck, IsNextCommit, event_of, script_history}
use Rattle.air_model.specs.Disks.{cut, order, order_with}
use Rattle.air_model.specs.Judges.{by_entries, by_history}
use Rattle.air_model.specs.Outputs.{cast_output, run_tape, script_tape, tune_output}
use Rattle.air_model.specs.Programs.{chunk, chunk_len, least_common_multiple, minor_cycle, num_chunks, num_minors, program}
use Rattle.air_model.specs.ReceiverLaws.{IsTrueSession, session_of}
use Rattle.air_model.specs.Runs.{Run}
use Rattle.air_model.specs.SessionLaws.{IsExactLine}
use Rattle.air_model.specs.Sessions.{SessionLine, abort, accept_if_whole, copy_of, count_copied, count_dozed, count_foreign, count_late, count_opened, count_refused, decide, drop_copy, end, end_aged, end_query, hear, hear_all, hear_read, hold, is_unusable, judge_read, line_of, next_attempt, next_query, offer, open_bucket, query_of, reader_of, session, settle, turn, turn_with, wanted, with_line}
use Rattle.air_model.specs.Tapes.{tape_read}
use Rattle.air_report.proofs.HistoryRows.{one_history}
use Rattle.air_report.specs.declared.status.Status.TheVariants as status
use Rattle.deck_runs.specs.RunTapes.{run_tape_len}
use Rattle.deck_runs.proofs.HeardRunLemmas.{run_length}
use Rattle.live_replay.proofs.AuditExamples.{its_bytes, small, ten}
use Rattle.air_cli.specs.Answers.{Completes, NoCountRose}
use Rattle.air_cli.specs.Headline.{CastStands, Headline, ListenStands, QuietHeadline, RunStands, TuneStands}
use Rattle.air_cli.specs.NamedDecks.{DeckCause}
use Rattle.air_cli.specs.NamedFiles.{UnreadCause}
use Rattle.air_cli.specs.ReportsAndTapes.{ReportAndTape, given_status}
use Rattle.air_cli.specs.Run.{RunCause, run_meaning}
use Rattle.air_cli.specs.RunnableDecks.{UnrunnableCause}
use Rattle.air_cli.specs.Tune.{tune_given}
use Rattle.air_cli.specs.Truths.{AreTrue, IsTrueScript, IsTrueTape}
use Rattle.air_cli.specs.Words.{AsksRun, AsksScript}
use Rattle.air_cli.proofs.CommandExamples.{the_deck, tune_gives}
use Rattle.air_cli.proofs.HeadlineExamples.{its_cast, its_run}
use Rattle.air_cli.proofs.HeadlineLemmas.{listen_stands, tune_stands}
use Rattle.air_cli.proofs.ListenExamples.{a, b, fresh_ear, listen_gives, tuned}
use Rattle.air_cli.proofs.RunExamples.{aimed, all_of_ten}
use Rattle.air_cli.proofs.ToldExamples.{can_run, run_bytes, script_bytes, shelf, small_made, spells_deck}

-- ---- the headline

-- The told shelf, with this tape in the output `o`, and this text printed.
abbrev holding : List ℕ → List ℕ → ShelfState
holding tape text = record shelf { told = record shelf.told { output = λ name. if pointwise nat_eq name (codes "o") then Some tape else Some []; printed = Some text } }

-- The run of the told deck has a tape of 720 bytes: if the output is empty, the run isn't done, though its report was printed.
not_the_run : Headline (Some (AsksRun (codes "d") (codes "o"))) fresh_mast fresh_mast (fresh_ear []) (fresh_ear []) shelf (holding [] its_bytes) status.Ok → ⊥
not_the_run h =
    let written : Some [] ≡ Some (run_tape h.d h.report.history) = h.written in
    let empty : [] ≡ run_tape h.d h.report.history = cc in
    let run : Run = record { history = h.report.history; batches = []; glances = h.report.glances; looks = h.report.looks } in
    let size : length (run_tape h.d h.report.history) ≡ run_tape_len h.d = run_length h.d run (record { whole = h.whole; glances = h.glances; looks = h.looks }) in
    let counted : run_tape_len h.d ≡ 720 = ap run_tape_len (the_deck h.d h.spelled) ∙ run_bytes in
    let none : 0 ≡ length (run_tape h.d h.report.history) = ap length empty in
    omega (arith, none, size, counted)

-- The run is done if its tape was written. A cast, a tuning and a listening stand too, each with what it printed.
pub record Stand : Type 0 where
  run : RunStands (codes "d") (codes "o") shelf (holding (run_tape small ten) its_bytes)
  cast : CastStands (codes "d") 7 fresh_mast (aimed all_of_ten) shelf (holding [] (cast_output ten [] []))
  tune : TuneStands (codes "d") (codes "t") shelf (holding [] (tune_output small (tape_read (script_tape small)).records))
  listen : ListenStands (codes "d") 7 (fresh_ear (a ∷ b ∷ [])) (tuned []) shelf (holding [] (tune_output small (a ∷ b ∷ [])))

stand : Stand
stand = record {
  run = its_run one_history;
  cast = its_cast one_history;
  tune = tune_stands (codes "d") (codes "t") shelf (holding [] (tune_output small (tape_read (script_tape small)).records)) (tune_given small (tape_read (script_tape small)).records) tune_gives (record { written = tt; printed = refl });
  listen = listen_stands (codes "d") 7 (fresh_ear (a ∷ b ∷ [])) (tuned []) shelf (holding [] (tune_output small (a ∷ b ∷ []))) (tune_given small (a ∷ b ∷ [])) listen_gives (record { written = tt; printed = refl });
}

-- The tape of its script has 72 bytes.
not_the_script : QuietHeadline (Some (AsksScript (codes "d") (Some (codes "o")))) shelf (holding [] its_bytes) status.Ok → ⊥
not_the_script h =
    let written : Some [] ≡ Some (script_tape h.d) = h.written in
    let empty : [] ≡ script_tape h.d = cc in
    let none : 0 ≡ length (script_tape h.d) = ap length empty in
    let counted : length (script_tape h.d) ≡ 72 = ap (λ d. length (script_tape d)) (the_deck h.d h.spelled) ∙ script_bytes in
    omega (arith, none, counted)

-- ---- `run`

-- The shelf with a failed reading of each file.
abbrev read_failed : ShelfState
read_failed = record shelf { faults = record (one_count 0) { reading = λ name. 1 } }

run_unread : RunCause (codes "d") shelf read_failed status.ReadFault
unfolding RunCause UnrunnableCause DeckCause UnreadCause
run_unread = inl (omega arith)

-- On the told shelf the inputs of a run are told and suit it. So if no count went up, it isn't refused as unread.
not_refused : Completes (run_meaning (codes "d") (codes "o")) shelf shelf status.ReadFault → ⊥
not_refused h = by (h (λ name is. (_, ap shelf.told.file is)) (small, spells_deck, small_made, can_run) no_count_rose)
  where
    no_rise : Rose 0 0 → ⊥
    no_rise (inl less) = omega arith
    no_rise (inr last) = omega (arith, last.0)

    no_count_rose : NoCountRose shelf.faults shelf.faults
    no_count_rose = record { reading = λ name. no_rise; writing = λ name. no_rise; printing = no_rise }

    no_success : (differs : Bool) → status.ReadFault ≡ given_status differs → ⊥
    no_success false e = cc
    no_success true e = cc

    by : ((given : ReportAndTape) × (run_meaning (codes "d") (codes "o")).Gives shelf given × (status.ReadFault ≡ given_status given.differs)) ⊎ (status.ReadFault ≡ status.NoMemory) → ⊥
    by (inl (given, gives, is)) = no_success given.differs is
    by (inr e) = cc

-- ---- what isn't true of a history

-- Item 0 of cycle 1 with the value 11, which it doesn't have.
abbrev otherwise : Bucket
otherwise = record { version = 1; edition = 0; cycle = 1; slot = 0; body = Column 0 11 (0 ∷ 0 ∷ []) }

its_bytes_read : bucket_in (spelling otherwise) ≡ Some otherwise
unfolding body_at bucket_at count_of entries_at entry_told raw_entries entries_of entry_count is_placed is_shaped is_entry item_of kind_of reading spelling entry_bytes value_of
its_bytes_read = refl

not_the_session : IsTrueSession small (Start ∷ []) 0 (Some otherwise ∷ []) → ⊥
unfolding table front last_place writer writer_before writes origin descends descends_in descends_from runs_alone last_alone consistent least is_late clash_by_history clash_by_entries by_history by_entries order order_with cut program least_common_multiple num_minors num_chunks chunk_len chunk minor_cycle chunks_of disk_number pix_number body_fits fits keep without_item with_copy session query_of wanted line_of with_line count_copied count_opened count_dozed count_late count_refused count_foreign next_query next_attempt accept_if_whole hold abort is_unusable drop_copy copy_of turn_with turn settle decide offer open_bucket end_aged judge_read hear_read hear hear_all end_query end
not_the_session h = let values : 11 ≡ 10 = ap (λ t. sum_by (λ l. sum_by (λ r. r.value) l.reads) t.lines) h.same in omega (arith, values)

-- Over that bucket the session isn't true of a history of one cycle without commits.
not_true : AreTrue small (Start ∷ []) (λ r. spelling otherwise ∷ []) → ⊥
not_true h = not_the_session (subst (λ o. IsTrueSession small (Start ∷ []) 0 (o ∷ [])) its_bytes_read (h 0 (omega arith)))

-- A query that asks for nothing stays unfinished over an empty tape, though all its items were read: its verdict isn't exact.
abbrev asking_nothing : Deck
asking_nothing = record small { queries = ([] ∷ []) ∷ [] }

abbrev unfinished : SessionLine
unfinished = record { verdict = record { query = 0; attempt = 1; kind = Unfinished }; reads = [] }

one_line : (session_of (by_entries (scheme_in asking_nothing)) asking_nothing 0 []).lines ≡ unfinished ∷ []
unfolding by_entries session query_of wanted line_of with_line next_query copy_of turn_with turn settle hear_all end_query end
one_line = refl

not_exact : IsTrueTape asking_nothing [] → ⊥
unfolding consistent
not_exact h =
    let session : IsTrueSession asking_nothing [] 0 [] = h [] (λ i d within. absurd (omega (arith, within))) 0 (omega arith) in
    let exact : IsExactLine 1 [] (reader_of asking_nothing 0) unfinished = subst (All (IsExactLine 1 [] (reader_of asking_nothing 0))) one_line (session.exact refl refl) 0 unfinished (omega arith) in
    let accepted : Unfinished ≡ Accept = exact.accepted.1 (refl, refl, refl) in cc

-- A script that lists a commit of an updater without updates isn't legal.
abbrev committing : Deck
committing = record small { script = Some 0 ∷ [] }

not_a_script : IsTrueScript committing → ⊥
unfolding script_history event_of
not_a_script h =
    let next : IsNextCommit committing [] 0 0 _ = h.legal 0 0 0 _ refl in
    let given : None ≡ Some _ = next.given in cc

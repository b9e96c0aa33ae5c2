-- The headline on the told shelf. Its premises can be met together: each statement holds of a call that succeeded there. It doesn't hold of a call
-- that left something else, and a wrong verdict isn't right.
use Rattle.std.proofs.Common.{◌≡◌, ℕ, true, false, List, [], ◌∷◌, Option, Some, None, All, length, refl, ap, sym, ◌∙◌, subst, arith}
use Rattle.std.specs.Prelude.{codes, if◌then◌else◌, nat_eq}
use Rattle.std.specs.Cmp.Lexicographic.{pointwise}
use Rattle.std.proofs.lemmas.Bool.{false≢true}
use Rattle.std.proofs.lemmas.List.Elements.{All-from_recursion}
use Rattle.air_base.specs.declared.verdicts.VerdictKind.TheVariants.{Accept, Abort, Aged}
use Rattle.air_base.specs.declared.verdicts.VerdictKind.{VerdictKind}
use Rattle.air_base.specs.declared.verdicts.ReadOf.{ReadOf}
use Rattle.air_devices.specs.Masts.{SentBuckets, fresh_mast}
use Rattle.air_devices.specs.Shelves.{ShelfState}
use Rattle.air_history.specs.Ages.{span, spans_too_far}
use Rattle.air_history.specs.Consistency.{alone, consistent, descends_from, last_alone, picked_events, runs_alone}
use Rattle.air_history.specs.Descents.{descends, descends_in}
use Rattle.air_history.specs.Histories.{front, is_start, reads, starts, writer, writer_before, writes}
use Rattle.air_history.specs.Places.{last_place}
use Rattle.air_history.specs.Reads.{ReadAt, origin}
use Rattle.air_history.specs.Tables.{BasesRead, table, value_after, value_on_base, values_of, write_of}
use Rattle.air_model.specs.Aired.{air_of, scheme_in, slots_at}
use Rattle.air_model.specs.Decks.{Deck, event_of, script_history, values_in}
use Rattle.air_model.specs.Judges.{by_entries}
use Rattle.air_model.specs.Outputs.{cast_output, run_tape, script_output, script_tape, sessions_over, tune_output}
use Rattle.air_model.specs.Reports.{Report, report_text, session_report}
use Rattle.air_model.specs.Rows.{rows_text}
use Rattle.air_model.specs.Tapes.{TapeRead, ends_inside, read_from, tape_read}
use Rattle.air_model.specs.declared.reports.VerdictLine.{VerdictLine}
use Rattle.air_model.proofs.SessionExamples.{aired_in, chained_deck, s, u}
use Rattle.air_report.specs.ReadReports.{IsReportOf}
use Rattle.air_report.specs.declared.reading.ReadReport.{ReadReport}
use Rattle.air_report.specs.declared.status.Status.TheVariants as status
use Rattle.air_sender.specs.TapeSizes.{tape_size}
use Rattle.air_sender.proofs.TapeLengths.{history_size}
use Rattle.air_sender.specs.AiredBytes.{aired_bytes}
use Rattle.deck_runs.specs.RunTapes.{run_tape_len}
use Rattle.deck_runs.proofs.HeardRunLemmas.{OneHistoryLaw, run_sum}
use Rattle.live_replay.specs.FindingLaws.{GivesLook, GivesVerdict}
use Rattle.live_replay.specs.FindingTexts.{findings_text}
use Rattle.live_replay.proofs.AuditExamples.{is_report, its_bytes, one_finding, read_in, small, ten}
use Rattle.live_replay.proofs.AuditLemmas.{one_report}
use Rattle.air_cli.specs.Headline.{AuditStands, CastStands, Headline, IsHeardReport, IsJudgedReport, IsRightVerdict, ListenStands, NowHolds, NowPrints, QuietHeadline, RunStands, ScriptStands, TuneStands, asked_query, judged_on}
use Rattle.air_cli.specs.NamedDecks.{SpellsDeck}
use Rattle.air_cli.specs.Tune.{tune_given}
use Rattle.air_cli.specs.Words.{AsksCast, AsksListen, AsksPlan, AsksRun, AsksTune}
use Rattle.air_cli.specs.Private.GivenTexts.{audit_given, cast_given, run_given, script_given}
use Rattle.air_cli.proofs.CommandExamples.{audit_gives, is_true_tape, script_gives, the_deck, tune_gives}
use Rattle.air_cli.proofs.HeadlineLemmas.{audit_stands, cast_stands, listen_stands, run_stands, script_stands, tune_stands}
use Rattle.air_cli.proofs.ListenExamples.{a, b, fresh_ear, listen_gives, tuned}
use Rattle.air_cli.proofs.RightLemmas.{tuned_report}
use Rattle.air_cli.proofs.RunExamples.{aimed, all_of_ten, cast_gives, its_report, run_gives, ten_run}
use Rattle.air_cli.proofs.ToldExamples.{files, run_bytes, script_bytes, shelf}

-- ---- verdicts

-- A line of reader 0, at the first attempt of its query.
abbrev line : VerdictKind → List ReadOf → VerdictLine
line kind reads = record { reader = 0; verdict = record { query = 0; attempt = 1; kind = kind }; reads = reads }

abbrev read : ℕ → ℕ → ℕ → ReadOf
read item cycle value = record { item = item; cycle = cycle; value = value }

abbrev at : ℕ → ℕ → ReadAt
at item cycle = record { item = item; cycle = cycle }

asked : asked_query small (line Accept []) ≡ 0 ∷ 1 ∷ []
asked = refl

-- A refused read counts too, after those of the line.
judged : (judged_on (line Accept (read 0 1 10 ∷ read 1 1 20 ∷ [])) ≡ at 0 1 ∷ at 1 1 ∷ []) × (judged_on (line (Abort 1 2 0) (read 0 1 10 ∷ [])) ≡ at 0 1 ∷ at 1 2 ∷ [])
    × (judged_on (line (Aged 1 256) (read 0 1 10 ∷ [])) ≡ at 0 1 ∷ at 1 256 ∷ [])
judged = (refl, refl, refl)

bases_read : All BasesRead ten
unfolding BasesRead
bases_read = All-from_recursion BasesRead ten (tt, (tt, (tt, (tt, (tt, (tt, (tt, (tt, (tt, (tt, tt))))))))))

-- The verdict of the run is right.
right : IsRightVerdict small ten (line Accept (read 0 1 10 ∷ read 1 1 20 ∷ []))
unfolding consistent alone picked_events last_alone runs_alone descends_from origin writer writer_before last_place writes descends descends_in reads front is_start starts table value_after write_of value_on_base
right = record {
  consistent = refl;
  values = λ bases. All-from_recursion (λ r. r.value ≡ table (values_of (values_in small)) (alone ten (at 0 1 ∷ at 1 1 ∷ [])) r.item) (read 0 1 10 ∷ read 1 1 20 ∷ []) (refl, (refl, tt));
  shared = tt;
  aged = λ f g. (λ ages. absurd ages, λ far. let e : false ≡ true = far in cc);
  accepted = λ f g. (λ same. (refl, refl, refl), λ whole. refl);
  aborted = λ f g. (λ aborts. absurd aborts, λ apart. apart.1 refl);
}

-- Item 1 has 20; a query isn't accepted on a part of its items; and reads that are consistent aren't aborted.
not_right : (IsRightVerdict small ten (line Accept (read 0 1 10 ∷ read 1 1 21 ∷ [])) → ⊥) × (IsRightVerdict small ten (line Accept (read 0 1 10 ∷ [])) → ⊥)
    × (IsRightVerdict small ten (line (Abort 1 1 0) (read 0 1 10 ∷ [])) → ⊥)
unfolding consistent alone picked_events last_alone runs_alone descends_from origin writer writer_before last_place writes descends descends_in reads front is_start starts table value_after write_of value_on_base
not_right = (
  λ h. let e : 21 ≡ 20 = h.values bases_read 1 (read 1 1 21) (omega arith) in omega (arith, e),
  λ h. let e : 0 ∷ [] ≡ 0 ∷ 1 ∷ [] = ((h.accepted refl refl).0 refl).1 in cc,
  λ h. ((h.aborted refl refl).0 tt).1 refl,
)

-- Reads that are 255 cycles apart can't be judged by ages: an attempt on them is aged if the deck has version 2.
abbrev aged_at : ℕ → VerdictLine
aged_at cycle = line (Aged 1 cycle) (read 0 1 10 ∷ [])

right_aged : IsRightVerdict (aired_in 2 small) ten (aged_at 256)
unfolding span spans_too_far consistent alone picked_events last_alone runs_alone descends_from origin writer writer_before last_place writes descends descends_in reads front is_start starts table value_after write_of value_on_base
right_aged = record {
  consistent = refl;
  values = λ bases. All-from_recursion (λ r. r.value ≡ table (values_of (values_in small)) (alone ten (at 0 1 ∷ [])) r.item) (read 0 1 10 ∷ []) (refl, tt);
  shared = tt;
  aged = λ f g. (λ ages. refl, λ far. tt);
  accepted = λ f g. (λ same. cc, λ whole. let e : true ≡ false = whole.0 in cc);
  aborted = λ f g. (λ aborts. absurd aborts, λ apart. let e : true ≡ false = apart.0 in cc);
}

-- They can if they are closer, or if the deck has version 1.
not_aged : (IsRightVerdict (aired_in 2 small) ten (aged_at 255) → ⊥) × (IsRightVerdict small ten (aged_at 256) → ⊥)
unfolding span spans_too_far
not_aged = (λ h. let e : false ≡ true = (h.aged refl refl).0 tt in cc, λ h. let e : false ≡ true = (h.aged refl refl).0 tt in cc)

-- Item 0 of cycle 1, and item 1 of cycle 2, which was made of the item 0 that came between: these aren't consistent, and aren't accepted.
abbrev chain : Deck
chain = chained_deck 1 (s ∷ u ∷ u ∷ u ∷ s ∷ [])

abbrev mixed : VerdictLine
mixed = line Accept (read 0 1 10 ∷ read 1 2 13 ∷ [])

not_accepted : IsRightVerdict chain (script_history chain) mixed → ⊥
unfolding script_history event_of consistent last_alone runs_alone descends_from origin writer writer_before last_place writes descends descends_in reads front is_start starts
not_accepted h = let e : false ≡ true = h.consistent in false≢true e

-- So it is in no report that the history judges.
not_judged : (heard : ℕ → List (List ℕ)) → IsJudgedReport chain (script_history chain) heard (record { history = []; verdicts = mixed ∷ []; counts = []; glances = []; looks = [] }) → ⊥
not_judged heard h = not_accepted (h.right 0 mixed (omega arith))

-- A report over what was heard has no history.
not_heard : IsHeardReport small [] (record { history = ten; verdicts = []; counts = []; glances = []; looks = [] }) → ⊥
not_heard h = let none : ten ≡ [] = ap (λ (r : Report). r.history) h.decided in cc

-- ---- shelves as calls leave them

-- The told shelf, with this tape in the output `o`, and printed on.
abbrev holding : List ℕ → List ℕ → ShelfState
holding tape text = record shelf { told = record shelf.told { output = λ name. if pointwise nat_eq name (codes "o") then Some tape else Some []; printed = Some text } }

held : NowHolds (codes "o") (codes "ab") shelf (holding (codes "ab") []) × NowPrints (codes "ab") shelf (holding [] (codes "ab"))
held = (refl, refl)

not_held : (NowHolds (codes "o") (codes "ab") shelf shelf → ⊥) × (NowPrints (codes "ab") shelf shelf → ⊥)
not_held = (λ h. let same : Some [] ≡ Some (codes "ab") = h in cc, λ h. let same : Some [] ≡ Some (codes "ab") = h in cc)

-- ---- `run`

-- The run of ten cycles printed the report that it should, byte by byte, and wrote the tape of its history.
pub its_run : OneHistoryLaw → Headline (Some (AsksRun (codes "d") (codes "o"))) fresh_mast fresh_mast (fresh_ear []) (fresh_ear []) shelf (holding (run_tape small ten) its_bytes) status.Ok
its_run one_history = run_stands (codes "d") (codes "o") shelf (holding (run_tape small ten) its_bytes) (run_given small ten_run) (run_gives one_history)
    (record { written = refl; printed = sym its_report })

-- The statement doesn't hold if the output is empty.
no_tape : (text : List ℕ) → RunStands (codes "d") (codes "o") shelf (holding [] text) → ⊥
no_tape text h =
    let H = h.report.history in
    let same = the_deck h.d h.spelled in
    let cycles : starts H ≡ 10 = subst (λ (d : Deck). starts H ≡ d.settings.cycles) same h.whole.cycles in
    let written : Some [] ≡ Some (run_tape h.d H) = h.written in
    let here : [] ≡ run_tape h.d H = cc in
    let none : [] ≡ run_tape small H = subst (λ d. [] ≡ run_tape d H) same here in
    let long : length (run_tape small H) ≡ run_tape_len small = history_size (values_in small) (air_of small) H
    ∙ ap (tape_size small.settings.version (length small.items) (slots_at (air_of small))) cycles ∙ sym (run_sum small) in
    omega (arith, ap length none, long, run_bytes)

-- It doesn't hold if nothing was printed: the text determines one history, and that has ten starts.
no_text : (tape : List ℕ) → RunStands (codes "d") (codes "o") shelf (holding tape []) → ⊥
unfolding report_text rows_text starts
no_text tape h =
    let H = h.report.history in
    let cycles : starts H ≡ 10 = subst (λ (d : Deck). starts H ≡ d.settings.cycles) (the_deck h.d h.spelled) h.whole.cycles in
    let printed : Some [] ≡ Some (report_text h.report) = h.printed in
    let text : [] ≡ report_text h.report = cc in
    let none : [] ≡ H = h.one (record { history = []; verdicts = []; counts = []; glances = []; looks = [] }) (λ p by seq update e. cc) text in
    omega (arith, cycles, ap starts none)

-- ---- `script`

its_script : ScriptStands (codes "d") None shelf (holding [] (script_output small))
its_script = script_stands (codes "d") None shelf (holding [] (script_output small)) (script_given small) script_gives (record { written = tt; printed = refl })

not_script : (text : List ℕ) → ScriptStands (codes "d") (Some (codes "o")) shelf (holding [] text) → ⊥
not_script text h =
    let written : Some [] ≡ Some (script_tape h.d) = h.written in
    let here : [] ≡ script_tape h.d = cc in
    let none : [] ≡ script_tape small = subst (λ d. [] ≡ script_tape d) (the_deck h.d h.spelled) here in
    omega (arith, ap length none, script_bytes)

-- ---- `tune`

abbrev tuned_in : List ℕ
tuned_in = tune_output small (tape_read (script_tape small)).records

its_tuning : QuietHeadline (Some (AsksTune (codes "d") (codes "t"))) shelf (holding [] tuned_in) status.Ok
its_tuning = tune_stands (codes "d") (codes "t") shelf (holding [] tuned_in) (tune_given small (tape_read (script_tape small)).records) tune_gives (record { written = tt; printed = refl })

over_nothing : IsHeardReport small [] (session_report [] (sessions_over (by_entries (scheme_in small)) small (λ r. [])))
over_nothing = tuned_report small [] (is_true_tape [])

-- It doesn't hold over a cut tape.
abbrev cut : ShelfState
cut = record shelf { told = record shelf.told { file = λ name. if pointwise nat_eq name (codes "t") then Some (0 ∷ 0 ∷ 0 ∷ []) else files name } }

not_tuned : (now : ShelfState) → TuneStands (codes "d") (codes "t") cut now → ⊥
unfolding ends_inside read_from
not_tuned now h = let whole : ◌≡◌ {A = Option ℕ} (Some 0) None = ap (λ (t : TapeRead). t.cut) h.on_tape in cc

-- ---- `cast`

abbrev cast_text : List ℕ
cast_text = cast_output ten [] []

pub its_cast : OneHistoryLaw → Headline (Some (AsksCast (codes "d") 7)) fresh_mast (aimed all_of_ten) (fresh_ear []) (fresh_ear []) shelf (holding [] cast_text) status.Ok
its_cast one_history = cast_stands (codes "d") 7 fresh_mast (aimed all_of_ten) shelf (holding [] cast_text) (cast_given ten_run) (cast_gives one_history) (record { written = tt; printed = refl })

-- It doesn't hold of another port, nor without the end.
not_cast : (now : ShelfState) → (CastStands (codes "d") 8 fresh_mast (aimed all_of_ten) shelf now → ⊥) × (CastStands (codes "d") 7 fresh_mast (aimed (record all_of_ten { ended = None })) shelf now → ⊥)
not_cast now = (
  λ h. let port : ◌≡◌ {A = Option ℕ} (Some 7) (Some 8) = h.aimed in let same : ◌≡◌ {A = ℕ} 7 8 = cc in omega (arith, same),
  λ h. ended (aired_bytes h.d h.report.history) h.sent,
)
  where
    ended : (buckets : List (List ℕ)) → ◌≡◌ {A = Option SentBuckets} (Some (record all_of_ten { ended = None })) (Some (record { buckets = buckets; ended = Some (length buckets) })) → ⊥
    ended buckets e =
        let same : ◌≡◌ {A = SentBuckets} (record all_of_ten { ended = None }) (record { buckets = buckets; ended = Some (length buckets) }) = cc in
        let end : ◌≡◌ {A = Option ℕ} None (Some (length buckets)) = ap (λ (sent : SentBuckets). sent.ended) same in cc

-- ---- `listen`

abbrev listened : List ℕ
listened = tune_output small (a ∷ b ∷ [])

its_listening : Headline (Some (AsksListen (codes "d") 7)) fresh_mast fresh_mast (fresh_ear (a ∷ b ∷ [])) (tuned []) shelf (holding [] listened) status.Ok
its_listening = listen_stands (codes "d") 7 (fresh_ear (a ∷ b ∷ [])) (tuned []) shelf (holding [] listened) (tune_given small (a ∷ b ∷ [])) listen_gives (record { written = tt; printed = refl })

not_listening : (now : ShelfState) → ListenStands (codes "d") 8 (fresh_ear []) (tuned []) shelf now → ⊥
not_listening now h = let port : ◌≡◌ {A = Option ℕ} (Some 7) (Some 8) = h.tuned in let same : ◌≡◌ {A = ℕ} 7 8 = cc in omega (arith, same)

-- ---- `audit`

abbrev audited : ShelfState
audited = holding [] (findings_text one_finding)

its_audit : AuditStands (codes "d") (codes "r") shelf audited status.Ok
its_audit = audit_stands (codes "d") (codes "r") shelf audited status.Ok (audit_given one_finding) audit_gives refl (record { written = tt; printed = refl })

-- The replay gives every line of a report.
abbrev AllGiven : Deck → ReadReport → Type 0
AllGiven d r = All (GivesVerdict d r.report.history) r.report.verdicts × All (GivesLook d r.report.history) r.report.glances × All (GivesLook d r.report.history) r.report.looks

-- The deck and the report are those that the files spell.
its_read : (d : Deck) (r : ReadReport) → SpellsDeck (codes "d") shelf d → IsReportOf d its_bytes r → r ≡ read_in 11
its_read d r spelled is = one_report small its_bytes r (read_in 11) (subst (λ d. IsReportOf d its_bytes r) (the_deck d spelled) is) is_report

its_given : AllGiven small (read_in 11)
its_given = let h = its_audit in
    subst (λ r. AllGiven small r) (its_read h.d h.read h.spelled h.is) (subst (λ d. AllGiven d h.read) (the_deck h.d h.spelled) (h.agrees.0 refl))

-- The replay gives its one line, so the status is no other.
not_differing : AuditStands (codes "d") (codes "r") shelf audited status.Differs → ⊥
not_differing h =
    let given = subst (λ d. AllGiven d h.read) (sym (the_deck h.d h.spelled)) (subst (λ r. AllGiven small r) (sym (its_read h.d h.read h.spelled h.is)) its_given) in
    let ok : status.Differs ≡ status.Ok = h.agrees.1 given in cc

-- ---- other commands

-- The headline says nothing of a plan.
its_plan : QuietHeadline (Some (AsksPlan (codes "d"))) shelf shelf status.Ok
its_plan = tt

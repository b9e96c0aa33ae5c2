-- What the headline says of calls over a shelf in memory.
use Rattle.std.proofs.Common.{◌≡◌, ◌<◌, ℕ, List, [], ◌∷◌, ◌++◌, Option, Some, None, All, get_or, length, map, take, refl, ap, sym, ◌∙◌, subst}
use Rattle.std.specs.Prelude.{codes}
use Rattle.csv.specs.Writing.{escaped, fields_text, is_blank}
use Rattle.air_base.specs.Numbers.{number_text}
use Rattle.air_devices.specs.Memory.{file_bytes, file_named, shelved_of, told_by}
use Rattle.air_devices.specs.MemoryEars.{MemEarState, memory_ear_state}
use Rattle.air_devices.specs.MemoryMasts.{memory_mast_state, told_by_mast}
use Rattle.air_devices.specs.declared.memory.mast.MemMast.{MemMast}
use Rattle.air_devices.specs.declared.memory.shelf.MemShelf.{MemShelf}
use Rattle.air_history.specs.Clashes.{clash_by_entries, is_late, least}
use Rattle.air_history.specs.Consistency.{IsConsistent}
use Rattle.air_model.specs.Aired.{body_fits, fits}
use Rattle.air_model.specs.Airings.{chunks_of, disk_number, pix_number}
use Rattle.air_model.specs.Buckets.{body_at, bucket_at, count_of, entries_at, entry_count, entry_told, is_entry, is_placed, is_shaped, raw_entries, reading}
use Rattle.air_model.specs.Copies.{keep, with_copy, without_item}
use Rattle.air_model.specs.Decks.{Deck, IsWhole}
use Rattle.air_model.specs.Disks.{cut, order, order_with}
use Rattle.air_model.specs.Judges.{by_entries}
use Rattle.air_model.specs.Outputs.{run_tape, tune_output}
use Rattle.air_model.specs.Programs.{chunk, chunk_len, least_common_multiple, minor_cycle, num_chunks, num_minors, program}
use Rattle.air_model.specs.Reports.{Report, report_text}
use Rattle.air_model.specs.Rows.{rows_text}
use Rattle.air_model.specs.declared.reports.VerdictLine.{VerdictLine}
use Rattle.air_report.specs.ReadReports.{IsReportOf}
use Rattle.air_report.specs.declared.reading.ReadReport.{ReadReport}
use Rattle.air_report.specs.declared.status.Status.{Status}
use Rattle.air_model.specs.Sessions.{abort, accept_if_whole, copy_of, count_copied, count_dozed, count_foreign, count_late, count_opened, count_refused, decide, drop_copy, end, end_aged, end_query, hear, hear_all, hear_read, hold, is_unusable, judge_read, line_of, next_attempt, next_query, offer, open_bucket, query_of, session, settle, turn, turn_with, wanted, with_line}
use Rattle.air_model.specs.Tapes.{TapeRead, read_from, tape_read}
use Rattle.deck_runs.specs.Casts.{all_sent}
use Rattle.air_sender.specs.AiredBytes.{aired_bytes}
use Rattle.item_catalog.specs.Grammar.{Spells}
use Rattle.item_catalog.proofs.GrammarLemmas.{one_deck}
use Rattle.live_replay.specs.Audits.{findings}
use Rattle.live_replay.specs.FindingLaws.{GivesVerdict}
use Rattle.live_replay.specs.FindingTexts.{findings_text}
use Rattle.live_replay.specs.Findings.{places_read}
use Rattle.live_replay.specs.declared.findings.Finding.{Finding}
use Rattle.air_cli.specs.Headline.{AuditStands, CastStands, IsHeardReport, ListenStands, RunStands, TuneStands}
use Rattle.air_cli.specs.Hearings.{heard_bytes}
use Rattle.command_pins.specs.SmallDecks.{short_deck}

-- The bytes of the deck's file.
abbrev deck_file : MemShelf → List ℕ
deck_file shelf = file_bytes (file_named (codes "d") shelf.files.items)

-- What was added to nothing is all that is printed.
printed_alone : (said text : List ℕ) (now : Option (List ℕ)) → Some said ≡ Some [] → now ≡ Some (said ++ text) → now ≡ Some text
printed_alone said text now empty h = let none : said ≡ [] = cc in h ∙ ap (λ xs. Some (xs ++ text)) none

pub run_left : (old new : MemShelf) → (told_by old).printed ≡ Some [] → RunStands (codes "d") (codes "t") (shelved_of old) (shelved_of new)
    → (d : Deck) × (report : Report) × Spells (deck_file old) d × IsWhole d report.history × ((told_by new).output (codes "t") ≡ Some (run_tape d report.history))
    × ((told_by new).printed ≡ Some (report_text report)) × All (λ line. IsConsistent report.history (places_read line.reads)) report.verdicts
run_left old new empty h = (
  h.d,
  h.report,
  h.spelled.1,
  h.whole,
  h.written,
  printed_alone old.printed.bytes (report_text h.report) (told_by new).printed empty h.printed,
  λ k e below. (h.judged.right k e below).consistent,
)

pub cast_left : (old new : MemShelf) (mast mast_now : MemMast) → (told_by old).printed ≡ Some [] → CastStands (codes "d") 4000 (memory_mast_state mast) (memory_mast_state mast_now) (shelved_of old) (shelved_of new)
    → (d : Deck) × (report : Report) × Spells (deck_file old) d × IsWhole d report.history × (told_by_mast mast_now ≡ all_sent (aired_bytes d report.history)) × ((told_by new).printed ≡ Some (report_text report))
cast_left old new mast mast_now empty h =
    let sent : Some (told_by_mast mast_now) ≡ Some (all_sent (aired_bytes h.d h.report.history)) = h.sent in
    let all : told_by_mast mast_now ≡ all_sent (aired_bytes h.d h.report.history) = cc in (
      h.d,
      h.report,
      h.spelled.1,
      h.whole,
      all,
      printed_alone old.printed.bytes (report_text h.report) (told_by new).printed empty h.printed,
    )

-- ---- over what was heard

-- A deck that the file spells is the small one.
is_small : (shelf : MemShelf) (d : Deck) → Spells (deck_file shelf) short_deck → Spells (deck_file shelf) d → d ≡ short_deck
is_small shelf d small spelled = one_deck (deck_file shelf) d short_deck spelled small

-- The report over what was heard is what `tune` prints of it.
heard_text : (d : Deck) (heard records : List (List ℕ)) (report : Report) → IsHeardReport d heard report → d ≡ short_deck → heard ≡ records → report_text report ≡ tune_output short_deck records
heard_text d heard records report h same are =
    ap report_text h.decided ∙ ap (λ d. tune_output d heard) same ∙ ap (tune_output short_deck) are

-- What `tune` prints of nothing, and of two records that are no buckets.
pub record Heard : Type 0 where
  nothing : tune_output short_deck [] ≡ codes "unfinished,0,0,1,\ncounts,0,0,0,0,0,0,0\n"
  noise : tune_output short_deck ((1 ∷ []) ∷ (2 ∷ []) ∷ []) ≡ codes "unfinished,0,0,1,\ncounts,0,0,0,0,2,0,0\n"

heard_computed : Heard
unfolding number_text escaped fields_text is_blank clash_by_entries is_late least body_at bucket_at count_of entries_at entry_told raw_entries entry_count is_placed is_shaped is_entry reading keep without_item with_copy order order_with cut program least_common_multiple num_minors num_chunks chunk_len chunk minor_cycle disk_number chunks_of pix_number body_fits fits by_entries session query_of wanted line_of with_line count_copied count_opened count_dozed count_late count_refused count_foreign next_query next_attempt accept_if_whole hold abort is_unusable drop_copy copy_of turn_with turn settle decide offer open_bucket end_aged judge_read hear_read hear hear_all end_query end rows_text report_text
heard_computed = record { nothing = refl; noise = refl }

-- The records of no bytes.
no_records : (records : List (List ℕ)) → tape_read [] ≡ record { records = records; cut = None } → records ≡ []
unfolding read_from
no_records records h = sym (ap (λ (read : TapeRead). read.records) h)

pub tune_left : (old new : MemShelf) → (told_by old).printed ≡ Some [] → Spells (deck_file old) short_deck → file_bytes (file_named (codes "t") old.files.items) ≡ []
    → TuneStands (codes "d") (codes "t") (shelved_of old) (shelved_of new) → (told_by new).printed ≡ Some (codes "unfinished,0,0,1,\ncounts,0,0,0,0,0,0,0\n")
tune_left old new empty small none h =
    let records : h.records ≡ [] = no_records h.records (subst (λ bytes. tape_read bytes ≡ record { records = h.records; cut = None }) none h.on_tape) in
    printed_alone old.printed.bytes (report_text h.report) (told_by new).printed empty h.printed
    ∙ ap Some (heard_text h.d h.records [] h.report h.heard (is_small old h.d small h.spelled.1) records ∙ heard_computed.nothing)

pub listen_left : (old new : MemShelf) (ear ear_now : MemEarState) → (told_by old).printed ≡ Some [] → Spells (deck_file old) short_deck → ear.waiting ≡ (1 ∷ []) ∷ (2 ∷ []) ∷ []
    → ListenStands (codes "d") 4000 (memory_ear_state ear) (memory_ear_state ear_now) (shelved_of old) (shelved_of new) → (told_by new).printed ≡ Some (codes "unfinished,0,0,1,\ncounts,0,0,0,0,2,0,0\n")
listen_left old new ear ear_now empty small waiting h =
    let same = is_small old h.d small h.spelled.1 in
    let heard : h.datagrams ≡ (1 ∷ []) ∷ (2 ∷ []) ∷ [] =
    h.on_port ∙ ap (λ (d : Deck). map heard_bytes (take d.settings.hears ear.waiting)) same ∙ ap (λ xs. map heard_bytes (take 1000000 xs)) waiting in
    printed_alone old.printed.bytes (report_text h.report) (told_by new).printed empty h.printed
    ∙ ap Some (heard_text h.d h.datagrams ((1 ∷ []) ∷ (2 ∷ []) ∷ []) h.report h.heard same heard ∙ heard_computed.noise)

pub audit_left : (old new : MemShelf) (s : Status) → (told_by old).printed ≡ Some [] → AuditStands (codes "d") (codes "r") (shelved_of old) (shelved_of new) s
    → (d : Deck) × (read : ReadReport) × (found : List Finding) × IsReportOf d (file_bytes (file_named (codes "r") old.files.items)) read × ((told_by new).printed ≡ Some (findings_text found))
    × ((k : ℕ) (f : Finding) (line : VerdictLine) → k < length read.report.verdicts → (get_or found k f).differs ≡ None → GivesVerdict d read.report.history (get_or read.report.verdicts k line))
audit_left old new s empty h = (
  h.d,
  h.read,
  findings h.d h.read,
  h.is,
  printed_alone old.printed.bytes (findings_text (findings h.d h.read)) (told_by new).printed empty h.printed,
  λ k f line below none. (h.each.verdicts k f 0 line below).1.0 none,
)

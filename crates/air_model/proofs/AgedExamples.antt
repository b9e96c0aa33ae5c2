-- Sessions over buckets of version 2, computed: which reads are too far apart, what an aged attempt leaves, and how both
-- versions are heard together. Those of a history are given by both judges.
use Rattle.std.specs.Prelude.{◌≡◌, ℕ, ◌+◌, ◌*◌, List, [], ◌∷◌, Option, Some, replicate, refl}
use Rattle.air_base.specs.declared.verdicts.Policy.{Policy}
use Rattle.air_base.specs.declared.verdicts.Policy.TheVariants.{FMatrix, Datacycle, RMatrix}
use Rattle.air_base.specs.declared.verdicts.Counts.{Counts}
use Rattle.air_base.specs.declared.verdicts.VerdictKind.TheVariants.{Accept, Abort, Aged, Unfinished}
use Rattle.air_history.specs.Ages.{span, spans_too_far}
use Rattle.air_history.specs.Places.{last_place, greatest}
use Rattle.air_history.specs.Histories.{cycle_at, front, starts, writer, writer_before, writes, reads, is_start}
use Rattle.air_history.specs.Descents.{descends, descends_in}
use Rattle.air_history.specs.Columns.{scheme_of, column_entry, vector_entry}
use Rattle.air_history.specs.Tables.{value_on_base, write_of, value_after, table}
use Rattle.air_history.specs.Reads.{origin, stale}
use Rattle.air_history.specs.Consistency.{descends_from, runs_alone, last_alone, consistent}
use Rattle.air_history.specs.Clashes.{least, is_late, clash_by_history, clash_by_entries}
use Rattle.air_model.specs.Buckets.{Body, Bucket, Column, Vector}
use Rattle.air_model.specs.Copies.{keep, without_item, with_copy}
use Rattle.air_model.specs.Disks.{order, order_with, cut}
use Rattle.air_model.specs.Programs.{program, least_common_multiple, num_minors, num_chunks, chunk_len, chunk, minor_cycle}
use Rattle.air_model.specs.Airings.{disk_number, chunks_of, pix_number}
use Rattle.air_model.specs.Decks.{Deck, event_of, script_history}
use Rattle.air_model.specs.Aired.{body_fits, fits}
use Rattle.air_model.specs.Judges.{by_history, by_entries}
use Rattle.air_model.specs.Sessions.{SessionLine, abort, accept_if_whole, copy_of, count_copied, count_dozed, count_foreign, count_late, count_opened, count_refused, decide, drop_copy, end, end_aged, end_query, hear, hear_all, hear_read, hold, is_unusable, judge_read, line_of, next_attempt, next_query, offer, open_bucket, query_of, session, settle, turn, turn_with, wanted, with_line}
use Rattle.air_model.proofs.SessionExamples.{aired_in, bucket, by_both, counts_with, deck, item, judged_by, line, over, read, s}

-- Two items of one rate, and a reader with its queries; version 2.
abbrev two_items : ℕ × ℕ × ℕ → List (List ℕ) → Deck
two_items plan queries = aired_in 2 (deck (item 10 1 ∷ item 20 1 ∷ []) [] plan queries [])

-- One query of both items, and no room for copies.
abbrev both_items : Deck
both_items = two_items (0, 0, 1) ((0 ∷ 1 ∷ []) ∷ [])

-- A bucket of version 2 of this cycle, slot and body.
abbrev aged_bucket : ℕ → ℕ → Body → Option Bucket
aged_bucket c slot body = Some (record { version = 2; edition = 0; cycle = c; slot = slot; body = body })

-- A bucket of one of the two items, in its slot, with these entries in its column.
abbrev column : ℕ → ℕ → List ℕ → Option Bucket
column i c entries = aged_bucket c i (Column i (10 * (i + 1)) entries)

-- A bucket of one of the two items without a writer: the ages are caps.
abbrev young : ℕ → ℕ → Option Bucket
young i c = column i c (0 ∷ 0 ∷ [])

-- The same with a vector.
abbrev young_vector : ℕ → ℕ → Option Bucket
young_vector i c = aged_bucket c i (Vector i (10 * (i + 1)) (0 ∷ 0 ∷ []))

-- The session by the entries under F-Matrix, and under another policy.
abbrev heard_by : Deck → List (Option Bucket) → List SessionLine × Counts
heard_by d heard = over (by_entries (scheme_of FMatrix)) d heard

abbrev heard_under : Policy → Deck → List (Option Bucket) → List SessionLine × Counts
heard_under policy d heard = over (by_entries (scheme_of policy)) (judged_by policy d) heard

-- The line of reads of item 0 in one cycle and item 1 in another: accepted, or aged with the second read.
abbrev accepted : ℕ → ℕ → SessionLine
accepted c d = line 0 1 Accept (read 0 c 10 ∷ read 1 d 20 ∷ [])

abbrev aged : ℕ → ℕ → SessionLine
aged c d = line 0 1 (Aged 1 d) (read 0 c 10 ∷ [])

-- ---- which reads are too far apart

pub record Spans : Type 0 where
  -- 255 cycles are too far, and 254 aren't, with rising or falling cycles
  apart : heard_by both_items (young 0 1 ∷ young 1 256 ∷ []) ≡ (aged 1 256 ∷ [], counts_with 2 0 0)
  together : heard_by both_items (young 0 1 ∷ young 1 255 ∷ []) ≡ (accepted 1 255 ∷ [], counts_with 2 0 0)
  fallen_apart : heard_by both_items (young 0 300 ∷ young 1 45 ∷ []) ≡ (aged 300 45 ∷ [], counts_with 2 0 0)
  fallen_together : heard_by both_items (young 0 300 ∷ young 1 46 ∷ []) ≡ (accepted 300 46 ∷ [], counts_with 2 0 0)
  -- the same under Datacycle; under R-Matrix an older read is late before it is aged, and a newer one is aged
  datacycle : heard_under Datacycle both_items (young_vector 0 300 ∷ young_vector 1 45 ∷ []) ≡ (aged 300 45 ∷ [], counts_with 2 0 0)
  datacycle_together : heard_under Datacycle both_items (young_vector 0 300 ∷ young_vector 1 46 ∷ []) ≡ (accepted 300 46 ∷ [], counts_with 2 0 0)
  late_first : heard_under RMatrix both_items (young_vector 0 300 ∷ young_vector 1 1 ∷ [])
      ≡ (line 0 1 Unfinished (read 0 300 10 ∷ []) ∷ [], record { opened = 1; dozed = 0; late = 1; refused = 0; foreign = 0; copied = 0 })
  r_matrix : heard_under RMatrix both_items (young_vector 0 1 ∷ young_vector 1 256 ∷ []) ≡ (aged 1 256 ∷ [], counts_with 2 0 0)
  -- the span is tested before the clash: item 0 was written in cycle 255
  span_first : heard_by both_items (young 0 1 ∷ column 1 256 (255 ∷ 0 ∷ []) ∷ []) ≡ (aged 1 256 ∷ [], counts_with 2 0 0)
  then_clash : heard_by both_items (young 0 1 ∷ column 1 255 (254 ∷ 0 ∷ []) ∷ []) ≡ (line 0 1 (Abort 1 255 0) (read 0 1 10 ∷ []) ∷ [], counts_with 2 0 0)
  -- in version 1 no reads are too far apart
  in_full : heard_by (aired_in 1 both_items) (bucket 1 0 (Column 0 10 (0 ∷ 0 ∷ [])) ∷ bucket 256 1 (Column 1 20 (0 ∷ 0 ∷ [])) ∷ []) ≡ (accepted 1 256 ∷ [], counts_with 2 0 0)
  -- of three reads the oldest and the newest count, and not the last two
  three_reads : heard_by (aired_in 2 (deck (item 10 1 ∷ item 20 1 ∷ item 30 1 ∷ []) [] (0, 0, 1) ((0 ∷ 1 ∷ 2 ∷ []) ∷ []) []))
      (aged_bucket 200 0 (Column 0 10 (0 ∷ 0 ∷ 0 ∷ [])) ∷ aged_bucket 1 1 (Column 1 20 (0 ∷ 0 ∷ 0 ∷ [])) ∷ aged_bucket 256 2 (Column 2 30 (0 ∷ 0 ∷ 0 ∷ [])) ∷ [])
      ≡ (line 0 1 (Aged 2 256) (read 0 200 10 ∷ read 1 1 20 ∷ []) ∷ [], counts_with 3 0 0)

pub spans : Spans
unfolding greatest column_entry vector_entry least is_late spans_too_far span clash_by_entries keep without_item with_copy order order_with cut program least_common_multiple num_minors num_chunks chunk_len chunk minor_cycle disk_number chunks_of pix_number body_fits fits by_entries session query_of wanted line_of with_line count_copied count_opened count_dozed count_late count_refused count_foreign next_query next_attempt accept_if_whole hold abort is_unusable drop_copy copy_of turn_with turn settle decide offer open_bucket judge_read end_aged hear_read hear hear_all end_query end
spans = record {
  apart = refl;
  together = refl;
  fallen_apart = refl;
  fallen_together = refl;
  datacycle = refl;
  datacycle_together = refl;
  late_first = refl;
  r_matrix = refl;
  span_first = refl;
  then_clash = refl;
  in_full = refl;
  three_reads = refl;
}

-- ---- both versions on one air

pub record Versions : Type 0 where
  -- a deck of version 2 hears a tape of version 1, and one of version 1 hears none of version 2
  older_heard : heard_by both_items (bucket 1 0 (Column 0 10 (0 ∷ 0 ∷ [])) ∷ bucket 1 1 (Column 1 20 (0 ∷ 0 ∷ [])) ∷ []) ≡ (accepted 1 1 ∷ [], counts_with 2 0 0)
  newer_foreign : heard_by (aired_in 1 both_items) (young 0 1 ∷ young 1 1 ∷ [])
      ≡ (line 0 1 Unfinished [] ∷ [], record { opened = 0; dozed = 0; late = 0; refused = 0; foreign = 2; copied = 0 })
  -- what was heard in full is judged together with what was heard by age: item 0 was written in cycle 1, and then in cycle 99
  -- or 100
  mixed : heard_by both_items (bucket 100 0 (Column 0 10 (1 ∷ 1 ∷ [])) ∷ column 1 300 (99 ∷ 0 ∷ []) ∷ []) ≡ (accepted 100 300 ∷ [], counts_with 2 0 0)
  mixed_clash : heard_by both_items (bucket 100 0 (Column 0 10 (1 ∷ 1 ∷ [])) ∷ column 1 300 (100 ∷ 0 ∷ []) ∷ [])
      ≡ (line 0 1 (Abort 1 300 0) (read 0 100 10 ∷ []) ∷ [], counts_with 2 0 0)

pub versions : Versions
unfolding greatest column_entry vector_entry least is_late spans_too_far span clash_by_entries keep without_item with_copy order order_with cut program least_common_multiple num_minors num_chunks chunk_len chunk minor_cycle disk_number chunks_of pix_number body_fits fits by_entries session query_of wanted line_of with_line count_copied count_opened count_dozed count_late count_refused count_foreign next_query next_attempt accept_if_whole hold abort is_unusable drop_copy copy_of turn_with turn settle decide offer open_bucket judge_read end_aged hear_read hear hear_all end_query end
versions = record { older_heard = refl; newer_foreign = refl; mixed = refl; mixed_clash = refl }

-- ---- copies

-- Room for two copies of any age, queries of item 0, and then of both.
abbrev asks_twice : Deck
asks_twice = two_items (2, 10000, 1) ((0 ∷ []) ∷ (1 ∷ 0 ∷ []) ∷ [])

-- Queries of both items, and then of item 1, with this many tries.
abbrev tries : ℕ → Deck
tries n = two_items (2, 10000, n) ((0 ∷ 1 ∷ []) ∷ (1 ∷ []) ∷ [])

pub record Copies : Type 0 where
  -- a copy that is too far from the held reads is dropped, and a nearer one is used
  copy_used : heard_by asks_twice (young 0 1 ∷ young 1 255 ∷ young 0 255 ∷ [])
      ≡ (line 0 1 Accept (read 0 1 10 ∷ []) ∷ line 1 1 Accept (read 1 255 20 ∷ read 0 1 10 ∷ []) ∷ [], counts_with 2 1 1)
  copy_dropped : heard_by asks_twice (young 0 1 ∷ young 1 256 ∷ young 0 256 ∷ [])
      ≡ (line 0 1 Accept (read 0 1 10 ∷ []) ∷ line 1 1 Accept (read 1 256 20 ∷ read 0 256 10 ∷ []) ∷ [], counts_with 3 0 0)
  -- an aged attempt drops no copy: the copy of item 0 is used in the next attempt, in which that of item 1 is too far and is
  -- dropped
  all_kept : heard_by (tries 2) (young 0 1 ∷ young 1 256 ∷ young 1 200 ∷ [])
      ≡ (aged 1 256 ∷ line 0 2 Accept (read 0 1 10 ∷ read 1 200 20 ∷ []) ∷ line 1 1 Accept (read 1 200 20 ∷ []) ∷ [], counts_with 3 0 2)
  -- the read that ended it is offered to the copies: the next query is answered from its copy
  offered : heard_by (tries 1) (young 0 1 ∷ young 1 256 ∷ young 1 200 ∷ [])
      ≡ (aged 1 256 ∷ line 1 1 Accept (read 1 256 20 ∷ []) ∷ [], counts_with 2 1 1)

pub copies : Copies
unfolding greatest column_entry vector_entry least is_late spans_too_far span clash_by_entries keep without_item with_copy order order_with cut program least_common_multiple num_minors num_chunks chunk_len chunk minor_cycle disk_number chunks_of pix_number body_fits fits by_entries session query_of wanted line_of with_line count_copied count_opened count_dozed count_late count_refused count_foreign next_query next_attempt accept_if_whole hold abort is_unusable drop_copy copy_of turn_with turn settle decide offer open_bucket judge_read end_aged hear_read hear hear_all end_query end
copies = record { copy_used = refl; copy_dropped = refl; all_kept = refl; offered = refl }

-- ---- by both judges

-- The same deck over a history of 256 starts.
abbrev long_deck : Deck
long_deck = record both_items { script = replicate 256 s }

pub record Judged : Type 0 where
  apart : by_both long_deck (young 0 1 ∷ young 1 256 ∷ []) (aged 1 256 ∷ [], counts_with 2 0 0)
  together : by_both long_deck (young 0 1 ∷ young 1 255 ∷ []) (accepted 1 255 ∷ [], counts_with 2 0 0)

pub judged : Judged
unfolding last_place greatest cycle_at front starts writer writer_before writes reads is_start descends descends_in column_entry vector_entry value_on_base write_of value_after table origin stale descends_from runs_alone last_alone consistent least is_late spans_too_far span clash_by_history clash_by_entries keep without_item with_copy order order_with cut program least_common_multiple num_minors num_chunks chunk_len chunk minor_cycle disk_number chunks_of pix_number event_of script_history body_fits fits by_history by_entries session query_of wanted line_of with_line count_copied count_opened count_dozed count_late count_refused count_foreign next_query next_attempt accept_if_whole hold abort is_unusable drop_copy copy_of turn_with turn settle decide offer open_bucket judge_read end_aged hear_read hear hear_all end_query end
judged = record { apart = (refl, refl); together = (refl, refl) }

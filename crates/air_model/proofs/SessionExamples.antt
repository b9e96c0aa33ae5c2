-- Small sessions, from a plain deck to lines and counts, each computed by both judges.
use Rattle.std.specs.Prelude.{◌≡◌, ℕ, false, List, [], ◌∷◌, length, map, Option, Some, None, refl}
use Rattle.std.specs.List.{flat_map}
use Rattle.air_base.specs.declared.verdicts.Policy.{Policy}
use Rattle.air_base.specs.declared.verdicts.Policy.TheVariants.{FMatrix, Datacycle, RMatrix}
use Rattle.air_base.specs.declared.verdicts.ReadOf.{ReadOf}
use Rattle.air_base.specs.declared.verdicts.Counts.{Counts}
use Rattle.air_base.specs.declared.verdicts.VerdictKind.{VerdictKind}
use Rattle.air_base.specs.declared.verdicts.VerdictKind.TheVariants.{Accept, Abort, Unfinished}
use Rattle.air_history.specs.declared.updates.Write.{Write}
use Rattle.air_history.specs.UpdateLists.{UpdateLists}
use Rattle.air_history.specs.Places.{last_place, greatest}
use Rattle.air_history.specs.Histories.{cycle_at, front, starts, writer, writer_before, writes, reads, is_start}
use Rattle.air_history.specs.Descents.{descends, descends_in}
use Rattle.air_history.specs.Columns.{scheme_of, column_entry, vector_entry}
use Rattle.air_history.specs.Tables.{value_on_base, write_of, value_after, table}
use Rattle.air_history.specs.Reads.{origin, stale}
use Rattle.air_history.specs.Consistency.{descends_from, runs_alone, last_alone, consistent}
use Rattle.air_history.specs.Clashes.{least, is_late, clash_by_history, clash_by_entries}
use Rattle.air_model.specs.Buckets.{Bucket, Body, Column, Vector, capped_body, capped_entries}
use Rattle.air_model.specs.Copies.{keep, without_item, with_copy}
use Rattle.air_model.specs.Disks.{order, order_with, cut}
use Rattle.air_model.specs.Programs.{program, least_common_multiple, num_minors, num_chunks, chunk_len, chunk, minor_cycle}
use Rattle.air_model.specs.Airings.{disk_number, chunks_of, pix_number}
use Rattle.air_model.specs.Decks.{Deck, Item, event_of, script_history, values_in}
use Rattle.air_model.specs.Aired.{scheme_in, air_of, body_of, bucket_of, buckets_of, body_fits, fits}
use Rattle.air_model.specs.Judges.{Judge, by_history, by_entries}
use Rattle.air_model.specs.Sessions.{SessionLine, State, reader_of, session, query_of, wanted, line_of, with_line, count_copied, count_opened, count_dozed, count_late, count_refused, count_foreign, next_query, next_attempt, accept_if_whole, hold, abort, is_unusable, drop_copy, copy_of, turn_with, turn, settle, decide, offer, open_bucket, hear_read, hear, hear_all, end_query, end, end_aged, judge_read}

-- ---- decks of one disk, one updater and one reader

-- An item of this value and rate.
abbrev pub item : ℕ → ℕ → Item
item value rate = record { value = value; rate = rate }

-- An update with these reads and writes.
abbrev pub update : List ℕ → List Write → UpdateLists
update reads writes = record { reads = reads; writes = writes }

-- A write of an amount.
abbrev pub set_to : ℕ → ℕ → Write
set_to i v = record { item = i; base = None; minus = false; amount = v }

-- A write of a base's value plus an amount.
abbrev pub add_to : ℕ → ℕ → ℕ → Write
add_to i b v = record { item = i; base = Some b; minus = false; amount = v }

-- A deck of one disk, whose reader has this room, age and number of tries.
abbrev pub deck : List Item → List UpdateLists → ℕ × ℕ × ℕ → List (List ℕ) → List (Option ℕ) → Deck
deck items updates (room, age, tries) queries script = record {
  items = items;
  disks = record { size = length items; freq = 1 } ∷ [];
  replans = [];
  updates = updates ∷ [];
  readers = record { room = room; age = age; tries = tries } ∷ [];
  queries = queries ∷ [];
  script = script;
  settings = record { policy = FMatrix; version = 1; group = 0; cycles = 10; seed = 0; loss = 0; again = 0; late = 0; monitors = 0; hears = 1000000 };
}

-- The deck with another policy.
abbrev pub judged_by : Policy → Deck → Deck
judged_by policy d = record d { settings = record d.settings { policy = policy } }

-- The deck with buckets of another version.
abbrev pub aired_in : ℕ → Deck → Deck
aired_in version d = record d { settings = record d.settings { version = version } }

-- A start of the script.
abbrev pub s : Option ℕ
s = None

-- A commit of the script's updater.
abbrev pub u : Option ℕ
u = Some 0

-- Two items, asked for in the order of their numbers.
abbrev pub pair : Deck
pair = deck (item 10 1 ∷ item 20 1 ∷ []) [] (0, 0, 1) ((0 ∷ 1 ∷ []) ∷ []) (s ∷ [])

-- The second item is hotter, so the program airs 1, then 0; item 0 becomes 11, item 1 becomes 21.
abbrev pub swapped_deck : List (Option ℕ) → Deck
swapped_deck script = deck (item 10 1 ∷ item 20 2 ∷ []) (update [] (set_to 0 11 ∷ []) ∷ update [] (set_to 1 21 ∷ []) ∷ []) (0, 0, 1) ((0 ∷ 1 ∷ []) ∷ []) script

-- Item 0 becomes 11, item 2 becomes item 0 plus 1, and item 1 becomes item 2 plus 1.
abbrev pub chained_deck : ℕ → List (Option ℕ) → Deck
chained_deck tries script = deck (item 10 2 ∷ item 20 3 ∷ item 30 1 ∷ [])
    (update [] (set_to 0 11 ∷ []) ∷ update (0 ∷ []) (add_to 2 0 1 ∷ []) ∷ update (2 ∷ []) (add_to 1 2 1 ∷ []) ∷ []) (0, 0, tries) ((0 ∷ 1 ∷ []) ∷ []) script

-- Item 0 becomes 11, item 1 becomes item 0 plus 5; the reader keeps copies.
abbrev pub copying_deck : List (Option ℕ) → Deck
copying_deck script = deck (item 10 1 ∷ item 20 2 ∷ []) (update [] (set_to 0 11 ∷ []) ∷ update (0 ∷ []) (add_to 1 0 5 ∷ []) ∷ []) (2, 9, 1) ((0 ∷ []) ∷ (1 ∷ 0 ∷ []) ∷ []) script

-- Three items of one rate, and room for one copy.
abbrev crowded_deck : Deck
crowded_deck = deck (item 10 1 ∷ item 20 1 ∷ item 30 1 ∷ []) [] (1, 9, 1) ((2 ∷ []) ∷ (1 ∷ []) ∷ (0 ∷ []) ∷ (0 ∷ 1 ∷ []) ∷ (0 ∷ []) ∷ []) (s ∷ s ∷ s ∷ [])

-- ---- what is heard, and the session that it gives

-- The script's buckets, unchanged.
abbrev pub all_of : Deck → List (Option Bucket)
all_of d = map Some (buckets_of (values_in d) (air_of d) (script_history d))

-- A bucket of this cycle, slot and body, of edition 0 and version 1.
abbrev pub bucket : ℕ → ℕ → Body → Option Bucket
bucket c slot body = Some (record { version = 1; edition = 0; cycle = c; slot = slot; body = body })

-- The lines and the counts of the deck's reader.
abbrev pub over : Judge → Deck → List (Option Bucket) → List SessionLine × Counts
over judge d heard = let t : State = session judge (air_of d) (reader_of d 0) heard in (t.lines, t.counts)

-- The session is this one, by the history and by the entries.
abbrev pub by_both : Deck → List (Option Bucket) → List SessionLine × Counts → Type 0
by_both d heard result =
    (over (by_history (scheme_in d) (length d.items) (values_in d) (script_history d)) d heard ≡ result) × (over (by_entries (scheme_in d)) d heard ≡ result)

-- A read of an item in a cycle, and its value.
abbrev pub read : ℕ → ℕ → ℕ → ReadOf
read i c v = record { item = i; cycle = c; value = v }

-- The line of an attempt of a query.
abbrev pub line : ℕ → ℕ → VerdictKind → List ReadOf → SessionLine
line q a kind reads = record { verdict = record { query = q; attempt = a; kind = kind }; reads = reads }

-- The counts with these opened, dozed and copied.
abbrev pub counts_with : ℕ → ℕ → ℕ → Counts
counts_with opened dozed copied = record { opened = opened; dozed = dozed; late = 0; refused = 0; foreign = 0; copied = copied }

-- What the sessions give.
pub record Sessions : Type 0 where
  accepts : by_both pair (all_of pair) (line 0 1 Accept (read 0 1 10 ∷ read 1 1 20 ∷ []) ∷ [], counts_with 2 0 0)
  -- F-Matrix accepts reads of two cycles that no single cycle has; the other policies abort.
  f_matrix_accepts : let d = swapped_deck (s ∷ u ∷ u ∷ s ∷ []) in by_both d (all_of d) (line 0 1 Accept (read 0 1 10 ∷ read 1 2 21 ∷ []) ∷ [], counts_with 2 2 0)
  datacycle_aborts : let d = judged_by Datacycle (swapped_deck (s ∷ u ∷ u ∷ s ∷ [])) in by_both d (all_of d) (line 0 1 (Abort 1 2 0) (read 0 1 10 ∷ []) ∷ [], counts_with 2 2 0)
  r_matrix_aborts : let d = judged_by RMatrix (swapped_deck (s ∷ u ∷ u ∷ s ∷ [])) in by_both d (all_of d) (line 0 1 (Abort 1 2 0) (read 0 1 10 ∷ []) ∷ [], counts_with 2 2 0)
  -- Without the second commit R-Matrix accepts by the first cycle; Datacycle still aborts.
  r_matrix_accepts : let d = judged_by RMatrix (swapped_deck (s ∷ u ∷ s ∷ [])) in by_both d (all_of d) (line 0 1 Accept (read 0 1 10 ∷ read 1 2 20 ∷ []) ∷ [], counts_with 2 2 0)
  datacycle_aborts_on_stale_read : let d = judged_by Datacycle (swapped_deck (s ∷ u ∷ s ∷ [])) in by_both d (all_of d) (line 0 1 (Abort 1 2 0) (read 0 1 10 ∷ []) ∷ [], counts_with 2 2 0)
  -- Item 1 descends from the write of item 0 through item 2.
  chain_aborts : let d = chained_deck 1 (s ∷ u ∷ u ∷ u ∷ s ∷ []) in by_both d (all_of d) (line 0 1 (Abort 1 2 0) (read 0 1 10 ∷ []) ∷ [], counts_with 2 4 0)
  -- Before the first start all commits are of cycle 0.
  commits_before_the_first_cycle : let d = chained_deck 1 (u ∷ u ∷ u ∷ s ∷ s ∷ []) in by_both d (all_of d) (line 0 1 Accept (read 0 1 11 ∷ read 1 2 13 ∷ []) ∷ [], counts_with 2 4 0)
  -- With a second try the query is accepted a cycle later.
  tries_again : let d = chained_deck 2 (s ∷ u ∷ u ∷ u ∷ s ∷ s ∷ []) in
      by_both d (all_of d) (line 0 1 (Abort 1 2 0) (read 0 1 10 ∷ []) ∷ line 0 2 Accept (read 0 2 11 ∷ read 1 3 13 ∷ []) ∷ [], counts_with 4 5 0)
  -- The kept copy of item 0 clashes with the new item 1; it is dropped, and item 0 is read anew from the air.
  copy_dropped : let d = copying_deck (s ∷ u ∷ u ∷ s ∷ []) in
      by_both d (all_of d) (line 0 1 Accept (read 0 1 10 ∷ []) ∷ line 1 1 Accept (read 1 2 16 ∷ read 0 2 11 ∷ []) ∷ [], counts_with 3 1 0)
  -- Without the commits the copy is used.
  copy_used : let d = copying_deck (s ∷ s ∷ []) in by_both d (all_of d) (line 0 1 Accept (read 0 1 10 ∷ []) ∷ line 1 1 Accept (read 1 2 20 ∷ read 0 1 10 ∷ []) ∷ [], counts_with 2 2 1)
  -- Room for one copy: placed, in place of item 2, in place of item 1, declined.
  copies_compete : by_both crowded_deck (all_of crowded_deck) (
    line 0 1 Accept (read 2 1 30 ∷ []) ∷ line 1 1 Accept (read 1 2 20 ∷ []) ∷ line 2 1 Accept (read 0 3 10 ∷ []) ∷ line 3 1 Accept (read 0 3 10 ∷ read 1 3 20 ∷ [])
        ∷ line 4 1 Accept (read 0 3 10 ∷ []) ∷ [],
    counts_with 4 5 2,
  )
  -- If all buckets are lost, and if each is heard twice.
  nothing_heard : by_both pair [] (line 0 1 Unfinished [] ∷ [], counts_with 0 0 0)
  heard_twice : by_both pair (flat_map (λ b. b ∷ b ∷ []) (all_of pair)) (line 0 1 Accept (read 0 1 10 ∷ read 1 1 20 ∷ []) ∷ [], counts_with 2 2 0)
  -- Bytes that are no bucket, and a bucket with too many entries, change only their counts.
  refused_and_foreign : by_both pair (None ∷ None ∷ bucket 1 0 (Column 0 10 (0 ∷ 0 ∷ 0 ∷ [])) ∷ all_of pair)
      (line 0 1 Accept (read 0 1 10 ∷ read 1 1 20 ∷ []) ∷ [], record { opened = 2; dozed = 0; late = 0; refused = 2; foreign = 1; copied = 0 })
  -- Cycles may fall: under F-Matrix the entries clash, and under R-Matrix the older read is late.
  cycles_fall : over (by_entries (scheme_of FMatrix)) pair (bucket 4 0 (Column 0 10 (0 ∷ 0 ∷ [])) ∷ bucket 2 1 (Column 1 20 (0 ∷ 0 ∷ [])) ∷ [])
      ≡ (line 0 1 Accept (read 0 4 10 ∷ read 1 2 20 ∷ []) ∷ [], counts_with 2 0 0)
  held_column_clashes : over (by_entries (scheme_of FMatrix)) pair (bucket 4 0 (Column 0 10 (3 ∷ 3 ∷ [])) ∷ bucket 2 1 (Column 1 20 (0 ∷ 0 ∷ [])) ∷ [])
      ≡ (line 0 1 (Abort 1 2 0) (read 0 4 10 ∷ []) ∷ [], counts_with 2 0 0)
  held_vector_clashes : over (by_entries (scheme_of Datacycle)) (judged_by Datacycle pair) (bucket 4 0 (Vector 0 10 (3 ∷ 3 ∷ [])) ∷ bucket 2 1 (Vector 1 20 (3 ∷ 3 ∷ [])) ∷ [])
      ≡ (line 0 1 (Abort 1 2 0) (read 0 4 10 ∷ []) ∷ [], counts_with 2 0 0)
  comes_late : over (by_entries (scheme_of RMatrix)) (judged_by RMatrix pair) (bucket 4 0 (Vector 0 10 (0 ∷ 0 ∷ [])) ∷ bucket 2 1 (Vector 1 20 (0 ∷ 0 ∷ [])) ∷ [])
      ≡ (line 0 1 Unfinished (read 0 4 10 ∷ []) ∷ [], record { opened = 1; dozed = 0; late = 1; refused = 0; foreign = 0; copied = 0 })

-- The sessions give this.
pub sessions : Sessions
unfolding last_place greatest cycle_at front starts writer writer_before writes reads is_start descends descends_in column_entry vector_entry value_on_base write_of value_after table origin stale descends_from runs_alone last_alone consistent least is_late clash_by_history clash_by_entries keep without_item with_copy order order_with cut program least_common_multiple num_minors num_chunks chunk_len chunk minor_cycle disk_number chunks_of pix_number event_of script_history body_of bucket_of capped_entries capped_body buckets_of body_fits fits by_history by_entries session query_of wanted line_of with_line count_copied count_opened count_dozed count_late count_refused count_foreign next_query next_attempt accept_if_whole hold abort is_unusable drop_copy copy_of turn_with turn settle decide offer open_bucket end_aged judge_read hear_read hear hear_all end_query end
sessions = record {
  accepts = (refl, refl);
  f_matrix_accepts = (refl, refl);
  datacycle_aborts = (refl, refl);
  r_matrix_aborts = (refl, refl);
  r_matrix_accepts = (refl, refl);
  datacycle_aborts_on_stale_read = (refl, refl);
  chain_aborts = (refl, refl);
  commits_before_the_first_cycle = (refl, refl);
  tries_again = (refl, refl);
  copy_dropped = (refl, refl);
  copy_used = (refl, refl);
  copies_compete = (refl, refl);
  nothing_heard = (refl, refl);
  heard_twice = (refl, refl);
  refused_and_foreign = (refl, refl);
  cycles_fall = refl;
  held_column_clashes = refl;
  held_vector_clashes = refl;
  comes_late = refl;
}

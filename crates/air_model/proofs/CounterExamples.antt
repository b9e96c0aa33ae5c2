-- Small decks, histories and heard lists for which a relation of the model doesn't hold, each for one reason; and a clash with
-- the first of two held reads.
use Rattle.std.proofs.Common.{◌≡◌, ℕ, zero, suc, ◌<◌, ◌≤◌, ◌^◌, true, false, Some, None, Option, List, [], ◌∷◌, All, refl, ap, subst, arith, sum_by}
use Rattle.std.specs.Prelude.{slice_get}
use Rattle.std.proofs.lemmas.Bool.{false≢true}
use Rattle.air_base.specs.declared.verdicts.Policy.TheVariants.{FMatrix}
use Rattle.air_base.specs.declared.verdicts.VerdictKind.TheVariants.{Accept, Abort}
use Rattle.air_history.specs.declared.histories.Event.TheVariants.{Commit, Start}
use Rattle.air_history.specs.Places.{last_place, greatest}
use Rattle.air_history.specs.Histories.{cycle_at, front, starts, writer, writer_before, writes, reads, is_start}
use Rattle.air_history.specs.Descents.{descends, descends_in}
use Rattle.air_history.specs.Columns.{scheme_of, column_entry}
use Rattle.air_history.specs.Tables.{value_on_base, write_of, value_after, table}
use Rattle.air_history.specs.Reads.{origin}
use Rattle.air_history.specs.UpdateLists.{UpdateLists}
use Rattle.air_history.specs.UpdateRules.{has_repeat, update_fault}
use Rattle.air_history.specs.Consistency.{descends_from, runs_alone, last_alone, consistent}
use Rattle.air_history.specs.Clashes.{least, is_late, clash_by_history, clash_by_entries}
use Rattle.air_model.specs.Aired.{IsAired, IsAiredBucket, air_of, body_of, bucket_of, buckets_of, body_fits, fits}
use Rattle.air_model.specs.AiredItems.{AirsItems}
use Rattle.air_model.specs.Airings.{chunks_of, disk_number, pix_number}
use Rattle.air_model.specs.Buckets.{Bucket, Column, value_of, capped_body, capped_entries}
use Rattle.air_model.specs.Copies.{keep, without_item, with_copy}
use Rattle.air_model.specs.Decks.{Deck, IsDeck, IsLegal, IsNextCommit, IsQuery, IsUpdate, count_made, disks_in, event_of, is_by, script_history, values_in}
use Rattle.air_model.specs.Disks.{Disk, cut, order, order_with}
use Rattle.air_model.specs.Judges.{by_entries, by_history}
use Rattle.air_model.specs.Programs.{chunk, chunk_len, least_common_multiple, minor_cycle, num_chunks, num_minors, program}
use Rattle.air_model.specs.ReceiverLaws.{IsTrueSession, session_of}
use Rattle.air_model.specs.SessionLaws.{IsExactLine, IsOfReader, follows_query}
use Rattle.air_model.specs.Sessions.{SessionLine, abort, accept_if_whole, copy_of, count_copied, count_dozed, count_foreign, count_late, count_opened, count_refused, decide, drop_copy, end, end_aged, end_query, hear, hear_all, hear_read, hold, is_unusable, judge_read, line_of, next_attempt, next_query, offer, open_bucket, query_of, reader_of, session, settle, turn, turn_with, wanted, with_line}
use Rattle.air_model.proofs.SessionExamples.{all_of, bucket, by_both, chained_deck, counts_with, item, line, pair, read, s, set_to, swapped_deck, u, update}

-- ---- decks and their histories

-- The deck of two items with other updates of its updater.
abbrev updating : List UpdateLists → Deck
updating updates = record pair { updates = updates ∷ [] }

-- The two updates of an updater, of which the second writes 21 to item 1.
abbrev turned : Deck
turned = swapped_deck []

abbrev second_update : UpdateLists
second_update = update [] (set_to 1 21 ∷ [])

pub record Decks : Type 0 where
  -- a query has an item, asks for none twice, and asks only for items that there are; one item is enough
  no_item : IsQuery 2 [] → ⊥
  item_twice : IsQuery 2 (0 ∷ 0 ∷ []) → ⊥
  item_past_the_last : IsQuery 2 (2 ∷ []) → ⊥
  one_item : IsQuery 2 (1 ∷ [])
  -- amounts are below 2^64
  amount_too_great : IsUpdate 2 (update [] (set_to 1 (2 ^ 64) ∷ [])) → ⊥
  most : IsUpdate 2 (update [] (set_to 1 18446744073709551615 ∷ []))
  -- so are values
  value_too_great : IsDeck (record pair { items = item 10 1 ∷ item (2 ^ 64) 1 ∷ [] }) → ⊥
  -- the disks take all items, and each disk has an item and is aired
  item_on_no_disk : IsDeck (record pair { disks = record { size = 1; freq = 1 } ∷ [] }) → ⊥
  empty_disk : IsDeck (record pair { disks = record { size = 2; freq = 1 } ∷ record { size = 0; freq = 1 } ∷ [] }) → ⊥
  unaired_disk : IsDeck (record pair { disks = record { size = 2; freq = 0 } ∷ [] }) → ⊥
  -- each reader has a list of queries, and tries
  no_queries : IsDeck (record pair { queries = [] }) → ⊥
  no_tries : IsDeck (record pair { readers = record { room = 0; age = 0; tries = 0 } ∷ [] }) → ⊥
  -- each query and each update is valid
  bad_query : IsDeck (record pair { queries = ((0 ∷ 2 ∷ []) ∷ []) ∷ [] }) → ⊥
  bad_update : IsDeck (updating (update [] (set_to 2 1 ∷ []) ∷ [])) → ⊥
  -- the script commits only updates that there are
  too_many_commits : IsDeck (record pair { script = u ∷ [] }) → ⊥
  -- an updater's next commit has the number and the update that come next
  other_number : IsNextCommit turned [] 0 1 second_update → ⊥
  other_update : IsNextCommit turned [] 0 0 second_update → ⊥
  -- its very first commit counts too
  first_counts : count_made 0 (Commit 0 0 second_update ∷ Start ∷ []) ≡ 1
  not_legal : IsLegal turned (Start ∷ Commit 0 1 second_update ∷ []) → ⊥

decks : Decks
unfolding has_repeat update_fault is_by
decks = record {
  no_item = λ h. let some : 0 < 0 = h.filled in omega arith;
  item_twice = λ h. let no : true ≡ false = h.distinct in cc;
  item_past_the_last = λ h. let low : 2 < 2 = h.within 0 0 (omega arith) in omega arith;
  one_item = record { filled = omega arith; distinct = refl; within = one (λ i. i < 2) 1 (omega arith) };
  amount_too_great = λ h. let low : 2 ^ 64 < 2 ^ 64 = h.amounts 0 (set_to 0 0) (omega arith) in omega arith;
  most = record { rules = refl; fits = record { reads = none (λ r. r < 2); writes = one (λ w. w.item < 2) (set_to 1 18446744073709551615) (omega arith) }; amounts = one (λ w. w.amount < 2 ^ 64) (set_to 1 18446744073709551615) (omega arith) };
  value_too_great = λ h. let low : 2 ^ 64 < 2 ^ 64 = h.values 1 (item 0 0) (omega arith) in omega arith;
  item_on_no_disk = λ h. let all : 1 ≡ 2 = h.sizes 0 (omega arith) in omega (arith, all);
  empty_disk = λ h. let some : 0 < 0 = (h.aired 0 (omega arith) 1 (record { size = 0; freq = 0 }) (omega arith)).0 in omega arith;
  unaired_disk = λ h. let some : 0 < 0 = (h.aired 0 (omega arith) 0 (record { size = 0; freq = 0 }) (omega arith)).1 in omega arith;
  no_queries = λ h. let each : 0 ≡ 1 = h.readers in omega (arith, each);
  no_tries = λ h. let some : 1 ≤ 0 = h.tries 0 (record { room = 0; age = 0; tries = 0 }) (omega arith) in omega arith;
  bad_query = λ h. let query : IsQuery 2 (0 ∷ 2 ∷ []) = h.queries 0 [] (omega arith) 0 [] (omega arith) in let low : 2 < 2 = query.within 1 0 (omega arith) in omega arith;
  bad_update = λ h. let is : IsUpdate 2 (update [] (set_to 2 1 ∷ [])) = h.updates 0 [] (omega arith) 0 (update [] []) (omega arith) in let low : 2 < 2 = is.fits.writes 0 (set_to 0 0) (omega arith) in omega arith;
  too_many_commits = λ h. let most : 1 ≤ 0 = h.script 0 in omega arith;
  other_number = λ h. let same : 1 ≡ 0 = h.number in omega (arith, same);
  other_update = λ h. let e : Some (update [] (set_to 0 11 ∷ [])) ≡ Some second_update = h.given in let same : update [] (set_to 0 11 ∷ []) ≡ second_update = cc in
      let amount : 11 ≡ 21 = ap (λ v. sum_by (λ w. w.amount) v.writes) same in omega (arith, amount);
  first_counts = refl;
  not_legal = λ h. let next : IsNextCommit turned (Start ∷ []) 0 1 second_update = h 1 0 1 second_update refl in let same : 1 ≡ 0 = next.number in omega (arith, same);
}
  where
    none : {X : Type 0} (P : X → Type 0) → All P []
    none P i d within = absurd (omega (arith, within))

    one : {X : Type 0} (P : X → Type 0) (x : X) → P x → All P (x ∷ [])
    one P x p zero d within = p
    one P x p (suc i) d within = absurd (omega (arith, within))

-- ---- what is aired

-- The bucket of item 0 in a cycle, with this value.
abbrev first : ℕ → ℕ → Bucket
first cycle value = record { version = 1; edition = 0; cycle = cycle; slot = 0; body = Column 0 value (0 ∷ 0 ∷ []) }

-- The script's history, of one cycle, aired this bucket.
abbrev WasAired : Bucket → Type 0
WasAired b = IsAiredBucket (values_in pair) (air_of pair) (script_history pair) b

-- A bucket with another value isn't the history's, nor is one of a cycle that the history doesn't start.
other_value : WasAired (first 1 11) → ⊥
unfolding script_history event_of order order_with cut program least_common_multiple num_minors num_chunks chunk_len chunk minor_cycle bucket_of capped_entries capped_body body_of table column_entry front greatest value_of
other_value h = let same : first 1 11 ≡ first 1 10 = h.same in let value : 11 ≡ 10 = ap (λ b. value_of b.body) same in omega (arith, value)

other_cycle : (WasAired (first 2 10) → ⊥) × (WasAired (first 0 10) → ⊥)
unfolding script_history event_of starts is_start
other_cycle = (λ h. let most : 2 ≤ 1 = h.started in omega arith, λ h. let least : 1 ≤ 0 = h.from_one in omega arith)

-- No list with that bucket was aired, at any place.
not_aired : (IsAired (values_in pair) (air_of pair) (script_history pair) (Some (first 1 11) ∷ []) → ⊥) × (IsAired (values_in pair) (air_of pair) (script_history pair) (None ∷ Some (first 1 11) ∷ []) → ⊥)
unfolding order order_with cut program least_common_multiple num_minors num_chunks chunk_len chunk minor_cycle body_fits fits
not_aired = (λ h. other_value (h 0 None (omega arith) refl), λ h. other_value (h 1 None (omega arith) refl))

-- The items of one cycle aren't aired if the last one is missing, or if its value is another.
airs_missing : AirsItems pair (script_history pair) (first 1 10 ∷ []) → ⊥
unfolding script_history event_of starts is_start cut order order_with
airs_missing h = let item = h.times 1 1 (omega arith) (omega arith) (omega arith) in never item.number item.disk item.there item.times
  where
    never : (number : ℕ) (disk : Disk) → slice_get (disks_in pair 0) number ≡ Some disk → 0 ≡ disk.freq → ⊥
    never zero disk there none = let is : record { items = 0 ∷ 1 ∷ []; freq = 1 } ≡ disk = cc in let freq : 1 ≡ disk.freq = ap (λ d. d.freq) is in omega (arith, freq)
    never (suc number) disk there none = cc

airs_another : AirsItems pair (script_history pair) (first 1 11 ∷ []) → ⊥
unfolding script_history event_of table front
airs_another h = let value : 11 ≡ 10 = h.values 0 (first 0 0) (omega arith) in omega (arith, value)

-- ---- lines and sessions

-- The reader has one query, and reads only its items.
not_of_reader : (IsOfReader (reader_of pair 0) (line 1 1 Accept []) → ⊥) × (IsOfReader (reader_of pair 0) (line 0 1 Accept (read 1 1 20 ∷ read 0 1 10 ∷ read 1 1 20 ∷ [])) → ⊥)
unfolding follows_query
not_of_reader = (λ h. let low : 1 < 1 = h.query in omega arith, λ h. let e : false ≡ true = h.follows in false≢true e)

-- A heard list that no history aired: item 0 has another value.
abbrev heard_otherwise : List (Option Bucket)
heard_otherwise = bucket 1 0 (Column 0 11 (0 ∷ 0 ∷ [])) ∷ bucket 1 1 (Column 1 20 (0 ∷ 0 ∷ [])) ∷ []

-- The session by the entries differs from the one by the history.
not_the_same : IsTrueSession pair (script_history pair) 0 heard_otherwise → ⊥
unfolding script_history event_of table front last_place writer writer_before writes origin descends descends_in descends_from runs_alone last_alone consistent least is_late clash_by_history clash_by_entries by_history by_entries order order_with cut program least_common_multiple num_minors num_chunks chunk_len chunk minor_cycle chunks_of disk_number pix_number body_fits fits keep without_item with_copy session query_of wanted line_of with_line count_copied count_opened count_dozed count_late count_refused count_foreign next_query next_attempt accept_if_whole hold abort is_unusable drop_copy copy_of turn_with turn settle decide offer open_bucket end_aged judge_read hear_read hear hear_all end_query end
not_the_same h = let values : 31 ≡ 30 = ap (λ t. sum_by (λ l. sum_by (λ r. r.value) l.reads) t.lines) h.same in omega (arith, values)

-- Another such list: by the column of item 1, item 0 was written in cycle 1, which it wasn't.
abbrev heard_written : List (Option Bucket)
heard_written = bucket 1 0 (Column 0 10 (0 ∷ 0 ∷ [])) ∷ bucket 2 1 (Column 1 20 (1 ∷ 0 ∷ [])) ∷ []

abbrev abort_line : SessionLine
abort_line = line 0 1 (Abort 1 2 0) (read 0 1 10 ∷ [])

one_abort : (session_of (by_entries (scheme_of FMatrix)) pair 0 heard_written).lines ≡ abort_line ∷ []
unfolding least is_late clash_by_entries by_entries order order_with cut program least_common_multiple num_minors num_chunks chunk_len chunk minor_cycle chunks_of disk_number pix_number body_fits fits keep without_item with_copy session query_of wanted line_of with_line count_copied count_opened count_dozed count_late count_refused count_foreign next_query next_attempt accept_if_whole hold abort is_unusable drop_copy copy_of turn_with turn settle decide offer open_bucket end_aged judge_read hear_read hear hear_all end_query end
one_abort = refl

-- The verdict isn't exact: the reads are consistent.
not_exact : IsTrueSession pair (script_history pair) 0 heard_written → ⊥
unfolding script_history event_of consistent last_alone runs_alone descends_from origin writer writer_before last_place writes front
not_exact h = let exact : IsExactLine 1 (script_history pair) (reader_of pair 0) abort_line = subst (All (IsExactLine 1 (script_history pair) (reader_of pair 0))) one_abort (h.exact refl refl) 0 abort_line (omega arith) in
    (exact.aborted.0 tt).1 refl

-- ---- two held reads

-- Both held reads clash with item 1 of cycle 2, and the first of them is named.
clash_with_the_first : let d = record (chained_deck 1 (s ∷ u ∷ u ∷ u ∷ s ∷ [])) { queries = ((0 ∷ 2 ∷ 1 ∷ []) ∷ []) ∷ [] } in
    by_both d (all_of d) (line 0 1 (Abort 1 2 0) (read 0 1 10 ∷ read 2 1 30 ∷ []) ∷ [], counts_with 3 3 0)
unfolding last_place greatest cycle_at front starts writer writer_before writes reads is_start descends descends_in column_entry value_on_base write_of value_after table origin descends_from runs_alone last_alone consistent least is_late clash_by_history clash_by_entries keep without_item with_copy order order_with cut program least_common_multiple num_minors num_chunks chunk_len chunk minor_cycle disk_number chunks_of pix_number event_of script_history body_of bucket_of capped_entries capped_body buckets_of body_fits fits by_history by_entries session query_of wanted line_of with_line count_copied count_opened count_dozed count_late count_refused count_foreign next_query next_attempt accept_if_whole hold abort is_unusable drop_copy copy_of turn_with turn settle decide offer open_bucket end_aged judge_read hear_read hear hear_all end_query end
clash_with_the_first = (refl, refl)

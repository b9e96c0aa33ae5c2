-- A deck that changes its program at cycle 2, computed: its editions, its buckets and which of them fit, its sessions and its
-- plan.
use Rattle.std.proofs.Common.{◌≡◌, ◌⊎◌, ℕ, ◌+◌, ◌*◌, ◌^◌, ◌<◌, ◌≤◌, true, false, List, [], ◌∷◌, ◌++◌, Some, map, All, sum_by, refl, inl, inr, arith}
use Rattle.std.specs.Prelude.{codes, replicate}
use Rattle.std.proofs.lemmas.List.Elements.{All-from_recursion, All-nil}
use Rattle.std.proofs.lemmas.List.Kept.{AllPairs-cons}
use Rattle.csv.specs.Writing.{escaped, fields_text, is_blank}
use Rattle.air_base.specs.Numbers.{number_text}
use Rattle.air_base.specs.declared.limits.TheConstants.{MOST_CYCLES}
use Rattle.air_base.specs.declared.verdicts.Counts.{Counts}
use Rattle.air_base.specs.declared.verdicts.Policy.TheVariants.{FMatrix}
use Rattle.air_base.specs.declared.verdicts.VerdictKind.TheVariants.{Accept, Unfinished}
use Rattle.air_history.specs.Places.{last_place, greatest}
use Rattle.air_history.specs.Histories.{cycle_at, front, starts, writer, writer_before, writes, reads, is_start}
use Rattle.air_history.specs.Descents.{descends, descends_in}
use Rattle.air_history.specs.Columns.{scheme_of, column_entry, vector_entry}
use Rattle.air_history.specs.Tables.{value_on_base, write_of, value_after, table}
use Rattle.air_history.specs.Reads.{origin, stale}
use Rattle.air_history.specs.Consistency.{descends_from, runs_alone, last_alone, consistent}
use Rattle.air_history.specs.UpdateRules.{has_repeat}
use Rattle.air_history.specs.Clashes.{least, is_late, clash_by_history, clash_by_entries}
use Rattle.air_model.specs.Aired.{Air, air_of, body_fits, body_of, bucket_of, buckets_of, cycle_buckets, edition_at, fits, pix_at, slots_at}
use Rattle.air_model.specs.AiredItems.{IsAiredItem}
use Rattle.air_model.specs.Airings.{chunks_of, disk_number, gap_of, next_wake, pix_number}
use Rattle.air_model.specs.Batches.{last_buckets}
use Rattle.air_model.specs.Buckets.{Bucket, Column, capped_body, capped_entries}
use Rattle.air_model.specs.Copies.{keep, without_item, with_copy}
use Rattle.air_model.specs.Decks.{Deck, IsDeck, IsQuery, IsUpdate, Replan, count_editions, disks_in, edition, event_of, no_replan, script_history, specs_in, values_in}
use Rattle.air_model.specs.Disks.{DiskSpec, cut, order, order_with}
use Rattle.air_model.specs.Judges.{by_entries, by_history}
use Rattle.air_model.specs.Outputs.{plan_output}
use Rattle.air_model.specs.PlanTexts.{edition_rows, plan_rows, plan_text, replan_rows}
use Rattle.air_model.specs.Programs.{chunk, chunk_len, least_common_multiple, minor_cycle, minor_len, num_chunks, num_minors, program}
use Rattle.air_model.specs.Rows.{rows_text}
use Rattle.air_model.specs.Sessions.{SessionLine, abort, accept_if_whole, copy_of, count_copied, count_dozed, count_foreign, count_late, count_opened, count_refused, decide, drop_copy, end, end_aged, end_query, hear, hear_all, hear_read, hold, is_unusable, judge_read, line_of, next_attempt, next_query, offer, open_bucket, query_of, session, settle, turn, turn_with, wanted, with_line}
use Rattle.air_model.proofs.DeckLemmas.{by_editions}
use Rattle.air_model.proofs.SessionExamples.{aired_in, all_of, by_both, counts_with, deck, item, line, over, read, s}

-- A disk of this many items, each aired this often.
abbrev spec : ℕ → ℕ → DiskSpec
spec size freq = record { size = size; freq = freq }

-- The replan to two disks: the hottest item is aired twice a cycle, and the two others once.
abbrev to_two_disks : ℕ → Replan
to_two_disks c = record { cycle = c; disks = spec 1 2 ∷ spec 2 1 ∷ [] }

-- Three items with rates 3, 2 and 1 on one disk, and on two disks from cycle 2 on; a reader and its queries, and two starts.
abbrev turning : ℕ × ℕ × ℕ → List (List ℕ) → Deck
turning plan queries = record (deck (item 10 3 ∷ item 20 2 ∷ item 30 1 ∷ []) [] plan queries (s ∷ s ∷ [])) { replans = to_two_disks 2 ∷ [] }

abbrev asks_both : Deck
asks_both = turning (0, 0, 1) ((2 ∷ 0 ∷ []) ∷ [])

abbrev air : Air
air = air_of asks_both

-- ---- editions

pub record Editions : Type 0 where
  by_cycle : map (edition (record asks_both { replans = to_two_disks 2 ∷ to_two_disks 5 ∷ [] })) (0 ∷ 1 ∷ 2 ∷ 3 ∷ 4 ∷ 5 ∷ 10000 ∷ []) ≡ 0 ∷ 0 ∷ 1 ∷ 1 ∷ 1 ∷ 2 ∷ 2 ∷ []
  without_replans : map (edition (record asks_both { replans = [] })) (0 ∷ 1 ∷ 10000 ∷ []) ≡ 0 ∷ 0 ∷ 0 ∷ []
  two_editions : count_editions asks_both ≡ 2
  own_disks : specs_in asks_both 0 ≡ spec 3 1 ∷ []
  others : specs_in asks_both 1 ≡ spec 1 2 ∷ spec 2 1 ∷ []
  no_edition : specs_in asks_both 2 ≡ []
  first_cut : disks_in asks_both 0 ≡ record { items = 0 ∷ 1 ∷ 2 ∷ []; freq = 1 } ∷ []
  second_cut : disks_in asks_both 1 ≡ record { items = 0 ∷ []; freq = 2 } ∷ record { items = 1 ∷ 2 ∷ []; freq = 1 } ∷ []
  at_cycles : map (edition_at air) (0 ∷ 1 ∷ 2 ∷ 3 ∷ []) ≡ 0 ∷ 0 ∷ 1 ∷ 1 ∷ []
  slots_of_first : slots_at air 1 ≡ Some 0 ∷ Some 1 ∷ Some 2 ∷ []
  slots_of_second : slots_at air 2 ≡ Some 0 ∷ Some 1 ∷ Some 0 ∷ Some 2 ∷ []
  -- item 0 is aired twice a cycle from cycle 2 on
  pix_of_first : pix_at air 1 ≡ 3 ∷ 2 ∷ 1 ∷ []
  pix_of_second : pix_at air 2 ≡ 3 ∷ 4 ∷ 2 ∷ []
  -- an air without the edition of a cycle has no slot there
  no_slots : slots_at (record air { replans = 2 ∷ 3 ∷ [] }) 3 ≡ []

editions : Editions
unfolding cut order order_with program least_common_multiple num_minors num_chunks chunk_len chunk minor_cycle disk_number chunks_of pix_number
editions = record {
  by_cycle = refl;
  without_replans = refl;
  two_editions = refl;
  own_disks = refl;
  others = refl;
  no_edition = refl;
  first_cut = refl;
  second_cut = refl;
  at_cycles = refl;
  slots_of_first = refl;
  slots_of_second = refl;
  pix_of_first = refl;
  pix_of_second = refl;
  no_slots = refl;
}

-- ---- what a well made deck says of versions and replans

abbrev replanned : List Replan → Deck
replanned replans = record asks_both { replans = replans }

-- A deck of this many items in a version.
abbrev many_items : ℕ → ℕ → Deck
many_items version n = aired_in version (record asks_both { items = replicate n (item 10 1); replans = [] })

-- The deck with two replans, in these cycles.
abbrev twice : ℕ → ℕ → Deck
twice c d = replanned (to_two_disks c ∷ to_two_disks d ∷ [])

abbrev is_aired : DiskSpec → Type 0
is_aired x = (0 < x.size) × (0 < x.freq)

-- It is well made if the first replan isn't before cycle 2, and the second is later, in cycle 10,000 at most.
is_made : (c d : ℕ) → 2 ≤ c → c < d → d ≤ 10000 → IsDeck (twice c d)
unfolding has_repeat
is_made c d from less most = record {
  some = omega arith;
  version = inl refl;
  most = omega arith;
  group = omega arith;
  grouped = inl refl;
  values = All-from_recursion (λ i. i.value < 2 ^ 64) asks_both.items (omega arith, (omega arith, (omega arith, tt)));
  sizes = by_editions (λ specs. sum_by (λ x. x.size) specs ≡ 3) (twice c d) refl (All-from_recursion (λ r. sum_by (λ x. x.size) r.disks ≡ 3) (twice c d).replans (refl, (refl, tt)));
  aired = by_editions (All is_aired) (twice c d) (All-from_recursion is_aired (spec 3 1 ∷ []) ((omega arith, omega arith), tt))
      (All-from_recursion (λ r. All is_aired r.disks) (twice c d).replans (both, (both, tt)));
  few = omega arith;
  from_two = All-from_recursion (λ r. 2 ≤ r.cycle) (twice c d).replans (from, (omega arith, tt));
  within_a_run = All-from_recursion (λ r. r.cycle ≤ MOST_CYCLES) (twice c d).replans (omega arith, (most, tt));
  rising = AllPairs-cons (λ a b. a.cycle < b.cycle) (to_two_disks c) (to_two_disks d ∷ []) (All-from_recursion (λ r. c < r.cycle) (to_two_disks d ∷ []) (less, tt))
      (λ i j x before within. absurd (omega arith));
  updates = All-from_recursion (All (IsUpdate 3)) ([] ∷ []) (All-nil (IsUpdate 3), tt);
  readers = refl;
  tries = All-from_recursion (λ r. 1 ≤ r.tries) asks_both.readers (omega arith, tt);
  queries = All-from_recursion (All (IsQuery 3)) asks_both.queries (
    All-from_recursion (IsQuery 3) ((2 ∷ 0 ∷ []) ∷ [])
        (record { filled = omega arith; distinct = refl; within = All-from_recursion (λ i. i < 3) (2 ∷ 0 ∷ []) (omega arith, (omega arith, tt)) }, tt),
    tt,
  );
  script = λ by. omega arith;
}
  where
    both : All is_aired (spec 1 2 ∷ spec 2 1 ∷ [])
    both = All-from_recursion is_aired (spec 1 2 ∷ spec 2 1 ∷ []) ((omega arith, omega arith), ((omega arith, omega arith), tt))

pub record NotMade : Type 0 where
  -- replans are in rising cycles from 2 to 10,000, at most 16 of them
  in_the_first_cycle : IsDeck (replanned (to_two_disks 1 ∷ [])) → ⊥
  too_late : IsDeck (replanned (to_two_disks 10001 ∷ [])) → ⊥
  in_one_cycle : IsDeck (replanned (to_two_disks 2 ∷ to_two_disks 2 ∷ [])) → ⊥
  too_many : IsDeck (replanned (replicate 17 (to_two_disks 2))) → ⊥
  -- the disks of each replan take all items, and each disk is aired
  too_few_items : IsDeck (replanned (record { cycle = 2; disks = spec 1 2 ∷ spec 1 1 ∷ [] } ∷ [])) → ⊥
  not_aired : IsDeck (replanned (record { cycle = 2; disks = spec 1 2 ∷ spec 2 0 ∷ [] } ∷ [])) → ⊥
  -- neither 0 nor 3 is a version; 256 items are the most of version 1, and 1,024 of version 2
  no_version : IsDeck (aired_in 0 asks_both) → ⊥
  third_version : IsDeck (aired_in 3 asks_both) → ⊥
  most_in_full : IsDeck (many_items 1 257) → ⊥
  most_by_age : IsDeck (many_items 2 1025) → ⊥

not_made : NotMade
not_made = record {
  in_the_first_cycle = λ h. let low : 2 ≤ 1 = h.from_two 0 no_replan (omega arith) in omega arith;
  too_late = λ h. let most : 10001 ≤ 10000 = h.within_a_run 0 no_replan (omega arith) in omega arith;
  in_one_cycle = λ h. let less : 2 < 2 = h.rising 0 1 no_replan (omega arith) (omega arith) in omega arith;
  too_many = λ h. let few : 17 ≤ 16 = h.few in omega arith;
  too_few_items = λ h. let two : 2 ≡ 3 = h.sizes 1 (omega arith) in omega (arith, two);
  not_aired = λ h. let some : 0 < 0 = (h.aired 1 (omega arith) 1 (spec 0 0) (omega arith)).1 in omega arith;
  no_version = λ h. neither 0 (λ e. omega (arith, e)) (λ e. omega (arith, e)) h.version;
  third_version = λ h. neither 3 (λ e. omega (arith, e)) (λ e. omega (arith, e)) h.version;
  most_in_full = λ h. let most : 257 ≤ 256 = h.most in omega arith;
  most_by_age = λ h. let most : 1025 ≤ 1024 = h.most in omega arith;
}
  where
    neither : (v : ℕ) → (v ≡ 1 → ⊥) → (v ≡ 2 → ⊥) → (v ≡ 1) ⊎ (v ≡ 2) → ⊥
    neither v one two (inl e) = one e
    neither v one two (inr e) = two e

-- ---- buckets

-- The bucket of an item of an edition, a cycle and a slot.
abbrev of_item : ℕ → ℕ → ℕ → ℕ → Bucket
of_item item edition cycle slot = record { version = 1; edition = edition; cycle = cycle; slot = slot; body = Column item (10 * (item + 1)) (0 ∷ 0 ∷ 0 ∷ []) }

pub record Buckets : Type 0 where
  -- each cycle has the slots of its edition
  all_aired : buckets_of (values_in asks_both) air (script_history asks_both)
      ≡ of_item 0 0 1 0 ∷ of_item 1 0 1 1 ∷ of_item 2 0 1 2 ∷ of_item 0 1 2 0 ∷ of_item 1 1 2 1 ∷ of_item 0 1 2 2 ∷ of_item 2 1 2 3 ∷ []
  first_cycle : cycle_buckets (values_in asks_both) air (script_history asks_both) 1 ≡ of_item 0 0 1 0 ∷ of_item 1 0 1 1 ∷ of_item 2 0 1 2 ∷ []
  last : last_buckets (values_in asks_both) air (script_history asks_both) ≡ of_item 0 1 2 0 ∷ of_item 1 1 2 1 ∷ of_item 0 1 2 2 ∷ of_item 2 1 2 3 ∷ []
  -- a bucket fits by its own cycle: the edition, the slot and the item
  fits_first : fits air (of_item 2 0 1 2) ≡ true
  fits_second : fits air (of_item 2 1 2 3) ≡ true
  fits_later : fits air (of_item 2 1 9 3) ≡ true
  old_edition : fits air (of_item 2 0 2 2) ≡ false
  new_edition : fits air (of_item 2 1 1 2) ≡ false
  old_edition_new_slot : fits air (of_item 2 0 2 3) ≡ false
  slot_past_the_first : fits air (of_item 2 0 1 3) ≡ false
  other_item : fits air (of_item 2 1 2 2) ≡ false
  its_item : fits air (of_item 0 1 2 2) ≡ true
  no_such_edition : fits (record air { replans = 2 ∷ 3 ∷ [] }) (of_item 0 2 3 0) ≡ false

buckets : Buckets
unfolding last_place greatest cycle_at front starts writer writer_before writes reads is_start descends descends_in column_entry vector_entry value_on_base write_of value_after table order order_with cut program least_common_multiple num_minors num_chunks chunk_len chunk minor_cycle event_of script_history body_of bucket_of capped_body capped_entries buckets_of body_fits fits
buckets = record {
  all_aired = refl;
  first_cycle = refl;
  last = refl;
  fits_first = refl;
  fits_second = refl;
  fits_later = refl;
  old_edition = refl;
  new_edition = refl;
  old_edition_new_slot = refl;
  slot_past_the_first = refl;
  other_item = refl;
  its_item = refl;
  no_such_edition = refl;
}

-- In cycle 2 item 0 is on the first disk of edition 1, and is aired twice.
aired_twice : IsAiredItem asks_both 2 0 (of_item 0 1 2 0 ∷ of_item 1 1 2 1 ∷ of_item 0 1 2 2 ∷ of_item 2 1 2 3 ∷ [])
unfolding cut order order_with
aired_twice = record { number = 0; disk = record { items = 0 ∷ []; freq = 2 }; there = refl; on = (0, omega arith, refl); times = refl }

-- ---- sessions

-- The session by the entries over buckets.
abbrev heard_by : Deck → List Bucket → List SessionLine × Counts
heard_by d heard = over (by_entries (scheme_of FMatrix)) d (map Some heard)

-- The counts of one bucket.
abbrev counts_of_one : Bucket → Counts
counts_of_one b = (heard_by asks_both (b ∷ [])).1

abbrev one_foreign : Counts
one_foreign = record { opened = 0; dozed = 0; late = 0; refused = 0; foreign = 1; copied = 0 }

pub record Sessions : Type 0 where
  -- reads of both editions go together
  through : by_both asks_both (all_of asks_both) (line 0 1 Accept (read 2 1 30 ∷ read 0 2 10 ∷ []) ∷ [], counts_with 2 5 0)
  -- item 0 is worth most in edition 0, and item 1 in edition 1
  worth_by_edition : let d = turning (1, 9, 1) ((0 ∷ []) ∷ (2 ∷ 1 ∷ []) ∷ (1 ∷ []) ∷ []) in by_both d (all_of d) (
    line 0 1 Accept (read 0 1 10 ∷ []) ∷ line 1 1 Accept (read 2 1 30 ∷ read 1 2 20 ∷ []) ∷ line 2 1 Accept (read 1 2 20 ∷ []) ∷ [],
    counts_with 3 4 1,
  )
  -- copies are worth what the newest heard cycle says, and not what the bucket's own cycle says
  worth_by_newest : heard_by (turning (1, 9, 1) ((0 ∷ []) ∷ (1 ∷ []) ∷ (0 ∷ []) ∷ [])) (of_item 0 0 1 0 ∷ of_item 2 1 2 3 ∷ of_item 1 0 1 1 ∷ [])
      ≡ (line 0 1 Accept (read 0 1 10 ∷ []) ∷ line 1 1 Accept (read 1 1 20 ∷ []) ∷ line 2 1 Unfinished [] ∷ [], counts_with 2 1 0)
  worth_before : heard_by (turning (1, 9, 1) ((0 ∷ []) ∷ (1 ∷ []) ∷ (0 ∷ []) ∷ [])) (of_item 0 0 1 0 ∷ of_item 1 0 1 1 ∷ [])
      ≡ (line 0 1 Accept (read 0 1 10 ∷ []) ∷ line 1 1 Accept (read 1 1 20 ∷ []) ∷ line 2 1 Accept (read 0 1 10 ∷ []) ∷ [], counts_with 2 0 1)
  -- a wanted bucket is opened in either edition; a bucket with another edition than its cycle's is foreign
  opened_first : counts_of_one (of_item 2 0 1 2) ≡ counts_with 1 0 0
  opened_second : counts_of_one (of_item 2 1 2 3) ≡ counts_with 1 0 0
  dozed : counts_of_one (of_item 0 1 2 2) ≡ counts_with 0 1 0
  foreign_edition : counts_of_one (of_item 2 0 2 2) ≡ one_foreign
  foreign_cycle : counts_of_one (of_item 2 1 1 2) ≡ one_foreign

pub sessions : Sessions
unfolding last_place greatest cycle_at front starts writer writer_before writes reads is_start descends descends_in column_entry vector_entry value_on_base write_of value_after table origin stale descends_from runs_alone last_alone consistent least is_late clash_by_history clash_by_entries keep without_item with_copy order order_with cut program least_common_multiple num_minors num_chunks chunk_len chunk minor_cycle disk_number chunks_of pix_number event_of script_history body_of bucket_of capped_body capped_entries buckets_of body_fits fits by_history by_entries session query_of wanted line_of with_line count_copied count_opened count_dozed count_late count_refused count_foreign next_query next_attempt accept_if_whole hold abort is_unusable drop_copy copy_of turn_with turn settle decide offer open_bucket judge_read end_aged hear_read hear hear_all end_query end
sessions = record {
  through = (refl, refl);
  worth_by_edition = (refl, refl);
  worth_by_newest = refl;
  worth_before = refl;
  opened_first = refl;
  opened_second = refl;
  dozed = refl;
  foreign_edition = refl;
  foreign_cycle = refl;
}

-- ---- the plan

-- The rows of one item of rate 2, and those of a replan to it at cycle 5, which is edition 3.
one_edition : edition_rows (2 ∷ []) (spec 1 1 ∷ []) ≡ (codes "program" ∷ codes "1" ∷ codes "1" ∷ codes "1" ∷ []) ∷ (codes "disk" ∷ codes "0" ∷ codes "1" ∷ codes "1" ∷ codes "1" ∷ [])
    ∷ (codes "minor" ∷ codes "0" ∷ codes "0" ∷ []) ∷ (codes "item" ∷ codes "0" ∷ codes "0" ∷ codes "1" ∷ codes "1" ∷ codes "0" ∷ codes "2" ∷ []) ∷ []
unfolding order order_with cut least_common_multiple num_minors num_chunks chunk_len chunk minor_cycle minor_len program next_wake disk_number chunks_of gap_of pix_number plan_rows number_text
one_edition = refl

its_replan : replan_rows (2 ∷ []) (3, record { cycle = 5; disks = spec 1 1 ∷ [] }) ≡ (codes "replan" ∷ codes "3" ∷ codes "5" ∷ []) ∷ edition_rows (2 ∷ []) (spec 1 1 ∷ [])
unfolding number_text
its_replan = refl

pub plan_of_both : plan_output asks_both
    ≡ codes "program,3,1,3\ndisk,0,1,1,3\nminor,0,0 1 2\nitem,0,0,1,3,0,3\nitem,1,0,1,3,1,2\nitem,2,0,1,3,2,1\nreplan,1,2\n"
    ++ codes "program,4,2,2\ndisk,0,2,1,1\ndisk,1,1,2,1\nminor,0,0 1\nminor,1,0 2\nitem,0,0,2,2,0,3\nitem,1,1,1,4,1,4\nitem,2,1,1,4,3,2\n"
unfolding order order_with cut least_common_multiple num_minors num_chunks chunk_len chunk minor_cycle minor_len program next_wake disk_number chunks_of gap_of pix_number plan_rows plan_text rows_text number_text escaped fields_text is_blank
plan_of_both = refl

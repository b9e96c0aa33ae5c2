-- The line that the reader of a small deck gives over all that is aired: what each relation of lines says of it.
use Rattle.std.proofs.Common.{true, false, ◌≡◌, ◌≤◌, Some, None, [], ◌∷◌, All, refl, subst, arith, IsTrue, IfSome, Contains}
use Rattle.std.proofs.lemmas.List.Elements.{All-from_recursion}
use Rattle.std.proofs.lemmas.Bool.{false≢true}
use Rattle.air_base.specs.declared.verdicts.Policy.TheVariants.{FMatrix, Datacycle}
use Rattle.air_base.specs.declared.verdicts.VerdictKind.TheVariants.{Accept, Abort, Aged, Unfinished}
use Rattle.air_history.specs.Ages.{span, spans_too_far}
use Rattle.air_history.specs.Clashes.{clash_by_entries, is_late, least}
use Rattle.air_history.specs.Columns.{scheme_of, column_entry}
use Rattle.air_history.specs.Consistency.{alone, consistent, descends_from, last_alone, picked_events, runs_alone}
use Rattle.air_history.specs.Descents.{descends, descends_in}
use Rattle.air_history.specs.Histories.{cycle_at, front, is_start, reads, starts, writer, writer_before, writes}
use Rattle.air_history.specs.Places.{greatest, last_place}
use Rattle.air_history.specs.Reads.{origin, stale}
use Rattle.air_history.specs.Tables.{BasesRead, table, value_after, value_on_base, write_of}
use Rattle.air_model.specs.Buckets.{Column, capped_body, capped_entries}
use Rattle.air_model.specs.Copies.{keep, with_copy, without_item}
use Rattle.air_model.specs.Decks.{Deck, event_of, script_history, values_in}
use Rattle.air_model.specs.Disks.{cut, order, order_with}
use Rattle.air_model.specs.Programs.{chunk, chunk_len, least_common_multiple, minor_cycle, num_chunks, num_minors, program}
use Rattle.air_model.specs.Airings.{chunks_of, disk_number, pix_number}
use Rattle.air_model.specs.Aired.{IsAired, air_of, body_fits, body_of, bucket_of, buckets_of, fits}
use Rattle.air_model.specs.Judges.{Judge, by_entries, by_history}
use Rattle.air_model.specs.ReceiverLaws.{IsTrueSession, session_of}
use Rattle.air_model.specs.SessionLaws.{CyclesFromOne, IsExactLine, follows_query, IsOfReader, IsSoundLine, NamesHeld, after}
use Rattle.air_model.specs.Sessions.{SessionLine, abort, accept_if_whole, copy_of, count_copied, count_dozed, count_foreign, count_late, count_opened, count_refused, decide, drop_copy, end, end_query, hear, hear_all, hear_read, hold, is_unusable, line_of, next_attempt, next_query, offer, open_bucket, query_of, reader_of, session, settle, start, turn, turn_with, wanted, with_line, end_aged, judge_read}
use Rattle.air_model.proofs.AiredLemmas.{aired}
use Rattle.air_model.proofs.NameLemmas.{names}
use Rattle.air_model.proofs.ReceiverLemmas.{receiver}
use Rattle.air_model.proofs.RelationExamples.{pair_filled, pair_is_deck}
use Rattle.air_model.proofs.ReaderLemmas.{of_reader}
use Rattle.air_model.proofs.SessionExamples.{all_of, chained_deck, line, pair, read, s, swapped_deck, u}

-- The script's history aired all of its own buckets.
pub own_buckets_aired : IsAired (values_in pair) (air_of pair) (script_history pair) (all_of pair)
unfolding event_of script_history starts is_start cut order order_with chunk chunk_len least_common_multiple minor_cycle num_chunks num_minors program bucket_of capped_entries capped_body buckets_of
own_buckets_aired = aired (values_in pair) (air_of pair) (script_history pair) (all_of pair)
    (All-from_recursion (λ o. IfSome o (Contains (buckets_of (values_in pair) (air_of pair) (script_history pair)))) (all_of pair) ((0, omega arith, refl), ((1, omega arith, refl), tt)))

-- The session over them is true.
pub true_session : IsTrueSession pair (script_history pair) 0 (all_of pair)
true_session = receiver pair (script_history pair) 0 (all_of pair) pair_is_deck (omega arith) own_buckets_aired

-- Its one line accepts the query.
abbrev accept_line : SessionLine
accept_line = line 0 1 Accept (read 0 1 10 ∷ read 1 1 20 ∷ [])

one_line : (session_of (by_entries (scheme_of FMatrix)) pair 0 (all_of pair)).lines ≡ accept_line ∷ []
unfolding column_entry front greatest starts is_start table event_of script_history cut order order_with chunk chunk_len least_common_multiple minor_cycle num_chunks num_minors program chunks_of disk_number pix_number body_fits body_of bucket_of capped_entries capped_body buckets_of fits by_entries clash_by_entries is_late least keep with_copy without_item abort accept_if_whole copy_of count_copied count_dozed count_foreign count_late count_opened count_refused decide drop_copy end end_query hear hear_all hear_read hold is_unusable line_of next_attempt next_query offer open_bucket end_aged judge_read query_of session settle turn turn_with wanted with_line
one_line = refl

-- What holds of the session's lines holds of that line: it is sound, exact, and the reader's own.
kept : (P : SessionLine → Type 0) → All P ((session_of (by_entries (scheme_of FMatrix)) pair 0 (all_of pair)).lines) → P accept_line
kept P h = subst (All P) one_line h 0 accept_line (omega arith)

pub sound_line : IsSoundLine (values_in pair) FMatrix (script_history pair) accept_line
sound_line = kept (IsSoundLine (values_in pair) FMatrix (script_history pair)) true_session.sound

pub own_line : IsOfReader (reader_of pair 0) accept_line
own_line = kept (IsOfReader (reader_of pair 0))
    (of_reader (by_entries (scheme_of FMatrix)) (air_of pair) (reader_of pair 0) (all_of pair) (names (scheme_of FMatrix) 2 (values_in pair) (script_history pair)).1 pair_filled (omega arith))

pub exact_line : IsExactLine 1 (script_history pair) (reader_of pair 0) accept_line
exact_line = kept (IsExactLine 1 (script_history pair) (reader_of pair 0)) (true_session.exact refl refl)

-- ---- lines of which that doesn't hold

-- The chain's history, in which item 0 of cycle 1 and item 1 of cycle 2 aren't consistent.
abbrev chain : Deck
chain = chained_deck 1 (s ∷ u ∷ u ∷ u ∷ s ∷ [])

-- A history in which the reads of item 0 of cycle 1 and item 1 of cycle 2 are consistent and share no cycle.
abbrev apart : Deck
apart = swapped_deck (s ∷ u ∷ u ∷ s ∷ [])

pub record NoLines : Type 0 where
  -- reads that aren't consistent are neither accepted nor unfinished
  accepted_not_consistent : IsExactLine 1 (script_history chain) (reader_of chain 0) (line 0 1 Accept (read 0 1 10 ∷ read 1 2 13 ∷ [])) → ⊥
  unfinished_not_consistent : IsExactLine 1 (script_history chain) (reader_of chain 0) (line 0 1 Unfinished (read 0 1 10 ∷ read 1 2 13 ∷ [])) → ⊥
  -- consistent reads aren't aborted
  aborted_consistent : IsExactLine 1 (script_history pair) (reader_of pair 0) (line 0 1 (Abort 1 1 0) (read 0 1 10 ∷ [])) → ⊥
  -- a query isn't accepted on a part of its items, and isn't unfinished if all were read
  accepted_part : IsExactLine 1 (script_history pair) (reader_of pair 0) (line 0 1 Accept (read 0 1 10 ∷ [])) → ⊥
  unfinished_whole : IsExactLine 1 (script_history pair) (reader_of pair 0) (line 0 1 Unfinished (read 0 1 10 ∷ read 1 1 20 ∷ [])) → ⊥
  -- by ages, reads that are 255 cycles apart can only be aged, and those that are 254 apart aren't aged
  accepted_far : IsExactLine 2 (script_history pair) (reader_of pair 0) (line 0 1 Accept (read 0 1 10 ∷ read 1 256 20 ∷ [])) → ⊥
  aborted_far : IsExactLine 2 (script_history pair) (reader_of pair 0) (line 0 1 (Abort 1 256 0) (read 0 1 10 ∷ [])) → ⊥
  unfinished_far : IsExactLine 2 (script_history pair) (reader_of pair 0) (line 0 1 Unfinished (read 0 1 10 ∷ read 1 256 20 ∷ [])) → ⊥
  aged_near : IsExactLine 2 (script_history pair) (reader_of pair 0) (line 0 1 (Aged 1 255) (read 0 1 10 ∷ [])) → ⊥
  aged_in_full : IsExactLine 1 (script_history pair) (reader_of pair 0) (line 0 1 (Aged 1 256) (read 0 1 10 ∷ [])) → ⊥
  -- a line of reads that aren't consistent isn't sound
  not_consistent : IsSoundLine (values_in chain) FMatrix (script_history chain) (line 0 1 Accept (read 0 1 10 ∷ read 1 2 13 ∷ [])) → ⊥
  -- a line under Datacycle whose reads share no cycle isn't sound either
  not_shared : IsSoundLine (values_in apart) Datacycle (script_history apart) (line 0 1 Accept (read 0 1 10 ∷ read 1 2 21 ∷ [])) → ⊥
  -- nor is one with a wrong value: item 1 has 20
  wrong_value : IsSoundLine (values_in pair) FMatrix (script_history pair) (line 0 1 Accept (read 0 1 10 ∷ read 1 1 21 ∷ [])) → ⊥

pub no_lines : NoLines
unfolding spans_too_far span script_history event_of consistent alone picked_events last_alone runs_alone descends_from origin stale writer writer_before last_place writes descends descends_in reads front cycle_at is_start starts table value_after write_of value_on_base BasesRead
no_lines = record {
  accepted_not_consistent = λ h. let e : false ≡ true = (h.accepted.0 refl).2 in false≢true e;
  unfinished_not_consistent = λ h. let e : false ≡ true = (h.unfinished.0 refl).1 in false≢true e;
  aborted_consistent = λ h. (h.aborted.0 tt).1 refl;
  accepted_part = λ h. let e : 0 ∷ [] ≡ 0 ∷ 1 ∷ [] = (h.accepted.0 refl).1 in cc;
  unfinished_whole = λ h. (h.unfinished.0 refl).2 refl;
  accepted_far = λ h. let e : true ≡ false = (h.accepted.0 refl).0 in cc;
  aborted_far = λ h. let e : true ≡ false = (h.aborted.0 tt).0 in cc;
  unfinished_far = λ h. let e : true ≡ false = (h.unfinished.0 refl).0 in cc;
  aged_near = λ h. let e : false ≡ true = h.aged.0 tt in cc;
  aged_in_full = λ h. let e : false ≡ true = h.aged.0 tt in cc;
  not_consistent = λ h. let e : false ≡ true = h.reads.consistent in false≢true e;
  not_shared = λ h. let e : true ≡ false = h.reads.shared 0 (record { item = 0; cycle = 1 }) (omega arith) in cc;
  wrong_value = λ h. let e : 21 ≡ 20 = h.by_ancestors (All-from_recursion BasesRead (script_history pair) (tt, tt)) 1 (read 1 1 21) (omega arith) in omega arith;
}

-- If they are 255 cycles apart, an aged line is exact.
pub aged_line : IsExactLine 2 (script_history pair) (reader_of pair 0) (line 0 1 (Aged 1 256) (read 0 1 10 ∷ []))
unfolding spans_too_far span
aged_line = record {
  aged = (λ _. refl, λ _. tt);
  accepted = (λ e. cc, λ a. let e : true ≡ false = a.0 in cc);
  aborted = (λ no. absurd no, λ a. let e : true ≡ false = a.0 in cc);
  unfinished = (λ e. cc, λ a. let e : true ≡ false = a.0 in cc);
}

-- A line before those of a state.
lines_after : (after (accept_line ∷ []) (record start { lines = line 1 1 Unfinished [] ∷ [] })).lines ≡ accept_line ∷ line 1 1 Unfinished [] ∷ []
lines_after = refl

-- Attempts 0 and 2 aren't the reader's, which has one try.
not_begun : IsOfReader (reader_of pair 0) (line 0 0 Accept (read 0 1 10 ∷ read 1 1 20 ∷ [])) → ⊥
not_begun h = let low : 1 ≤ 0 = h.begun in omega arith

not_tried : IsOfReader (reader_of pair 0) (line 0 2 Accept (read 0 1 10 ∷ read 1 1 20 ∷ [])) → ⊥
not_tried h = let most : 2 ≤ 1 = h.tried in omega arith

-- How the read items follow the query 0, 1: all, the first with item 1 refused, and none yet.
pub follow : (follows_query (0 ∷ 1 ∷ []) Accept (0 ∷ 1 ∷ []) ≡ true) × (follows_query (0 ∷ 1 ∷ []) (Abort 1 2 0) (0 ∷ []) ≡ true) × (follows_query (0 ∷ 1 ∷ []) Unfinished [] ≡ true)
unfolding follows_query
follow = (refl, refl, refl)

-- Items in another order don't follow it; nor does one item if the query was accepted, or both if it is unfinished.
not_follow : (follows_query (0 ∷ 1 ∷ []) Accept (1 ∷ 0 ∷ []) ≡ false) × (follows_query (0 ∷ 1 ∷ []) Accept (0 ∷ []) ≡ false) × (follows_query (0 ∷ 1 ∷ []) Unfinished (0 ∷ 1 ∷ []) ≡ false)
unfolding follows_query
not_follow = (refl, refl, refl)

-- An abort's refused item is the next one, and its clash is one that was read.
not_aborted : (follows_query (0 ∷ 1 ∷ []) (Abort 0 2 0) (0 ∷ []) ≡ false) × (follows_query (0 ∷ 1 ∷ []) (Abort 1 2 1) (0 ∷ []) ≡ false)
unfolding follows_query
not_aborted = (refl, refl)

-- The refused item of an aged attempt is the next one too.
aged_follows : (follows_query (0 ∷ 1 ∷ []) (Aged 1 256) (0 ∷ []) ≡ true) × (follows_query (0 ∷ 1 ∷ []) (Aged 0 256) (0 ∷ []) ≡ false)
    × (follows_query (0 ∷ 1 ∷ []) (Aged 0 256) (1 ∷ []) ≡ false) × (follows_query (0 ∷ 1 ∷ []) (Aged 1 256) (0 ∷ 1 ∷ []) ≡ false)
unfolding follows_query
aged_follows = (refl, refl, refl, refl)

-- Items that aren't the query's first ones don't follow it, before a refused item or before a missing one.
not_the_first_ones : (follows_query (0 ∷ 1 ∷ 2 ∷ []) (Abort 2 3 0) (1 ∷ 0 ∷ []) ≡ false) × (follows_query (0 ∷ 1 ∷ []) Unfinished (1 ∷ []) ≡ false)
unfolding follows_query
not_the_first_ones = (refl, refl)

-- Cycles count from 1 if the bucket fits; for one of another edition, which doesn't fit, nothing is required.
pub cycles_from_one : CyclesFromOne (air_of pair) (Some (record { version = 1; edition = 0; cycle = 1; slot = 0; body = Column 0 10 (0 ∷ 0 ∷ []) })
    ∷ None ∷ Some (record { version = 1; edition = 1; cycle = 0; slot = 0; body = Column 0 10 (0 ∷ 0 ∷ []) }) ∷ [])
unfolding fits
cycles_from_one = All-from_recursion (λ o. IfSome o (λ b. IsTrue (fits (air_of pair) b) → 1 ≤ b.cycle))
    (Some (record { version = 1; edition = 0; cycle = 1; slot = 0; body = Column 0 10 (0 ∷ 0 ∷ []) }) ∷ None ∷ Some (record { version = 1; edition = 1; cycle = 0; slot = 0; body = Column 0 10 (0 ∷ 0 ∷ []) }) ∷ [])
    (λ _. omega arith, (tt, (λ f. absurd (false≢true f), tt)))

-- Both judges name a held item; a judge that always names item 7 doesn't.
pub name_held : NamesHeld (by_history (scheme_of FMatrix) 2 (values_in pair) (script_history pair)) × NamesHeld (by_entries (scheme_of FMatrix))
name_held = names (scheme_of FMatrix) 2 (values_in pair) (script_history pair)

abbrev names_seven : Judge
names_seven = record { value = λ r. 0; clash = λ R x. Some (record { item = 7; cycle = 0 }) }

not_held : NamesHeld names_seven → ⊥
not_held h = let found = h [] (record { item = 0; cycle = 1; value = 0; entries = [] }) (record { item = 7; cycle = 0 }) refl in omega (arith, found.1)

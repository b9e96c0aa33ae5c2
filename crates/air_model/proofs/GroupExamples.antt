-- Decks with groups, and what readers of them decide: the sessions by the history and by the entries.
use Rattle.std.proofs.Common.{◌≡◌, ℕ, List, [], ◌∷◌, Option, Some, refl, inl, inr, arith}
use Rattle.air_base.specs.declared.verdicts.Policy.{Policy}
use Rattle.air_base.specs.declared.verdicts.Policy.TheVariants.{FMatrix, Datacycle, RMatrix}
use Rattle.air_base.specs.declared.verdicts.VerdictKind.TheVariants.{Accept, Abort}
use Rattle.air_history.specs.Places.{last_place, greatest, greatest_of}
use Rattle.air_history.specs.Histories.{cycle_at, front, is_start, reads, starts, writer, writer_before, writes}
use Rattle.air_history.specs.Descents.{descends, descends_in}
use Rattle.air_history.specs.Columns.{column_entry, group_entry}
use Rattle.air_history.specs.Ages.{capped, span, spans_too_far}
use Rattle.air_history.specs.Tables.{table, value_after, value_on_base, write_of}
use Rattle.air_history.specs.Reads.{origin}
use Rattle.air_history.specs.Consistency.{consistent, descends_from, last_alone, runs_alone}
use Rattle.air_history.specs.Clashes.{clash_by_entries, clash_by_history, group_clash, is_late, least}
use Rattle.air_model.specs.Buckets.{Bucket, capped_body, capped_entries}
use Rattle.air_model.specs.Disks.{cut, order, order_with}
use Rattle.air_model.specs.Programs.{chunk, chunk_len, least_common_multiple, minor_cycle, num_chunks, num_minors, program}
use Rattle.air_model.specs.Airings.{chunks_of, disk_number, pix_number}
use Rattle.air_model.specs.Decks.{Deck, IsDeck, event_of, script_history, values_in}
use Rattle.air_model.specs.Aired.{air_of, body_fits, body_of, bucket_of, buckets_of, fits}
use Rattle.air_model.specs.Copies.{keep, with_copy, without_item}
use Rattle.air_model.specs.Judges.{by_entries, by_history}
use Rattle.air_model.specs.Sessions.{abort, accept_if_whole, copy_of, count_copied, count_dozed, count_foreign, count_late, count_opened, count_refused, decide, drop_copy, end, end_aged, end_query, hear, hear_all, hear_read, hold, is_unusable, judge_read, line_of, next_attempt, next_query, offer, open_bucket, query_of, session, settle, turn, turn_with, wanted, with_line}
use Rattle.air_model.proofs.RelationExamples.{pair_is_deck}
use Rattle.air_model.proofs.SessionExamples.{add_to, aired_in, all_of, by_both, counts_with, deck, item, judged_by, line, pair, read, s, set_to, swapped_deck, u, update}

-- The deck with groups of g items.
abbrev pub in_groups : ℕ → Deck → Deck
in_groups g d = record d { settings = record d.settings { group = g } }

-- ---- well made decks

pub record GroupedDecks : Type 0 where
  -- under F-Matrix a deck may have groups, of 1,024 items at most
  most : IsDeck (in_groups 1024 pair)
  too_many : IsDeck (in_groups 1025 pair) → ⊥
  -- and under no other policy
  of_datacycle : IsDeck (judged_by Datacycle (in_groups 1 pair)) → ⊥
  of_r_matrix : IsDeck (judged_by RMatrix (in_groups 1 pair)) → ⊥

pub grouped_decks : GroupedDecks
grouped_decks = record {
  most = with_group pair_is_deck;
  too_many = λ is. let few = is.group in omega arith;
  of_datacycle = λ is. elim is.grouped as (λ _. ⊥) [ inl same ↦ (let e : ◌≡◌ {A = Policy} Datacycle FMatrix = same in cc) | inr none ↦ (let e : 1 ≡ 0 = none in omega arith) ];
  of_r_matrix = λ is. elim is.grouped as (λ _. ⊥) [ inl same ↦ (let e : ◌≡◌ {A = Policy} RMatrix FMatrix = same in cc) | inr none ↦ (let e : 1 ≡ 0 = none in omega arith) ];
}
  where
    with_group : IsDeck pair → IsDeck (in_groups 1024 pair)
    with_group is = record {
      some = is.some;
      version = is.version;
      most = is.most;
      group = omega arith;
      grouped = inl refl;
      values = is.values;
      sizes = is.sizes;
      aired = is.aired;
      few = is.few;
      from_two = is.from_two;
      within_a_run = is.within_a_run;
      rising = is.rising;
      updates = is.updates;
      readers = is.readers;
      tries = is.tries;
      queries = is.queries;
      script = is.script;
    }

-- ---- sessions

-- Both items are written in cycle 1, between the reads of item 0 and of item 1; or item 0 alone.
abbrev both_written : ℕ → Deck
both_written g = in_groups g (swapped_deck (s ∷ u ∷ u ∷ s ∷ []))

abbrev one_written : ℕ → Deck
one_written g = in_groups g (swapped_deck (s ∷ u ∷ s ∷ []))

-- Item 0 of three is written in cycle 1, after it was read; then item 1 or item 2 is asked for.
abbrev of_three : ℕ → ℕ → Deck
of_three g asked = in_groups g (deck (item 10 1 ∷ item 20 3 ∷ item 30 2 ∷ []) (update [] (set_to 0 11 ∷ []) ∷ []) (0, 0, 1) ((0 ∷ asked ∷ []) ∷ []) (s ∷ u ∷ s ∷ []))

-- In cycle 2 item 2 is set, and then item 1 to what was read of item 2 and 1; item 0 is heard in cycle 3, and then item 2 in cycle 2.
abbrev older_later : ℕ → Deck
older_later g = in_groups g (deck (item 10 3 ∷ item 20 2 ∷ item 30 1 ∷ []) (update [] (set_to 2 31 ∷ []) ∷ update (2 ∷ []) (add_to 1 2 1 ∷ []) ∷ []) (0, 0, 1) ((0 ∷ 2 ∷ []) ∷ [])
    (s ∷ s ∷ u ∷ u ∷ s ∷ []))

-- The script's bucket of a slot in a cycle.
abbrev aired_at : Deck → ℕ → ℕ → Option Bucket
aired_at d c slot = Some (bucket_of (values_in d) (air_of d) (script_history d) d.settings.version c slot)

abbrev Accepts : Deck → List (Option Bucket) → ℕ → ℕ → ℕ → ℕ → ℕ → Type 0
Accepts d heard c i e v dozed = by_both d heard (line 0 1 Accept (read 0 c 10 ∷ read i e v ∷ []) ∷ [], counts_with 2 dozed 0)

abbrev Aborts : Deck → List (Option Bucket) → ℕ → ℕ → ℕ → ℕ → Type 0
Aborts d heard c i e dozed = by_both d heard (line 0 1 (Abort i e 0) (read 0 c 10 ∷ []) ∷ [], counts_with 2 dozed 0)

pub record GroupSessions : Type 0 where
  without : Accepts (both_written 0) (all_of (both_written 0)) 1 1 2 21 2
  by_ones : Accepts (both_written 1) (all_of (both_written 1)) 1 1 2 21 2
  by_twos : Aborts (both_written 2) (all_of (both_written 2)) 1 1 2 2
  by_all : Aborts (both_written 1024) (all_of (both_written 1024)) 1 1 2 2
  -- so too in version 2
  by_ones_and_ages : Accepts (aired_in 2 (both_written 1)) (all_of (aired_in 2 (both_written 1))) 1 1 2 21 2
  by_twos_and_ages : Aborts (aired_in 2 (both_written 2)) (all_of (aired_in 2 (both_written 2))) 1 1 2 2
  -- and where item 0 alone is written
  one_by_twos : Aborts (one_written 2) (all_of (one_written 2)) 1 1 2 2
  -- by twos item 1 is with item 0, and item 2 is alone
  near_by_ones : Accepts (of_three 1 1) (all_of (of_three 1 1)) 1 1 2 20 4
  far_by_ones : Accepts (of_three 1 2) (all_of (of_three 1 2)) 1 2 2 30 4
  near_by_twos : Aborts (of_three 2 1) (all_of (of_three 2 1)) 1 1 2 4
  far_by_twos : Accepts (of_three 2 2) (all_of (of_three 2 2)) 1 2 2 30 4
  far_by_threes : Aborts (of_three 3 2) (all_of (of_three 3 2)) 1 2 2 4
  -- where the held read is newer its own group is asked
  newer_without : Accepts (older_later 0) (aired_at (older_later 0) 3 0 ∷ aired_at (older_later 0) 2 2 ∷ []) 3 2 2 30 0
  newer_by_twos : Aborts (older_later 2) (aired_at (older_later 2) 3 0 ∷ aired_at (older_later 2) 2 2 ∷ []) 3 2 2 0

pub group_sessions : GroupSessions
unfolding capped span spans_too_far group_clash group_entry greatest_of last_place greatest cycle_at front starts writer writer_before writes reads is_start descends descends_in column_entry value_on_base write_of value_after table origin descends_from runs_alone last_alone consistent least is_late clash_by_history clash_by_entries keep without_item with_copy order order_with cut program least_common_multiple num_minors num_chunks chunk_len chunk minor_cycle disk_number chunks_of pix_number event_of script_history body_of bucket_of capped_entries capped_body buckets_of body_fits fits by_history by_entries session query_of wanted line_of with_line count_copied count_opened count_dozed count_late count_refused count_foreign next_query next_attempt accept_if_whole hold abort is_unusable drop_copy copy_of turn_with turn settle decide offer open_bucket end_aged judge_read hear_read hear hear_all end_query end
group_sessions = record {
  without = (refl, refl);
  by_ones = (refl, refl);
  by_twos = (refl, refl);
  by_all = (refl, refl);
  by_ones_and_ages = (refl, refl);
  by_twos_and_ages = (refl, refl);
  one_by_twos = (refl, refl);
  near_by_ones = (refl, refl);
  far_by_ones = (refl, refl);
  near_by_twos = (refl, refl);
  far_by_twos = (refl, refl);
  far_by_threes = (refl, refl);
  newer_without = (refl, refl);
  newer_by_twos = (refl, refl);
}

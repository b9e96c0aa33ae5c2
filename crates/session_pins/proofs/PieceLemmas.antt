-- Facts about the next piece of a run of small scripts.
use Rattle.std.proofs.Common.{◌≡◌, ◌≤◌, ◌<◌, ◌+◌, ◌++◌, ◌∙◌, ℕ, zero, suc, List, [], ◌∷◌, drop, length, take, map, None, Some, ap, sym, refl, arith}
use Rattle.air_history.specs.declared.histories.Event.{Event}
use Rattle.air_history.specs.declared.histories.Event.TheVariants.{Start}
use Rattle.air_history.specs.Places.{last_place, greatest, greatest_of}
use Rattle.air_history.specs.Histories.{cycle_at, front, is_start, reads, starts, writer, writer_before, writes}
use Rattle.air_history.specs.Descents.{descends, descends_in}
use Rattle.air_history.specs.Columns.{column_entry, group_entry}
use Rattle.air_history.specs.Tables.{table, value_after, value_on_base, write_of}
use Rattle.air_model.specs.Aired.{air_of, body_of, bucket_of, buckets_of}
use Rattle.air_model.specs.Buckets.{capped_body, capped_entries, count_of, entries_of, entry_bytes, item_of, kind_of, spelling, value_of}
use Rattle.air_model.specs.Decks.{Deck, event_of, script_history, values_in}
use Rattle.air_model.specs.Disks.{cut, order, order_with}
use Rattle.air_model.specs.Programs.{chunk, chunk_len, least_common_multiple, minor_cycle, num_chunks, num_minors, program}
use Rattle.session_pins.specs.SmallBuckets.{two_entry_bytes, item_bytes}
use Rattle.session_pins.specs.SmallDecks.{first_updater_commit, grouped_pair, scripted, update_to, updated}

-- A beginning of two events that has more than one has both.
both_of : (H : List Event) (a b : Event) (n : ℕ) → H ≡ take n (a ∷ b ∷ []) → n ≤ 2 → 1 < n → H ≡ a ∷ b ∷ []
both_of H a b zero is_part few some = absurd (omega arith)
both_of H a b (suc zero) is_part few some = absurd (omega arith)
both_of H a b (suc (suc zero)) is_part few some = is_part
both_of H a b (suc (suc (suc n))) is_part few some = absurd (omega arith)

-- The script of two commits has both updates.
abbrev two_commits : List Event
two_commits = first_updater_commit 0 (update_to 0 11) ∷ first_updater_commit 1 (update_to 1 21) ∷ []

commits_computed : script_history (updated (Some 0 ∷ Some 0 ∷ [])) ≡ two_commits
unfolding script_history event_of
commits_computed = refl

-- A run of that script with more than one event has both.
pub both_commits : (deck : Deck) (H : List Event) → deck ≡ updated (Some 0 ∷ Some 0 ∷ []) → H ≡ take (length H) (script_history deck) →
    length H ≤ length deck.script → 1 < length H → H ≡ two_commits
both_commits deck H is_updated begun within more =
    both_of H (first_updater_commit 0 (update_to 0 11)) (first_updater_commit 1 (update_to 1 21)) (length H) (begun ∙ ap (λ d. take (length H) (script_history d)) is_updated ∙ ap (take (length H)) commits_computed)
    (omega (arith, within, ap (λ d. length d.script) is_updated)) more

-- ---- two cycles

-- The buckets of the script of two cycles, from the first one on.
abbrev bytes_of : Deck → List Event → List (List ℕ)
bytes_of deck H = map spelling (buckets_of (values_in deck) (air_of deck) H)

record Cycles : Type 0 where
  history : script_history (scripted (None ∷ None ∷ [])) ≡ Start ∷ Start ∷ []
  one : bytes_of (scripted (None ∷ None ∷ [])) (Start ∷ []) ≡ item_bytes 1 0 10 ∷ item_bytes 1 1 20 ∷ []
  two : bytes_of (scripted (None ∷ None ∷ [])) (Start ∷ Start ∷ []) ≡ item_bytes 1 0 10 ∷ item_bytes 1 1 20 ∷ item_bytes 2 0 10 ∷ item_bytes 2 1 20 ∷ []

cycles_computed : Cycles
unfolding script_history event_of last_place greatest cycle_at front is_start starts writer writer_before writes column_entry table value_after write_of body_of bucket_of capped_entries capped_body buckets_of count_of entries_of item_of kind_of spelling entry_bytes value_of cut order order_with chunk chunk_len least_common_multiple minor_cycle num_chunks num_minors program
cycles_computed = record { history = refl; one = refl; two = refl }

-- What such a run has seen after its first cycle is both starts.
pub both_starts : (deck : Deck) (old H : List Event) → deck ≡ scripted (None ∷ None ∷ []) → old ≡ Start ∷ [] →
    H ≡ take (length H) (script_history deck) → length H ≤ length deck.script → length old < length H → H ≡ Start ∷ Start ∷ []
both_starts deck old H is_scripted is_old begun within more = both_of H Start Start (length H)
    (begun ∙ ap (λ d. take (length H) (script_history d)) is_scripted ∙ ap (take (length H)) cycles_computed.history)
    (omega (arith, within, ap (λ d. length d.script) is_scripted)) (omega (arith, more, ap length is_old))

-- What such a run airs after its first cycle is the second one.
pub second_cycle : (deck : Deck) (old H : List Event) (piece : List (List ℕ)) → deck ≡ scripted (None ∷ None ∷ []) → old ≡ Start ∷ [] →
    H ≡ take (length H) (script_history deck) → length H ≤ length deck.script → length old < length H →
    bytes_of deck H ≡ bytes_of deck old ++ piece → piece ≡ item_bytes 2 0 10 ∷ item_bytes 2 1 20 ∷ []
second_cycle deck old H piece is_scripted is_old begun within more aired =
    let both = both_starts deck old H is_scripted is_old begun within more in
    let old_is : bytes_of deck old ≡ item_bytes 1 0 10 ∷ item_bytes 1 1 20 ∷ [] =
    ap (λ d. bytes_of d old) is_scripted ∙ ap (bytes_of (scripted (None ∷ None ∷ []))) is_old ∙ cycles_computed.one in
    let new_is : bytes_of deck H ≡ item_bytes 1 0 10 ∷ item_bytes 1 1 20 ∷ item_bytes 2 0 10 ∷ item_bytes 2 1 20 ∷ [] =
    ap (λ d. bytes_of d H) is_scripted ∙ ap (bytes_of (scripted (None ∷ None ∷ []))) both ∙ cycles_computed.two in
    ap (drop 2) (sym (aired ∙ ap (λ l. l ++ piece) old_is)) ∙ ap (drop 2) new_is

-- ---- three starts

-- A beginning of three starts that has at most two, and exactly two if it isn't all.
two_of : (H : List Event) (n : ℕ) → H ≡ take n (Start ∷ Start ∷ Start ∷ []) → n ≤ 3 → starts H ≤ 2 → (n < 3 → starts H ≡ 2) → H ≡ Start ∷ Start ∷ []
unfolding starts is_start
two_of H zero is_part few most full = absurd (omega (arith, ap starts is_part, full (omega arith)))
two_of H (suc zero) is_part few most full = absurd (omega (arith, ap starts is_part, full (omega arith)))
two_of H (suc (suc zero)) is_part few most full = is_part
two_of H (suc (suc (suc zero))) is_part few most full = absurd (omega (arith, ap starts is_part, most))
two_of H (suc (suc (suc (suc n)))) is_part few most full = absurd (omega (arith, few))

starts_computed : script_history (scripted (None ∷ None ∷ None ∷ [])) ≡ Start ∷ Start ∷ Start ∷ []
unfolding script_history event_of
starts_computed = refl

none_started : starts [] ≡ 0
unfolding starts
none_started = refl

-- A run of that script from its beginning, of two cycles, has two events.
pub two_cycles : (deck : Deck) (old H : List Event) → deck ≡ scripted (None ∷ None ∷ None ∷ []) → old ≡ [] → H ≡ take (length H) (script_history deck) →
    length H ≤ length deck.script → starts H ≤ starts old + 2 → (length H < length deck.script → starts H ≡ starts old + 2) → H ≡ Start ∷ Start ∷ []
two_cycles deck old H is_scripted is_old begun within most full =
    let three : length deck.script ≡ 3 = ap (λ d. length d.script) is_scripted in
    let none : starts old ≡ 0 = ap starts is_old ∙ none_started in
    two_of H (length H) (begun ∙ ap (λ d. take (length H) (script_history d)) is_scripted ∙ ap (take (length H)) starts_computed) (omega (arith, within, three))
    (omega (arith, most, none)) (λ less. let e : starts H ≡ starts old + 2 = full (omega (arith, less, three)) in omega (arith, e, none))

-- ---- two cycles with groups, and without

-- The script of the grouped pair, without its last start and with it.
abbrev first_written : List Event
first_written = Start ∷ first_updater_commit 0 (update_to 0 11) ∷ []

abbrev both_started : List Event
both_started = Start ∷ first_updater_commit 0 (update_to 0 11) ∷ Start ∷ []

abbrev first_buckets : List (List ℕ)
first_buckets = item_bytes 1 0 10 ∷ item_bytes 1 1 20 ∷ []

record GroupedCycles : Type 0 where
  history : (g : ℕ) → script_history (grouped_pair g) ≡ both_started
  first_without : bytes_of (grouped_pair 0) first_written ≡ first_buckets
  first_with : bytes_of (grouped_pair 2) first_written ≡ first_buckets
  both_without : bytes_of (grouped_pair 0) both_started ≡ first_buckets ++ two_entry_bytes 2 0 11 1 ∷ two_entry_bytes 2 1 20 0 ∷ []
  both_with : bytes_of (grouped_pair 2) both_started ≡ first_buckets ++ two_entry_bytes 2 0 11 1 ∷ two_entry_bytes 2 1 20 1 ∷ []

grouped_computed : GroupedCycles
unfolding script_history event_of last_place greatest greatest_of cycle_at front is_start reads starts writer writer_before writes descends descends_in column_entry group_entry table value_after value_on_base write_of body_of bucket_of capped_entries capped_body buckets_of count_of entries_of item_of kind_of spelling entry_bytes value_of cut order order_with chunk chunk_len least_common_multiple minor_cycle num_chunks num_minors program
grouped_computed = record { history = λ g. refl; first_without = refl; first_with = refl; both_without = refl; both_with = refl }

three_of : (H : List Event) (a b c : Event) (n : ℕ) → H ≡ take n (a ∷ b ∷ c ∷ []) → n ≤ 3 → 2 < n → H ≡ a ∷ b ∷ c ∷ []
three_of H a b c zero is_part few some = absurd (omega arith)
three_of H a b c (suc zero) is_part few some = absurd (omega arith)
three_of H a b c (suc (suc zero)) is_part few some = absurd (omega arith)
three_of H a b c (suc (suc (suc zero))) is_part few some = is_part
three_of H a b c (suc (suc (suc (suc n)))) is_part few some = absurd (omega arith)

second_of : (g : ℕ) (second : List (List ℕ)) (deck : Deck) (old H : List Event) (piece : List (List ℕ)) → bytes_of (grouped_pair g) first_written ≡ first_buckets
    → bytes_of (grouped_pair g) both_started ≡ first_buckets ++ second → deck ≡ grouped_pair g → old ≡ first_written → H ≡ take (length H) (script_history deck)
    → length H ≤ length deck.script → length old < length H → bytes_of deck H ≡ bytes_of deck old ++ piece → piece ≡ second
second_of g second deck old H piece first both is_pair is_old begun within more aired =
    let all : H ≡ both_started = three_of H Start (first_updater_commit 0 (update_to 0 11)) Start (length H)
    (begun ∙ ap (λ d. take (length H) (script_history d)) is_pair ∙ ap (take (length H)) (grouped_computed.history g))
    (omega (arith, within, ap (λ d. length d.script) is_pair)) (omega (arith, more, ap length is_old)) in
    let old_is : bytes_of deck old ≡ first_buckets = ap (λ d. bytes_of d old) is_pair ∙ ap (bytes_of (grouped_pair g)) is_old ∙ first in
    let new_is : bytes_of deck H ≡ first_buckets ++ second = ap (λ d. bytes_of d H) is_pair ∙ ap (bytes_of (grouped_pair g)) all ∙ both in
    ap (drop 2) (sym (aired ∙ ap (λ l. l ++ piece) old_is)) ∙ ap (drop 2) new_is

-- Without groups the second cycle has each item's own column, and with them the column of its group.
pub second_without : (deck : Deck) (old H : List Event) (piece : List (List ℕ)) → deck ≡ grouped_pair 0 → old ≡ first_written → H ≡ take (length H) (script_history deck)
    → length H ≤ length deck.script → length old < length H → bytes_of deck H ≡ bytes_of deck old ++ piece → piece ≡ two_entry_bytes 2 0 11 1 ∷ two_entry_bytes 2 1 20 0 ∷ []
second_without deck old H piece = second_of 0 (two_entry_bytes 2 0 11 1 ∷ two_entry_bytes 2 1 20 0 ∷ []) deck old H piece grouped_computed.first_without grouped_computed.both_without

pub second_with : (deck : Deck) (old H : List Event) (piece : List (List ℕ)) → deck ≡ grouped_pair 2 → old ≡ first_written → H ≡ take (length H) (script_history deck)
    → length H ≤ length deck.script → length old < length H → bytes_of deck H ≡ bytes_of deck old ++ piece → piece ≡ two_entry_bytes 2 0 11 1 ∷ two_entry_bytes 2 1 20 1 ∷ []
second_with deck old H piece = second_of 2 (two_entry_bytes 2 0 11 1 ∷ two_entry_bytes 2 1 20 1 ∷ []) deck old H piece grouped_computed.first_with grouped_computed.both_with

-- A whole run of two updaters and two cycles: what it is, what its buckets carry, and what is no such run.
use Rattle.std.proofs.Common.{◌≡◌, ℕ, zero, suc, ◌<◌, ◌≤◌, ◌^◌, true, false, Some, List, [], ◌∷◌, All, refl, sym, ap, subst, arith, Contains, IfSome, sum_by}
use Rattle.std.specs.Prelude.{slice_get}
use Rattle.std.proofs.lemmas.List.Elements.{All-from_recursion}
use Rattle.air_history.specs.declared.histories.Event.{Event}
use Rattle.air_history.specs.declared.histories.Event.TheVariants.{Start}
use Rattle.air_history.specs.Columns.{column_entry}
use Rattle.air_history.specs.Descents.{descends, descends_in}
use Rattle.air_history.specs.Histories.{cycle_at, front, is_start, reads, starts, writer, writer_before, writes}
use Rattle.air_history.specs.Places.{greatest, last_place}
use Rattle.air_history.specs.Reads.{read_value}
use Rattle.air_history.specs.Tables.{table, value_after, value_on_base, values_of, write_of}
use Rattle.air_history.specs.UpdateRules.{has_repeat, update_fault}
use Rattle.air_model.specs.Aired.{IsAiredBucket, air_of, body_of, bucket_of, buckets_of}
use Rattle.air_model.specs.AiredItems.{AirsItems, IsAiredItem, carries_in}
use Rattle.air_model.specs.Batches.{aired_by, last_buckets}
use Rattle.air_model.specs.Buckets.{Bucket, Column, Idle, capped_body, capped_entries}
use Rattle.air_model.specs.Decks.{Deck, IsDeck, IsUpdate, IsWhole, disks_in, is_by, values_in}
use Rattle.air_model.specs.Disks.{Disk, cut, order, order_with}
use Rattle.air_model.specs.Programs.{chunk, chunk_len, least_common_multiple, minor_cycle, num_chunks, num_minors, program}
use Rattle.air_model.specs.Runs.{IsRun, Run}
use Rattle.air_model.specs.Sessions.{read_in}
use Rattle.air_model.specs.declared.reports.LookLine.{LookLine}
use Rattle.air_model.proofs.ClosingLemmas.{whole_closing}
use Rattle.air_model.proofs.DeckLemmas.{each_edition}
use Rattle.air_model.proofs.ItemLemmas.{items_aired}
use Rattle.air_model.proofs.RelationExamples.{pair_is_deck}
use Rattle.air_model.proofs.RunExamples.{by_batches, closing, first, fits, glances, history, line, looks, made, not_looks, passes, second, two}
use Rattle.air_model.proofs.SessionExamples.{pair, set_to, update}

-- The deck of the run is well made.
is_update : (item : ℕ) → item < 2 → (value : ℕ) → value < 100 → IsUpdate 2 (update [] (set_to item value ∷ []))
unfolding update_fault has_repeat
is_update item l value few = record { rules = refl; fits = fits item l value; amounts = All-from_recursion (λ w. w.amount < 2 ^ 64) (set_to item value ∷ []) (omega arith, tt) }

two_is_deck : IsDeck two
two_is_deck = record {
  some = pair_is_deck.some;
  version = pair_is_deck.version;
  most = pair_is_deck.most;
  group = pair_is_deck.group;
  grouped = pair_is_deck.grouped;
  values = pair_is_deck.values;
  sizes = each_edition (λ specs. sum_by (λ d. d.size) specs ≡ 2) two refl refl;
  aired = each_edition (All (λ d. (0 < d.size) × (0 < d.freq))) two refl (pair_is_deck.aired 0 (omega arith));
  few = omega arith;
  from_two = pair_is_deck.from_two;
  within_a_run = pair_is_deck.within_a_run;
  rising = pair_is_deck.rising;
  updates = All-from_recursion (All (IsUpdate 2)) two.updates (
    All-from_recursion (IsUpdate 2) (update [] (set_to 0 11 ∷ []) ∷ []) (is_update 0 (omega arith) 11 (omega arith), tt),
    (All-from_recursion (IsUpdate 2) (update [] (set_to 1 21 ∷ []) ∷ []) (is_update 1 (omega arith) 21 (omega arith), tt), tt),
  );
  readers = refl;
  tries = pair_is_deck.tries;
  queries = pair_is_deck.queries;
  script = λ by. omega arith;
}

-- The history is whole: each updater made all of its updates, and the conductor both cycles.
is_whole : IsWhole two history
unfolding is_start starts
is_whole = whole_closing two passes history history closing made refl

-- The batches of the run.
abbrev both_batches : List (List Event)
both_batches = (first ∷ Start ∷ []) ∷ (second ∷ Start ∷ []) ∷ []

-- The run with this last look.
abbrev run_with : LookLine → Run
run_with seen_last = record { history = history; batches = both_batches; glances = line 1 31 ∷ []; looks = seen_last ∷ [] }

is_run : IsRun two (run_with (line 2 32))
is_run = record { whole = is_whole; glances = glances; looks = looks }

-- It is no run if the last look is of an earlier cycle, if an updater made nothing, if a cycle is missing, or if the monitor never glanced.
not_run : (IsRun two (run_with (line 1 31)) → ⊥) × (IsRun two (record (run_with (line 2 32)) { history = first ∷ Start ∷ Start ∷ [] }) → ⊥)
    × (IsRun two (record (run_with (line 2 32)) { history = first ∷ second ∷ Start ∷ [] }) → ⊥) × (IsRun two (record (run_with (line 2 32)) { glances = [] }) → ⊥)
unfolding is_by is_start starts
not_run = (
  λ h. not_looks.1 h.looks,
  λ h. let none : 0 ≡ 1 = h.whole.all 1 in omega (arith, none),
  λ h. let one : 1 ≡ 2 = h.whole.cycles in omega (arith, one),
  λ h. let numbers = h.glances.numbers in cc numbers,
)

-- ---- what is aired

-- The bucket of an item of this value in a cycle.
abbrev bucket : ℕ → ℕ → ℕ → Bucket
bucket cycle item value = record { version = 1; edition = 0; cycle = cycle; slot = item; body = Column item value (0 ∷ 0 ∷ []) }

-- A bucket carries only its own item in its own cycle; an idle bucket carries none.
carried : (carries_in 1 0 (bucket 1 0 11) ≡ true) × (carries_in 2 0 (bucket 1 0 11) ≡ false) × (carries_in 1 1 (bucket 1 0 11) ≡ false)
    × (carries_in 1 0 (record { version = 1; edition = 0; cycle = 1; slot = 0; body = Idle 2 }) ≡ false)
carried = (refl, refl, refl, refl)

-- What the first batch airs: item 0 with its new value.
first_cycle : last_buckets (values_in two) (air_of two) (first ∷ Start ∷ []) ≡ bucket 1 0 11 ∷ bucket 1 1 20 ∷ []
unfolding is_start starts bucket_of capped_entries capped_body body_of front table value_after value_on_base write_of column_entry greatest last_place writer writer_before writes reads descends descends_in cycle_at order order_with cut program least_common_multiple num_minors num_chunks chunk_len chunk minor_cycle
first_cycle = refl

-- In the second cycle item 0 is aired with that value again.
still_aired : IsAiredBucket (values_in two) (air_of two) history (bucket 2 0 11)
unfolding is_start starts bucket_of capped_entries capped_body body_of front table value_after value_on_base write_of column_entry greatest last_place writer writer_before writes reads descends descends_in cycle_at order order_with cut program least_common_multiple num_minors num_chunks chunk_len chunk minor_cycle
still_aired = record { from_one = omega arith; started = omega arith; same = refl }

-- Both batches air all that the history airs.
aired_all : buckets_of (values_in two) (air_of two) history ≡ aired_by (values_in two) (air_of two) both_batches
aired_all = by_batches.aired

-- In each cycle each item is aired once, with its value.
airs : AirsItems two history (buckets_of (values_in two) (air_of two) history)
airs = items_aired two history two_is_deck

-- The two items of one cycle are aired by two buckets.
abbrev two_buckets : List Bucket
two_buckets = bucket 1 0 10 ∷ bucket 1 1 20 ∷ []

airs_both : AirsItems pair (Start ∷ []) two_buckets
unfolding is_start starts front table cut order order_with
airs_both = record {
  times = each;
  values = All-from_recursion (λ b. IfSome (read_in b.cycle b.body) (λ r. r.value ≡ read_value (values_of (values_in pair)) (Start ∷ []) (record { item = r.item; cycle = r.cycle }))) two_buckets (refl, (refl, tt));
}
  where
    each : (c i : ℕ) → 1 ≤ c → c ≤ 1 → i < 2 → IsAiredItem pair c i two_buckets
    each zero i from till below = absurd (omega arith)
    each (suc zero) zero from till below = record { number = 0; disk = record { items = 0 ∷ 1 ∷ []; freq = 1 }; there = refl; on = (0, omega arith, refl); times = refl }
    each (suc zero) (suc zero) from till below = record { number = 0; disk = record { items = 0 ∷ 1 ∷ []; freq = 1 }; there = refl; on = (1, omega arith, refl); times = refl }
    each (suc zero) (suc (suc i)) from till below = absurd (omega arith)
    each (suc (suc c)) i from till below = absurd (omega arith)

-- The buckets of only the first cycle, or of only the second, don't air the items.
not_airs : (AirsItems two history (bucket 1 0 11 ∷ bucket 1 1 20 ∷ []) → ⊥) × (AirsItems two history (bucket 2 0 11 ∷ bucket 2 1 21 ∷ []) → ⊥)
unfolding is_start starts cut order order_with
not_airs = (
  λ h. let item = h.times 2 0 (omega arith) (omega arith) (omega arith) in never item.number item.disk item.there item.times,
  λ h. let item = h.times 1 0 (omega arith) (omega arith) (omega arith) in never item.number item.disk item.there item.times,
)
  where
    never : (number : ℕ) (disk : Disk) → slice_get (disks_in two 0) number ≡ Some disk → 0 ≡ disk.freq → ⊥
    never zero disk there none = let is : record { items = 0 ∷ 1 ∷ []; freq = 1 } ≡ disk = cc in let freq : 1 ≡ disk.freq = ap (λ d. d.freq) is in omega (arith, freq)
    never (suc number) disk there none = cc

-- Item 0 on a disk that is aired twice a cycle, item 1 on one that is aired once.
abbrev on_two_disks : Deck
on_two_disks = record pair { disks = record { size = 1; freq = 2 } ∷ record { size = 1; freq = 1 } ∷ [] }

once : IsAiredItem on_two_disks 1 1 (bucket 1 0 10 ∷ bucket 1 1 20 ∷ bucket 1 0 10 ∷ [])
unfolding cut order order_with
once = record { number = 1; disk = record { items = 1 ∷ []; freq = 1 }; there = refl; on = (0, omega arith, refl); times = refl }

-- Two airings of item 1 are wrong: the disk that is aired twice has only item 0.
not_twice : IsAiredItem on_two_disks 1 1 (bucket 1 1 20 ∷ bucket 1 1 20 ∷ []) → ⊥
unfolding cut order order_with
not_twice h = never h.number h.disk h.there h.on h.times
  where
    other : Contains {X = ℕ} (0 ∷ []) 1 → ⊥
    other (zero, within, is) = omega (arith, is)
    other (suc k, within, is) = omega (arith, within)

    never : (number : ℕ) (disk : Disk) → slice_get (disks_in on_two_disks 0) number ≡ Some disk → Contains disk.items 1 → 2 ≡ disk.freq → ⊥
    never zero disk there on twice = let is : record { items = 0 ∷ []; freq = 2 } ≡ disk = cc in other (subst (λ d. Contains d.items 1) (sym is) on)
    never (suc zero) disk there on twice = let is : record { items = 1 ∷ []; freq = 1 } ≡ disk = cc in let freq : 1 ≡ disk.freq = ap (λ d. d.freq) is in omega (arith, freq)
    never (suc (suc number)) disk there on twice = cc

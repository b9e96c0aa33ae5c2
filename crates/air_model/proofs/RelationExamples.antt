-- Small decks, programs, buckets, tapes and heard lists: where each relation of the model holds, and where some don't.
use Rattle.std.proofs.Common.{◌≡◌, ◌≢◌, ℕ, zero, suc, ◌+◌, ◌<◌, ◌≤◌, ◌^◌, false, Some, None, Option, List, [], ◌∷◌, length, take, All, refl, inl, inr, arith, ◌%◌, ◌==◌, IsTrue, IfSome, Contains, sum_by}
use Rattle.std.proofs.lemmas.List.Elements.{All-nil, All-from_recursion}
use Rattle.std.proofs.lemmas.Bool.{false≢true}
use Rattle.std.proofs.lemmas.List.Kept.{AllPairs-cons}
use Rattle.air_base.specs.declared.limits.TheConstants.{MOST_CYCLES}
use Rattle.air_base.specs.declared.verdicts.Policy.TheVariants.{FMatrix}
use Rattle.air_history.specs.Columns.{scheme_of, column_entry}
use Rattle.air_history.specs.Histories.{front, starts, is_start}
use Rattle.air_history.specs.Places.{greatest}
use Rattle.air_history.specs.Tables.{table}
use Rattle.air_history.specs.UpdateLists.{UpdateLists}
use Rattle.air_history.specs.UpdateRules.{has_repeat, update_fault}
use Rattle.air_model.specs.DeckLaws.{HasNumbers, commits_from, made_by}
use Rattle.air_model.specs.Decks.{Deck, IsDeck, IsNextCommit, IsQuery, IsUpdate, IsWhole, ScriptFits, count_made, event_of, is_by, script_history, updates_by, values_in}
use Rattle.air_model.specs.Disks.{Disk, all_items, cut, order, order_with, is_hotter}
use Rattle.air_model.specs.Programs.{chunk, chunk_len, least_common_multiple, minor_cycle, num_chunks, num_minors, program}
use Rattle.air_model.specs.ProgramLaws.{IsAirable, IsOrder}
use Rattle.air_model.specs.Airings.{ComesEvery, IsNextWake, slot_item}
use Rattle.air_model.specs.Buckets.{AreBytes, Bucket, Column, IsBucket, IsInRange, count_of, entries_of, item_of, kind_of, spelling, value_of, capped_body, capped_entries, entry_bytes}
use Rattle.air_model.specs.Tapes.{IsCutTape, IsTape, ends_inside, record_bytes, tape_of}
use Rattle.air_model.specs.Aired.{IsAired, IsAiredBucket, SlotsFit, air_of, body_fits, body_of, bucket_of, fits}
use Rattle.air_model.specs.AiredLaws.{CanAir}
use Rattle.air_model.specs.Copies.{HaveOwnItems}
use Rattle.air_model.specs.Reads.{Read}
use Rattle.air_model.specs.SessionLaws.{QueriesFilled, bare}
use Rattle.air_model.specs.ReceiverLaws.{IsTrueSession}
use Rattle.air_model.specs.Sessions.{reader_of}
use Rattle.air_model.proofs.BucketExamples.{first_bytes}
use Rattle.air_model.proofs.DeckLemmas.{air, each_edition}
use Rattle.air_model.proofs.ScriptLemmas.{script}
use Rattle.air_model.proofs.ReceiverLemmas.{receiver}
use Rattle.air_model.proofs.SessionExamples.{aired_in, pair, s, swapped_deck, u}
use Rattle.air_model.proofs.TapeExamples.{both}

-- ---- decks and their histories

-- The deck of two items is well made.
pub pair_is_deck : IsDeck pair
unfolding has_repeat
pair_is_deck = record {
  some = omega arith;
  version = inl refl;
  most = omega arith;
  group = omega arith;
  grouped = inl refl;
  values = All-from_recursion (λ i. i.value < 2 ^ 64) pair.items (omega arith, (omega arith, tt));
  sizes = each_edition (λ specs. sum_by (λ d. d.size) specs ≡ 2) pair refl refl;
  aired = each_edition (All (λ d. (0 < d.size) × (0 < d.freq))) pair refl (All-from_recursion (λ d. (0 < d.size) × (0 < d.freq)) pair.disks ((omega arith, omega arith), tt));
  few = omega arith;
  from_two = All-nil (λ r. 2 ≤ r.cycle);
  within_a_run = All-nil (λ r. r.cycle ≤ MOST_CYCLES);
  rising = λ i j d less within. absurd (omega arith);
  updates = All-from_recursion (All (IsUpdate 2)) pair.updates (All-nil (IsUpdate 2), tt);
  readers = refl;
  tries = All-from_recursion (λ r. 1 ≤ r.tries) pair.readers (omega arith, tt);
  queries = All-from_recursion (All (IsQuery 2)) pair.queries (
    All-from_recursion (IsQuery 2) ((0 ∷ 1 ∷ []) ∷ [])
        (record { filled = omega arith; distinct = refl; within = All-from_recursion (λ i. i < 2) (0 ∷ 1 ∷ []) (omega arith, (omega arith, tt)) }, tt),
    tt,
  );
  script = λ by. omega arith;
}

-- It is well made in version 2 too.
pub aged_pair_is_deck : IsDeck (aired_in 2 pair)
aged_pair_is_deck = record {
  some = pair_is_deck.some;
  version = inr refl;
  most = omega arith;
  group = pair_is_deck.group;
  grouped = pair_is_deck.grouped;
  values = pair_is_deck.values;
  sizes = pair_is_deck.sizes;
  aired = pair_is_deck.aired;
  few = pair_is_deck.few;
  from_two = pair_is_deck.from_two;
  within_a_run = pair_is_deck.within_a_run;
  rising = pair_is_deck.rising;
  updates = pair_is_deck.updates;
  readers = pair_is_deck.readers;
  tries = pair_is_deck.tries;
  queries = pair_is_deck.queries;
  script = pair_is_deck.script;
}

-- The same two items with a change between two cycles, which are all that its settings require.
abbrev turned_deck : Deck
turned_deck = record (swapped_deck (s ∷ u ∷ u ∷ s ∷ [])) { settings = record ((swapped_deck []).settings) { cycles = 2 } }

-- Updater 0 is no other updater.
no_other : (by : ℕ) → (0 == suc by) ≡ false
no_other by = grind arith

-- Its script commits exactly what its updater has.
turned_fits : ScriptFits turned_deck
turned_fits zero = omega arith
turned_fits (suc by) = rw no_other (omega arith)

-- Its script's history is therefore legal, and whole.
pub turned_is_whole : IsWhole turned_deck (script_history turned_deck)
unfolding script_history event_of is_by starts is_start
turned_is_whole = record {
  legal = script turned_deck turned_fits;
  all = by_updater;
  cycles = refl;
}
  where
    by_updater : (by : ℕ) → count_made by (script_history turned_deck) ≡ length (updates_by turned_deck by)
    by_updater zero = refl
    by_updater (suc by) = rw no_other refl

-- The updater's commits are of its updates in order.
pub made_in_order : made_by 0 (script_history turned_deck) ≡ commits_from 0 0 (updates_by turned_deck 0)
unfolding script_history event_of is_by made_by commits_from
made_in_order = refl

-- The second commit is the next one after the start and the first commit; without these it isn't the next one.
abbrev second_update : UpdateLists
second_update = record { reads = []; writes = record { item = 1; base = None; minus = false; amount = 21 } ∷ [] }

pub is_update : IsUpdate 2 second_update
unfolding update_fault has_repeat
is_update = record {
  rules = refl;
  fits = record { reads = All-nil (λ r. r < 2); writes = All-from_recursion (λ w. w.item < 2) second_update.writes (omega arith, tt) };
  amounts = All-from_recursion (λ w. w.amount < 2 ^ 64) second_update.writes (omega arith, tt);
}

next : IsNextCommit turned_deck (take 2 (script_history turned_deck)) 0 1 second_update
unfolding script_history event_of is_by
next = record { number = refl; given = refl }

not_at_once : IsNextCommit turned_deck [] 0 1 second_update → ⊥
unfolding is_by
not_at_once h = absurd (let one : 1 ≡ 0 = h.number in omega arith)

-- ---- programs

-- Two items of rates 1 and 5: the second is first in the order.
pub hotter_first : IsOrder (1 ∷ 5 ∷ []) (1 ∷ 0 ∷ [])
hotter_first = record {
  hottest_first = AllPairs-cons (λ i j. IsTrue (is_hotter (1 ∷ 5 ∷ []) i j)) 1 (0 ∷ []) (All-from_recursion (λ j. IsTrue (is_hotter (1 ∷ 5 ∷ []) 1 j)) (0 ∷ []) (refl, tt))
      (λ i j d less within. absurd (omega arith));
  members = λ i. (found i, there i);
}
  where
    found : (i : ℕ) → Contains (1 ∷ 0 ∷ []) i → i < 2
    found i (zero, within, is) = omega (arith, is)
    found i (suc zero, within, is) = omega (arith, is)
    found i (suc (suc k), within, is) = absurd (omega (arith, within))

    there : (i : ℕ) → i < 2 → Contains (1 ∷ 0 ∷ []) i
    there zero below = (1, omega arith, refl)
    there (suc zero) below = (0, omega arith, refl)
    there (suc (suc i)) below = absurd (omega arith)

-- Two disks, of one item and of two: they can be aired.
abbrev two_disks : List Disk
two_disks = record { items = 4 ∷ []; freq = 2 } ∷ record { items = 1 ∷ 3 ∷ []; freq = 1 } ∷ []

pub can_be_aired : IsAirable two_disks
unfolding all_items
can_be_aired = record {
  aired = All-from_recursion (λ d. 0 < d.freq) two_disks (omega arith, (omega arith, tt));
  apart = AllPairs-cons (λ i j. i ≢ j) 4 (1 ∷ 3 ∷ []) (All-from_recursion (λ j. 4 ≢ j) (1 ∷ 3 ∷ []) ((λ e. omega (arith, e)), ((λ e. omega (arith, e)), tt)))
      (AllPairs-cons (λ i j. i ≢ j) 1 (3 ∷ []) (All-from_recursion (λ j. 1 ≢ j) (3 ∷ []) ((λ e. omega (arith, e)), tt)) (λ i j d less within. absurd (omega arith)));
}

-- Slots that carry items 0 and 1 in turn, and then none.
abbrev three_slots : List (Option ℕ)
three_slots = Some 0 ∷ Some 1 ∷ None ∷ []

-- From slot 2 item 1 is next aired two slots later, around the cycle's end.
pub around_the_end : IsNextWake three_slots 2 1 2
around_the_end = record { aired = refl; first = earlier }
  where
    earlier : (j : ℕ) → j < 2 → slot_item three_slots ((2 + j) % 3) ≢ Some 1
    earlier zero below e = cc
    earlier (suc zero) below e = cc
    earlier (suc (suc j)) below e = omega arith

-- Item 0 comes every three slots, once in a cycle.
pub once_a_cycle : ComesEvery three_slots 0 3
once_a_cycle = record { some = omega arith; again = comes; between = not_before }
  where
    comes : (s : ℕ) → slot_item three_slots s ≡ Some 0 → slot_item three_slots ((s + 3) % 3) ≡ Some 0
    comes zero e = refl
    comes (suc zero) e = cc
    comes (suc (suc zero)) e = cc
    comes (suc (suc (suc s))) e = cc

    not_before : (s k : ℕ) → slot_item three_slots s ≡ Some 0 → 0 < k → k < 3 → slot_item three_slots ((s + k) % 3) ≢ Some 0
    not_before zero zero e some below f = omega arith
    not_before zero (suc zero) e some below f = cc
    not_before zero (suc (suc zero)) e some below f = cc
    not_before zero (suc (suc (suc k))) e some below f = omega arith
    not_before (suc zero) k e some below f = cc
    not_before (suc (suc zero)) k e some below f = cc
    not_before (suc (suc (suc s))) k e some below f = cc

-- ---- buckets and tapes

-- The bucket of item 0 in the first cycle, and its bytes.
abbrev first : Bucket
first = record { version = 1; edition = 0; cycle = 1; slot = 0; body = Column 0 10 (0 ∷ 0 ∷ []) }

pub first_in_range : IsInRange first
unfolding count_of kind_of item_of value_of entries_of
first_in_range = record {
  version = inl refl;
  edition = omega arith;
  some = omega arith;
  count = omega arith;
  started = omega arith;
  cycle = omega arith;
  slot = omega arith;
  placed = inr (omega arith);
  value = omega arith;
  entries = All-from_recursion (λ e. e < 1) (0 ∷ 0 ∷ []) (omega arith, (omega arith, tt));
  told = λ ages. absurd (false≢true ages);
}

pub first_is_bucket : IsBucket first_bytes first
unfolding spelling entry_bytes kind_of count_of item_of value_of entries_of
first_is_bucket = (first_in_range, refl)

-- With an entry that equals the cycle, it isn't in range.
entry_too_great : IsInRange (record first { body = Column 0 10 (1 ∷ 0 ∷ []) }) → ⊥
unfolding entries_of
entry_too_great h = let low : 1 < 1 = h.entries 0 0 (omega arith) in omega arith

-- Both ends of a byte's range; 256 is no byte.
pub are_bytes : AreBytes (0 ∷ 255 ∷ [])
are_bytes = All-from_recursion (λ x. x < 256) (0 ∷ 255 ∷ []) (omega arith, (omega arith, tt))

no_byte : AreBytes (256 ∷ []) → ⊥
no_byte h = let low : 256 < 256 = h 0 0 (omega arith) in omega arith

-- The tape of two buckets is whole, and its first 60 bytes are cut at the second record.
pub whole_tape : IsTape (tape_of both) both
whole_tape = (All-from_recursion (λ r. length r < 2 ^ 32) both (omega arith, (omega arith, tt)), refl)

pub cut_tape : IsCutTape (take 60 (tape_of both)) (first_bytes ∷ []) 36
unfolding tape_of record_bytes ends_inside
cut_tape = record { before = (All-from_recursion (λ r. length r < 2 ^ 32) (first_bytes ∷ []) (omega arith, tt), refl); cut = refl }

-- ---- what is aired

-- The script of the two-item deck can be aired; its slots have items of the catalog, and its queries are filled.
pub pair_can_air : CanAir pair (script_history pair)
unfolding script_history event_of order order_with cut program least_common_multiple num_minors num_chunks chunk_len chunk minor_cycle starts is_start
pair_can_air = record { made = pair_is_deck; legal = script pair pair_is_deck.script; cycles = omega arith; slots = All-from_recursion (λ slots. length slots ≤ 2 ^ 16) ((air_of pair).slots) (omega arith, tt) }

pub pair_filled : QueriesFilled (reader_of pair 0)
pair_filled = (air pair pair_is_deck).1 0

-- Of a list with that bucket, with bytes that are no bucket, and with a bucket of another edition, the script's history aired
-- all that fits.
pub aired_list : IsAired (values_in pair) (air_of pair) (script_history pair) (Some first ∷ None ∷ Some (record first { edition = 1; cycle = 9 }) ∷ [])
unfolding script_history event_of order order_with cut program least_common_multiple num_minors num_chunks chunk_len chunk minor_cycle starts is_start bucket_of capped_entries capped_body body_of body_fits fits table column_entry front greatest
aired_list = All-from_recursion (λ o. IfSome o (λ b. IsTrue (fits (air_of pair) b) → IsAiredBucket (values_in pair) (air_of pair) (script_history pair) b))
    (Some first ∷ None ∷ Some (record first { edition = 1; cycle = 9 }) ∷ [])
    (λ _. record { from_one = omega arith; started = omega arith; same = refl }, (tt, (λ f. absurd (false≢true f), tt)))

-- Its reader's session over that list is true: sound, and exact.
pub true_session : IsTrueSession pair (script_history pair) 0 (Some first ∷ None ∷ Some (record first { edition = 1; cycle = 9 }) ∷ [])
true_session = receiver pair (script_history pair) 0 (Some first ∷ None ∷ Some (record first { edition = 1; cycle = 9 }) ∷ []) pair_is_deck (omega arith) aired_list

-- Each of three slots that has an item has one of the two.
pub slots_fit : SlotsFit (record { scheme = scheme_of FMatrix; version = 1; items = 2; replans = []; slots = three_slots ∷ []; pix = [] ∷ [] })
slots_fit = All-from_recursion (All (λ o. IfSome o (λ i. i < 2))) (three_slots ∷ []) (All-from_recursion (λ o. IfSome o (λ i. i < 2)) three_slots (omega arith, (omega arith, (tt, tt))), tt)

-- With only one item they don't fit.
slots_of_more : SlotsFit (record { scheme = scheme_of FMatrix; version = 1; items = 1; replans = []; slots = [] ∷ three_slots ∷ []; pix = [] }) → ⊥
slots_of_more h = let low : 1 < 1 = h 1 [] (omega arith) 1 None (omega arith) in omega arith

-- What the history uses of the bucket.
bare_first : bare first ≡ record first { body = Column 0 0 (0 ∷ 0 ∷ []) }
bare_first = refl

-- ---- copies

-- Copies of the items 0 and 1.
abbrev copy : ℕ → Read
copy i = record { item = i; cycle = 1; value = 0; entries = [] }

pub own_items : HaveOwnItems (copy 0 ∷ copy 1 ∷ [])
own_items = AllPairs-cons (λ a b. a.item < b.item) (copy 0) (copy 1 ∷ []) (All-from_recursion (λ b. 0 < b.item) (copy 1 ∷ []) (omega arith, tt)) (λ i j d less within. absurd (omega arith))

-- Copies in another order aren't by rising item, nor are two copies of one item.
no_own_items : (HaveOwnItems (copy 1 ∷ copy 0 ∷ []) → ⊥) × (HaveOwnItems (copy 1 ∷ copy 1 ∷ []) → ⊥)
no_own_items = (λ h. let less = h 0 1 (copy 0) (omega arith) (omega arith) in omega arith, λ h. let less = h 0 1 (copy 0) (omega arith) (omega arith) in omega arith)

-- The numbers of the small deck's updater, which has no update, are below 2^64.
pub pair_numbers : HasNumbers pair
pair_numbers = record { updaters = omega arith; updates = few }
  where
    few : (by : ℕ) → length (updates_by pair by) ≤ 2 ^ 64
    few zero = omega arith
    few (suc by) = omega arith

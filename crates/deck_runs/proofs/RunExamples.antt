-- A run of a small deck, what is true of it, what is cast of one, and what jobs leave: positive and negative examples of each relation.
use Rattle.std.proofs.Common.{◌≡◌, ◌<◌, ◌≤◌, ℕ, zero, suc, false, Option, Some, None, List, [], ◌∷◌, ◌++◌, length, map, All, Contains, inr, refl, sym, ap, ◌∙◌, arith}
use Rattle.std.specs.Prelude.{slice_get}
use Rattle.std.specs.List.{flat_map, range_with_len}
use mathlib.Core.List.{IsPrefix}
use Rattle.std.proofs.lemmas.List.Elements.{All-from_recursion, All-nil}
use Rattle.air_base.specs.declared.limits.TheConstants.{MOST_ASKED, MOST_RATE}
use Rattle.air_base.specs.declared.verdicts.Form.{Form}
use Rattle.air_history.specs.Boards.{board_of}
use Rattle.air_history.specs.Histories.{is_start, starts}
use Rattle.air_history.specs.Tables.{BasesRead}
use Rattle.air_history.specs.UpdateLists.{UpdateLists}
use Rattle.air_history.specs.declared.histories.Event.{Event}
use Rattle.air_history.specs.declared.histories.Event.TheVariants.{Commit, Start}
use Rattle.air_history.specs.declared.updates.Write.{Write}
use Rattle.air_model.specs.Aired.{air_of, buckets_of, cycle_buckets}
use Rattle.air_model.specs.Buckets.{spelling}
use Rattle.air_model.specs.Decks.{Deck, IsDeck, IsWhole, disks_in, is_by, updates_by, values_in}
use Rattle.air_model.specs.Disks.{cut, order, order_with}
use Rattle.air_model.specs.MonitorSights.{IsSeen}
use Rattle.air_model.specs.Programs.{chunk, chunk_len, least_common_multiple, minor_cycle, num_chunks, num_minors, program}
use Rattle.air_model.specs.Reports.{Report, report_text}
use Rattle.air_model.specs.Runs.{IsRun, Run}
use Rattle.air_model.proofs.RelationExamples.{pair_is_deck}
use Rattle.air_model.proofs.SessionExamples.{item, pair}
use Rattle.update_commit.proofs.EventLemmas.{starts_none}
use Rattle.air_devices.specs.Masts.{MastState, SentBuckets, nothing_sent}
use Rattle.cycle_snapshot.specs.SnapshotStates.{MonitorState, PublisherState}
use Rattle.item_catalog.specs.DeckLimits.{DiskWithin, ReaderWithin, ReplanWithin, WithinLimits}
use Rattle.air_sender.specs.BoardBuckets.{form_of}
use Rattle.chunk_program.specs.Editions.{plans_in}
use Rattle.chunk_program.specs.Plans.{AreShort}
use Rattle.station.specs.PassStates.{PassState}
use Rattle.deck_runs.specs.Casts.{IsCastBeginning, all_sent, first_sent}
use Rattle.air_sender.specs.AiredBytes.{aired_bytes}
use Rattle.deck_runs.specs.Looks.{LookedTimes}
use Rattle.deck_runs.specs.PublishedBatches.{IsBoardOf}
use Rattle.deck_runs.specs.RunTapes.{IsLongRun, run_tape_len}
use Rattle.deck_runs.specs.RunTruths.{IsTrueRun, TellsHistory}
use Rattle.deck_runs.specs.Private.CastSteps.{bucket_count}
use Rattle.deck_runs.specs.Sendings.{IsAirOf, SendsUpTo}
use Rattle.deck_runs.specs.declared.jobs.conductors.ConductFault.TheVariants as fault
use Rattle.deck_runs.proofs.CycleLemmas.{board_at, starts_one}
use Rattle.deck_runs.proofs.HeardRunLemmas.{OneHistoryLaw, run_size, run_sum, true_run}
use Rattle.deck_runs.proofs.RunLemmas.{own_air}

-- Two items, a reader of one query, no updates; a given number of cycles.
abbrev of_cycles : ℕ → Deck
of_cycles cycles = record pair { settings = record pair.settings { cycles = cycles } }

is_deck : (cycles : ℕ) → IsDeck (of_cycles cycles)
is_deck cycles = record {
  some = pair_is_deck.some;
  most = pair_is_deck.most;
  values = pair_is_deck.values;
  version = pair_is_deck.version;
  group = pair_is_deck.group;
  grouped = pair_is_deck.grouped;
  sizes = pair_is_deck.sizes;
  aired = pair_is_deck.aired;
  few = pair_is_deck.few;
  from_two = pair_is_deck.from_two;
  within_a_run = pair_is_deck.within_a_run;
  rising = pair_is_deck.rising;
  updates = pair_is_deck.updates;
  readers = refl;
  tries = pair_is_deck.tries;
  queries = pair_is_deck.queries;
  script = pair_is_deck.script;
}

is_within : WithinLimits (of_cycles 1)
is_within = record {
  rates = All-from_recursion (λ i. i.rate ≤ MOST_RATE) pair.items (omega arith, (omega arith, tt));
  disks = omega arith;
  disk = All-from_recursion DiskWithin pair.disks (record { size = omega arith; freq = omega arith }, tt);
  replans = All-nil ReplanWithin;
  updaters = omega arith;
  updates = omega arith;
  readers = omega arith;
  reader = All-from_recursion ReaderWithin pair.readers (record { room = omega arith; age = omega arith; tries = omega arith }, tt);
  queries = omega arith;
  query = All-from_recursion (All (λ items. length items ≤ MOST_ASKED)) pair.queries (All-from_recursion (λ items. length items ≤ MOST_ASKED) ((0 ∷ 1 ∷ []) ∷ []) (omega arith, tt), tt);
  script = omega arith;
  starts = omega arith;
  settings = record {
    group = omega arith;
    cycles = omega arith;
    seed = omega arith;
    loss = omega arith;
    again = omega arith;
    late = omega arith;
    monitors = omega arith;
    some_hears = omega arith;
    hears = omega arith;
  };
}

-- Histories that have only starts.
abbrev one_start : List Event
one_start = Start ∷ []

abbrev two_starts : List Event
two_starts = Start ∷ Start ∷ []

none_made : (by : ℕ) → 0 ≡ length (updates_by pair by)
none_made zero = refl
none_made (suc by) = refl

no_commit : (p by seq : ℕ) (update : UpdateLists) → slice_get one_start p ≡ Some (Commit by seq update) → ⊥
no_commit zero by seq update e = cc
no_commit (suc p) by seq update e = cc

one_whole : IsWhole (of_cycles 1) one_start
unfolding is_by is_start starts
one_whole = record { legal = λ p by seq update e. absurd (no_commit p by seq update e); all = none_made; cycles = refl }

-- It isn't whole if the deck has two cycles.
not_whole : IsWhole (of_cycles 2) one_start → ⊥
unfolding is_start starts
not_whole h = let cycles : 1 ≡ 2 = h.cycles in omega (arith, cycles)

-- ---- a run

abbrev one_run : Run
one_run = record { history = one_start; batches = one_start ∷ []; glances = []; looks = [] }

one_run_is : IsRun (of_cycles 1) one_run
unfolding is_start starts
one_run_is = record {
  whole = one_whole;
  glances = record { numbers = refl; each = All-nil (IsSeen (values_in pair) one_start) };
  looks = record { numbers = refl; each = All-nil (IsSeen (values_in pair) one_start); last = All-nil (λ l. l.cycle ≡ 1) };
}

slots : length (program (disks_in pair 0)) ≡ 2
unfolding order order_with cut program least_common_multiple num_minors num_chunks chunk_len chunk minor_cycle
slots = refl

short : AreShort (of_cycles 1)
short zero below = omega (arith, slots)
short (suc e) below = absurd (omega arith)

-- By the law of one history all is true of it that is true of a run: its deck is well made, within the limits, and short.
true_of_one : OneHistoryLaw → IsTrueRun (of_cycles 1) one_run
true_of_one one_history = true_run one_history (of_cycles 1) one_run (is_deck 1) is_within short one_run_is

-- A commit whose base isn't read.
abbrev on_unread : Write
on_unread = record { item = 0; base = Some 1; minus = false; amount = 1 }

abbrev unread : Event
unread = Commit 0 0 (record { reads = []; writes = on_unread ∷ [] })

-- No run with it is true.
not_true : IsTrueRun pair (record { history = unread ∷ []; batches = []; glances = []; looks = [] }) → ⊥
unfolding BasesRead
not_true h = none (h.bases 0 unread (omega arith) 0 on_unread (omega arith))
  where
    none : Contains {X = ℕ} [] 1 → ⊥
    none (k, within, is) = omega (arith, within)

-- ---- what a text determines

-- The report of a history alone.
abbrev of_history : List Event → Report
of_history H = record { history = H; verdicts = []; counts = []; glances = []; looks = [] }

tells : OneHistoryLaw → TellsHistory (of_cycles 1) one_start (report_text (of_history one_start))
tells one_history report legal same = one_history (of_cycles 1) report (of_history one_start) is_within legal one_whole.legal same

-- The text of one start, which is legal for a deck of ten cycles and not whole, isn't that of a history of two.
not_tells : TellsHistory pair two_starts (report_text (of_history one_start)) → ⊥
not_tells h =
    let same : one_start ≡ two_starts = h (of_history one_start) (λ p by seq update e. absurd (no_commit p by seq update e)) refl in
    let n : 1 ≡ 2 = ap length same in
    omega (arith, n)

-- ---- tapes

-- Two cycles of two buckets.
two_cycles : length (aired_bytes pair two_starts) ≡ 4
unfolding order order_with cut program least_common_multiple num_minors num_chunks chunk_len chunk minor_cycle is_start starts buckets_of
two_cycles = refl

-- A run of one cycle has 72 bytes; a tape is too long from one byte above the most on.
not_long : (bytes : ℕ) → IsLongRun (of_cycles 1) bytes → ⊥
unfolding order order_with cut program least_common_multiple num_minors num_chunks chunk_len chunk minor_cycle
not_long bytes h = let few : bytes ≡ 72 = h.counted ∙ run_size (of_cycles 1) refl in omega (arith, few, h.above)

long : (deck : Deck) → run_tape_len deck ≡ 1073741825 → IsLongRun deck 1073741825
long deck counted = record { counted = sym counted; above = omega arith }

at_the_most : (deck : Deck) → IsLongRun deck 1073741824 → ⊥
at_the_most deck h = let above : 1073741824 < 1073741824 = h.above in omega arith

-- Three items on one disk in three slots, and from cycle 2 on on two disks in four; a given number of cycles.
abbrev changing : ℕ → Deck
changing cycles = record (of_cycles cycles) {
  items = item 10 3 ∷ item 20 2 ∷ item 30 1 ∷ [];
  disks = record { size = 3; freq = 1 } ∷ [];
  replans = record { cycle = 2; disks = record { size = 1; freq = 2 } ∷ record { size = 2; freq = 1 } ∷ [] } ∷ [];
}

-- Each bucket has 40 bytes on the tape; a replan after the aired cycles adds none.
changing_bytes : (run_tape_len (changing 0) ≡ 0) × (run_tape_len (changing 1) ≡ 120) × (run_tape_len (changing 3) ≡ 440)
unfolding order order_with cut program least_common_multiple num_minors num_chunks chunk_len chunk minor_cycle
changing_bytes = (run_sum (changing 0), run_sum (changing 1), run_sum (changing 3))

changing_buckets : (bucket_count (changing 0) ≡ 0) × (bucket_count (changing 1) ≡ 3) × (bucket_count (changing 3) ≡ 11)
unfolding order order_with cut program least_common_multiple num_minors num_chunks chunk_len chunk minor_cycle
changing_buckets = (refl, refl, refl)

-- Its air is that of its plans; that of a deck without replans isn't.
own_is : IsAirOf 0 (values_in (changing 3)) (form_of (air_of (changing 3))) (plans_in (changing 3)) (air_of (changing 3))
own_is = own_air (changing 3) 0 (plans_in (changing 3)) (values_in (changing 3)) (form_of (air_of (changing 3))) refl refl refl refl

not_own : (values : List ℕ) (form : Form) → IsAirOf 0 values form (plans_in (changing 3)) (air_of pair) → ⊥
not_own values form h = let second : 0 ≡ 1 = h.edition_is 2 in omega (arith, second)

-- ---- casts

sent_whole : all_sent ((7 ∷ []) ∷ (8 ∷ []) ∷ []) ≡ record { buckets = (7 ∷ []) ∷ (8 ∷ []) ∷ []; ended = Some 2 }
sent_whole = refl

sent_first : first_sent 1 ((7 ∷ []) ∷ (8 ∷ []) ∷ []) ≡ record { buckets = (7 ∷ []) ∷ []; ended = None }
sent_first = refl

-- A history without a cycle airs no bucket.
no_bucket : (deck : Deck) (H : List Event) → starts H ≡ 0 → length (aired_bytes deck H) ≡ 0
unfolding buckets_of
no_bucket deck H none = ap (λ n. length (map spelling (flat_map (cycle_buckets (values_in deck) (air_of deck) H) (range_with_len 1 n)))) none

none_whole : IsWhole (of_cycles 0) []
unfolding starts
none_whole = record { legal = λ p by seq update e. absurd (nothing p e); all = none_made; cycles = refl }
  where
    nothing : {e : Event} (p : ℕ) → slice_get [] p ≡ Some e → ⊥
    nothing p e = cc

cast_part : IsCastBeginning (of_cycles 0) 0 (Some nothing_sent) (Some nothing_sent)
cast_part = record { history = []; whole = none_whole; within = omega arith; sent = refl }

-- The end that a mast tells.
abbrev end_told : Option SentBuckets → Option ℕ
end_told None = None
end_told (Some s) = s.ended

-- No bucket of a deck without cycles is sent; and an end is no part.
not_cast_part : (IsCastBeginning (of_cycles 0) 1 (Some nothing_sent) (Some nothing_sent) → ⊥) × (IsCastBeginning (of_cycles 0) 0 (Some nothing_sent) (Some (all_sent [])) → ⊥)
not_cast_part = (
  λ h. let none = no_bucket (of_cycles 0) h.history h.whole.cycles in omega (arith, none, h.within),
  λ h. let ended : ◌≡◌ {A = Option ℕ} (Some 0) None = ap end_told h.sent in cc,
)

-- ---- jobs

-- The board of one start is that of a pass that has seen it; the board before it isn't.
board_kept_up : (p : PassState) → p.seen ≡ one_start → IsBoardOf p (board_of p.values one_start)
board_kept_up p seen = record { beginning = one_start; later = []; begins = seen; ends = inr ([], refl); rest = starts_none; board = refl }

not_board : (p : PassState) → p.seen ≡ one_start → IsBoardOf p (board_of p.values []) → ⊥
not_board p seen h =
    let at : starts [] ≡ starts p.seen = board_at p (board_of p.values []) h in
    let one = ap starts seen ∙ starts_one in
    let none = starts_none in
    omega arith

-- A monitor that was told of a batch and looked once has seen it.
not_looked : (m n : MonitorState) (batch : List Event) → m.told ≡ batch ∷ [] → n.seen ≡ [] → LookedTimes 1 m n → ⊥
not_looked m n batch told seen h = none (h.told (omega arith))
  where
    none : IsPrefix m.told n.seen → ⊥
    none (rest, is) = let whole : (batch ∷ []) ++ rest ≡ [] = sym (ap (λ l. l ++ rest) told) ∙ is ∙ seen in cc

-- After all of no cycles the job can't run out of memory any more.
not_sent : {M : Type 0} (state : M → MastState) (p q : PassState) (f g : PublisherState) (before now : M)
    → SendsUpTo state (values_in pair) (air_of pair) 0 p q f g before now fault.NoMemory → ⊥
not_sent state p q f g before now h = omega (arith, h.1)

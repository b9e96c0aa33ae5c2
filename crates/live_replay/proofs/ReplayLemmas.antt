-- What a replay needs of the deck, and how far its numbers go.
use Rattle.std.proofs.Common.{◌≡◌, ℕ, ◌+◌, ◌%◌, ◌^◌, ◌<◌, ◌≤◌, ◌==◌, false, None, List, [], length, get_or, take, All, refl, sym, ◌∙◌, ap, arith, zero-add}
use Rattle.std.specs.List.{sum}
use Rattle.std.proofs.Math.Nat.{mod-add-mod}
use Rattle.std.proofs.lemmas.Bool.{eqb-true, false_from_ne_true}
use Rattle.std.proofs.lemmas.List.FromFn.{get_or-map-range_with_len, length-map-range_with_len}
use Rattle.std.proofs.lemmas.List.{get_or_default, length-map, take_all}
use Rattle.std.proofs.lemmas.List.Sums.{sum_by_more}
use Rattle.air_history.specs.declared.histories.Event.{Event}
use Rattle.air_history.specs.declared.histories.Event.TheVariants.{Commit, Start}
use Rattle.air_history.specs.declared.updates.Write.{Write}
use Rattle.air_history.specs.Histories.{is_start, event_at, front, starts, writer_before, writes, ItemsFit}
use Rattle.air_history.specs.Reads.{origin, read_value}
use Rattle.air_history.specs.Tables.{table, table_list, values_of}
use Rattle.air_history.proofs.HistoryLemmas.{front_within, writer_before_is}
use Rattle.air_history.proofs.OriginLemmas.{origin_whole}
use Rattle.air_history.proofs.PlaceLemmas.{any_at, last_unique}
use Rattle.air_history.proofs.ScanLemmas.{cycle_more_start, cycle_within}
use Rattle.air_model.specs.Reports.{total_at}
use Rattle.air_model.specs.Decks.{Deck, Item, IsDeck, IsLegal, values_in}
use Rattle.air_model.proofs.DeckLemmas.{events, items_fit}
use Rattle.live_replay.specs.declared.running.ReplayState.{ReplayState}
use Rattle.live_replay.specs.declared.replay.Replay.TheInside.{Inside}
use Rattle.live_replay.specs.declared.writes.ItemWrite.{ItemWrite}
use Rattle.live_replay.specs.Findings.{read_in_cycle}
use Rattle.live_replay.specs.Private.Writes.{writes_from}
use Rattle.live_replay.specs.Private.Replays.{IsReplay, replay_of}
use Rattle.live_replay.specs.Private.Runs.{IsReplayOfFirst}

-- The items of a legal history's updates are the deck's.
pub legal_fits : (deck : Deck) (H : List Event) → IsDeck deck → IsLegal deck H → All (ItemsFit (length deck.items)) H
legal_fits deck H is legal = λ p d l. items_fit (length deck.updates) (length deck.items) (get_or H p d) ((events deck H is legal).0 p d l)

pub values_length : (deck : Deck) → length (values_in deck) ≡ length deck.items
values_length deck = length-map deck.items (λ (i : Item). i.value)

-- A start that is run is one of the history's.
pub start_few : (V : List ℕ) (H : List Event) (n : ℕ) (run : ReplayState) (e : Event) → IsReplayOfFirst V H n run → n < length H → e ≡ get_or H n e → e ≡ Start → run.starts + 1 ≤ starts H
unfolding is_start
start_few V H n run e r l at start = omega (arith, r.starts, cycle_more_start H n e l at (ap is_start start), cycle_within H (n + 1))

-- The writes of an item that a replay keeps.
pub kept_writes : (r : Inside) → IsReplay r → (i : ℕ) (d : List ItemWrite) → i < length r.deck.now.items →
    get_or r.writes.items i d ≡ writes_from (values_in r.deck.now) (replay_of r).history i 0 (length (replay_of r).history)
kept_writes r is i d l =
    let within : i < length (values_in r.deck.now) = omega (arith, values_length r.deck.now) in
    get_or_default r.writes.items i d [] (let s = is.sized in omega arith) ∙ is.writes i within

-- The sum of values so far with the next one.
pub total_next : (V : List ℕ) (H : List Event) (c i total v : ℕ) → i < length V → total ≡ sum (take i (table_list V (front H c))) % 2 ^ 64 → v ≡ read_value (values_of V) H (read_in_cycle i c) →
    (total + v) % 2 ^ 64 ≡ sum (take (i + 1) (table_list V (front H c))) % 2 ^ 64
total_next V H c i total v l so_far is =
    let T = table_list V (front H c) in
    let within : i < length T = omega (arith, length-map-range_with_len (table (values_of V) (front H c)) 0 (length V)) in
    let here : v ≡ get_or T i 0 = is ∙ sym (get_or-map-range_with_len (table (values_of V) (front H c)) 0 (length V) i i 0 l (zero-add i)) in
    ap (λ t. (t + v) % 2 ^ 64) so_far ∙ mod-add-mod (sum (take i T)) (2 ^ 64) v
    ∙ ap (λ n. n % 2 ^ 64) (ap (λ w. sum (take i T) + w) here ∙ sym (sum_by_more (λ n. n) T i 0 within))

pub total_whole : (V : List ℕ) (H : List Event) (c i total : ℕ) → length V ≤ i → total ≡ sum (take i (table_list V (front H c))) % 2 ^ 64 → total ≡ total_at V H c
unfolding total_at
total_whole V H c i total l so_far =
    so_far ∙ ap (λ T. sum T % 2 ^ 64) (take_all i (table_list V (front H c)) (omega (arith, length-map-range_with_len (table (values_of V) (front H c)) 0 (length V))))

-- No commit writes an item that the deck doesn't have, so a read of it has no origin.
never_written : (n : ℕ) (e : Event) (i : ℕ) → ItemsFit n e → n ≤ i → writes e i ≡ false
unfolding ItemsFit writes
never_written n (Commit by seq u) i fits past = false_from_ne_true _ (λ h.
    let d : Write = record { item = 0; base = None; minus = false; amount = 0 } in
    let f = any_at (λ (w : Write). w.item == i) u.writes d h in
    let at : (get_or u.writes f.0 d).item ≡ i = eqb-true _ i f.2 in
    let below : (get_or u.writes f.0 d).item < n = fits.writes f.0 d f.1 in
    absurd (omega arith))
never_written n Start i fits past = refl

pub past_origin : (n : ℕ) (H : List Event) (i c : ℕ) → All (ItemsFit n) H → n ≤ i → origin H (read_in_cycle i c) ≡ None
past_origin n H i c fits past =
    let r = read_in_cycle i c in
    let m = length (front H c) in
    let within : m ≤ length H = front_within H c in
    origin_whole H r ∙ last_unique m (λ q. writes (event_at H q) i) (writer_before H m i) None (writer_before_is H m i)
    (λ q l. never_written n (event_at H q) i (fits q Start (omega arith)) past)

-- What is kept of a replay: the items of its history are the deck's.
pub kept_fits : (r : Inside) → IsReplay r → All (ItemsFit (length r.deck.now.items)) r.history.now
kept_fits r is = is.fits

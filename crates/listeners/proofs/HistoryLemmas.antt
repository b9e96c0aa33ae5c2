-- A history on the air: what its first events air, and what the sessions of readers are who heard all of it.
-- The calls of `histories` cite these, and crates above.
use Rattle.std.proofs.Common.{◌≡◌, ℕ, ◌+◌, ◌<◌, ◌≤◌, true, Some, List, [], ◌∷◌, ◌++◌, length, map, take, drop, get_or, refl, sym, ◌∙◌, ap, subst, arith, length-append}
use Rattle.std.proofs.lemmas.List.{get_or-take, length-take, take-append-drop, take-take, take_more}
use Rattle.std.proofs.lemmas.Option.{get_or_from_slice_get, slice_get-get_or, slice_get_within}
use Rattle.air_history.specs.declared.histories.Event.{Event}
use Rattle.air_history.specs.declared.histories.Event.TheVariants.{Commit, Start}
use Rattle.air_history.specs.Histories.{ItemsFit, is_start, starts}
use Rattle.air_history.specs.Boards.{Board, board_of}
use Rattle.air_model.specs.Aired.{air_of, history_tape}
use Rattle.air_model.specs.AiredLaws.{CanAir}
use Rattle.air_model.specs.Buckets.{spelling}
use Rattle.air_model.specs.Decks.{Deck, IsLegal, IsNextCommit, values_in}
use Rattle.air_model.specs.Tapes.{TapeRead}
use Rattle.air_model.proofs.DeckLemmas.{events, items_fit}
use Rattle.air_model.proofs.StartLemmas.{starts_append}
use Rattle.air_sender.specs.AiredBytes.{aired_bytes}
use Rattle.air_sender.proofs.AiredLemmas.{beginning_aired, buckets_none, start_event, values_kept}
use Rattle.air_sender.proofs.TapeLemmas.{tape_back}
use Rattle.listeners.specs.declared.hearers.Hearers.{Hearers}
use Rattle.listeners.specs.declared.readers.TheConstants.{MOST_TAPE_RECORDS}
use Rattle.listeners.specs.Hearings.{AreHearing, CanHearAfter}
use Rattle.listeners.specs.Private.HistorySteps.{CanHearNext}
use Rattle.listeners.proofs.ReaderLemmas.{few_records}

-- ---- the first events of a history

-- What they air begins what all of them air.
pub begins_aired : (deck : Deck) (H : List Event) (k : ℕ) → (rest : List (List ℕ)) × (aired_bytes deck H ≡ aired_bytes deck (take k H) ++ rest)
begins_aired deck H k =
    let front = beginning_aired deck (take k H) (drop k H) in
    (front.0, ap (aired_bytes deck) (sym (take-append-drop k H)) ∙ front.1)

-- So that is few records.
pub begins_few : (deck : Deck) (H : List Event) (k : ℕ) → length (aired_bytes deck H) ≤ MOST_TAPE_RECORDS → length (aired_bytes deck (take k H)) ≤ MOST_TAPE_RECORDS
begins_few deck H k few =
    let begun = begins_aired deck H k in
    omega (arith, few, ap length begun.1, length-append (aired_bytes deck (take k H)) begun.0)

-- They start no more cycles.
begins_starts : (H : List Event) (k : ℕ) → starts (take k H) ≤ starts H
begins_starts H k = omega (arith, ap starts (take-append-drop k H), starts_append (take k H) (drop k H))

-- They are legal.
begins_legal : (deck : Deck) (H : List Event) (k : ℕ) → IsLegal deck H → IsLegal deck (take k H)
begins_legal deck H k legal p by seq update at =
    let e : Event = Commit by seq update in
    let size = length-take k H in
    let inside : p < length (take k H) = slice_get_within (take k H) p e at in
    let within : p < k = omega arith in
    let below : p < length H = omega arith in
    let here : get_or H p Start ≡ e = sym (get_or-take k H p Start within) ∙ get_or_from_slice_get (take k H) p e Start at in
    subst (λ G. IsNextCommit deck G by seq update) (sym (take-take p k H (omega arith))) (legal p by seq update (slice_get-get_or H p Start below ∙ ap Some here))

-- So they can be aired.
pub begins_airing : (deck : Deck) (H : List Event) (k : ℕ) → CanAir deck H → CanAir deck (take k H)
begins_airing deck H k can = record {
  made = can.made;
  legal = begins_legal deck H k can.legal;
  cycles = (let most = begins_starts H k in let all = can.cycles in omega arith);
  slots = can.slots;
}

-- ---- the next event

-- Before all events.
pub none_heard_yet : (deck : Deck) (hearers : Hearers) → AreHearing deck [] hearers → AreHearing deck (aired_bytes deck []) hearers
none_heard_yet deck hearers heard = subst (λ rs. AreHearing deck rs hearers) (sym (ap (map spelling) (buckets_none (values_in deck) (air_of deck)))) heard

module _ (deck : Deck) (H : List Event) (k : ℕ) (e : Event) (within : k < length H) (at : e ≡ get_or H k e) where
  -- The events up to it are those before it, and it.
  pub next_up_to : take (k + 1) H ≡ take k H ++ e ∷ []
  next_up_to = take_more H k e within ∙ ap (λ e. take k H ++ e ∷ []) (sym at)

  -- It fits the board that those before it leave, and a cycle is left there.
  pub next_fits : (board : Board) → CanAir deck H → board ≡ board_of (values_in deck) (take k H) → ItemsFit (length board.values) e
  next_fits board can is =
      let fits = items_fit (length deck.updates) (length deck.items) _ ((events deck H can.made can.legal).0 k e within) in
      subst (λ n. ItemsFit n e) (sym (values_kept deck board (take k H) is)) (subst (ItemsFit (length deck.items)) (sym at) fits)

  pub next_room : (board : Board) → starts H + 1 < 4294967296 → board ≡ board_of (values_in deck) (take k H) → board.cycle + 1 < 4294967296
  next_room board few is =
      let cycle : board.cycle ≡ starts (take k H) = ap (λ (b : Board). b.cycle) is in
      omega (arith, cycle, begins_starts H k, few)

  -- Readers who were given what was aired before it can hear it.
  pub next_heard : (board : Board) (hearers : Hearers) → CanAir deck H → length (aired_bytes deck H) ≤ MOST_TAPE_RECORDS → board ≡ board_of (values_in deck) (take k H ++ e ∷ [])
      → AreHearing deck (aired_bytes deck (take k H)) hearers → CanHearNext deck (take k H) e board hearers
  next_heard board hearers can few is heard = record {
    can = subst (CanAir deck) next_up_to (begins_airing deck H (k + 1) can);
    few = subst (λ G. length (aired_bytes deck G) ≤ MOST_TAPE_RECORDS) next_up_to (begins_few deck H (k + 1) few);
    stepped = is;
    heard = heard;
  }

-- Where it starts a cycle, they can hear that.
pub start_follows : (deck : Deck) (G : List Event) (e : Event) (board : Board) (hearers : Hearers) → is_start e ≡ true → CanHearNext deck G e board hearers → CanHearAfter deck G hearers
start_follows deck G e board hearers start next =
    let same = start_event e start in
    record {
      can = subst (λ e. CanAir deck (G ++ e ∷ [])) same next.can;
      few = subst (λ e. length (aired_bytes deck (G ++ e ∷ [])) ≤ MOST_TAPE_RECORDS) same next.few;
      heard = next.heard;
    }

-- The board is then that of the start.
pub start_left : (deck : Deck) (G : List Event) (e : Event) (board : Board) (hearers : Hearers) → is_start e ≡ true → CanHearNext deck G e board hearers → board ≡ board_of (values_in deck) (G ++ Start ∷ [])
start_left deck G e board hearers start next = next.stepped ∙ ap (λ e. board_of (values_in deck) (G ++ e ∷ [])) (start_event e start)

-- ---- its tape

-- A tape has no fewer bytes than records.
pub few_aired : (deck : Deck) (H : List Event) → length (history_tape (values_in deck) (air_of deck) H) ≤ 1073741824 → length (aired_bytes deck H) ≤ 1073741824
few_aired deck H few =
    let tape = history_tape (values_in deck) (air_of deck) H in
    let back = tape_back deck H tape refl few in
    let count : length (aired_bytes deck H) ≤ length tape = subst (λ (t : TapeRead). length t.records ≤ length tape) back (few_records (length tape) 0 tape) in
    omega (arith, count, few)

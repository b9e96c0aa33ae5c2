-- A deck's readers, each of which has heard a list of its own: their numbers and sessions; and what a perfect ether gives.
-- The calls of `hearers` and `place_hearers` cite these, and crates above.
use Rattle.std.proofs.Common.{◌≡◌, ℕ, zero, suc, ◌+◌, ◌*◌, List, [], ◌∷◌, length, map, refl, sym, ◌∙◌, ap}
use Rattle.std.specs.List.{range_with_len}
use Rattle.std.proofs.lemmas.List.FromFn.{length-map-range_with_len}
use Rattle.air_model.specs.Aired.{scheme_in}
use Rattle.air_model.specs.Buckets.{bucket_in}
use Rattle.air_model.specs.Decks.{Deck}
use Rattle.air_model.specs.Draws.{words_of}
use Rattle.air_model.specs.Ethers.{Odds, heard_by}
use Rattle.air_model.specs.Judges.{by_entries}
use Rattle.air_model.specs.Outputs.{odds_in, sessions_over}
use Rattle.air_model.specs.ReceiverLaws.{session_of}
use Rattle.air_model.specs.Sessions.{State}
use Rattle.air_model.proofs.EtherLemmas.{clear_ether}
use Rattle.listeners.specs.Hearings.{IsPerfect}
use Rattle.listeners.specs.Listeners.{AreNumbered, Listener, end_state, hears, listener_of}
use Rattle.listeners.proofs.HearLemmas.{session_is}
use Rattle.listeners.proofs.ReaderLemmas.{keeps_number}

-- ---- what each has heard

-- All readers of a deck, each of which has heard a list of its own.
abbrev pub readers_over : Deck → (ℕ → List (List ℕ)) → List Listener
readers_over deck heard = map (λ r. hears (map bucket_in (heard r)) (listener_of deck r)) (range_with_len 0 (length deck.readers))

-- What each reader's ether gives of these records.
abbrev pub ethers_in : Deck → List (List ℕ) → ℕ → List (List ℕ)
ethers_in deck records r = heard_by deck.settings.seed r (odds_in deck) records

numbers_over : (deck : Deck) (heard : ℕ → List (List ℕ)) (n k : ℕ) → map (λ (l : Listener). l.number) (map (λ r. hears (map bucket_in (heard r)) (listener_of deck r)) (range_with_len n k)) ≡ range_with_len n k
numbers_over deck heard n zero = refl
numbers_over deck heard n (suc k) =
    ap (λ x. x ∷ map (λ (l : Listener). l.number) (map (λ r. hears (map bucket_in (heard r)) (listener_of deck r)) (range_with_len (n + 1) k))) (keeps_number (map bucket_in (heard n)) (listener_of deck n))
    ∙ ap (λ xs. n ∷ xs) (numbers_over deck heard (n + 1) k)

pub numbered_over : (deck : Deck) (heard : ℕ → List (List ℕ)) → AreNumbered (readers_over deck heard)
numbered_over deck heard =
    let n = length deck.readers in
    numbers_over deck heard 0 n ∙ ap (range_with_len 0) (sym (length-map-range_with_len (λ r. hears (map bucket_in (heard r)) (listener_of deck r)) 0 n))

-- So their sessions are those over what they heard.
pub sessions_over_each : (deck : Deck) (heard : ℕ → List (List ℕ)) → map end_state (readers_over deck heard) ≡ sessions_over (by_entries (scheme_in deck)) deck heard
sessions_over_each deck heard = same (range_with_len 0 (length deck.readers))
  where
    over : ℕ → Listener
    over r = hears (map bucket_in (heard r)) (listener_of deck r)

    session : ℕ → State
    session r = session_of (by_entries (scheme_in deck)) deck r (map bucket_in (heard r))

    same : (readers : List ℕ) → map end_state (map over readers) ≡ map session readers
    same [] = refl
    same (r ∷ readers) = ap (λ s. s ∷ map end_state (map over readers)) (session_is deck r (map bucket_in (heard r))) ∙ ap (λ l. session r ∷ l) (same readers)

-- ---- where nothing is lost, heard again or delayed

-- The odds of an ether that gives what it is given.
abbrev clear_odds : Odds
clear_odds = record { loss = 0; again = 0; late = 0 }

-- Those of such a deck.
odds_are_clear : (deck : Deck) → IsPerfect deck → odds_in deck ≡ clear_odds
odds_are_clear deck clear =
    ap (λ n. let o : Odds = record { loss = n; again = deck.settings.again; late = deck.settings.late } in o) clear.loss
    ∙ ap (λ n. let o : Odds = record { loss = 0; again = n; late = deck.settings.late } in o) clear.again ∙ ap (λ n. let o : Odds = record { loss = 0; again = 0; late = n } in o) clear.late

-- Each of its readers hears all records.
pub clear_heard : (deck : Deck) (records : List (List ℕ)) (r : ℕ) → IsPerfect deck → records ≡ ethers_in deck records r
unfolding heard_by
clear_heard deck records r clear =
    sym (ap (λ odds. heard_by deck.settings.seed r odds records) (odds_are_clear deck clear) ∙ clear_ether (words_of deck.settings.seed r (3 * length records)) records)

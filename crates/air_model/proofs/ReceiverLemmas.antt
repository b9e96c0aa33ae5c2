-- The sessions of a deck's readers over what a history aired: the laws of sessions put together.
use Rattle.std.proofs.Common.{◌≡◌, ℕ, zero, suc, ◌+◌, ◌*◌, ◌<◌, ◌≤◌, Option, Some, None, List, ◌∷◌, length, map, get_or, All, refl, sym, ◌∙◌, ap, subst, arith}
use Rattle.std.specs.Prelude.{IfSome, IsTrue}
use Rattle.std.specs.List.{range_with_len}
use Rattle.air_history.specs.declared.histories.Event.{Event}
use Rattle.air_model.specs.Buckets.{Bucket, bucket_in, spelling}
use Rattle.air_model.specs.Decks.{values_in, Deck, IsDeck}
use Rattle.air_model.specs.Draws.{words_of}
use Rattle.air_model.specs.Ethers.{heard_by}
use Rattle.air_model.specs.Aired.{scheme_in, Air, IsAired, IsAiredBucket, air_of, buckets_of, fits}
use Rattle.air_model.specs.Judges.{by_entries, by_history}
use Rattle.air_model.specs.Sessions.{State, reader_of}
use Rattle.air_model.specs.SessionLaws.{CyclesFromOne, IsExactLine, IsSoundLine, QueriesFilled}
use Rattle.air_model.specs.ReceiverLaws.{IsTrueSession, session_of}
use Rattle.air_model.specs.Outputs.{ether_of, odds_in, sessions_over, true_sessions}
use Rattle.air_model.specs.AiredLaws.{CanAir}
use Rattle.air_model.proofs.DeckLemmas.{air}
use Rattle.air_model.proofs.EtherLemmas.{heard_was_pushed}
use Rattle.air_model.proofs.JudgeLemmas.{judges}
use Rattle.air_model.proofs.RangeLemmas.{bytes_aired}
use Rattle.air_model.proofs.SoundLemmas.{sound}
use Rattle.air_model.proofs.ExactLemmas.{exact}

cycles_from : (values : List ℕ) (air : Air) (H : List Event) (heard : List (Option Bucket)) → IsAired values air H heard → CyclesFromOne air heard
cycles_from values air H heard h k d l = by (get_or heard k d) (h k d l)
  where
    by : (o : Option Bucket) → IfSome o (λ b. IsTrue (fits air b) → IsAiredBucket values air H b) → IfSome o (λ b. IsTrue (fits air b) → 1 ≤ b.cycle)
    by None h = tt
    by (Some b) h = λ t. (h t).from_one

pub receiver : (deck : Deck) (H : List Event) (r : ℕ) (heard : List (Option Bucket)) → IsDeck deck → r < length deck.readers →
    IsAired (values_in deck) (air_of deck) H heard → IsTrueSession deck H r heard
receiver deck H r heard is l aired =
    let a = air_of deck in
    let reader = reader_of deck r in
    let policy = deck.settings.policy in
    let known = air deck is in
    let filled : QueriesFilled reader = known.1 r in
    let cycles = cycles_from (values_in deck) a H heard aired in
    let same = sym (judges (values_in deck) a H reader heard known.0 filled aired) in
    record {
      same = same;
      sound = subst (λ (s : State). All (IsSoundLine (values_in deck) policy H) s.lines) (sym same) (sound (values_in deck) a H reader heard filled cycles);
      exact = λ f g. subst (λ (s : State). All (IsExactLine deck.settings.version H reader) s.lines) (sym same) (exact (values_in deck) a H reader heard f g filled cycles);
    }

map_numbers : {X : Type 0} (f g : ℕ → X) (a n : ℕ) → ((k : ℕ) → a ≤ k → k < a + n → f k ≡ g k) → map f (range_with_len a n) ≡ map g (range_with_len a n)
map_numbers f g a zero h = refl
map_numbers f g a (suc n) h =
    ap (λ x. x ∷ map f (range_with_len (a + 1) n)) (h a (omega arith) (omega arith))
    ∙ ap (λ l. g a ∷ l) (map_numbers f g (a + 1) n (λ k low high. h k (omega arith) (omega arith)))

pub true_sessions_are : (deck : Deck) (H : List Event) → CanAir deck H →
    sessions_over (by_entries (scheme_in deck)) deck (ether_of deck H) ≡ true_sessions deck H
unfolding true_sessions heard_by
true_sessions_are deck H can = map_numbers (λ r. session_of (by_entries (scheme_in deck)) deck r (map bucket_in (ether_of deck H r)))
    (λ r. session_of (by_history (scheme_in deck) (length deck.items) (values_in deck) H) deck r (map bucket_in (ether_of deck H r))) 0 (length deck.readers)
    (λ r low high.
    let records = map spelling (buckets_of (values_in deck) (air_of deck) H) in
    let heard = heard_was_pushed (odds_in deck) (words_of deck.settings.seed r (3 * length records)) records in
    (receiver deck H r (map bucket_in (ether_of deck H r)) can.made (omega arith) ((bytes_aired deck H (ether_of deck H r) can heard).0)).same)

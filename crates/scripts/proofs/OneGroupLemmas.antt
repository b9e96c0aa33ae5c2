-- Decks that differ only in having groups of 1 or of 0 items tell the same on the air.
use Rattle.std.proofs.Common.{◌≡◌, ℕ, cond, ◌&&◌, ◌==◌, nat_le, nat_lt, get_or, Option, Some, None, List, [], ◌∷◌, length, map, max, refl, ◌∙◌, ap}
use Rattle.std.specs.List.{flat_map, range_with_len}
use Rattle.std.specs.Fn.{iterate}
use Rattle.std.specs.Prelude.{sum_by}
use Rattle.std.proofs.Math.Path.{fun_ext}
use Rattle.air_base.specs.declared.verdicts.Clash.{Clash}
use Rattle.air_base.specs.declared.verdicts.Policy.{Policy}
use Rattle.air_base.specs.declared.verdicts.Policy.TheVariants.{FMatrix, Datacycle, RMatrix}
use Rattle.air_history.specs.declared.histories.Event.{Event}
use Rattle.air_history.specs.Clashes.{clash_of}
use Rattle.air_history.specs.Columns.{Scheme, aired_entries}
use Rattle.air_history.specs.Histories.{starts}
use Rattle.air_history.specs.Reads.{ReadAt, read_value}
use Rattle.air_history.specs.Tables.{values_of}
use Rattle.air_history.proofs.OneGroupLemmas.{one_aired, one_clash}
use Rattle.air_model.specs.Aired.{Air, air_of, aired_as, body_fits, body_of, bucket_of, buckets_of, edition_at, fits, slots_at}
use Rattle.air_model.specs.Buckets.{Body, Bucket, Column, Idle, Vector, capped_bucket, spelling, bucket_in}
use Rattle.air_model.specs.Decks.{Deck, values_in}
use Rattle.air_model.specs.Judges.{Judge, by_entries, by_history, place_of}
use Rattle.air_model.specs.Outputs.{ether_of, odds_in, true_sessions}
use Rattle.air_model.specs.Reads.{Read}
use Rattle.air_model.specs.ReceiverLaws.{session_of}
use Rattle.air_model.specs.Sessions.{Reader, State, comes_aged, comes_late, count_dozed, count_late, is_wanted, start, read_in, is_unusable, accept_if_whole, hold, abort, end_aged, turn_with, turn, settle, decide, judge_read, open_bucket, offer, hear_read, hear, hear_all, end_query, end, session, copy_of, wanted, count_opened, count_foreign, reader_of}
use Rattle.air_model.specs.Ethers.{heard_by}
use Rattle.air_model.specs.Tapes.{tape_of}
use Rattle.scripts.specs.OneGroups.{OneIsNone, with_group}

-- The scheme of a policy with groups of g items.
abbrev scheme : Policy → ℕ → Scheme
scheme policy g = record { policy = policy; group = g }

-- ---- what is aired, and what clashes

same_entries : (policy : Policy) (n : ℕ) (H : List Event) (c j : ℕ) → aired_entries (scheme policy 1) n H c j ≡ aired_entries (scheme policy 0) n H c j
same_entries FMatrix n H c j = one_aired n H c j
same_entries Datacycle n H c j = refl
same_entries RMatrix n H c j = refl

same_clash : (policy : Policy) (n : ℕ) (H : List Event) (R : List ReadAt) (x : ReadAt) → clash_of (scheme policy 1) n H R x ≡ clash_of (scheme policy 0) n H R x
same_clash FMatrix n H R x = one_clash n H R x
same_clash Datacycle n H R x = refl
same_clash RMatrix n H R x = refl

same_judge : (policy : Policy) (n : ℕ) (values : List ℕ) (H : List Event) → by_history (scheme policy 1) n values H ≡ by_history (scheme policy 0) n values H
unfolding by_history
same_judge policy n values H =
    ap (λ f. let judge : Judge = record { value = λ r. read_value (values_of values) H (place_of r); clash = f } in judge)
    (fun_ext (λ R. fun_ext (λ x. same_clash policy n H (map place_of R) (place_of x))))

module _ (policy : Policy) (version items : ℕ) (replans : List ℕ) (slots : List (List (Option ℕ))) (pix : List (List ℕ)) where
  -- What receivers know, with groups of g items.
  abbrev air : ℕ → Air
  air g = record { scheme = scheme policy g; version = version; items = items; replans = replans; slots = slots; pix = pix }

  same_body : (values : List ℕ) (H : List Event) (c : ℕ) (o : Option ℕ) → body_of values (air 1) H c o ≡ body_of values (air 0) H c o
  unfolding body_of
  same_body values H c None = refl
  same_body values H c (Some i) = ap (aired_as policy i (read_value (values_of values) H (record { item = i; cycle = c }))) (same_entries policy items H c i)

  same_bucket : (values : List ℕ) (H : List Event) (v c s : ℕ) → bucket_of values (air 1) H v c s ≡ bucket_of values (air 0) H v c s
  unfolding bucket_of
  same_bucket values H v c s =
      ap (λ y. let b : Bucket = record { version = v; edition = edition_at (air 0) c; cycle = c; slot = s; body = y } in capped_bucket b)
      (same_body values H c (get_or (slots_at (air 0) c) s None))

  same_buckets : (values : List ℕ) (H : List Event) → buckets_of values (air 1) H ≡ buckets_of values (air 0) H
  unfolding buckets_of
  same_buckets values H =
      ap (λ f. flat_map f (range_with_len 1 (starts H)))
      (fun_ext (λ c. ap (λ f. map f (range_with_len 0 (length (slots_at (air 0) c)))) (fun_ext (λ s. same_bucket values H version c s))))

  -- ---- a session knows the groups from its judge alone

  module _ (g h : ℕ) (judge : Judge) (reader : Reader) where
    same_hold : (x : Read) (s : State) → hold judge (air g) reader x s ≡ hold judge (air h) reader x s
    unfolding hold accept_if_whole
    same_hold x s = refl

    same_turn_with : (o : Option Read) (s : State) → turn_with judge (air g) reader o s ≡ turn_with judge (air h) reader o s
    unfolding turn_with is_unusable hold accept_if_whole
    same_turn_with None s = refl
    same_turn_with (Some x) s = refl

    same_settle : (s : State) → settle judge (air g) reader s ≡ settle judge (air h) reader s
    unfolding settle turn
    same_settle s = ap (λ f. iterate f (sum_by length reader.queries) s) (fun_ext (λ t. same_turn_with (copy_of (wanted reader t) t) t))

    same_decide : (x : Read) (o : Option Clash) (s : State) → decide judge (air g) reader x o s ≡ decide judge (air h) reader x o s
    unfolding decide hold accept_if_whole abort
    same_decide x None s = refl
    same_decide x (Some clash) s = refl

    same_judge_read : (x : Read) (s : State) → judge_read judge (air g) reader x s ≡ judge_read judge (air h) reader x s
    unfolding judge_read end_aged
    same_judge_read x s = ap (cond (comes_aged (air g) s x) (end_aged judge (air g) reader x s)) (same_decide x (judge.clash s.held x) s)

    same_hear_read : (o : Option Read) (s : State) → hear_read judge (air g) reader o s ≡ hear_read judge (air h) reader o s
    unfolding hear_read open_bucket offer
    same_hear_read None s = refl
    same_hear_read (Some x) s =
        ap (λ t. cond (is_wanted (wanted reader s) x.item) (cond (comes_late (air g) s x) (count_late s) (offer (air h) reader x t)) (count_dozed s))
        (same_judge_read x (count_opened s))

    same_fit : (o : Option ℕ) (y : Body) → body_fits (air g) o y ≡ body_fits (air h) o y
    unfolding body_fits
    same_fit o (Idle count) = refl
    same_fit o (Column item value entries) = refl
    same_fit o (Vector item value entries) = refl

    same_fits : (b : Bucket) → fits (air g) b ≡ fits (air h) b
    unfolding fits
    same_fits b = ap (λ t. nat_le b.version version && (b.edition == edition_at (air g) b.cycle) && nat_lt b.slot (length (slots_at (air g) b.cycle)) && t)
        (same_fit (get_or (slots_at (air g) b.cycle) b.slot None) b.body)

    same_hear : (o : Option Bucket) (s : State) → hear judge (air g) reader o s ≡ hear judge (air h) reader o s
    unfolding hear
    same_hear None s = refl
    same_hear (Some b) s =
        ap (λ t. cond t (hear_read judge (air g) reader (read_in b.cycle b.body) (record s { now = max s.now b.cycle })) (count_foreign s)) (same_fits b)
        ∙ ap (λ t. cond (fits (air h) b) t (count_foreign s)) (same_hear_read (read_in b.cycle b.body) (record s { now = max s.now b.cycle }))

    same_heard : (heard : List (Option Bucket)) (s : State) → hear_all judge (air g) reader heard s ≡ hear_all judge (air h) reader heard s
    unfolding hear_all
    same_heard [] s = same_settle s
    same_heard (o ∷ heard) s =
        same_heard heard (hear judge (air g) reader o (settle judge (air g) reader s))
        ∙ ap (hear_all judge (air h) reader heard) (same_hear o (settle judge (air g) reader s) ∙ ap (hear judge (air h) reader o) (same_settle s))

    same_end : (s : State) → end judge (air g) reader s ≡ end judge (air h) reader s
    unfolding end end_query
    same_end s = refl

    same_session : (heard : List (Option Bucket)) → session judge (air g) reader heard ≡ session judge (air h) reader heard
    unfolding session
    same_session heard = same_end (hear_all judge (air g) reader heard start) ∙ ap (end judge (air h) reader) (same_heard heard start)

-- ---- decks

module _ (deck : Deck) where
  abbrev one : Deck
  one = with_group 1 deck

  abbrev none : Deck
  none = with_group 0 deck

  same_aired : (H : List Event) → buckets_of (values_in one) (air_of one) H ≡ buckets_of (values_in none) (air_of none) H
  same_aired H = same_buckets deck.settings.policy deck.settings.version (length deck.items) (air_of none).replans (air_of none).slots (air_of none).pix (values_in none) H

  same_of : (judge : Judge) (r : ℕ) (heard : List (Option Bucket)) → session_of judge one r heard ≡ session_of judge none r heard
  same_of judge r heard =
      same_session deck.settings.policy deck.settings.version (length deck.items) (air_of none).replans (air_of none).slots (air_of none).pix 1 0 judge (reader_of none r) heard

  same_judged : (H : List Event) (r : ℕ) (heard : List (Option Bucket)) →
      session_of (by_history (scheme deck.settings.policy 1) (length deck.items) (values_in none) H) one r heard ≡ session_of (by_history (scheme deck.settings.policy 0) (length deck.items) (values_in none) H) none r heard
  same_judged H r heard = ap (λ judge. session_of judge one r heard) (same_judge deck.settings.policy (length deck.items) (values_in none) H) ∙ same_of _ r heard

  same_sessions : (H : List Event) → true_sessions one H ≡ true_sessions none H
  unfolding true_sessions
  same_sessions H =
      ap (λ f. map f (range_with_len 0 (length deck.readers)))
      (fun_ext (λ r.
      same_judged H r (map bucket_in (ether_of one H r))
      ∙ ap (λ bs. session_of (by_history (scheme deck.settings.policy 0) (length deck.items) (values_in none) H) none r (map bucket_in (heard_by deck.settings.seed r (odds_in none) (map spelling bs)))) (same_aired H)))

pub one_is_none : (deck : Deck) → OneIsNone deck
unfolding by_entries
one_is_none deck = record {
  tape = λ H. ap (λ bs. tape_of (map spelling bs)) (same_aired deck H);
  heard = λ r heard. same_of deck (by_entries (scheme deck.settings.policy 0)) r heard;
  judged = λ H r heard. same_judged deck H r heard;
  sessions = same_sessions deck;
}

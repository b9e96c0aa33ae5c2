-- What batches air, one after another.
use Rattle.std.proofs.Common.{◌≡◌, ℕ, zero, suc, ◌+◌, List, [], ◌∷◌, ◌++◌, length, take, All, refl, sym, ◌∙◌, ap, subst, arith, append_assoc}
use Rattle.std.specs.List.{flat_map, range_with_len}
use Rattle.std.proofs.lemmas.List.{append-nil}
use Rattle.std.proofs.lemmas.List.Elements.{All-head, All-tail}
use Rattle.air_history.specs.declared.histories.Event.{Event}
use Rattle.air_history.specs.declared.histories.Event.TheVariants.{Start}
use Rattle.air_history.specs.Histories.{is_start, starts, events_in}
use Rattle.air_model.specs.Aired.{Air, air_of, buckets_of, cycle_buckets}
use Rattle.air_model.specs.Buckets.{Bucket}
use Rattle.air_model.specs.Closings.{GoesOnWithout}
use Rattle.air_model.specs.Decks.{Deck, values_in}
use Rattle.air_model.specs.Batches.{AirsByBatches, EndsWithStart, aired_by, last_buckets}
use Rattle.air_model.proofs.AiringLemmas.{buckets_behind, same_buckets}
use Rattle.air_model.proofs.StartLemmas.{starts_append, starts_none, starts_one}

-- A batch has one start.
batch_starts : (b : List Event) → EndsWithStart b → starts b ≡ 1
batch_starts b is = ap starts is.ends ∙ (let a = starts_append is.commits (Start ∷ []) in let one = starts_one in let none = is.one in omega arith)

-- There are as many starts as batches.
all_starts : (bs : List (List Event)) → All EndsWithStart bs → starts (events_in bs) ≡ length bs
all_starts [] all = starts_none
all_starts (b ∷ bs) all =
    let a = starts_append b (events_in bs) in
    let one = batch_starts b (All-head EndsWithStart b bs all) in
    let rest = all_starts bs (All-tail EndsWithStart b bs all) in
    omega arith

-- One number further on.
flat_next : {X : Type 0} (f : ℕ → List X) (a n : ℕ) → flat_map f (range_with_len (a + 1) n) ≡ flat_map (λ k. f (k + 1)) (range_with_len a n)
flat_next f a zero = refl
flat_next f a (suc n) = ap (λ l. f (a + 1) ++ l) (flat_next f (a + 1) n)

module _ (values : List ℕ) (air : Air) where
  -- A history with one more start airs also the cycle that this one starts.
  one_more : (G b : List Event) → starts b ≡ 1 → buckets_of values air (G ++ b) ≡ buckets_of values air G ++ last_buckets values air (G ++ b)
  one_more G b one =
      let cycle : ℕ → List Bucket = cycle_buckets values air (G ++ b) in
      let last : 1 + starts G ≡ starts (G ++ b) = let a = starts_append G b in omega arith in
      buckets_behind values air G b
      ∙ ap (λ n. buckets_of values air G ++ flat_map cycle (range_with_len (1 + starts G) n)) one
      ∙ ap (λ l. buckets_of values air G ++ l) (append-nil (cycle (1 + starts G)))
      ∙ ap (λ c. buckets_of values air G ++ cycle c) last

  -- After a history its batches air their cycles.
  all_more : (G : List Event) (bs : List (List Event)) → All EndsWithStart bs
      → buckets_of values air (G ++ events_in bs) ≡ buckets_of values air G ++ flat_map (λ n. last_buckets values air (G ++ events_in (take n bs))) (range_with_len 1 (length bs))
  all_more G [] all = ap (buckets_of values air) (append-nil G) ∙ sym (append-nil (buckets_of values air G))
  all_more G (b ∷ bs) all =
      let f : ℕ → List Bucket = λ n. last_buckets values air (G ++ events_in (take n (b ∷ bs))) in
      let g : ℕ → List Bucket = λ n. last_buckets values air ((G ++ b) ++ events_in (take n bs)) in
      let first : last_buckets values air (G ++ b) ≡ f 1 = ap (λ l. last_buckets values air (G ++ l)) (sym (append-nil b)) in
      let next : (n : ℕ) → g n ≡ f (n + 1) = λ n.
      let up : suc n ≡ n + 1 = omega arith in
      ap (last_buckets values air) (append_assoc G b (events_in (take n bs))) ∙ ap f up in
      ap (buckets_of values air) (sym (append_assoc G b (events_in bs)))
      ∙ all_more (G ++ b) bs (All-tail EndsWithStart b bs all)
      ∙ ap (λ l. l ++ flat_map g (range_with_len 1 (length bs))) (one_more G b (batch_starts b (All-head EndsWithStart b bs all)))
      ∙ append_assoc (buckets_of values air G) (last_buckets values air (G ++ b)) (flat_map g (range_with_len 1 (length bs)))
      ∙ ap (λ l. buckets_of values air G ++ (l ++ flat_map g (range_with_len 1 (length bs)))) first
      ∙ ap (λ l. buckets_of values air G ++ (f 1 ++ l)) (same_each g (λ n. f (n + 1)) next 1 (length bs) ∙ sym (flat_next f 1 (length bs)))
    where
      same_each : (f g : ℕ → List Bucket) → ((n : ℕ) → f n ≡ g n) → (a n : ℕ) → flat_map f (range_with_len a n) ≡ flat_map g (range_with_len a n)
      same_each f g h a zero = refl
      same_each f g h a (suc n) = ap (λ l. l ++ flat_map f (range_with_len (a + 1) n)) (h a) ∙ ap (λ l. g a ++ l) (same_each f g h (a + 1) n)

  none_aired : buckets_of values air [] ≡ []
  unfolding buckets_of starts
  none_aired = refl

  pub joined_air : (bs : List (List Event)) → All EndsWithStart bs → buckets_of values air (events_in bs) ≡ aired_by values air bs
  joined_air bs all = all_more [] bs all ∙ ap (λ l. l ++ aired_by values air bs) none_aired

-- Batches air the history that they make, also with any events after it that have no start.
pub airs_by_batches : (deck : Deck) (batches : List (List Event)) (rest : List Event) → All EndsWithStart batches → starts rest ≡ 0 → AirsByBatches deck (events_in batches ++ rest) batches
airs_by_batches deck batches rest all none =
    let values = values_in deck in
    let air = air_of deck in
    record {
      count = let a = starts_append (events_in batches) rest in let b = all_starts batches all in omega arith;
      each = all;
      rest = rest;
      history = refl;
      quiet = none;
      aired = same_buckets values air (events_in batches) rest none ∙ joined_air values air batches all;
    }

-- They also do if the history continues without a start.
pub airs_further : (deck : Deck) (seen H : List Event) (batches : List (List Event)) → GoesOnWithout is_start seen H → AirsByBatches deck seen batches → AirsByBatches deck H batches
unfolding starts
airs_further deck seen H batches (others, is, none) by =
    let none_more : starts (by.rest ++ others) ≡ 0 = let a = starts_append by.rest others in let b = by.quiet in omega (arith, a, b, none) in
    let same : events_in batches ++ (by.rest ++ others) ≡ H = sym (append_assoc (events_in batches) by.rest others) ∙ ap (λ l. l ++ others) (sym by.history) ∙ sym is in
    subst (λ l. AirsByBatches deck l batches) same (airs_by_batches deck batches (by.rest ++ others) by.each none_more)

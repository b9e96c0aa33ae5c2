-- Events after a history only air more buckets.
use Rattle.std.proofs.Common.{◌≡◌, ℕ, zero, suc, ◌+◌, ◌<◌, List, [], ◌∷◌, ◌++◌, length, map, refl, ◌∙◌, ap, arith}
use Rattle.std.specs.List.{flat_map, range_with_len}
use Rattle.std.proofs.lemmas.Grind.{flat_map-append}
use Rattle.air_history.specs.declared.histories.Event.{Event}
use Rattle.air_history.specs.Histories.{starts}
use Rattle.air_model.specs.Buckets.{Bucket}
use Rattle.air_model.specs.Aired.{Air, bucket_of, buckets_of, cycle_buckets, slots_at}
use Rattle.air_model.proofs.LaterLemmas.{later}
use Rattle.air_model.proofs.StartLemmas.{starts_append}

range_append : (a m n : ℕ) → range_with_len a (m + n) ≡ range_with_len a m ++ range_with_len (a + m) n
range_append a zero n =
    let none : 0 + n ≡ n = omega arith in
    let same : a ≡ a + 0 = omega arith in
    ap (range_with_len a) none ∙ ap (λ k. range_with_len k n) same
range_append a (suc m) n =
    let long : suc m + n ≡ suc (m + n) = omega arith in
    let from : a + 1 + m ≡ a + suc m = omega arith in
    ap (range_with_len a) long
    ∙ ap (λ l. a ∷ l) (range_append (a + 1) m n)
    ∙ ap (λ k. a ∷ (range_with_len (a + 1) m ++ range_with_len k n)) from

-- Two functions that agree on a range.
flat_same : {X : Type 0} (f g : ℕ → List X) (a n : ℕ) → ((c : ℕ) → c < a + n → f c ≡ g c) → flat_map f (range_with_len a n) ≡ flat_map g (range_with_len a n)
flat_same f g a zero h = refl
flat_same f g a (suc n) h =
    ap (λ l. l ++ flat_map f (range_with_len (a + 1) n)) (h a (omega arith))
    ∙ ap (λ l. g a ++ l) (flat_same f g (a + 1) n (λ c l. h c (omega arith)))

pub map_same : {X : Type 0} (f g : ℕ → X) (xs : List ℕ) → ((s : ℕ) → f s ≡ g s) → map f xs ≡ map g xs
map_same f g [] h = refl
map_same f g (x ∷ xs) h = ap (λ y. y ∷ map f xs) (h x) ∙ ap (λ l. g x ∷ l) (map_same f g xs h)

-- What is aired after a history: the cycles that the events after it start.
pub buckets_behind : (values : List ℕ) (air : Air) (H after : List Event) → buckets_of values air (H ++ after)
    ≡ buckets_of values air H ++ flat_map (cycle_buckets values air (H ++ after)) (range_with_len (1 + starts H) (starts after))
unfolding buckets_of
buckets_behind values air H after =
    let cycle : List Event → ℕ → List Bucket = λ G. cycle_buckets values air G in
    let m = starts H in
    let n = starts after in
    let more = flat_map (cycle (H ++ after)) (range_with_len (1 + m) n) in
    ap (λ k. flat_map (cycle (H ++ after)) (range_with_len 1 k)) (starts_append H after)
    ∙ ap (flat_map (cycle (H ++ after))) (range_append 1 m n)
    ∙ flat_map-append (cycle (H ++ after)) (range_with_len 1 m) (range_with_len (1 + m) n)
    ∙ ap (λ l. l ++ more) (flat_same (cycle (H ++ after)) (cycle H) 1 m
    (λ c l. map_same (bucket_of values air (H ++ after) air.version c) (bucket_of values air H air.version c) (range_with_len 0 (length (slots_at air c))) (λ s. later values air H after air.version c s (omega arith))))

pub more_buckets : (values : List ℕ) (air : Air) (H after : List Event) → (more : List Bucket) × (buckets_of values air (H ++ after) ≡ buckets_of values air H ++ more)
more_buckets values air H after = (
  flat_map (cycle_buckets values air (H ++ after)) (range_with_len (1 + starts H) (starts after)),
  buckets_behind values air H after,
)

pub same_buckets : (values : List ℕ) (air : Air) (H after : List Event) → starts after ≡ 0 → buckets_of values air (H ++ after) ≡ buckets_of values air H
unfolding buckets_of
same_buckets values air H after none =
    let cycle : List Event → ℕ → List Bucket = λ G. cycle_buckets values air G in
    ap (λ k. flat_map (cycle (H ++ after)) (range_with_len 1 k)) (let both = starts_append H after in let same : starts (H ++ after) ≡ starts H = omega arith in same)
    ∙ flat_same (cycle (H ++ after)) (cycle H) 1 (starts H)
    (λ c l. map_same (bucket_of values air (H ++ after) air.version c) (bucket_of values air H air.version c) (range_with_len 0 (length (slots_at air c))) (λ s. later values air H after air.version c s (omega arith)))

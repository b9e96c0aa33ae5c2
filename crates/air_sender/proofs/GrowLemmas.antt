-- What a history airs grows with its events: by the buckets of the cycle that a start begins, and by nothing with a commit.
use Rattle.std.proofs.Common.{◌≡◌, ℕ, zero, suc, ◌+◌, ◌<◌, ◌≤◌, cond, List, [], ◌∷◌, ◌++◌, length, map, refl, sym, ◌∙◌, ap, inl, inr, arith}
use Rattle.std.specs.List.{flat_map, range_with_len}
use Rattle.std.proofs.lemmas.Bool.{cases_Bool, cond-false, cond-true}
use Rattle.std.proofs.lemmas.Grind.{flat_map-append}
use Rattle.std.proofs.lemmas.List.{append-nil}
use Rattle.std.proofs.lemmas.List.Folds.{flat_map-map}
use Rattle.std.proofs.lemmas.List.FromFn.{fill_by_all, get_or-map-range_with_len, length-map-range_with_len, map-range_with_len_more}
use Rattle.std.proofs.lemmas.List.Sums.{sum_by-append, sum_by-cons}
use Rattle.air_history.specs.declared.histories.Event.{Event}
use Rattle.air_history.specs.Histories.{is_start, starts}
use Rattle.air_model.specs.Buckets.{Bucket}
use Rattle.air_model.specs.Aired.{Air, bucket_of, buckets_of, slots_at}
use Rattle.air_model.proofs.LaterLemmas.{later}
use Rattle.air_sender.specs.BoardBuckets.{last_cycle_buckets}

-- ---- ranges of numbers

-- Functions that agree on a range.
range_same : {X : Type 0} (f g : ℕ → List X) (a n : ℕ) → ((c : ℕ) → a ≤ c → c < a + n → f c ≡ g c) → flat_map f (range_with_len a n) ≡ flat_map g (range_with_len a n)
range_same f g a zero same = refl
range_same f g a (suc n) same =
    ap (λ l. l ++ flat_map f (range_with_len (a + 1) n)) (same a (omega arith) (omega arith))
    ∙ ap (λ l. g a ++ l) (range_same f g (a + 1) n (λ c low high. same c (omega arith) (omega arith)))

-- One more number at the end of a range.
range_more : {X : Type 0} (f : ℕ → List X) (a n j : ℕ) → a + n ≡ j → flat_map f (range_with_len a (n + 1)) ≡ flat_map f (range_with_len a n) ++ f j
range_more {X} f a n j e =
    let id : List X → List X = λ l. l in
    sym (flat_map-map id f (range_with_len a (n + 1)))
    ∙ ap (flat_map id) (map-range_with_len_more f a n j e)
    ∙ flat_map-append id (map f (range_with_len a n)) (f j ∷ [])
    ∙ ap (λ l. l ++ (f j ++ [])) (flat_map-map id f (range_with_len a n))
    ∙ ap (λ l. flat_map f (range_with_len a n) ++ l) (append-nil (f j))

-- ---- cycles

-- One more event is one more start, or none.
starts_more : (G : List Event) (e : Event) → starts (G ++ e ∷ []) ≡ starts G + cond (is_start e) 1 0
unfolding starts
starts_more G e = omega (arith, sum_by-append (λ e. cond (is_start e) 1 0) G (e ∷ []), sum_by-cons (λ e. cond (is_start e) 1 0) e [])

-- The buckets of a cycle.
abbrev buckets_in : List ℕ → Air → List Event → ℕ → List Bucket
buckets_in values air H c = map (bucket_of values air H air.version c) (range_with_len 0 (length (slots_at air c)))

-- A cycle that was started has the buckets that it had.
cycle_kept : (values : List ℕ) (air : Air) (G : List Event) (e : Event) (c : ℕ) → c ≤ starts G → buckets_in values air (G ++ e ∷ []) c ≡ buckets_in values air G c
cycle_kept values air G e c l =
    let v = air.version in
    let n = length (slots_at air c) in
    fill_by_all (bucket_of values air G v c) (buckets_in values air (G ++ e ∷ []) c) n (bucket_of values air G v c 0)
    (length-map-range_with_len (bucket_of values air (G ++ e ∷ []) v c) 0 n)
    (λ s below. get_or-map-range_with_len (bucket_of values air (G ++ e ∷ []) v c) 0 n s s _ below (omega arith) ∙ later values air G (e ∷ []) v c s l)

cycles_kept : (values : List ℕ) (air : Air) (G : List Event) (e : Event) →
    flat_map (buckets_in values air (G ++ e ∷ [])) (range_with_len 1 (starts G)) ≡ flat_map (buckets_in values air G) (range_with_len 1 (starts G))
cycles_kept values air G e = range_same _ _ 1 (starts G) (λ c low high. cycle_kept values air G e c (omega arith))

pub grow : (values : List ℕ) (air : Air) (G : List Event) (e : Event) →
    buckets_of values air (G ++ e ∷ []) ≡ buckets_of values air G ++ cond (is_start e) (last_cycle_buckets values air (G ++ e ∷ [])) []
unfolding buckets_of
grow values air G e = elim (cases_Bool (is_start e)) as (λ _. buckets_of values air (G ++ e ∷ []) ≡ buckets_of values air G ++ cond (is_start e) (last_cycle_buckets values air (G ++ e ∷ [])) []) [
  | inl start ↦ (let more : starts (G ++ e ∷ []) ≡ starts G + 1 = starts_more G e ∙ ap (λ n. starts G + n) (cond-true (is_start e) 1 0 start) in
      ap (λ n. flat_map (buckets_in values air (G ++ e ∷ [])) (range_with_len 1 n)) more
      ∙ range_more (buckets_in values air (G ++ e ∷ [])) 1 (starts G) (starts (G ++ e ∷ [])) (omega arith)
      ∙ ap (λ l. l ++ last_cycle_buckets values air (G ++ e ∷ [])) (cycles_kept values air G e)
      ∙ ap (λ l. buckets_of values air G ++ l) (sym (cond-true (is_start e) (last_cycle_buckets values air (G ++ e ∷ [])) [] start)))
  | inr commit ↦ (let same : starts (G ++ e ∷ []) ≡ starts G = starts_more G e ∙ ap (λ n. starts G + n) (cond-false (is_start e) 1 0 commit) ∙ omega arith in
      ap (λ n. flat_map (buckets_in values air (G ++ e ∷ [])) (range_with_len 1 n)) same
      ∙ cycles_kept values air G e
      ∙ sym (append-nil (buckets_of values air G))
      ∙ ap (λ l. buckets_of values air G ++ l) (sym (cond-false (is_start e) (last_cycle_buckets values air (G ++ e ∷ [])) [] commit)))
]

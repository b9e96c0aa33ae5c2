-- The writes of an item from a cycle on and before another: which places they are at, and where they are kept.
use Rattle.std.proofs.Common.{◌≡◌, ℕ, zero, suc, ◌+◌, ◌-◌, ◌<◌, ◌≤◌, Bool, true, false, cond, ◌==◌, List, [], ◌∷◌, ◌++◌, length, get_or, take, drop, All, refl, sym, ◌∙◌, ap, subst, inl, inr, arith, append_assoc, zero-add}
use Rattle.std.specs.List.{list_any}
use Rattle.std.proofs.lemmas.Bool.{cases_lt, eq-eqb, eqb-true, or_left, or_right}
use Rattle.std.proofs.lemmas.List.{append-nil, drop_at, length-append, take_at}
use Rattle.std.proofs.lemmas.List.Elements.{All-cons, All-nil, All-push}
use Rattle.std.proofs.lemmas.List.Folds.{list_any-append}
use Rattle.air_history.specs.declared.histories.Event.{Event}
use Rattle.air_history.specs.Histories.{writes, event_at, cycle_at, front}
use Rattle.air_history.proofs.HistoryLemmas.{front_cycle, front_holds, front_within, writer_no_start, writes_within}
use Rattle.air_history.proofs.PlaceLemmas.{any_at}
use Rattle.live_replay.specs.declared.writes.ItemWrite.{ItemWrite}
use Rattle.live_replay.specs.Private.Groups.{writes_between}
use Rattle.live_replay.specs.Private.Writes.{count_at, write_at, writes_from}
use Rattle.live_replay.proofs.WriteLemmas.{each_write, no_places, split_writes}

-- A write of the item at a place, in cycle c or later and before cycle d.
pub record IsBetween (H : List Event) (i c d p : ℕ) : Type 0 where
  pub writes : writes (event_at H p) i ≡ true
  pub from : c ≤ cycle_at H p
  pub before : cycle_at H p < d

push_least : (ws : List ItemWrite) (v e : ItemWrite) → All (λ w. (get_or ws 0 e).place ≤ w.place) ws → All (λ w. w.place < v.place) ws → All (λ w. (get_or (ws ++ v ∷ []) 0 e).place ≤ w.place) (ws ++ v ∷ [])
push_least [] v e rest low = All-cons (λ (w : ItemWrite). v.place ≤ w.place) v [] (omega arith) (All-nil (λ (w : ItemWrite). v.place ≤ w.place))
push_least (u ∷ ws) v e rest low = All-push (λ (w : ItemWrite). u.place ≤ w.place) (u ∷ ws) v rest (let l = low 0 e (omega arith) in omega arith)

module _ (V : List ℕ) (H : List Event) (i : ℕ) where
  -- What holds of the place of a write holds of one of the writes.
  pub any_write : (f : ℕ → Bool) (m n p : ℕ) → m ≤ p → p < m + n → writes (event_at H p) i ≡ true → f p ≡ true → list_any (λ w. f w.place) (writes_from V H i m n) ≡ true
  unfolding writes_from write_at
  any_write f m zero p low high wrote passes = absurd (omega arith)
  any_write f m (suc n) p low high wrote passes = elim (cases_lt p (m + n)) as (λ _. list_any (λ w. f w.place) (writes_from V H i m (suc n)) ≡ true) [
    | inl below ↦ list_any-append (λ (w : ItemWrite). f w.place) (writes_from V H i m n) (cond (writes (event_at H (m + n)) i) (write_at V H i (m + n) ∷ []) [])
        ∙ or_left _ _ (any_write f m n p low below wrote passes)
    | inr here ↦ (let same : p ≡ m + n = omega arith in
        list_any-append (λ (w : ItemWrite). f w.place) (writes_from V H i m n) (cond (writes (event_at H (m + n)) i) (write_at V H i (m + n) ∷ []) [])
        ∙ or_right _ _ (ap (λ b. list_any (λ (w : ItemWrite). f w.place) (cond b (write_at V H i (m + n) ∷ []) [])) (ap (λ q. writes (event_at H q) i) (sym same) ∙ wrote)
        ∙ or_left (f (m + n)) false (ap f (sym same) ∙ passes)))
  ]

  -- The first of the writes is at the first place.
  pub first_least : (m n : ℕ) (e : ItemWrite) → All (λ w. (get_or (writes_from V H i m n) 0 e).place ≤ w.place) (writes_from V H i m n)
  unfolding writes_from write_at
  first_least m zero e = All-nil (λ (w : ItemWrite). e.place ≤ w.place)
  first_least m (suc n) e = more (writes (event_at H (m + n)) i) (first_least m n e) (each_write V H i (λ w. w.place < m + n) m n (λ p low high wrote. high))
    where
      more : (b : Bool) → All (λ w. (get_or (writes_from V H i m n) 0 e).place ≤ w.place) (writes_from V H i m n) → All (λ w. w.place < m + n) (writes_from V H i m n) →
          All (λ w. (get_or (writes_from V H i m n ++ cond b (write_at V H i (m + n) ∷ []) []) 0 e).place ≤ w.place) (writes_from V H i m n ++ cond b (write_at V H i (m + n) ∷ []) [])
      more true rest low = push_least (writes_from V H i m n) (write_at V H i (m + n)) e rest low
      more false rest low = subst (λ (ws : List ItemWrite). All (λ w. (get_or ws 0 e).place ≤ w.place) ws) (sym (append-nil (writes_from V H i m n))) rest

  module _ (c d : ℕ) where
    -- Each of them is such a write.
    pub between_are : All (λ w. IsBetween H i c d w.place) (writes_between V H i c d)
    unfolding write_at
    between_are = each_write V H i (λ w. IsBetween H i c d w.place) (length (front H c)) (length (front H d) - length (front H c)) (λ p low high wrote. record {
      writes = wrote;
      from = late p low wrote;
      before = front_cycle H d p (omega arith);
    })
      where
        late : (p : ℕ) → length (front H c) ≤ p → writes (event_at H p) i ≡ true → c ≤ cycle_at H p
        late p low wrote = elim (cases_lt (cycle_at H p) c) as (λ _. c ≤ cycle_at H p) [
          | inl l ↦ absurd (let inside = front_holds H c p (writes_within H p i wrote) (writer_no_start (event_at H p) i wrote) l in omega arith)
          | inr g ↦ g
        ]

    -- And each such write is one of them.
    pub between_any : (f : ℕ → Bool) (p : ℕ) → IsBetween H i c d p → f p ≡ true → list_any (λ w. f w.place) (writes_between V H i c d) ≡ true
    between_any f p is passes = any_write f (length (front H c)) (length (front H d) - length (front H c)) p low (omega (arith, high)) is.writes passes
      where
        low : length (front H c) ≤ p
        low = elim (cases_lt p (length (front H c))) as (λ _. length (front H c) ≤ p) [
          | inl l ↦ absurd (let under = front_cycle H c p l in let from = is.from in omega arith)
          | inr g ↦ g
        ]

        high : p < length (front H d)
        high = front_holds H d p (writes_within H p i is.writes) (writer_no_start (event_at H p) i is.writes) is.before

    -- What holds of each of them holds of each such write.
    pub between_each : (P : ℕ → Type 0) (p : ℕ) → IsBetween H i c d p → All (λ w. P w.place) (writes_between V H i c d) → P p
    between_each P p is all =
        let none : ItemWrite = record { place = 0; cycle = 0; value = 0 } in
        let r = any_at (λ (w : ItemWrite). w.place == p) (writes_between V H i c d) none (between_any (λ q. q == p) p is (eq-eqb p p refl)) in
        subst P (eqb-true _ p r.2) (all r.0 none r.1)

    -- ---- where they are kept

    -- There are none if no more writes are before the second cycle than before the first.
    pub between_none : count_at V H i d ≤ count_at V H i c → writes_between V H i c d ≡ []
    between_none few = elim (cases_lt (length (front H c)) (length (front H d))) as (λ _. writes_between V H i c d ≡ []) [
      | inl more ↦ (let whole : length (front H d) ≡ length (front H c) + (length (front H d) - length (front H c)) = omega arith in
          no_more (writes_between V H i c d)
          (omega (
            arith,
            ap (λ n. length (writes_from V H i 0 n)) whole,
            ap length (split_writes V H i 0 (length (front H c)) (length (front H d) - length (front H c))),
            length-append (writes_from V H i 0 (length (front H c))) (writes_from V H i (0 + length (front H c)) (length (front H d) - length (front H c))),
            ap (λ m. length (writes_from V H i m (length (front H d) - length (front H c)))) (zero-add (length (front H c))),
          )))
      | inr less ↦ (let zero : length (front H d) - length (front H c) ≡ 0 = omega arith in
          ap (writes_from V H i (length (front H c))) zero ∙ no_places V H i (length (front H c)))
    ]
      where
        no_more : (ws : List ItemWrite) → length ws ≤ 0 → ws ≡ []
        no_more [] l = refl
        no_more (w ∷ ws) l = absurd (omega arith)

    -- They are kept among all writes of the item, after those before the first cycle.
    pub between_kept : count_at V H i c < count_at V H i d →
        take (count_at V H i d - count_at V H i c) (drop (count_at V H i c) (writes_from V H i 0 (length H))) ≡ writes_between V H i c d
    between_kept more = elim (cases_lt (length (front H c)) (length (front H d))) as (λ _. take (count_at V H i d - count_at V H i c) (drop (count_at V H i c) (writes_from V H i 0 (length H))) ≡ writes_between V H i c d) [
      | inl lt ↦ kept lt
      | inr ge ↦ (let whole : length (front H c) ≡ length (front H d) + (length (front H c) - length (front H d)) = omega arith in
          absurd (omega (
            arith,
            ap (λ n. length (writes_from V H i 0 n)) whole,
            ap length (split_writes V H i 0 (length (front H d)) (length (front H c) - length (front H d))),
            length-append (writes_from V H i 0 (length (front H d))) (writes_from V H i (0 + length (front H d)) (length (front H c) - length (front H d))),
          )))
    ]
      where
        first : List ItemWrite
        first = writes_from V H i 0 (length (front H c))

        between : List ItemWrite
        between = writes_between V H i c d

        after : List ItemWrite
        after = writes_from V H i (0 + length (front H d)) (length H - length (front H d))

        kept : length (front H c) < length (front H d) → take (count_at V H i d - count_at V H i c) (drop (count_at V H i c) (writes_from V H i 0 (length H))) ≡ between
        kept lt =
            let low : length (front H d) ≤ length H = front_within H d in
            let all : length H ≡ length (front H d) + (length H - length (front H d)) = omega arith in
            let some : length (front H d) ≡ length (front H c) + (length (front H d) - length (front H c)) = omega arith in
            let front_is : writes_from V H i 0 (length (front H d)) ≡ first ++ between =
            ap (writes_from V H i 0) some ∙ split_writes V H i 0 (length (front H c)) (length (front H d) - length (front H c))
            ∙ ap (λ m. first ++ writes_from V H i m (length (front H d) - length (front H c))) (zero-add (length (front H c))) in
            let whole : writes_from V H i 0 (length H) ≡ first ++ (between ++ after) =
            ap (writes_from V H i 0) all ∙ split_writes V H i 0 (length (front H d)) (length H - length (front H d)) ∙ ap (λ ws. ws ++ after) front_is ∙ append_assoc first between after in
            let long : length between ≡ count_at V H i d - count_at V H i c = omega (arith, ap length front_is, length-append first between) in
            ap (λ ws. take (count_at V H i d - count_at V H i c) (drop (count_at V H i c) ws)) whole
            ∙ ap (take (count_at V H i d - count_at V H i c)) (drop_at first (between ++ after) (count_at V H i c) refl)
            ∙ take_at between after (count_at V H i d - count_at V H i c) long

    -- ---- the first of them

    -- The first one is at the first place.
    pub between_first : (e : ItemWrite) → All (λ w. (get_or (writes_between V H i c d) 0 e).place ≤ w.place) (writes_between V H i c d)
    between_first e = first_least (length (front H c)) (length (front H d) - length (front H c)) e

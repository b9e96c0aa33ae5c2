-- How far it is to the next mark of a kind, where the tape may end first; and a search on records that stand for marks.
use Rattle.std.proofs.Common.{◌≡◌, ◌≤◌, ◌<◌, ◌⊎◌, inl, inr, ◌+◌, ◌-◌, ◌++◌, if◌then◌else◌, ℕ, zero, suc, Bool, true, false, Option, Some, None, List, [], ◌∷◌, drop, get_or, length, length-append, append_assoc, slice_get, refl, sym, subst, ◌∙◌, ap, arith}
use Rattle.std.specs.Prelude.{⊤}
use Rattle.std.specs.List.{position_or_len}
use Rattle.std.specs.Option.{option_map_or}
use Rattle.std.proofs.Math.ListN.{drop_of_length-le}
use Rattle.std.proofs.lemmas.Bool.{cases_lt}
use Rattle.std.proofs.lemmas.List.{append-nil, length-drop}
use Rattle.air_model.specs.Airings.{carries}
use Rattle.air_model.specs.Buckets.{Bucket, value_of}
use Rattle.air_index.specs.Indexes.{Index}
use Rattle.air_index.specs.OnAir.{IsIndex, IsSlot, Mark, marks_index, marks_item}
use Rattle.air_index.specs.Records.{indexed_at}
use Rattle.air_index.specs.Seeks.{first_told, has_item, index_told, item_told, sought_first, sought_index, sought_item}
use Rattle.air_index.specs.declared.records.Indexed.TheVariants as variant
use Rattle.air_index.specs.declared.sought.Sought.{Sought}
use Rattle.air_index.specs.declared.sought.Sought.TheVariants.{Found, Lost}
use Rattle.air_index.proofs.MarkLemmas.{no_item}
use Rattle.air_index.proofs.PositionLemmas.{first_either, first_here, first_later, first_left, first_right}

-- ---- how far it is

-- The first of these marks that passes is e places on, or it is after their end.
pub record LeadsTo (p : Mark → Bool) (e : ℕ) (marks : List Mark) : Type 0 where
  pub ahead : 1 ≤ e
  pub here : e ≤ length marks → position_or_len p marks + 1 ≡ e
  pub past : length marks < e → position_or_len p marks ≡ length marks

-- What follows a cycle on a tape: nothing, or the next cycle and more.
abbrev pub IsLater : List Mark → List Mark → Type 0
IsLater next later = (later ≡ []) ⊎ ((rest : List Mark) × (later ≡ next ++ rest))

last_leads : (p : Mark → Bool) (xs next : List Mark) → LeadsTo p (position_or_len p (xs ++ next) + 1) xs
last_leads p xs next = by (first_either p xs)
  where
    by : ((position_or_len p xs < length xs) ⊎ (position_or_len p xs ≡ length xs)) → LeadsTo p (position_or_len p (xs ++ next) + 1) xs
    by (inl less) = let is = first_left p xs next less in record { ahead = omega arith; here = λ within. omega arith; past = λ beyond. absurd (omega arith) }
    by (inr all) = let is = first_right p xs next all in record { ahead = omega arith; here = λ within. absurd (omega arith); past = λ beyond. all }

pub found_in_both : (p : Mark → Bool) (xs next : List Mark) → position_or_len p next < length next → position_or_len p (xs ++ next) < length (xs ++ next)
found_in_both p xs next comes = by (first_either p xs)
  where
    by : ((position_or_len p xs < length xs) ⊎ (position_or_len p xs ≡ length xs)) → position_or_len p (xs ++ next) < length (xs ++ next)
    by (inl less) = let is = first_left p xs next less in let long = length-append xs next in omega arith
    by (inr all) = let is = first_right p xs next all in let long = length-append xs next in omega arith

both_leads : (p : Mark → Bool) (xs rest : List Mark) → position_or_len p xs < length xs → LeadsTo p (position_or_len p xs + 1) (xs ++ rest)
both_leads p xs rest under =
    let whole = length-append xs rest in
    let same = first_left p xs rest under in
    record { ahead = omega arith; here = λ within. omega arith; past = λ beyond. absurd (omega arith) }

-- What comes in the next cycle is as far on as in the rest of this cycle and the next one, on a tape that may end with this cycle.
pub leads : (p : Mark → Bool) (xs next later : List Mark) → position_or_len p next < length next → IsLater next later → LeadsTo p (position_or_len p (xs ++ next) + 1) (xs ++ later)
leads p xs next later comes (inl none) = subst (LeadsTo p (position_or_len p (xs ++ next) + 1)) (sym (ap (λ l. xs ++ l) none ∙ append-nil xs)) (last_leads p xs next)
leads p xs next later comes (inr (rest, is)) =
    subst (LeadsTo p (position_or_len p (xs ++ next) + 1)) (append_assoc xs next rest ∙ ap (λ l. xs ++ l) (sym is)) (both_leads p (xs ++ next) rest (found_in_both p xs next comes))

-- From the first that passes on it is the first.
first_dropped : (p : Mark → Bool) (xs : List Mark) → position_or_len p (drop (position_or_len p xs) xs) ≡ 0
first_dropped p [] = refl
first_dropped p (x ∷ xs) = by (p x) refl (first_dropped p xs)
  where
    by : (b : Bool) → p x ≡ b → position_or_len p (drop (position_or_len p xs) xs) ≡ 0 → position_or_len p (drop (position_or_len p (x ∷ xs)) (x ∷ xs)) ≡ 0
    by true e rest = let none = first_here p x xs e in ap (λ k. position_or_len p (drop k (x ∷ xs))) none ∙ none
    by false e rest =
        let next : position_or_len p (x ∷ xs) ≡ suc (position_or_len p xs) = first_later p x xs e ∙ omega arith in
        ap (λ k. position_or_len p (drop k (x ∷ xs))) next ∙ rest

-- ---- records that stand for marks

-- The record is an index whose entry for item i leads to the item's first mark among those that follow.
pub record StandsForIndex (i : ℕ) (marks : List Mark) (r : List ℕ) : Type 0 where
  pub index : Index
  pub reads : indexed_at r ≡ Some (variant.Index index)
  pub entry : ℕ
  pub listed : slice_get index.entries i ≡ Some entry
  pub leads : LeadsTo (marks_item i) entry marks

-- The record at place k is a data record of the slot's item, or of none. It leads to the first index among the marks that follow, and item i is
-- told as P says.
pub record StandsForSlot (P : ℕ → ℕ → ℕ → Type 0) (i k : ℕ) (o : Option ℕ) (marks : List Mark) (r : List ℕ) : Type 0 where
  pub wait : ℕ
  pub bucket : Bucket
  pub reads : indexed_at r ≡ Some (variant.Payload wait bucket)
  pub item : has_item i bucket.body ≡ carries i o
  pub leads : LeadsTo marks_index wait marks
  pub told : has_item i bucket.body ≡ true → P k bucket.cycle (value_of bucket.body)

unfoldable pub StandsFor : (ℕ → ℕ → ℕ → Type 0) → ℕ → ℕ → Mark → List Mark → List ℕ → Type 0
StandsFor P i k (IsIndex m) marks r = StandsForIndex i marks r
StandsFor P i k (IsSlot o) marks r = StandsForSlot P i k o marks r

-- The records from place k on stand for these marks.
unfoldable pub StandFor : (ℕ → ℕ → ℕ → Type 0) → ℕ → ℕ → List Mark → List (List ℕ) → Type 0
StandFor P i k [] [] = ⊤
StandFor P i k [] (r ∷ rs) = ⊥
StandFor P i k (m ∷ ms) [] = ⊥
StandFor P i k (m ∷ ms) (r ∷ rs) = StandsFor P i k m ms r × StandFor P i (k + 1) ms rs

-- What is told of a search whose item is to be found at this place, on a tape with this end.
unfoldable pub IsToldOf : (ℕ → ℕ → ℕ → Type 0) → ℕ → ℕ → Sought → Type 0
IsToldOf P goal end (Found opens place cycle value) = (place ≡ goal) × (goal < end) × P place cycle value
IsToldOf P goal end (Lost opens) = goal ≡ end

-- The place of the first mark of item i after the first index among these marks, of which the first is at place q.
unfoldable pub place_after : ℕ → ℕ → List Mark → ℕ
place_after i q ms = q + position_or_len marks_index ms + position_or_len (marks_item i) (drop (position_or_len marks_index ms) ms)

module _ (P : ℕ → ℕ → ℕ → Type 0) (i : ℕ) where
  pub stand_length : (k : ℕ) (ms : List Mark) (rs : List (List ℕ)) → StandFor P i k ms rs → length rs ≡ length ms
  unfolding StandFor
  stand_length k [] [] h = refl
  stand_length k [] (r ∷ rs) h = absurd h
  stand_length k (m ∷ ms) [] h = absurd h
  stand_length k (m ∷ ms) (r ∷ rs) h = ap suc (stand_length (k + 1) ms rs h.1)

  pub stand_drop : (k e : ℕ) (ms : List Mark) (rs : List (List ℕ)) → StandFor P i k ms rs → StandFor P i (k + e) (drop e ms) (drop e rs)
  unfolding StandFor
  stand_drop k zero ms rs h = let none : k ≡ k + 0 = omega arith in subst (λ n. StandFor P i n ms rs) none h
  stand_drop k (suc e) [] [] h = h
  stand_drop k (suc e) [] (r ∷ rs) h = absurd h
  stand_drop k (suc e) (m ∷ ms) [] h = absurd h
  stand_drop k (suc e) (m ∷ ms) (r ∷ rs) h = let on : k + 1 + e ≡ k + suc e = omega arith in subst (λ n. StandFor P i n (drop e ms) (drop e rs)) on (stand_drop (k + 1) e ms rs h.1)

  told_as : (goal goal' end end' : ℕ) (answer : Sought) → goal ≡ goal' → end ≡ end' → IsToldOf P goal end answer → IsToldOf P goal' end' answer
  told_as goal goal' end end' answer same last told = subst (λ g. IsToldOf P g end' answer) same (subst (λ e. IsToldOf P goal e answer) last told)

  -- ---- the record that has the item

  payload_told : (opens q end wait : ℕ) (b : Bucket) → has_item i b.body ≡ true → q < end → P q b.cycle (value_of b.body) → IsToldOf P q end (item_told i opens q (Some (variant.Payload wait b)))
  unfolding item_told IsToldOf
  payload_told opens q end wait b has under told = subst (λ t. IsToldOf P q end (if t then Found opens q b.cycle (value_of b.body) else Lost opens)) (sym has) (refl, under, told)

  lost_told : (opens goal end : ℕ) → goal ≡ end → IsToldOf P goal end (Lost opens)
  unfolding IsToldOf
  lost_told opens goal end same = same

  slot_told : (opens q end : ℕ) (o : Option ℕ) (ms : List Mark) (r : List ℕ) → StandsForSlot P i q o ms r → carries i o ≡ true → q < end → IsToldOf P q end (item_told i opens q (indexed_at r))
  slot_told opens q end o ms r h is under =
      let has = h.item ∙ is in
      subst (λ x. IsToldOf P q end (item_told i opens q x)) (sym h.reads) (payload_told opens q end h.wait h.bucket has under (h.told has))

  carried : (o : Option ℕ) (ms : List Mark) → position_or_len (marks_item i) (IsSlot o ∷ ms) ≡ 0 → carries i o ≡ true
  unfolding marks_item
  carried o ms first = by (carries i o) refl
    where
      by : (b : Bool) → carries i o ≡ b → carries i o ≡ true
      by true e = e
      by false e = absurd (let later = first_later (marks_item i) (IsSlot o) ms e in omega arith)

  item_told_of : (opens q : ℕ) (ms : List Mark) (rs : List (List ℕ)) → StandFor P i q ms rs → position_or_len (marks_item i) ms ≡ 0 → IsToldOf P q (q + length ms) (sought_item i opens q rs)
  unfolding StandFor StandsFor sought_item
  item_told_of opens q [] [] h first = lost_told opens q (q + 0) (omega arith)
  item_told_of opens q [] (r ∷ rs) h first = absurd h
  item_told_of opens q (m ∷ ms) [] h first = absurd h
  item_told_of opens q (IsIndex m ∷ ms) (r ∷ rs) h first = absurd (let later = first_later (marks_item i) (IsIndex m) ms (no_item i m) in omega arith)
  item_told_of opens q (IsSlot o ∷ ms) (r ∷ rs) h first = slot_told (opens + 1) q (q + suc (length ms)) o ms r h.0 (carried o ms first) (omega arith)

  -- ---- where a record leads

  -- as many records on as it says is the first mark that passes, or the end
  led : (p : Mark → Bool) (e : ℕ) (m : Mark) (ms : List Mark) → LeadsTo p e ms → position_or_len p (drop e (m ∷ ms)) ≡ 0
  led p e m ms h = by (cases_lt (length ms) e)
    where
      by : ((length ms < e) ⊎ (e ≤ length ms)) → position_or_len p (drop e (m ∷ ms)) ≡ 0
      by (inl beyond) = ap (position_or_len p) (drop_of_length-le (m ∷ ms) (omega arith))
      by (inr within) =
          let next : e ≡ suc (position_or_len p ms) = (let is = h.here within in omega arith) in
          ap (λ k. position_or_len p (drop k (m ∷ ms))) next ∙ first_dropped p ms

  -- what is told at an end is the same at another
  told_past : (g n : ℕ) (answer : Sought) → IsToldOf P g g answer → IsToldOf P n n answer
  unfolding IsToldOf
  told_past g n (Found opens place cycle value) told = absurd (let under = told.1 in omega arith)
  told_past g n (Lost opens) told = refl

  told_where_led : (p : Mark → Bool) (q e : ℕ) (m : Mark) (ms : List Mark) (answer : Sought) → LeadsTo p e ms → IsToldOf P (q + e) (q + e + length (drop e (m ∷ ms))) answer
      → IsToldOf P (q + 1 + position_or_len p ms) (q + 1 + length ms) answer
  told_where_led p q e m ms answer h told = by (cases_lt (length ms) e)
    where
      left : length (drop e (m ∷ ms)) ≡ suc (length ms) - e
      left = length-drop e (m ∷ ms)

      by : ((length ms < e) ⊎ (e ≤ length ms)) → IsToldOf P (q + 1 + position_or_len p ms) (q + 1 + length ms) answer
      by (inl beyond) =
          let rest = left in
          let all = h.past beyond in
          told_as (q + 1 + length ms) (q + 1 + position_or_len p ms) (q + 1 + length ms) (q + 1 + length ms) answer (omega arith) refl
          (told_past (q + e) (q + 1 + length ms) answer (told_as (q + e) (q + e) (q + e + length (drop e (m ∷ ms))) (q + e) answer refl (omega arith) told))
      by (inr within) =
          let rest = left in
          let is = h.here within in
          told_as (q + e) (q + 1 + position_or_len p ms) (q + e + length (drop e (m ∷ ms))) (q + 1 + length ms) answer (omega arith) (omega arith) told

  index_told_of : (opens q : ℕ) (m : Mark) (ms : List Mark) (r : List ℕ) (rs : List (List ℕ)) (h : StandsForIndex i ms r) → StandFor P i q (m ∷ ms) (r ∷ rs)
      → IsToldOf P (q + 1 + position_or_len (marks_item i) ms) (q + 1 + length ms) (index_told i opens q (r ∷ rs) (indexed_at r))
  unfolding index_told
  index_told_of opens q m ms r rs h stand = subst (λ x. IsToldOf P (q + 1 + position_or_len (marks_item i) ms) (q + 1 + length ms) (index_told i opens q (r ∷ rs) x)) (sym h.reads) read
    where
      read : IsToldOf P (q + 1 + position_or_len (marks_item i) ms) (q + 1 + length ms) (index_told i opens q (r ∷ rs) (Some (variant.Index h.index)))
      read =
          subst (λ o. IsToldOf P (q + 1 + position_or_len (marks_item i) ms) (q + 1 + length ms) (option_map_or (λ e. sought_item i opens (q + e) (drop e (r ∷ rs))) o (Lost opens))) (sym h.listed)
          (told_where_led (marks_item i) q h.entry m ms (sought_item i opens (q + h.entry) (drop h.entry (r ∷ rs))) h.leads
          (item_told_of opens (q + h.entry) (drop h.entry (m ∷ ms)) (drop h.entry (r ∷ rs)) (stand_drop q h.entry (m ∷ ms) (r ∷ rs) stand) (led (marks_item i) h.entry m ms h.leads)))

  -- ---- the record that has to be an index

  no_slot : (o : Option ℕ) (ms : List Mark) → position_or_len marks_index (IsSlot o ∷ ms) ≡ suc (position_or_len marks_index ms)
  unfolding marks_index
  no_slot o ms = let later = first_later marks_index (IsSlot o) ms refl in omega arith

  next_told_of : (q : ℕ) (ms : List Mark) (rs : List (List ℕ)) → StandFor P i q ms rs → position_or_len marks_index ms ≡ 0 → IsToldOf P (q + position_or_len (marks_item i) ms) (q + length ms) (sought_index i q rs)
  unfolding StandFor StandsFor sought_index
  next_told_of q [] [] h first = lost_told 1 (q + 0) (q + 0) refl
  next_told_of q [] (r ∷ rs) h first = absurd h
  next_told_of q (m ∷ ms) [] h first = absurd h
  next_told_of q (IsSlot o ∷ ms) (r ∷ rs) h first = absurd (let later = no_slot o ms in omega arith)
  next_told_of q (IsIndex m ∷ ms) (r ∷ rs) h first =
      let later = first_later (marks_item i) (IsIndex m) ms (no_item i m) in
      told_as (q + 1 + position_or_len (marks_item i) ms) (q + position_or_len (marks_item i) (IsIndex m ∷ ms)) (q + 1 + length ms) (q + suc (length ms)) (index_told i 2 q (r ∷ rs) (indexed_at r)) (omega arith) (omega arith)
      (index_told_of 2 q (IsIndex m) ms r rs h.0 h)

  -- ---- the first record

  after_led : (q e : ℕ) (o : Option ℕ) (ms : List Mark) (answer : Sought) → LeadsTo marks_index e ms
      → IsToldOf P (q + e + position_or_len (marks_item i) (drop e (IsSlot o ∷ ms))) (q + e + length (drop e (IsSlot o ∷ ms))) answer → IsToldOf P (place_after i q (IsSlot o ∷ ms)) (q + suc (length ms)) answer
  unfolding place_after
  after_led q e o ms answer h told = by (cases_lt (length ms) e)
    where
      left : length (drop e (IsSlot o ∷ ms)) ≡ suc (length ms) - e
      left = length-drop e (IsSlot o ∷ ms)

      by : ((length ms < e) ⊎ (e ≤ length ms))
          → IsToldOf P (q + position_or_len marks_index (IsSlot o ∷ ms) + position_or_len (marks_item i) (drop (position_or_len marks_index (IsSlot o ∷ ms)) (IsSlot o ∷ ms))) (q + suc (length ms)) answer
      by (inl beyond) =
          let rest = left in
          let all = h.past beyond in
          let whole : position_or_len marks_index (IsSlot o ∷ ms) ≡ suc (length ms) = no_slot o ms ∙ ap suc all in
          let none : position_or_len (marks_item i) (drop e (IsSlot o ∷ ms)) ≡ 0 = ap (position_or_len (marks_item i)) (drop_of_length-le (IsSlot o ∷ ms) (omega arith)) in
          let gone : position_or_len (marks_item i) (drop (position_or_len marks_index (IsSlot o ∷ ms)) (IsSlot o ∷ ms)) ≡ 0 = ap (position_or_len (marks_item i)) (drop_of_length-le (IsSlot o ∷ ms) (omega arith)) in
          told_as (q + suc (length ms)) _ (q + suc (length ms)) (q + suc (length ms)) answer (omega arith) refl
          (told_past (q + e) (q + suc (length ms)) answer (told_as _ (q + e) _ (q + e) answer (omega arith) (omega arith) told))
      by (inr within) =
          let rest = left in
          let is : e ≡ position_or_len marks_index (IsSlot o ∷ ms) = (let one = h.here within in let later = no_slot o ms in omega arith) in
          told_as _ _ _ (q + suc (length ms)) answer (ap (λ k. q + k + position_or_len (marks_item i) (drop k (IsSlot o ∷ ms))) is) (omega arith) told

  at_slot : (q : ℕ) (o : Option ℕ) (ms : List Mark) (r : List ℕ) (rs : List (List ℕ)) (h : StandsForSlot P i q o ms r) → StandFor P i q (IsSlot o ∷ ms) (r ∷ rs) → (b : Bool) → carries i o ≡ b
      → IsToldOf P (if b then q else place_after i q (IsSlot o ∷ ms)) (q + suc (length ms)) (first_told i q (r ∷ rs) (Some (variant.Payload h.wait h.bucket)))
  unfolding first_told IsToldOf
  at_slot q o ms r rs h stand true e =
      let has = h.item ∙ e in
      subst (λ t. IsToldOf P q (q + suc (length ms)) (if t then Found 1 q h.bucket.cycle (value_of h.bucket.body) else sought_index i (q + h.wait) (drop h.wait (r ∷ rs)))) (sym has)
      (refl, omega arith, h.told has)
  at_slot q o ms r rs h stand false e =
      let other = h.item ∙ e in
      subst
      (λ t. IsToldOf P (place_after i q (IsSlot o ∷ ms)) (q + suc (length ms)) (if t then Found 1 q h.bucket.cycle (value_of h.bucket.body) else sought_index i (q + h.wait) (drop h.wait (r ∷ rs)))) (sym other)
      (after_led q h.wait o ms (sought_index i (q + h.wait) (drop h.wait (r ∷ rs))) h.leads
      (next_told_of (q + h.wait) (drop h.wait (IsSlot o ∷ ms)) (drop h.wait (r ∷ rs)) (stand_drop q h.wait (IsSlot o ∷ ms) (r ∷ rs) stand) (led marks_index h.wait (IsSlot o) ms h.leads)))

  index_here : (m : ℕ) (ms : List Mark) → position_or_len marks_index (IsIndex m ∷ ms) ≡ 0
  unfolding marks_index
  index_here m ms = refl

  at_index : (q m : ℕ) (ms : List Mark) → q + 1 + position_or_len (marks_item i) ms ≡ place_after i q (IsIndex m ∷ ms)
  unfolding place_after
  at_index q m ms =
      let none = index_here m ms in
      let later = first_later (marks_item i) (IsIndex m) ms (no_item i m) in
      let whole : position_or_len (marks_item i) (drop (position_or_len marks_index (IsIndex m ∷ ms)) (IsIndex m ∷ ms)) ≡ position_or_len (marks_item i) (IsIndex m ∷ ms) =
      ap (λ k. position_or_len (marks_item i) (drop k (IsIndex m ∷ ms))) none in
      omega arith

  pub first_told_of : (q : ℕ) (ms : List Mark) (rs : List (List ℕ)) → StandFor P i q ms rs
      → IsToldOf P (if marks_item i (get_or ms 0 (IsSlot None)) then q else place_after i q ms) (q + length ms) (sought_first i q rs)
  unfolding StandFor StandsFor sought_first first_told marks_item place_after
  first_told_of q [] [] h = lost_told 0 (q + 0 + 0) (q + 0) (omega arith)
  first_told_of q [] (r ∷ rs) h = absurd h
  first_told_of q (m ∷ ms) [] h = absurd h
  first_told_of q (IsIndex m ∷ ms) (r ∷ rs) h =
      let told = told_as (q + 1 + position_or_len (marks_item i) ms) (place_after i q (IsIndex m ∷ ms)) (q + 1 + length ms) (q + suc (length ms)) (index_told i 1 q (r ∷ rs) (indexed_at r)) (at_index q m ms) (omega arith)
      (index_told_of 1 q (IsIndex m) ms r rs h.0 h) in
      subst (IsToldOf P (place_after i q (IsIndex m ∷ ms)) (q + suc (length ms))) (ap (λ x. index_told i 1 q (r ∷ rs) x) h.0.reads ∙ sym (ap (λ x. first_told i q (r ∷ rs) x) h.0.reads)) told
  first_told_of q (IsSlot o ∷ ms) (r ∷ rs) h =
      subst (λ x. IsToldOf P (if carries i o then q else place_after i q (IsSlot o ∷ ms)) (q + suc (length ms)) (first_told i q (r ∷ rs) x)) (sym h.0.reads) (at_slot q o ms r rs h.0 h (carries i o) refl)

-- Settling ends: each turn drops a copy of the wanted item, or leaves one item less to read.
use Rattle.std.proofs.Common.{◌≡◌, ℕ, zero, suc, ◌+◌, ◌-◌, ◌<◌, ◌≤◌, Bool, true, false, cond, not, ◌==◌, Option, Some, None, List, [], ◌∷◌, ◌++◌, length, drop, get_or, refl, sym, ◌∙◌, ap, subst, inl, inr, arith}
use Rattle.std.specs.Prelude.{sum_by}
use Rattle.std.specs.List.{find, filter, slice_get}
use Rattle.std.specs.Option.{is_some}
use Rattle.std.specs.Fn.{iterate}
use Rattle.std.proofs.lemmas.List.Sums.{sum_by-cons}
use Rattle.std.proofs.lemmas.Bool.{eqb-true, cases_lt, cond-false}
use Rattle.std.proofs.lemmas.List.{get_or_past, length_push}
use Rattle.air_model.specs.Reads.{Read}
use Rattle.air_model.specs.Copies.{without_item}
use Rattle.air_model.specs.Aired.{Air}
use Rattle.air_model.specs.Judges.{Judge}
use Rattle.air_model.specs.Sessions.{Reader, State, wanted, query_of, copy_of, drop_copy, next_query, with_line, count_copied, accept_if_whole, hold, is_unusable, turn_with, turn, settle}
use Rattle.air_model.proofs.MomentLemmas.{none_from, find_is, cond_keeps}
use Rattle.air_model.proofs.SoundLemmas.{whole_query, part_of_query}

-- The items of a list of queries.
abbrev total : List (List ℕ) → ℕ
total Q = sum_by length Q

total_cons : (q : List ℕ) (Q : List (List ℕ)) → total (q ∷ Q) ≡ length q + total Q
total_cons q Q = sum_by-cons length q Q

total_drop : (Q : List (List ℕ)) (q : ℕ) → total (drop q Q) ≤ total Q
total_drop Q zero = omega arith
total_drop [] (suc q) = omega arith
total_drop (x ∷ Q) (suc q) = let rest = total_drop Q q in let e = total_cons x Q in omega arith

total_next : (Q : List (List ℕ)) (q : ℕ) → q < length Q → total (drop q Q) ≡ length (get_or Q q []) + total (drop (q + 1) Q)
total_next [] q l = absurd (omega arith)
total_next (x ∷ Q) zero l = total_cons x Q
total_next (x ∷ Q) (suc q) l =
    let e : suc q + 1 ≡ suc (q + 1) = omega arith in
    subst (λ k. total (drop (suc q) (x ∷ Q)) ≡ length (get_or (x ∷ Q) (suc q) []) + total (drop k (x ∷ Q))) (sym e) (total_next Q q (omega arith))

-- ---- a turn

abbrev IsSettled : Reader → State → Type 0
IsSettled reader s = copy_of (wanted reader s) s ≡ None

-- The items that are left to read.
abbrev reads_left : Reader → State → ℕ
reads_left reader s = total (drop s.query reader.queries) - length s.held

find_without : (i : ℕ) (R : List Read) → find (λ r. r.item == i) (without_item i R) ≡ None
unfolding without_item
find_without i [] = refl
find_without i (r ∷ R) = by (r.item == i) refl (find_without i R)
  where
    by : (b : Bool) → (r.item == i) ≡ b → find (λ r. r.item == i) (filter (λ r. not (r.item == i)) R) ≡ None → find (λ r. r.item == i) (cond (not b) (r ∷ filter (λ r. not (r.item == i)) R) (filter (λ r. not (r.item == i)) R)) ≡ None
    by true e rest = rest
    by false e rest = cond-false (r.item == i) _ _ e ∙ rest

found_item : (i : ℕ) (R : List Read) (x : Read) → find (λ r. r.item == i) R ≡ Some x → x.item ≡ i
found_item i R x e = eqb-true x.item i (find_is (λ _. Unit {0}) (λ r. r.item == i) R (λ k d l. tt) (Some x) e).1

-- If an item is wanted, the held reads are fewer than the items of the queries that are left.
wanted_within : (reader : Reader) (s : State) → is_some (wanted reader s) ≡ true → (s.query < length reader.queries) × (length s.held < length (get_or reader.queries s.query []))
unfolding wanted query_of
wanted_within reader s w =
    let within = part_of_query (get_or reader.queries s.query []) (length s.held) w in
    elim (cases_lt s.query (length reader.queries)) as (λ _. (s.query < length reader.queries) × (length s.held < length (get_or reader.queries s.query []))) [
      | inl l ↦ (l, within)
      | inr ge ↦ absurd (let e = ap length (get_or_past reader.queries s.query [] ge) in omega arith)
    ]

drop_settles : (s : State) (x : Read) (w : Option ℕ) → copy_of w s ≡ Some x → copy_of w (drop_copy x.item s) ≡ None
unfolding copy_of drop_copy
drop_settles s x None e = cc
drop_settles s x (Some i) e = subst (λ k. find (λ r. r.item == i) (without_item k s.copies) ≡ None) (sym (found_item i s.copies x e)) (find_without i s.copies)

copy_wanted : (s : State) (x : Read) (w : Option ℕ) → copy_of w s ≡ Some x → is_some w ≡ true
unfolding copy_of
copy_wanted s x None e = cc
copy_wanted s x (Some i) e = refl

copy_none : (s : State) → copy_of None s ≡ None
unfolding copy_of
copy_none s = refl

-- After settling, the wanted item has no copy, and one more turn changes nothing. So settling is taking turns as long as the
-- wanted item has a copy.
pub record IsSettling (judge : Judge) (air : Air) (reader : Reader) (s : State) : Type 0 where
  pub settled : copy_of (wanted reader (settle judge air reader s)) (settle judge air reader s) ≡ None
  pub stays : copy_of (wanted reader s) s ≡ None → settle judge air reader s ≡ s
  pub goes_on : settle judge air reader (turn judge air reader s) ≡ settle judge air reader s

module _ (judge : Judge) (air : Air) (reader : Reader) where
  turn_settled : (s : State) → IsSettled reader s → turn judge air reader s ≡ s
  unfolding turn turn_with
  turn_settled s e = ap (λ o. turn_with judge air reader o s) e

  iterate_settled : (n : ℕ) (s : State) → IsSettled reader s → iterate (turn judge air reader) n s ≡ s
  iterate_settled zero s e = refl
  iterate_settled (suc n) s e = ap (iterate (turn judge air reader) n) (turn_settled s e) ∙ iterate_settled n s e

  -- a read that is held leaves one item less to read
  hold_left : (x : Read) (s : State) → is_some (wanted reader s) ≡ true → reads_left reader (hold judge air reader x s) + 1 ≡ reads_left reader s
  unfolding hold accept_if_whole next_query with_line wanted query_of
  hold_left x s w =
      let has = wanted_within reader s w in
      let next = total_next reader.queries s.query has.0 in
      let more = length_push s.held x in
      let low = has.1 in
      cond_keeps (λ t. reads_left reader t + 1 ≡ reads_left reader s) (is_some (slice_get (get_or reader.queries s.query []) (length (s.held ++ x ∷ [])))) _ _
      (λ _. omega arith)
      (λ f. let whole = whole_query (get_or reader.queries s.query []) (length (s.held ++ x ∷ [])) (none_from _ f) in omega arith)

  nothing_left : (s : State) → reads_left reader s ≤ 0 → IsSettled reader s
  nothing_left s l = by (is_some (wanted reader s)) refl
    where
      by : (b : Bool) → is_some (wanted reader s) ≡ b → IsSettled reader s
      by true w = let has = wanted_within reader s w in let next = total_next reader.queries s.query has.0 in let low = has.1 in absurd (omega arith)
      by false f = ap (λ o. copy_of o s) (none_from (wanted reader s) f) ∙ copy_none s

  used : (n : ℕ) (s : State) (x : Read) → copy_of (wanted reader s) s ≡ Some x → reads_left reader s ≤ suc n → ((t : State) → reads_left reader t ≤ n → IsSettled reader (iterate (turn judge air reader) n t)) →
      IsSettled reader (iterate (turn judge air reader) n (turn judge air reader s))
  unfolding turn turn_with drop_copy count_copied wanted query_of
  used n s x e l rest =
      let here : turn judge air reader s ≡ turn_with judge air reader (Some x) s = ap (λ o. turn_with judge air reader o s) e in
      let w = copy_wanted s x (wanted reader s) e in
      subst (λ t. IsSettled reader (iterate (turn judge air reader) n t)) (sym here)
      (cond_keeps (λ t. IsSettled reader (iterate (turn judge air reader) n t)) (is_unusable judge air reader x s) (drop_copy x.item s) (hold judge air reader x (count_copied s))
      (λ _. let gone : IsSettled reader (drop_copy x.item s) = drop_settles s x (wanted reader s) e in
      subst (IsSettled reader) (sym (iterate_settled n (drop_copy x.item s) gone)) gone)
      (λ _. let less : reads_left reader (hold judge air reader x (count_copied s)) + 1 ≡ reads_left reader s = hold_left x (count_copied s) w in
      rest (hold judge air reader x (count_copied s)) (omega arith)))

  -- enough turns settle
  settles : (n : ℕ) (s : State) → reads_left reader s ≤ n → IsSettled reader (iterate (turn judge air reader) n s)
  settles zero s l = nothing_left s l
  settles (suc n) s l = by (copy_of (wanted reader s) s) refl (λ t m. settles n t m)
    where
      by : (o : Option Read) → copy_of (wanted reader s) s ≡ o → ((t : State) → reads_left reader t ≤ n → IsSettled reader (iterate (turn judge air reader) n t)) → IsSettled reader (iterate (turn judge air reader) n (turn judge air reader s))
      by None e rest = subst (IsSettled reader) (sym (iterate_settled (suc n) s e)) e
      by (Some x) e rest = used n s x e l rest

  iterate_after : (n : ℕ) (s : State) → iterate (turn judge air reader) n (turn judge air reader s) ≡ turn judge air reader (iterate (turn judge air reader) n s)
  iterate_after zero s = refl
  iterate_after (suc n) s = iterate_after n (turn judge air reader s)

  go_on : (s : State) → settle judge air reader (turn judge air reader s) ≡ settle judge air reader s
  unfolding settle
  go_on s =
      let n = sum_by length reader.queries in
      let fit = total_drop reader.queries s.query in
      iterate_after n s ∙ turn_settled (iterate (turn judge air reader) n s) (settles n s (omega arith))

  pub settling : (s : State) → IsSettling judge air reader s
  unfolding settle
  settling s =
      let n = sum_by length reader.queries in
      let fit = total_drop reader.queries s.query in
      let done : IsSettled reader (iterate (turn judge air reader) n s) = settles n s (omega arith) in
      record {
        settled = done;
        stays = iterate_settled n s;
        goes_on = go_on s;
      }

pub settle_is : (judge : Judge) (air : Air) (reader : Reader) (s : State) → IsSettling judge air reader s
settle_is judge air reader s = settling judge air reader s

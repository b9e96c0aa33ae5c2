-- By the history a session is the same without heard values and entries: each rule commutes with removing them.
use Rattle.std.proofs.Common.{◌≡◌, ℕ, zero, suc, ◌+◌, ◌-◌, max, Bool, true, false, cond, ◌||◌, ◌&&◌, ◌==◌, nat_le, nat_lt, Option, Some, None, List, [], ◌∷◌, ◌++◌, length, map, get_or, refl, sym, ◌∙◌, ap, not}
use Rattle.std.specs.Prelude.{count_by, sum_by}
use Rattle.std.specs.List.{filter, find, slice_get}
use Rattle.std.specs.Option.{is_some, option_map}
use Rattle.std.specs.Fn.{iterate}
use Rattle.std.proofs.lemmas.Simd.{map-map}
use Rattle.std.proofs.lemmas.List.{length-map, map-append}
use Rattle.std.proofs.lemmas.List.Sums.{length-filter}
use Rattle.air_base.specs.declared.verdicts.Clash.{Clash}
use Rattle.air_base.specs.declared.verdicts.VerdictKind.{VerdictKind}
use Rattle.air_base.specs.declared.verdicts.VerdictKind.TheVariants.{Accept, Abort, Aged, Unfinished}
use Rattle.air_base.specs.declared.verdicts.ReadOf.{ReadOf}
use Rattle.air_history.specs.declared.histories.Event.{Event}
use Rattle.air_history.specs.Tables.{values_of}
use Rattle.air_history.specs.Reads.{read_value}
use Rattle.air_history.specs.Clashes.{clash_of, is_late}
use Rattle.air_history.proofs.ClashLemmas.{cond_same}
use Rattle.air_model.specs.Buckets.{Body, Bucket, Column, Idle, Vector}
use Rattle.air_model.specs.Reads.{Read}
use Rattle.air_model.specs.Copies.{goes_before, keep, with_copy, without_item}
use Rattle.air_model.specs.Airings.{carries}
use Rattle.air_model.specs.Aired.{Air, airs_columns, body_fits, edition_at, fits, pix_at, slots_at}
use Rattle.air_model.specs.Judges.{Judge, by_history, place_of}
use Rattle.air_model.specs.Sessions.{Reader, SessionLine, State, start, read_in, is_wanted, wanted, comes_aged, comes_late, query_of, next_query, next_attempt, copy_of, drop_copy, offer, line_of, with_line, count_copied, count_opened, count_dozed, count_late, count_refused, count_foreign, accept_if_whole, hold, abort, is_unusable, turn_with, turn, settle, decide, end_aged, judge_read, open_bucket, hear_read, hear, hear_all, end_query, end, session}
use Rattle.air_model.specs.SessionLaws.{are_far, bare, bare_body}

-- The read without its value, and with 0 for each entry.
bare_read : Read → Read
bare_read r = record r { value = 0; entries = map (λ e. 0) r.entries }

-- The state with bare reads.
bare_state : State → State
bare_state s = record s { held = map bare_read s.held; copies = map bare_read s.copies }

cond_bare : (b : Bool) (x y : State) → cond b (bare_state x) (bare_state y) ≡ bare_state (cond b x y)
cond_bare true x y = refl
cond_bare false x y = refl

-- ---- copies

filter_bare : (p q : Read → Bool) (R : List Read) → ((r : Read) → p (bare_read r) ≡ q r) → filter p (map bare_read R) ≡ map bare_read (filter q R)
filter_bare p q [] h = refl
filter_bare p q (r ∷ R) h = ap (λ b. cond b (bare_read r ∷ filter p (map bare_read R)) (filter p (map bare_read R))) (h r) ∙ by (q r) (filter_bare p q R h)
  where
    by : (b : Bool) → filter p (map bare_read R) ≡ map bare_read (filter q R) →
        cond b (bare_read r ∷ filter p (map bare_read R)) (filter p (map bare_read R)) ≡ map bare_read (cond b (r ∷ filter q R) (filter q R))
    by true e = ap (λ S. bare_read r ∷ S) e
    by false e = e

count_bare : (p q : Read → Bool) (R : List Read) → ((r : Read) → p (bare_read r) ≡ q r) → count_by p (map bare_read R) ≡ count_by q R
count_bare p q R h = sym (length-filter p (map bare_read R)) ∙ ap length (filter_bare p q R h) ∙ length-map (filter q R) bare_read ∙ length-filter q R

without_bare : (item : ℕ) (R : List Read) → without_item item (map bare_read R) ≡ map bare_read (without_item item R)
unfolding without_item bare_read
without_bare item R = filter_bare _ _ R (λ r. refl)

with_copy_bare : (x : Read) (R : List Read) → with_copy (bare_read x) (map bare_read R) ≡ map bare_read (with_copy x R)
unfolding with_copy bare_read
with_copy_bare x R =
    let below : Read → Bool = λ r. nat_lt r.item x.item in
    let above : Read → Bool = λ r. nat_lt x.item r.item in
    ap (λ S. S ++ bare_read x ∷ filter above (map bare_read R)) (filter_bare below below R (λ r. refl))
    ∙ ap (λ S. map bare_read (filter below R) ++ bare_read x ∷ S) (filter_bare above above R (λ r. refl))
    ∙ sym (map-append bare_read (filter below R) (x ∷ filter above R))

keep_bare : (room : ℕ) (pix : List ℕ) (R : List Read) → keep room pix (map bare_read R) ≡ map bare_read (keep room pix R)
unfolding keep bare_read
keep_bare room pix R = filter_bare _ (λ a. nat_lt (count_by (λ b. goes_before pix b a) R) room) R
    (λ a. ap (λ n. nat_lt n room) (count_bare (λ b. goes_before pix b a) (λ b. goes_before pix b a) R (λ b. refl)))

find_bare : (item : ℕ) (R : List Read) → find (λ r. r.item == item) (map bare_read R) ≡ option_map bare_read (find (λ r. r.item == item) R)
unfolding bare_read
find_bare item [] = refl
find_bare item (r ∷ R) = by (r.item == item) (find_bare item R)
  where
    by : (b : Bool) → find (λ r. r.item == item) (map bare_read R) ≡ option_map bare_read (find (λ r. r.item == item) R) →
        cond b (Some (bare_read r)) (find (λ r. r.item == item) (map bare_read R)) ≡ option_map bare_read (cond b (Some r) (find (λ r. r.item == item) R))
    by true e = refl
    by false e = e

copy_bare : (w : Option ℕ) (s : State) → copy_of w (bare_state s) ≡ option_map bare_read (copy_of w s)
unfolding copy_of bare_state
copy_bare None s = refl
copy_bare (Some item) s = find_bare item s.copies

drop_bare : (item : ℕ) (s : State) → drop_copy item (bare_state s) ≡ bare_state (drop_copy item s)
unfolding drop_copy bare_state
drop_bare item s = ap (λ S. let t : State = record s { held = map bare_read s.held; copies = S } in t) (without_bare item s.copies)

offer_bare : (air : Air) (reader : Reader) (x : Read) (s : State) → offer air reader (bare_read x) (bare_state s) ≡ bare_state (offer air reader x s)
unfolding offer bare_state
offer_bare air reader x s = ap (λ S. let t : State = record s { held = map bare_read s.held; copies = S } in t)
    (ap (keep reader.plan.room (pix_at air s.now)) (with_copy_bare x s.copies) ∙ keep_bare reader.plan.room (pix_at air s.now) (with_copy x s.copies))

-- ---- what is wanted, late, aged and fitting

places_bare : (R : List Read) → map place_of (map bare_read R) ≡ map place_of R
unfolding bare_read
places_bare R = map-map place_of bare_read R

wanted_bare : (reader : Reader) (s : State) → wanted reader (bare_state s) ≡ wanted reader s
unfolding wanted query_of bare_state
wanted_bare reader s = ap (slice_get (query_of reader s)) (length-map s.held bare_read)

late_bare : (air : Air) (s : State) (x : Read) → comes_late air (bare_state s) (bare_read x) ≡ comes_late air s x
unfolding bare_state bare_read
late_bare air s x = ap (λ S. is_late air.scheme.policy S (place_of x)) (places_bare s.held)

aged_bare : (air : Air) (s : State) (x : Read) → comes_aged air (bare_state s) (bare_read x) ≡ comes_aged air s x
unfolding bare_state bare_read
aged_bare air s x = ap (λ S. are_far air.version (S ++ place_of x ∷ [])) (places_bare s.held)

body_bare : (air : Air) (o : Option ℕ) (y : Body) → body_fits air o (bare_body y) ≡ body_fits air o y
unfolding body_fits
body_bare air o (Idle count) = refl
body_bare air o (Column item value entries) = ap (λ n. carries item o && airs_columns air.scheme.policy && (n == air.items)) (length-map entries (λ e. 0))
body_bare air o (Vector item value entries) = ap (λ n. carries item o && not (airs_columns air.scheme.policy) && (n == air.items)) (length-map entries (λ e. 0))

fits_bare : (air : Air) (b : Bucket) → fits air (bare b) ≡ fits air b
unfolding fits
fits_bare air b = ap (λ t. nat_le b.version air.version && (b.edition == edition_at air b.cycle) && nat_lt b.slot (length (slots_at air b.cycle)) && t)
    (body_bare air (get_or (slots_at air b.cycle) b.slot None) b.body)

read_bare : (c : ℕ) (y : Body) → read_in c (bare_body y) ≡ option_map bare_read (read_in c y)
unfolding bare_read
read_bare c (Idle count) = refl
read_bare c (Column item value entries) = refl
read_bare c (Vector item value entries) = refl

-- ---- the rules, by the history

module _ (V : List ℕ) (air : Air) (H : List Event) (reader : Reader) where
  abbrev judge : Judge
  judge = by_history air.scheme air.items V H

  clash_bare : (R : List Read) (x : Read) → judge.clash (map bare_read R) (bare_read x) ≡ judge.clash R x
  unfolding by_history bare_read
  clash_bare R x = ap (λ S. clash_of air.scheme air.items H S (place_of x)) (places_bare R)

  line_bare : (q a : ℕ) (kind : VerdictKind) (R : List Read) → line_of judge q a kind (map bare_read R) ≡ line_of judge q a kind R
  unfolding line_of by_history bare_read
  line_bare q a kind R = ap (λ rs. let l : SessionLine = record { verdict = record { query = q; attempt = a; kind = kind }; reads = rs } in l)
      (map-map (λ r. let x : ReadOf = record { item = r.item; cycle = r.cycle; value = read_value (values_of V) H (place_of r) } in x) bare_read R)

  with_line_bare : (kind : VerdictKind) (s : State) → with_line judge kind (bare_state s) ≡ bare_state (with_line judge kind s)
  unfolding with_line bare_state
  with_line_bare kind s = ap (λ l. let t : State = record s { held = map bare_read s.held; copies = map bare_read s.copies; lines = s.lines ++ l ∷ [] } in t) (line_bare s.query s.attempt kind s.held)

  accept_bare : (s : State) → accept_if_whole judge air reader (bare_state s) ≡ bare_state (accept_if_whole judge air reader s)
  unfolding accept_if_whole next_query bare_state
  accept_bare s =
      ap (λ o. cond (is_some o) (bare_state s) (next_query (with_line judge Accept (bare_state s)))) (wanted_bare reader s)
      ∙ ap (λ t. cond (is_some (wanted reader s)) (bare_state s) (next_query t)) (with_line_bare Accept s)
      ∙ cond_bare (is_some (wanted reader s)) s (next_query (with_line judge Accept s))

  hold_bare : (x : Read) (s : State) → hold judge air reader (bare_read x) (bare_state s) ≡ bare_state (hold judge air reader x s)
  unfolding hold bare_state
  hold_bare x s =
      ap (λ R. accept_if_whole judge air reader (record s { held = R; copies = map bare_read s.copies })) (sym (map-append bare_read s.held (x ∷ [])))
      ∙ accept_bare (record s { held = s.held ++ x ∷ [] })

  next_attempt_bare : (t : State) → next_attempt reader (bare_state t) ≡ bare_state (next_attempt reader t)
  unfolding next_attempt next_query bare_state
  next_attempt_bare t = cond_bare (nat_lt t.attempt reader.plan.tries) (record t { attempt = t.attempt + 1; held = [] }) (next_query t)

  abort_bare : (x : Read) (item : ℕ) (s : State) → abort judge air reader (bare_read x) item (bare_state s) ≡ bare_state (abort judge air reader x item s)
  unfolding abort bare_read
  abort_bare x item s =
      let t = with_line judge (Abort x.item x.cycle item) s in
      ap (λ u. next_attempt reader (drop_copy item u)) (with_line_bare (Abort x.item x.cycle item) s)
      ∙ ap (next_attempt reader) (drop_bare item t)
      ∙ next_attempt_bare (drop_copy item t)

  end_aged_bare : (x : Read) (s : State) → end_aged judge air reader (bare_read x) (bare_state s) ≡ bare_state (end_aged judge air reader x s)
  unfolding end_aged bare_read
  end_aged_bare x s = ap (next_attempt reader) (with_line_bare (Aged x.item x.cycle) s) ∙ next_attempt_bare (with_line judge (Aged x.item x.cycle) s)

  usable_bare : (x : Read) (s : State) → is_unusable judge air reader (bare_read x) (bare_state s) ≡ is_unusable judge air reader x s
  unfolding is_unusable bare_state bare_read
  usable_bare x s =
      ap (λ b. nat_lt reader.plan.age (s.now - x.cycle) || b || comes_aged air (bare_state s) (bare_read x) || is_some (judge.clash (map bare_read s.held) (bare_read x))) (late_bare air s x)
      ∙ ap (λ b. nat_lt reader.plan.age (s.now - x.cycle) || comes_late air s x || b || is_some (judge.clash (map bare_read s.held) (bare_read x))) (aged_bare air s x)
      ∙ ap (λ o. nat_lt reader.plan.age (s.now - x.cycle) || comes_late air s x || comes_aged air s x || is_some o) (clash_bare s.held x)

  turn_with_bare : (o : Option Read) (s : State) → turn_with judge air reader (option_map bare_read o) (bare_state s) ≡ bare_state (turn_with judge air reader o s)
  unfolding turn_with count_copied bare_state bare_read
  turn_with_bare None s = refl
  turn_with_bare (Some x) s =
      ap (λ b. cond b (drop_copy x.item (bare_state s)) (hold judge air reader (bare_read x) (count_copied (bare_state s)))) (usable_bare x s)
      ∙ cond_same (is_unusable judge air reader x s) _ _ _ _ (λ _. drop_bare x.item s) (λ _. hold_bare x (count_copied s))
      ∙ cond_bare (is_unusable judge air reader x s) (drop_copy x.item s) (hold judge air reader x (count_copied s))

  turn_bare : (s : State) → turn judge air reader (bare_state s) ≡ bare_state (turn judge air reader s)
  unfolding turn
  turn_bare s =
      ap (λ w. turn_with judge air reader (copy_of w (bare_state s)) (bare_state s)) (wanted_bare reader s)
      ∙ ap (λ o. turn_with judge air reader o (bare_state s)) (copy_bare (wanted reader s) s)
      ∙ turn_with_bare (copy_of (wanted reader s) s) s

  iterate_bare : (f : State → State) → ((s : State) → f (bare_state s) ≡ bare_state (f s)) → (n : ℕ) (s : State) → iterate f n (bare_state s) ≡ bare_state (iterate f n s)
  iterate_bare f h zero s = refl
  iterate_bare f h (suc n) s = ap (iterate f n) (h s) ∙ iterate_bare f h n (f s)

  settle_bare : (s : State) → settle judge air reader (bare_state s) ≡ bare_state (settle judge air reader s)
  unfolding settle
  settle_bare s = iterate_bare (turn judge air reader) turn_bare (sum_by length reader.queries) s

  decide_bare : (x : Read) (o : Option Clash) (s : State) → decide judge air reader (bare_read x) o (bare_state s) ≡ bare_state (decide judge air reader x o s)
  unfolding decide
  decide_bare x None s = hold_bare x s
  decide_bare x (Some c) s = abort_bare x c.item s

  decided_bare : (x : Read) (s : State) → decide judge air reader (bare_read x) (judge.clash (bare_state s).held (bare_read x)) (bare_state s) ≡ bare_state (decide judge air reader x (judge.clash s.held x) s)
  unfolding bare_state
  decided_bare x s = ap (λ o. decide judge air reader (bare_read x) o (bare_state s)) (clash_bare s.held x) ∙ decide_bare x (judge.clash s.held x) s

  judge_read_bare : (x : Read) (s : State) → judge_read judge air reader (bare_read x) (bare_state s) ≡ bare_state (judge_read judge air reader x s)
  unfolding judge_read
  judge_read_bare x s =
      ap (λ b. cond b (end_aged judge air reader (bare_read x) (bare_state s)) (decide judge air reader (bare_read x) (judge.clash (bare_state s).held (bare_read x)) (bare_state s))) (aged_bare air s x)
      ∙ ap (λ t. cond (comes_aged air s x) t (decide judge air reader (bare_read x) (judge.clash (bare_state s).held (bare_read x)) (bare_state s))) (end_aged_bare x s)
      ∙ ap (λ t. cond (comes_aged air s x) (bare_state (end_aged judge air reader x s)) t) (decided_bare x s)
      ∙ cond_bare (comes_aged air s x) (end_aged judge air reader x s) (decide judge air reader x (judge.clash s.held x) s)

  open_bare : (x : Read) (s : State) → open_bucket judge air reader (bare_read x) (bare_state s) ≡ bare_state (open_bucket judge air reader x s)
  unfolding open_bucket count_opened bare_state
  open_bare x s =
      ap (offer air reader (bare_read x)) (judge_read_bare x (count_opened s))
      ∙ offer_bare air reader x (judge_read judge air reader x (count_opened s))

  hear_read_bare : (o : Option Read) (s : State) → hear_read judge air reader (option_map bare_read o) (bare_state s) ≡ bare_state (hear_read judge air reader o s)
  unfolding hear_read count_dozed count_late bare_state bare_read
  hear_read_bare None s = refl
  hear_read_bare (Some x) s =
      ap (λ w. cond (is_wanted w x.item) (cond (comes_late air (bare_state s) (bare_read x)) (count_late (bare_state s)) (open_bucket judge air reader (bare_read x) (bare_state s))) (count_dozed (bare_state s))) (wanted_bare reader s)
      ∙ ap (λ l. cond (is_wanted (wanted reader s) x.item) (cond l (count_late (bare_state s)) (open_bucket judge air reader (bare_read x) (bare_state s))) (count_dozed (bare_state s))) (late_bare air s x)
      ∙ ap (λ t. cond (is_wanted (wanted reader s) x.item) (cond (comes_late air s x) (count_late (bare_state s)) t) (count_dozed (bare_state s))) (open_bare x s)
      ∙ ap (λ t. cond (is_wanted (wanted reader s) x.item) t (count_dozed (bare_state s))) (cond_bare (comes_late air s x) (count_late s) (open_bucket judge air reader x s))
      ∙ cond_bare (is_wanted (wanted reader s) x.item) (cond (comes_late air s x) (count_late s) (open_bucket judge air reader x s)) (count_dozed s)

  hear_bare : (o : Option Bucket) (s : State) → hear judge air reader (option_map bare o) (bare_state s) ≡ bare_state (hear judge air reader o s)
  unfolding hear count_refused count_foreign bare_state
  hear_bare None s = refl
  hear_bare (Some b) s =
      let t : State = record s { now = max s.now b.cycle } in
      ap (λ f. cond f (hear_read judge air reader (read_in b.cycle (bare_body b.body)) (bare_state t)) (count_foreign (bare_state s))) (fits_bare air b)
      ∙ ap (λ o. cond (fits air b) (hear_read judge air reader o (bare_state t)) (count_foreign (bare_state s))) (read_bare b.cycle b.body)
      ∙ ap (λ u. cond (fits air b) u (count_foreign (bare_state s))) (hear_read_bare (read_in b.cycle b.body) t)
      ∙ cond_bare (fits air b) (hear_read judge air reader (read_in b.cycle b.body) t) (count_foreign s)

  hear_all_bare : (heard : List (Option Bucket)) (s : State) → hear_all judge air reader (map (option_map bare) heard) (bare_state s) ≡ bare_state (hear_all judge air reader heard s)
  unfolding hear_all
  hear_all_bare [] s = settle_bare s
  hear_all_bare (o ∷ heard) s =
      ap (λ t. hear_all judge air reader (map (option_map bare) heard) (hear judge air reader (option_map bare o) t)) (settle_bare s)
      ∙ ap (hear_all judge air reader (map (option_map bare) heard)) (hear_bare o (settle judge air reader s))
      ∙ hear_all_bare heard (hear judge air reader o (settle judge air reader s))

  end_query_bare : (s : State) → end_query judge air reader (bare_state s) ≡ bare_state (end_query judge air reader s)
  unfolding end_query next_query bare_state
  end_query_bare s =
      ap (λ t. let u : State = record (cond (nat_lt s.query (length reader.queries)) (next_query t) (bare_state s)) { copies = [] } in u) (with_line_bare Unfinished s)
      ∙ ap (λ t. let u : State = record t { copies = [] } in u) (cond_bare (nat_lt s.query (length reader.queries)) (next_query (with_line judge Unfinished s)) s)

  session_bare : (heard : List (Option Bucket)) → session judge air reader (map (option_map bare) heard) ≡ bare_state (session judge air reader heard)
  unfolding session end bare_state
  session_bare heard =
      ap (iterate (end_query judge air reader) (length reader.queries)) (hear_all_bare heard start)
      ∙ iterate_bare (end_query judge air reader) end_query_bare (length reader.queries) (hear_all judge air reader heard start)

pub bare_is : (values : List ℕ) (air : Air) (H : List Event) (reader : Reader) (heard : List (Option Bucket)) →
    let s = session (by_history air.scheme air.items values H) air reader heard in
    let t = session (by_history air.scheme air.items values H) air reader (map (option_map bare) heard) in
    (t.lines ≡ s.lines) × (t.counts ≡ s.counts)
unfolding bare_state
bare_is V air H reader heard =
    let same = session_bare V air H reader heard in
    (ap (λ (s : State). s.lines) same, ap (λ (s : State). s.counts) same)

-- The words of a session, taken apart as a receiver takes them: what is opened, what a copy does, and the end.
use Rattle.std.proofs.Common.{◌≡◌, ℕ, ◌+◌, ◌-◌, ◌==◌, ◌<◌, ◌≤◌, Bool, true, false, cond, not, ◌||◌, nat_lt, [], ◌∷◌, ◌++◌, length, Option, Some, None, refl, sym, ◌∙◌, ap}
use Rattle.std.specs.List.{find}
use Rattle.std.specs.Option.{is_some, option_map_or}
use Rattle.std.proofs.lemmas.Bool.{cond-false, cond-true, le-ltb, lt-ltb}
use Rattle.air_base.specs.declared.verdicts.Clash.{Clash}
use Rattle.air_base.specs.declared.verdicts.VerdictKind.TheVariants.{Abort, Accept, Aged, Unfinished}
use Rattle.air_model.specs.Aired.{Air, pix_at}
use Rattle.air_model.specs.Copies.{keep, with_copy, without_item}
use Rattle.air_model.specs.Judges.{Judge, by_entries}
use Rattle.air_model.specs.Reads.{Read}
use Rattle.air_model.specs.Sessions.{Reader, State, abort, accept_if_whole, comes_late, copy_of, count_copied, count_opened, decide, drop_copy, end_query, hold, is_unusable, next_attempt, next_query, offer, open_bucket, query_of, turn, turn_with, wanted, with_line, judge_read, comes_aged, end_aged}
use Rattle.receiver_core.specs.Private.Turns.{uses_copy}

abbrev J : Air → Judge
J air = by_entries air.scheme

cond_after : (f : State → State) (b : Bool) (x y : State) → cond b (f x) (f y) ≡ f (cond b x y)
cond_after f true x y = refl
cond_after f false x y = refl

-- ---- an opened bucket

-- The state with one more opened bucket.
abbrev pub with_opened : State → State
with_opened s = record s { counts = record s.counts { opened = s.counts.opened + 1 } }

-- A read that doesn't lie too far from the held ones is decided on.
near_judged : (air : Air) (reader : Reader) (x : Read) (s : State) → comes_aged air s x ≡ false →
    decide (J air) air reader x ((J air).clash s.held x) (count_opened s) ≡ judge_read (J air) air reader x (count_opened s)
unfolding judge_read count_opened
near_judged air reader x s near = sym (cond-false (comes_aged air s x) _ _ near)

-- One that does ends the attempt.
far_judged : (air : Air) (reader : Reader) (x : Read) (s : State) → comes_aged air s x ≡ true →
    end_aged (J air) air reader x (count_opened s) ≡ judge_read (J air) air reader x (count_opened s)
unfolding judge_read count_opened
far_judged air reader x s far = sym (cond-true (comes_aged air s x) _ _ far)

-- The read is offered, and then the attempt ends.
pub open_aged : (air : Air) (reader : Reader) (x : Read) (s : State) → comes_aged air s x ≡ true →
    next_attempt reader (with_line (J air) (Aged x.item x.cycle) (record (with_opened s) { copies = keep reader.plan.room (pix_at air s.now) (with_copy x s.copies) })) ≡ open_bucket (J air) air reader x s
unfolding open_bucket judge_read end_aged offer with_line next_attempt next_query count_opened
open_aged air reader x s far =
    let t = with_line (J air) (Aged x.item x.cycle) (count_opened s) in
    cond_after (offer air reader x) (nat_lt s.attempt reader.plan.tries) (record t { attempt = t.attempt + 1; held = [] }) (next_query t)
    ∙ ap (offer air reader x) (far_judged air reader x s far)

-- The read is held and offered, and then the query is accepted if it is whole.
pub open_clear : (air : Air) (reader : Reader) (x : Read) (s : State) → comes_aged air s x ≡ false → (J air).clash s.held x ≡ None →
    accept_if_whole (J air) air reader (record (with_opened s) { held = s.held ++ x ∷ []; copies = keep reader.plan.room (pix_at air s.now) (with_copy x s.copies) }) ≡ open_bucket (J air) air reader x s
unfolding open_bucket judge_read decide hold accept_if_whole offer with_line next_query wanted query_of count_opened
open_clear air reader x s near e =
    let t : State = record (with_opened s) { held = s.held ++ x ∷ [] } in
    cond_after (offer air reader x) (is_some (wanted reader t)) t (next_query (with_line (J air) Accept t))
    ∙ ap (λ o. offer air reader x (decide (J air) air reader x o (count_opened s))) (sym e) ∙ ap (offer air reader x) (near_judged air reader x s near)

-- The clash's copy is dropped and the read offered, and then the attempt ends.
pub open_clash : (air : Air) (reader : Reader) (x : Read) (c : Clash) (s : State) → comes_aged air s x ≡ false → (J air).clash s.held x ≡ Some c →
    next_attempt reader (with_line (J air) (Abort x.item x.cycle c.item) (record (with_opened s) { copies = keep reader.plan.room (pix_at air s.now) (with_copy x (without_item c.item s.copies)) })) ≡ open_bucket (J air) air reader x s
unfolding open_bucket judge_read decide abort offer with_line drop_copy next_attempt next_query count_opened
open_clash air reader x c s near e =
    let t = drop_copy c.item (with_line (J air) (Abort x.item x.cycle c.item) (count_opened s)) in
    cond_after (offer air reader x) (nat_lt s.attempt reader.plan.tries) (record t { attempt = t.attempt + 1; held = [] }) (next_query t)
    ∙ ap (λ o. offer air reader x (decide (J air) air reader x o (count_opened s))) (sym e) ∙ ap (offer air reader x) (near_judged air reader x s near)

-- ---- a copy

-- Where no item is wanted, no copy is.
pub no_copy : (s : State) → copy_of None s ≡ None
unfolding copy_of
no_copy s = refl

pub copy_in : (s : State) (w : Option ℕ) (i : ℕ) (o : Option Read) → w ≡ Some i → find (λ r. r.item == i) s.copies ≡ o → copy_of w s ≡ o
unfolding copy_of
copy_in s w i o w_is e = ap (λ v. copy_of v s) w_is ∙ e

pub unused : (air : Air) (reader : Reader) (s : State) → copy_of (wanted reader s) s ≡ None → false ≡ uses_copy air reader s
unused air reader s e = sym (ap (λ o. option_map_or (λ x. not (is_unusable (J air) air reader x s)) o false) e)

pub unturned : (air : Air) (reader : Reader) (s : State) → copy_of (wanted reader s) s ≡ None → turn (J air) air reader s ≡ s
unfolding turn turn_with
unturned air reader s e = ap (λ o. turn_with (J air) air reader o s) e

module _ (air : Air) (reader : Reader) (x : Read) (s : State) (e : copy_of (wanted reader s) s ≡ Some x) where
  used_is : uses_copy air reader s ≡ not (is_unusable (J air) air reader x s)
  used_is = ap (λ o. option_map_or (λ x. not (is_unusable (J air) air reader x s)) o false) e

  turn_is : turn (J air) air reader s ≡ cond (is_unusable (J air) air reader x s) (drop_copy x.item s) (hold (J air) air reader x (count_copied s))
  unfolding turn turn_with
  turn_is = ap (λ o. turn_with (J air) air reader o s) e

  -- A copy that can't be used is dropped.
  pub dropped : is_unusable (J air) air reader x s ≡ true → turn (J air) air reader s ≡ drop_copy x.item s
  dropped u = turn_is ∙ cond-true (is_unusable (J air) air reader x s) _ _ u

  pub dropped_unused : is_unusable (J air) air reader x s ≡ true → false ≡ uses_copy air reader s
  dropped_unused u = sym (used_is ∙ ap not u)

  -- One that can be used is held.
  pub taken : is_unusable (J air) air reader x s ≡ false → turn (J air) air reader s ≡ hold (J air) air reader x (count_copied s)
  taken u = turn_is ∙ cond-false (is_unusable (J air) air reader x s) _ _ u

  pub taken_used : is_unusable (J air) air reader x s ≡ false → true ≡ uses_copy air reader s
  taken_used u = sym (used_is ∙ ap not u)

-- What makes a copy unusable, and what makes it usable.
module _ (air : Air) (reader : Reader) (x : Read) (s : State) where
  -- It is too old, or comes late or aged.
  abbrev pub is_past : Bool
  is_past = nat_lt reader.plan.age (s.now - x.cycle) || comes_late air s x || comes_aged air s x

  pub stale : is_past ≡ true → is_unusable (J air) air reader x s ≡ true
  unfolding is_unusable
  stale e = ap (λ b. b || is_some ((J air).clash s.held x)) e

  pub clashing : (c : Clash) → is_past ≡ false → (J air).clash s.held x ≡ Some c → is_unusable (J air) air reader x s ≡ true
  unfolding is_unusable
  clashing c fresh e = ap (λ b. b || is_some ((J air).clash s.held x)) fresh ∙ ap is_some e

  pub usable : is_past ≡ false → (J air).clash s.held x ≡ None → is_unusable (J air) air reader x s ≡ false
  unfolding is_unusable
  usable fresh clear = ap (λ b. b || is_some ((J air).clash s.held x)) fresh ∙ ap is_some clear

-- ---- the end

module _ (judge : Judge) (air : Air) (reader : Reader) where
  pub end_left : (s : State) → s.query < length reader.queries → next_query (with_line judge Unfinished (record s { copies = [] })) ≡ end_query judge air reader s
  unfolding end_query with_line next_query
  end_left s l = ap (λ v. let u : State = record v { copies = [] } in u) (sym (cond-true (nat_lt s.query (length reader.queries)) _ _ (lt-ltb s.query (length reader.queries) l)))

  pub end_past : (s : State) → length reader.queries ≤ s.query → (let u : State = record s { copies = [] } in u) ≡ end_query judge air reader s
  unfolding end_query
  end_past s l = ap (λ v. let u : State = record v { copies = [] } in u) (sym (cond-false (nat_lt s.query (length reader.queries)) _ _ (le-ltb s.query (length reader.queries) l)))

-- What a heard bucket is to a receiver: what is answered, and what the rule does.
use Rattle.std.proofs.Common.{◌≡◌, ◌≢◌, ℕ, ◌+◌, arith, cond, max, Bool, true, false, ◌&&◌, ◌==◌, [], length, get_or, is_none, not, Option, Some, None, Ok, refl, sym, ◌∙◌, ap}
use Rattle.std.proofs.lemmas.Bool.{and_parts, cond-false, cond-true, eqb-true}
use Rattle.air_model.specs.Aired.{Air, airs_columns, body_fits, fits, slots_at}
use Rattle.air_model.proofs.AiredLemmas.{fit_parts}
use Rattle.air_model.specs.Airings.{carries}
use Rattle.air_model.specs.Buckets.{Body, Bucket, Idle, Column, Vector, count_of, entries_of, item_of, kind_of, value_of}
use Rattle.air_model.specs.Judges.{Judge, by_entries}
use Rattle.air_model.specs.Reads.{Read}
use Rattle.air_model.specs.Sessions.{Reader, State, comes_late, count_dozed, count_foreign, count_late, hear, hear_read, is_wanted, open_bucket, query_of, read_in, wanted}
use Rattle.air_model.proofs.MomentLemmas.{wanted_from}
use Rattle.receiver_core.specs.Private.Attempts.{is_read_wanted, read_from_bucket}
use Rattle.receiver_core.specs.FeedAnswers.{fed_of, fed_read}
use Rattle.receiver_core.specs.LastReads.{in_state, last_reads}
use Rattle.receiver_core.specs.Receivers.{Receiver}
use Rattle.receiver_core.specs.declared.receivers.Fed.TheVariants as fed

abbrev J : Air → Judge
J air = by_entries air.scheme

-- ---- bodies

pub idle_unwanted : (o : Option ℕ) (c : ℕ) (body : Body) → kind_of body ≡ 0 → is_read_wanted o (read_in c body) ≡ false
unfolding kind_of
idle_unwanted o c (Idle count) k = refl
idle_unwanted o c (Column item value entries) k = cc
idle_unwanted o c (Vector item value entries) k = cc

pub busy_wanted : (o : Option ℕ) (c : ℕ) (body : Body) → kind_of body ≢ 0 → is_read_wanted o (read_in c body) ≡ is_wanted o (item_of body)
unfolding kind_of item_of
busy_wanted o c (Idle count) k = absurd (k refl)
busy_wanted o c (Column item value entries) k = refl
busy_wanted o c (Vector item value entries) k = refl

-- The kinds 1 and 2 aren't that of an idle slot.
pub no_kind_0 : (n : ℕ) → n + 1 ≡ 0 → ⊥
no_kind_0 n e = absurd (omega arith)

-- The read of a wanted bucket.
pub record IsWanted (o : Option ℕ) (b : Bucket) : Type 0 where
  pub busy : kind_of b.body ≢ 0
  pub read : read_in b.cycle b.body ≡ Some (read_from_bucket b)
  pub item : o ≡ Some (item_of b.body)

pub wanted_read : (o : Option ℕ) (b : Bucket) → is_read_wanted o (read_in b.cycle b.body) ≡ true → IsWanted o b
unfolding kind_of item_of value_of entries_of
wanted_read o b w = by b.body w
  where
    by : (body : Body) → is_read_wanted o (read_in b.cycle body) ≡ true → IsWanted o (record b { body = body })
    by (Idle count) w = absurd (let f : false ≡ true = w in cc)
    by (Column item value entries) w = record { busy = λ k. cc; read = refl; item = wanted_from o item w }
    by (Vector item value entries) w = record { busy = λ k. cc; read = refl; item = wanted_from o item w }

fitting_count : (air : Air) (slot : Option ℕ) (body : Body) → body_fits air slot body ≡ true → count_of body ≡ air.items
unfolding body_fits count_of
fitting_count air slot (Idle count) f = eqb-true count air.items (and_parts (is_none slot) (count == air.items) f).1
fitting_count air slot (Column item value entries) f = eqb-true (length entries) air.items (and_parts (carries item slot && airs_columns air.scheme.policy) (length entries == air.items) f).1
fitting_count air slot (Vector item value entries) f = eqb-true (length entries) air.items (and_parts (carries item slot && not (airs_columns air.scheme.policy)) (length entries == air.items) f).1

-- A bucket that fits has the deck's number of items.
pub fits_counted : (air : Air) (b : Bucket) → fits air b ≡ true → count_of b.body ≡ air.items
fits_counted air b f = fitting_count air (get_or (slots_at air b.cycle) b.slot None) b.body (fit_parts air b f).body

-- ---- what is answered

pub fed_foreign : (r : Receiver) (b : Bucket) → fits r.air b ≡ false → fed.Foreign ≡ fed_of r (Ok b)
unfolding fed_of
fed_foreign r b f = sym (cond-false (fits r.air b) _ _ f)

pub fed_dozed : (r : Receiver) (b : Bucket) → fits r.air b ≡ true → is_read_wanted (wanted r.reader r.state) (read_in b.cycle b.body) ≡ false → fed.Dozed ≡ fed_of r (Ok b)
unfolding fed_of fed_read
fed_dozed r b f w = sym (cond-true (fits r.air b) _ _ f ∙ by (read_in b.cycle b.body) w)
  where
    by : (o : Option Read) → is_read_wanted (wanted r.reader r.state) o ≡ false → fed_read r o ≡ fed.Dozed
    by None w = refl
    by (Some x) w = cond-false (is_wanted (wanted r.reader r.state) x.item) _ _ w

-- A wanted bucket is late or opened.
fed_wanted : (r : Receiver) (b : Bucket) → fits r.air b ≡ true → is_read_wanted (wanted r.reader r.state) (read_in b.cycle b.body) ≡ true →
    fed_of r (Ok b) ≡ cond (comes_late r.air r.state (read_from_bucket b)) fed.Late fed.Opened
unfolding fed_of fed_read
fed_wanted r b f w =
    let is = wanted_read (wanted r.reader r.state) b w in
    cond-true (fits r.air b) _ _ f ∙ ap (fed_read r) is.read
    ∙ cond-true (is_wanted (wanted r.reader r.state) (read_from_bucket b).item) _ _ (ap (is_read_wanted (wanted r.reader r.state)) (sym is.read) ∙ w)

pub fed_late : (r : Receiver) (b : Bucket) → fits r.air b ≡ true → is_read_wanted (wanted r.reader r.state) (read_in b.cycle b.body) ≡ true →
    comes_late r.air r.state (read_from_bucket b) ≡ true → fed.Late ≡ fed_of r (Ok b)
fed_late r b f w late = sym (fed_wanted r b f w ∙ cond-true (comes_late r.air r.state (read_from_bucket b)) _ _ late)

pub fed_opened : (r : Receiver) (b : Bucket) → fits r.air b ≡ true → is_read_wanted (wanted r.reader r.state) (read_in b.cycle b.body) ≡ true →
    comes_late r.air r.state (read_from_bucket b) ≡ false → fed.Opened ≡ fed_of r (Ok b)
fed_opened r b f w late = sym (fed_wanted r b f w ∙ cond-false (comes_late r.air r.state (read_from_bucket b)) _ _ late)

-- ---- what the rule does

pub hear_foreign : (air : Air) (reader : Reader) (b : Bucket) (s : State) → fits air b ≡ false → count_foreign s ≡ hear (J air) air reader (Some b) s
unfolding hear
hear_foreign air reader b s f = sym (cond-false (fits air b) _ _ f)

-- The state at the bucket's cycle, where it is a newer one.
abbrev pub at_cycle : ℕ → State → State
at_cycle m s = record s { now = m }

pub hear_dozed : (air : Air) (reader : Reader) (b : Bucket) (m : ℕ) (s : State) → m ≡ max s.now b.cycle → fits air b ≡ true →
    is_read_wanted (wanted reader s) (read_in b.cycle b.body) ≡ false → count_dozed (at_cycle m s) ≡ hear (J air) air reader (Some b) s
unfolding hear hear_read wanted query_of
hear_dozed air reader b m s e f w = sym (cond-true (fits air b) _ _ f ∙ ap (λ k. hear_read (J air) air reader (read_in b.cycle b.body) (at_cycle k s)) (sym e) ∙ by (read_in b.cycle b.body) w)
  where
    by : (o : Option Read) → is_read_wanted (wanted reader s) o ≡ false → hear_read (J air) air reader o (at_cycle m s) ≡ count_dozed (at_cycle m s)
    by None w = refl
    by (Some x) w = cond-false (is_wanted (wanted reader s) x.item) _ _ w

-- A wanted bucket is counted as late or opened.
hear_wanted : (air : Air) (reader : Reader) (b : Bucket) (m : ℕ) (s : State) → m ≡ max s.now b.cycle → fits air b ≡ true →
    is_read_wanted (wanted reader s) (read_in b.cycle b.body) ≡ true →
    hear (J air) air reader (Some b) s ≡ cond (comes_late air s (read_from_bucket b)) (count_late (at_cycle m s)) (open_bucket (J air) air reader (read_from_bucket b) (at_cycle m s))
unfolding hear hear_read wanted query_of
hear_wanted air reader b m s e f w =
    let is = wanted_read (wanted reader s) b w in
    cond-true (fits air b) _ _ f ∙ ap (λ k. hear_read (J air) air reader (read_in b.cycle b.body) (at_cycle k s)) (sym e) ∙ ap (λ o. hear_read (J air) air reader o (at_cycle m s)) is.read
    ∙ cond-true (is_wanted (wanted reader s) (read_from_bucket b).item) _ _ (ap (is_read_wanted (wanted reader s)) (sym is.read) ∙ w)

-- ---- the receiver after it

-- No line waits before or after.
pub quiet : (v : Receiver) (s : State) → s.lines ≡ [] → (let t : Receiver = record v { state = s } in t) ≡ in_state v s
unfolding last_reads
quiet v s e = ap (λ L. let t : Receiver = record v { state = s; last = last_reads L v.last } in t) (sym e)

-- The receiver that came to a cycle.
abbrev pub at_newest : ℕ → Receiver → Receiver
at_newest c v = record v { state = at_cycle (max v.state.now c) v.state }

pub foreign_heard : (v : Receiver) (b : Bucket) → v.state.lines ≡ [] → fits v.air b ≡ false →
    (let t : Receiver = record v { state = count_foreign v.state } in t) ≡ in_state v (hear (by_entries v.air.scheme) v.air v.reader (Some b) v.state)
unfolding count_foreign
foreign_heard v b free f = quiet v (count_foreign v.state) free ∙ ap (in_state v) (hear_foreign v.air v.reader b v.state f)

-- The receiver that fits the bucket came to its cycle.
module _ (v now : Receiver) (b : Bucket) (came : now ≡ at_newest b.cycle v) (f : fits v.air b ≡ true) where
  -- So it wants what it wanted, and what comes too late came too late before.
  pub still_wanted : (t : Bool) → is_read_wanted (wanted now.reader now.state) (read_in b.cycle b.body) ≡ t → is_read_wanted (wanted v.reader v.state) (read_in b.cycle b.body) ≡ t
  unfolding wanted query_of
  still_wanted t w = sym (ap (λ (u : Receiver). is_read_wanted (wanted u.reader u.state) (read_in b.cycle b.body)) came) ∙ w

  pub still_late : (t : Bool) → comes_late now.air now.state (read_from_bucket b) ≡ t → comes_late v.air v.state (read_from_bucket b) ≡ t
  still_late t late = sym (ap (λ (u : Receiver). comes_late u.air u.state (read_from_bucket b)) came) ∙ late

  pub dozed_heard : v.state.lines ≡ [] → is_read_wanted (wanted v.reader v.state) (read_in b.cycle b.body) ≡ false →
      (let t : Receiver = record now { state = count_dozed now.state } in t) ≡ in_state v (hear (by_entries v.air.scheme) v.air v.reader (Some b) v.state)
  unfolding count_dozed
  dozed_heard free w =
      ap (λ (u : Receiver). let t : Receiver = record u { state = count_dozed u.state } in t) came ∙ quiet v (count_dozed (at_newest b.cycle v).state) free
      ∙ ap (in_state v) (hear_dozed v.air v.reader b (max v.state.now b.cycle) v.state refl f w)

  pub late_heard : v.state.lines ≡ [] → is_read_wanted (wanted v.reader v.state) (read_in b.cycle b.body) ≡ true → comes_late v.air v.state (read_from_bucket b) ≡ true →
      (let t : Receiver = record now { state = count_late now.state } in t) ≡ in_state v (hear (by_entries v.air.scheme) v.air v.reader (Some b) v.state)
  unfolding count_late
  late_heard free w late =
      ap (λ (u : Receiver). let t : Receiver = record u { state = count_late u.state } in t) came ∙ quiet v (count_late (at_newest b.cycle v).state) free
      ∙ ap (in_state v) (sym (hear_wanted v.air v.reader b (max v.state.now b.cycle) v.state refl f w ∙ cond-true (comes_late v.air v.state (read_from_bucket b)) _ _ late))

  pub opened_heard : is_read_wanted (wanted v.reader v.state) (read_in b.cycle b.body) ≡ true → comes_late v.air v.state (read_from_bucket b) ≡ false →
      in_state now (open_bucket (by_entries now.air.scheme) now.air now.reader (read_from_bucket b) now.state) ≡ in_state v (hear (by_entries v.air.scheme) v.air v.reader (Some b) v.state)
  opened_heard w late =
      ap (λ (u : Receiver). in_state u (open_bucket (by_entries u.air.scheme) u.air u.reader (read_from_bucket b) u.state)) came
      ∙ ap (in_state v) (sym (hear_wanted v.air v.reader b (max v.state.now b.cycle) v.state refl f w ∙ cond-false (comes_late v.air v.state (read_from_bucket b)) _ _ late))

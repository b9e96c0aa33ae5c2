-- A turn of settling: what it does at the fields, and where turns lead.
use Rattle.std.proofs.Common.{◌≡◌, ℕ, ◌+◌, ◌-◌, ◌<◌, Bool, true, false, cond, not, ◌||◌, ◌==◌, nat_lt, map, List, [], ◌∷◌, ◌++◌, length, get_or, Option, Some, None, refl, sym, ◌∙◌, ap, subst, arith}
use Rattle.std.specs.List.{filter, find, slice_get}
use Rattle.std.specs.Option.{is_some, option_map_or}
use Rattle.std.proofs.lemmas.Bool.{cond-false, eqb-true}
use Rattle.std.proofs.lemmas.List.{length_push}
use Rattle.air_base.specs.declared.verdicts.VerdictKind.TheVariants.{Accept}
use Rattle.air_history.specs.Clashes.{is_late}
use Rattle.air_model.specs.Aired.{Air}
use Rattle.air_model.specs.Copies.{without_item}
use Rattle.air_model.specs.Judges.{Judge, by_entries, place_of}
use Rattle.air_model.specs.Reads.{Read}
use Rattle.air_model.specs.SessionLaws.{are_far}
use Rattle.air_model.specs.Sessions
use Rattle.air_model.specs.Sessions.{Reader, SessionLine, State, accept_if_whole, comes_late, count_copied, drop_copy, hold, is_unusable, line_of, next_query, query_of, turn, turn_with, wanted, with_line}
use Rattle.air_model.proofs.MomentLemmas.{cond_keeps, find_is}
use Rattle.air_model.proofs.SoundLemmas.{part_of_query}
use Rattle.pix_cache.specs.Caches.{Cache, copy_among}
use Rattle.air_base.specs.declared.verdicts.ReadOf.{ReadOf}
use Rattle.air_base.specs.declared.verdicts.Verdict.{Verdict}
use Rattle.receiver_core.specs.LastReads.{in_state, last_reads}
use Rattle.receiver_core.specs.LinesGiven.{lines_of}
use Rattle.receiver_core.specs.Receivers.{Receiver}
use Rattle.receiver_core.specs.ReceiverSteps.{step}
use Rattle.receiver_core.specs.ReceiverFields.{IsReceiver, IsWholeRead, receiver_in}
use Rattle.receiver_core.specs.Private.Attempts.{HeldValues}
use Rattle.receiver_core.specs.Private.Turns.{uses_copy}
use Rattle.receiver_core.specs.declared.receivers.Receiver.TheInside.{Inside}
use Rattle.receiver_core.proofs.HearLemmas.{quiet}
use Rattle.receiver_core.proofs.SettlingLemmas.{step_given, step_on_turn, step_settled}
use Rattle.receiver_core.proofs.WordLemmas.{copy_in, dropped, is_past, no_copy, taken}

abbrev J : Air → Judge
J air = by_entries air.scheme

-- ---- at the fields

-- The copy of the wanted item is the cache's.
pub kept_at : (r : Inside) (item : ℕ) (o : Option Read) → wanted (receiver_in r).reader (receiver_in r).state ≡ Some item → copy_among item r.copies.copies ≡ o →
    Sessions.copy_of (wanted (receiver_in r).reader (receiver_in r).state) (receiver_in r).state ≡ o
unfolding copy_among
kept_at r item o w e = copy_in (receiver_in r).state _ item o w e

-- Without a wanted item there is none.
pub none_at : (r : Inside) → wanted (receiver_in r).reader (receiver_in r).state ≡ None → Sessions.copy_of (wanted (receiver_in r).reader (receiver_in r).state) (receiver_in r).state ≡ None
none_at r w = ap (λ o. Sessions.copy_of o (receiver_in r).state) w ∙ no_copy (receiver_in r).state

pub kept_whole : (r : Inside) (item : ℕ) (x : Read) → IsReceiver r → copy_among item r.copies.copies ≡ Some x → IsWholeRead r.air.items x
unfolding copy_among
kept_whole r item x k e = (find_is (IsWholeRead r.air.items) (λ y. y.item == item) r.copies.copies k.cache.copies (Some x) e).0

-- Whether a copy is stale is told by the reader's age, the deck's policy and its version.
pub stale_at : (r : Inside) (x : Read) (b : Bool) (age version : ℕ) → IsReceiver r →
    ((item : ℕ) → b ≡ (nat_lt age (r.latest - x.cycle) || is_late r.held.policy (map place_of r.held.reads) (record { item = item; cycle = x.cycle })
    || are_far version (map place_of r.held.reads ++ record { item = item; cycle = x.cycle } ∷ []))) → age ≡ r.reader.plan.age → version ≡ r.air.version →
    is_past r.air r.reader x (receiver_in r).state ≡ b
stale_at r x b age version k told e v =
    let R = map place_of r.held.reads in
    let far = are_far version (R ++ place_of x ∷ []) in
    sym (told x.item ∙ ap (λ n. nat_lt n (r.latest - x.cycle) || is_late r.held.policy R (place_of x) || far) e
    ∙ ap (λ p. nat_lt r.reader.plan.age (r.latest - x.cycle) || is_late p R (place_of x) || far) k.held.policy
    ∙ ap (λ n. nat_lt r.reader.plan.age (r.latest - x.cycle) || comes_late r.air (receiver_in r).state x || are_far n (R ++ place_of x ∷ [])) v)

-- The fields with one more read from a copy.
abbrev pub taken_with : Inside → HeldValues → Inside
taken_with r held = record r { counts = record r.counts { copied = r.counts.copied + 1 }; held = held }

module _ (r : Inside) (x : Read) (kept : Sessions.copy_of (wanted (receiver_in r).reader (receiver_in r).state) (receiver_in r).state ≡ Some x) where
  pub dropped_at : (held : HeldValues) (cache : Cache) → (receiver_in r).state.lines ≡ [] → is_unusable (J r.air) r.air r.reader x (receiver_in r).state ≡ true → held ≡ r.held →
      cache ≡ record r.copies { copies = without_item x.item r.copies.copies } →
      receiver_in (record r { held = held; copies = cache }) ≡ in_state (receiver_in r) (turn (J r.air) r.air r.reader (receiver_in r).state)
  unfolding drop_copy
  dropped_at held cache free unusable same e =
      let v = receiver_in r in
      ap (λ (h : HeldValues). receiver_in (record r { held = h; copies = cache })) same
      ∙ ap (λ (c : Cache). receiver_in (record r { copies = c })) e ∙ quiet v (drop_copy x.item v.state) free
      ∙ ap (in_state v) (sym (dropped r.air r.reader x v.state kept unusable))

  pub taken_at : (held : HeldValues) → is_unusable (J r.air) r.air r.reader x (receiver_in r).state ≡ false → held ≡ record r.held { reads = r.held.reads ++ x ∷ [] } →
      in_state (receiver_in (taken_with r held)) (accept_if_whole (J r.air) r.air r.reader (receiver_in (taken_with r held)).state)
      ≡ in_state (receiver_in r) (turn (J r.air) r.air r.reader (receiver_in r).state)
  unfolding hold count_copied
  taken_at held usable e =
      let v = receiver_in r in
      ap (λ h. in_state (receiver_in (taken_with r h)) (accept_if_whole (J r.air) r.air r.reader (receiver_in (taken_with r h)).state)) e
      ∙ ap (in_state v) (sym (taken r.air r.reader x v.state kept usable))

-- ---- where turns lead

-- A state after a state without lines is a state after the first.
pub later : (old : Receiver) (s t : State) → s.lines ≡ [] → in_state (in_state old s) t ≡ in_state old t
unfolding last_reads
later old s t free = ap (λ L. in_state (record old { last = last_reads L old.last }) t) free

find_without : (i : ℕ) (R : List Read) → find (λ r. r.item == i) (without_item i R) ≡ None
unfolding without_item
find_without i [] = refl
find_without i (r ∷ R) = by (r.item == i) refl (find_without i R)
  where
    by : (b : Bool) → (r.item == i) ≡ b → find (λ r. r.item == i) (filter (λ r. not (r.item == i)) R) ≡ None → find (λ r. r.item == i) (cond (not b) (r ∷ filter (λ r. not (r.item == i)) R) (filter (λ r. not (r.item == i)) R)) ≡ None
    by true e rest = rest
    by false e rest = cond-false (r.item == i) _ _ e ∙ rest

drop_settles : (s : State) (x : Read) (w : Option ℕ) → Sessions.copy_of w s ≡ Some x → Sessions.copy_of w (drop_copy x.item s) ≡ None
unfolding Sessions.copy_of drop_copy
drop_settles s x None e = cc
drop_settles s x (Some i) e =
    let its : x.item ≡ i = eqb-true x.item i (find_is (λ _. Unit {0}) (λ r. r.item == i) s.copies (λ k d l. tt) (Some x) e).1 in
    subst (λ k. find (λ r. r.item == i) (without_item k s.copies) ≡ None) (sym its) (find_without i s.copies)

dropped_gone : (reader : Reader) (s : State) (x : Read) → Sessions.copy_of (wanted reader s) s ≡ Some x → Sessions.copy_of (wanted reader (drop_copy x.item s)) (drop_copy x.item s) ≡ None
unfolding wanted query_of drop_copy
dropped_gone reader s x kept = drop_settles s x (wanted reader s) kept

-- A turn that uses no copy leaves none of the wanted item.
pub turn_ends : (air : Air) (reader : Reader) (s : State) → uses_copy air reader s ≡ false → Sessions.copy_of (wanted reader (turn (J air) air reader s)) (turn (J air) air reader s) ≡ None
unfolding turn turn_with
turn_ends air reader s e = by (Sessions.copy_of (wanted reader s) s) refl e
  where
    by : (o : Option Read) → Sessions.copy_of (wanted reader s) s ≡ o → option_map_or (λ x. not (is_unusable (J air) air reader x s)) o false ≡ false →
        Sessions.copy_of (wanted reader (turn_with (J air) air reader o s)) (turn_with (J air) air reader o s) ≡ None
    by None none f = none
    by (Some x) kept f = cond_keeps (λ t. Sessions.copy_of (wanted reader t) t ≡ None) (is_unusable (J air) air reader x s) _ _ (λ _. dropped_gone reader s x kept)
        (λ usable. absurd (let g : true ≡ false = sym (ap not usable) ∙ f in cc))

line_pushed : (L : List SessionLine) (l : SessionLine) → L ++ l ∷ [] ≡ [] → ⊥
line_pushed [] l e = cc
line_pushed (k ∷ L) l e = cc

-- How many items of the query aren't held.
abbrev pub items_left : Reader → State → ℕ
items_left reader s = length (query_of reader s) - length s.held

held_less : (judge : Judge) (air : Air) (reader : Reader) (x : Read) (s : State) → is_some (wanted reader s) ≡ true → (hold judge air reader x s).lines ≡ [] → items_left reader (hold judge air reader x s) < items_left reader s
unfolding hold accept_if_whole wanted query_of next_query with_line
held_less judge air reader x s w free =
    let more = length_push s.held x in
    let within = part_of_query (get_or reader.queries s.query []) (length s.held) w in
    by (is_some (slice_get (get_or reader.queries s.query []) (length (s.held ++ x ∷ [])))) free (omega arith)
  where
    by : (b : Bool) → (cond b (let t : State = record s { held = s.held ++ x ∷ [] } in t) (next_query (with_line judge Accept (record s { held = s.held ++ x ∷ [] })))).lines ≡ [] →
        length (get_or reader.queries s.query []) - length (s.held ++ x ∷ []) < length (get_or reader.queries s.query []) - length s.held →
        items_left reader (cond b (let t : State = record s { held = s.held ++ x ∷ [] } in t) (next_query (with_line judge Accept (record s { held = s.held ++ x ∷ [] })))) < items_left reader s
    by true free less = less
    by false free less = absurd (line_pushed s.lines (line_of judge s.query s.attempt Accept (s.held ++ x ∷ [])) free)

some_copy : (s : State) (x : Read) (w : Option ℕ) → Sessions.copy_of w s ≡ Some x → is_some w ≡ true
unfolding Sessions.copy_of
some_copy s x None e = cc
some_copy s x (Some i) e = refl

-- A turn that uses a copy and gives no line leaves fewer items.
pub turn_less : (air : Air) (reader : Reader) (s : State) → uses_copy air reader s ≡ true → (turn (J air) air reader s).lines ≡ [] → items_left reader (turn (J air) air reader s) < items_left reader s
unfolding turn turn_with count_copied wanted query_of
turn_less air reader s used free = by (Sessions.copy_of (wanted reader s) s) refl used free
  where
    by : (o : Option Read) → Sessions.copy_of (wanted reader s) s ≡ o → option_map_or (λ x. not (is_unusable (J air) air reader x s)) o false ≡ true → (turn_with (J air) air reader o s).lines ≡ [] →
        items_left reader (turn_with (J air) air reader o s) < items_left reader s
    by None none f free = absurd (let g : false ≡ true = f in cc)
    by (Some x) kept f free = which (is_unusable (J air) air reader x s) f free
      where
        which : (b : Bool) → not b ≡ true → (cond b (drop_copy x.item s) (hold (J air) air reader x (count_copied s))).lines ≡ [] →
            items_left reader (cond b (drop_copy x.item s) (hold (J air) air reader x (count_copied s))) < items_left reader s
        which true f free = absurd (let g : false ≡ true = f in cc)
        which false f free = held_less (J air) air reader x (count_copied s) (some_copy s x (wanted reader s) kept) free

-- The step of a state that has no line and no copy to use is what a turn comes to.
pub stops : (air : Air) (reader : Reader) (s : State) → s.lines ≡ [] → uses_copy air reader s ≡ false → turn (J air) air reader s ≡ step (J air) air reader s
stops air reader s free unused = sym (step_settled (J air) air reader (turn (J air) air reader s) (turn_ends air reader s unused)) ∙ step_on_turn (J air) air reader s free

-- And that of one whose turn gives a line.
pub gives : (air : Air) (reader : Reader) (s : State) → s.lines ≡ [] → 0 < length (turn (J air) air reader s).lines → turn (J air) air reader s ≡ step (J air) air reader s
gives air reader s free line = sym (step_given (J air) air reader (turn (J air) air reader s) line) ∙ step_on_turn (J air) air reader s free

-- ---- from turn to turn: the receiver l came from the old one, and the next one from l by a turn

no_lines : (o : Option Verdict) (last : List ReadOf) → is_some o ≡ false → lines_of o last ≡ []
no_lines None last e = refl
no_lines (Some v) last e = absurd (let f : true ≡ false = e in cc)

a_line : (o : Option Verdict) (last : List ReadOf) → is_some o ≡ true → 0 < length (lines_of o last)
a_line None last e = absurd (let f : false ≡ true = e in cc)
a_line (Some v) last e = omega arith

-- Whether a verdict waits is whether there is a line.
pub waits_none : (r : Inside) (now : Receiver) → receiver_in r ≡ now → is_some r.waiting ≡ false → now.state.lines ≡ []
waits_none r now is e = sym (ap (λ (v : Receiver). v.state.lines) is) ∙ no_lines r.waiting r.last e

pub waits_some : (r : Inside) (now : Receiver) → receiver_in r ≡ now → is_some r.waiting ≡ true → 0 < length now.state.lines
waits_some r now is e = subst (λ (v : Receiver). 0 < length v.state.lines) is (a_line r.waiting r.last e)

module _ (old l now : Receiver) (same : l ≡ in_state old l.state) (free : l.state.lines ≡ []) (turned : now ≡ in_state l (turn (J l.air) l.air l.reader l.state)) where
  now_is : now ≡ in_state old (turn (J old.air) old.air old.reader l.state)
  now_is = turned ∙ ap (λ (v : Receiver). in_state v (turn (J v.air) v.air v.reader l.state)) same ∙ later old l.state (turn (J old.air) old.air old.reader l.state) free

  now_state : now.state ≡ turn (J old.air) old.air old.reader l.state
  now_state = ap (λ (v : Receiver). v.state) now_is

  pub still_same : now ≡ in_state old now.state
  still_same = now_is ∙ ap (in_state old) (sym now_state)

  pub fewer_items : uses_copy l.air l.reader l.state ≡ true → now.state.lines ≡ [] → items_left now.reader now.state < items_left l.reader l.state
  fewer_items used none = subst (λ (v : Receiver). items_left v.reader v.state < items_left l.reader l.state) (sym turned)
      (turn_less l.air l.reader l.state used (sym (ap (λ (v : Receiver). v.state.lines) turned) ∙ none))

  module _ (goes : step (J old.air) old.air old.reader l.state ≡ step (J old.air) old.air old.reader old.state) where
    pub still_on : step (J old.air) old.air old.reader now.state ≡ step (J old.air) old.air old.reader old.state
    still_on = ap (step (J old.air) old.air old.reader) now_state ∙ step_on_turn (J old.air) old.air old.reader l.state free ∙ goes

    -- The step came to its line.
    pub came_to_line : 0 < length now.state.lines → now ≡ in_state old (step (J old.air) old.air old.reader old.state)
    came_to_line line = now_is ∙ ap (in_state old) (gives old.air old.reader l.state free (subst (λ (t : State). 0 < length t.lines) now_state line) ∙ goes)

    -- The step came to where no copy can be used.
    pub came_to_end : uses_copy l.air l.reader l.state ≡ false → now ≡ in_state old (step (J old.air) old.air old.reader old.state)
    came_to_end none = now_is ∙ ap (in_state old) (stops old.air old.reader l.state free (subst (λ (v : Receiver). uses_copy v.air v.reader l.state ≡ false) same none) ∙ goes)

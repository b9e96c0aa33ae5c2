-- What a step and an end hand out.
use Rattle.std.proofs.Common.{◌≡◌, ℕ, zero, suc, ◌+◌, ◌-◌, ◌*◌, ◌<◌, ◌≤◌, Bool, false, IsTrue, ◌==◌, inl, inr, nat_lt, List, [], ◌∷◌, ◌++◌, length, Option, Some, None, refl, sym, ◌∙◌, ap, subst, arith}
use Rattle.std.specs.Prelude.{sum_by}
use Rattle.std.specs.List.{find}
use Rattle.std.specs.Option.{is_some}
use Rattle.std.proofs.lemmas.Bool.{both_ways, cases_lt, cond-false, cond-true, lt-ltb}
use Rattle.std.proofs.lemmas.List.{length_push}
use Rattle.air_base.specs.declared.verdicts.ReadOf.{ReadOf}
use Rattle.air_base.specs.declared.verdicts.Verdict.{Verdict}
use Rattle.air_base.specs.declared.verdicts.VerdictKind.TheVariants.{Accept, Unfinished}
use Rattle.air_model.specs.Judges.{Judge, by_entries}
use Rattle.air_model.specs.Aired.{Air}
use Rattle.air_model.specs.Reads.{Read}
use Rattle.air_model.specs.Sessions.{Reader, SessionLine, State, accept_if_whole, copy_of, count_copied, drop_copy, end_query, hold, is_unusable, line_of, next_query, settle, turn, turn_with, wanted, with_line}
use Rattle.receiver_core.specs.ReceiverSteps.{step, turn_to_line}
use Rattle.air_model.proofs.MomentLemmas.{cond_keeps}
use Rattle.pix_cache.specs.Caches.{Cache}
use Rattle.receiver_core.specs.LinesGiven.{lines_given, lines_of}
use Rattle.receiver_core.specs.LastReads.{in_state, last_reads}
use Rattle.receiver_core.specs.Receivers.{IsSettled, Receiver, heard_count, state_after_step, steps_left}
use Rattle.receiver_core.specs.ReceiverFields.{receiver_in}
use Rattle.receiver_core.specs.declared.receivers.Receiver.TheInside.{Inside}
use Rattle.receiver_core.specs.declared.receivers.Step.{Step}
use Rattle.receiver_core.specs.declared.receivers.Step.TheVariants as given
use Rattle.air_model.proofs.SettleLemmas.{settle_is}
use Rattle.receiver_core.proofs.SettlingLemmas.{on_the_way}
use Rattle.receiver_core.proofs.StateLemmas.{goes_on, left, next_query_lines}
use Rattle.receiver_core.proofs.WordLemmas.{end_left, end_past}

-- ---- a step

-- What a step gives: the verdict that waited, or what settling came to.
pub stepped_waits : (old : Receiver) → 0 < length old.state.lines → state_after_step old ≡ old.state
stepped_waits old l = cond-true (nat_lt 0 (length old.state.lines)) _ _ (lt-ltb 0 (length old.state.lines) l)

pub stepped_free : (old : Receiver) → old.state.lines ≡ [] → state_after_step old ≡ step (by_entries old.air.scheme) old.air old.reader old.state
stepped_free old e = cond-false (nat_lt 0 (length old.state.lines)) _ _ (ap (λ L. nat_lt 0 (length L)) e)

-- A turn leaves no more steps than before it, and counts nothing that was heard.
record IsTurn (reader : Reader) (s t : State) : Type 0 where
  steps : 2 * (length reader.queries - t.query) + length t.lines ≤ 2 * (length reader.queries - s.query) + length s.lines
  heard : heard_count t.counts ≡ heard_count s.counts

module _ (judge : Judge) (air : Air) (reader : Reader) where
  same_turn : (s : State) → IsTurn reader s s
  same_turn s = record { steps = omega arith; heard = refl }

  next_turn : (s t u : State) → IsTurn reader s t → IsTurn reader t u → IsTurn reader s u
  next_turn s t u a b = let first = a.steps in let then = b.steps in record { steps = omega arith; heard = b.heard ∙ a.heard }

  hold_turn : (x : Read) (s : State) → s.query < length reader.queries → IsTurn reader s (hold judge air reader x (count_copied s))
  unfolding hold accept_if_whole next_query with_line count_copied
  hold_turn x s l =
      let t : State = record (count_copied s) { held = s.held ++ x ∷ [] } in
      cond_keeps (IsTurn reader s) (is_some (wanted reader t)) _ _
      (λ _. record { steps = omega arith; heard = refl })
      (λ _. let more = length_push s.lines (line_of judge s.query s.attempt Accept (s.held ++ x ∷ [])) in record { steps = omega arith; heard = refl })

  turn_turn : (s : State) → IsTurn reader s (turn judge air reader s)
  unfolding turn turn_with drop_copy copy_of
  turn_turn s = by (wanted reader s) refl
    where
      used : (o : Option Read) → s.query < length reader.queries → IsTurn reader s (turn_with judge air reader o s)
      used None l = same_turn s
      used (Some x) l = cond_keeps (IsTurn reader s) (is_unusable judge air reader x s) _ _ (λ _. record { steps = omega arith; heard = refl }) (λ _. hold_turn x s l)

      by : (w : Option ℕ) → wanted reader s ≡ w → IsTurn reader s (turn_with judge air reader (copy_of w s) s)
      by None e = same_turn s
      by (Some i) e = used (copy_of (Some i) s) (left reader s i e)

  turns_turn : (n : ℕ) (s : State) → IsTurn reader s (turn_to_line judge air reader n s)
  unfolding turn_to_line
  turns_turn zero s = same_turn s
  turns_turn (suc n) s = cond_keeps (IsTurn reader s) (nat_lt 0 (length s.lines)) _ _ (λ _. same_turn s)
      (λ _. next_turn s (turn judge air reader s) _ (turn_turn s) (turns_turn n (turn judge air reader s)))

  step_turn : (s : State) → IsTurn reader s (step judge air reader s)
  unfolding step
  step_turn s = turns_turn (sum_by length reader.queries) s

  pub step_heard : (s : State) → heard_count (step judge air reader s).counts ≡ heard_count s.counts
  step_heard s = (step_turn s).heard

  pub step_left : (s : State) → 2 * (length reader.queries - (step judge air reader s).query) + length (step judge air reader s).lines ≤ 2 * (length reader.queries - s.query) + length s.lines
  step_left s = (step_turn s).steps

-- The verdict that waited leaves fewer to hand out.
pub fewer_left : (r : Inside) (o : Option Verdict) (v : Verdict) (n : ℕ) → o ≡ None → r.waiting ≡ Some v → steps_left (receiver_in r) ≤ n → steps_left (receiver_in (record r { waiting = o })) < n
fewer_left r o v n e f most =
    let none : length (lines_of o r.last) ≡ 0 = ap (λ p. length (lines_of p r.last)) e in
    let one : length (lines_of r.waiting r.last) ≡ 1 = ap (λ p. length (lines_of p r.last)) f in
    omega arith

-- Where nothing waits, a step begins with the receiver as it is.
pub nothing_taken : (r : Inside) (o : Option Verdict) (old : Receiver) → receiver_in r ≡ old → o ≡ None → r.waiting ≡ None → receiver_in (record r { waiting = o }) ≡ old
nothing_taken r o old is e f = ap (λ w. receiver_in (record r { waiting = w })) (e ∙ sym f) ∙ is

-- What settling came to, from the receiver as it was.
pub came : (r : Inside) (o : Option Verdict) (old settled : Receiver) → receiver_in r ≡ old → o ≡ None → r.waiting ≡ None →
    settled ≡ in_state (receiver_in (record r { waiting = o })) (step (by_entries r.air.scheme) r.air r.reader (receiver_in (record r { waiting = o })).state) →
    settled ≡ in_state old (step (by_entries old.air.scheme) old.air old.reader old.state)
came r o old settled is e f g = g ∙ ap (λ (v : Receiver). in_state v (step (by_entries v.air.scheme) v.air v.reader v.state)) (nothing_taken r o old is e f)

pub none_waits_now : (r : Inside) → r.waiting ≡ None → (receiver_in r).state.lines ≡ []
none_waits_now r e = ap (λ o. lines_of o r.last) e

pub one_waits_now : (r : Inside) (v : Verdict) → r.waiting ≡ Some v → 0 < length (receiver_in r).state.lines
one_waits_now r v e = let one : length (lines_of r.waiting r.last) ≡ 1 = ap (λ p. length (lines_of p r.last)) e in omega arith

-- ---- after settling: the receiver r came from the old one by a step

module _ (old : Receiver) (r : Inside) (free : old.state.lines ≡ []) (is : receiver_in r ≡ in_state old (step (by_entries old.air.scheme) old.air old.reader old.state)) where
  now_is : (receiver_in r).state ≡ step (by_entries old.air.scheme) old.air old.reader old.state
  now_is = ap (λ (t : Receiver). t.state) is

  -- The line that settling came to is given.
  pub stepped_given : (s : Step) → lines_given s r.last ≡ lines_of r.waiting r.last → (let t : State = record (receiver_in r).state { lines = lines_given s r.last } in t) ≡ state_after_step old
  stepped_given s e = ap (λ L. let t : State = record (receiver_in r).state { lines = L } in t) e ∙ now_is ∙ sym (stepped_free old free)

  pub last_stepped : (s : Step) → lines_given s r.last ≡ lines_of r.waiting r.last → r.last ≡ last_reads (lines_given s r.last) old.last
  last_stepped s e = ap (λ (t : Receiver). t.last) is ∙ ap (λ L. last_reads L old.last) (sym (ap (λ (t : Receiver). t.state.lines) is) ∙ sym e)

  pub same_heard : heard_count r.counts ≡ heard_count old.state.counts
  same_heard = ap (λ (t : State). heard_count t.counts) now_is ∙ step_heard (by_entries old.air.scheme) old.air old.reader old.state

  pub no_more_left : steps_left (receiver_in r) ≤ steps_left old
  no_more_left = subst (λ (t : Receiver). steps_left t ≤ steps_left old) (sym is) (step_left (by_entries old.air.scheme) old.air old.reader old.state)

  -- Without a line it is settled.
  pub settled_now : (o : Option Verdict) → o ≡ None → r.waiting ≡ None → IsSettled (receiver_in (record r { waiting = o }))
  settled_now o e f =
      let none = none_waits_now r f in
      let came : step (by_entries old.air.scheme) old.air old.reader old.state ≡ settle (by_entries old.air.scheme) old.air old.reader old.state =
      (on_the_way (by_entries old.air.scheme) old.air old.reader old.state).no_line (sym (ap (λ (t : State). t.lines) now_is) ∙ none) in
      let settled : copy_of (wanted old.reader (receiver_in r).state) (receiver_in r).state ≡ None =
      subst (λ t. copy_of (wanted old.reader t) t ≡ None) (sym (now_is ∙ came)) (settle_is (by_entries old.air.scheme) old.air old.reader old.state).settled in
      let same : copy_of (wanted r.reader (receiver_in r).state) (receiver_in r).state ≡ None =
      subst (λ (t : Reader). copy_of (wanted t (receiver_in r).state) (receiver_in r).state ≡ None) (sym (ap (λ (t : Receiver). t.reader) is)) settled in
      subst (λ w. IsSettled (receiver_in (record r { waiting = w }))) (f ∙ sym e) (record { given = none; free = same })

pub last_given : (s : Step) (last : List ReadOf) → last ≡ last_reads (lines_given s last) last
unfolding last_reads
last_given (given.Verdict v) last = refl
last_given given.Waiting last = refl
last_given given.Done last = refl

-- ---- the end

pub last_ended : (o : Option Verdict) (last before : List ReadOf) → (o ≡ None → last ≡ before) → last ≡ last_reads (lines_of o last) before
unfolding last_reads
last_ended None last before same = same refl
last_ended (Some v) last before same = refl

-- The receiver without copies.
abbrev pub without_copies : Receiver → Receiver
without_copies old = record old { state = record old.state { copies = [] } }

-- Without copies the wanted item has none.
none_kept : (w : Option ℕ) (s : State) → s.copies ≡ [] → copy_of w s ≡ None
unfolding copy_of
none_kept None s e = refl
none_kept (Some i) s e = ap (λ cs. find (λ r. r.item == i) cs) e

pub bare_settled : (r : Receiver) → r.state.lines ≡ [] → r.state.copies ≡ [] → IsSettled r
bare_settled r given bare = record { given = given; free = none_kept (wanted r.reader r.state) r.state bare }

pub bare_at : (r : Inside) (old : Receiver) (cache : Cache) → receiver_in r ≡ old → cache ≡ record r.copies { copies = [] } → receiver_in (record r { copies = cache }) ≡ without_copies old
bare_at r old cache is e = ap (λ (c : Cache). receiver_in (record r { copies = c })) e ∙ ap without_copies is

pub ended_copies : (old now : Receiver) → now ≡ in_state (without_copies old) (next_query (with_line (by_entries old.air.scheme) Unfinished (without_copies old).state)) → now.state.copies ≡ []
unfolding next_query with_line
ended_copies old now e = ap (λ (t : Receiver). t.state.copies) e

-- The verdict at the end is that of the receiver without copies.
pub given_bare : (r : Inside) (old given : Receiver) (cache : Cache) → receiver_in r ≡ old → cache ≡ record r.copies { copies = [] } →
    given ≡ in_state (receiver_in (record r { copies = cache })) (with_line (by_entries r.air.scheme) Unfinished (receiver_in (record r { copies = cache })).state) →
    given ≡ in_state (without_copies old) (with_line (by_entries old.air.scheme) Unfinished (without_copies old).state)
given_bare r old given cache is e g = g ∙ ap (λ (t : Receiver). in_state t (with_line (by_entries t.air.scheme) Unfinished t.state)) (bare_at r old cache is e)

pub ended_past : (old : Receiver) → IsSettled old → length old.reader.queries ≤ old.state.query →
    (let t : State = record old.state { copies = []; lines = [] } in t) ≡ end_query (by_entries old.air.scheme) old.air old.reader old.state
ended_past old settled past =
    ap (λ L. let t : State = record old.state { copies = []; lines = L } in t) (sym settled.given) ∙ end_past (by_entries old.air.scheme) old.air old.reader old.state past

-- The receiver after the last verdict of a query at the end.
pub ended : (old given now : Receiver) → given ≡ in_state old (with_line (by_entries old.air.scheme) Unfinished old.state) → now ≡ record given { state = next_query given.state } →
    now ≡ in_state old (next_query (with_line (by_entries old.air.scheme) Unfinished old.state))
ended old given now g n = goes_on old given now (λ reader s. next_query s) (with_line (by_entries old.air.scheme) Unfinished old.state) _ g n (next_query_lines (with_line (by_entries old.air.scheme) Unfinished old.state)) refl

pub ended_left : (old now : Receiver) → now ≡ in_state (without_copies old) (next_query (with_line (by_entries old.air.scheme) Unfinished (without_copies old).state)) →
    old.state.query < length old.reader.queries → now.state ≡ end_query (by_entries old.air.scheme) old.air old.reader old.state
ended_left old now e here =
    ap (λ (r : Receiver). r.state) e ∙ end_left (by_entries old.air.scheme) old.air old.reader old.state here

no_line_pushed : (L : List SessionLine) (l : SessionLine) → [] ≡ L ++ l ∷ [] → ⊥
no_line_pushed [] l e = cc
no_line_pushed (k ∷ L) l e = cc

-- That verdict waits.
pub ended_waits : (old : Receiver) (r : Inside) → receiver_in r ≡ in_state old (next_query (with_line (by_entries old.air.scheme) Unfinished old.state)) → r.waiting ≡ None → ⊥
unfolding next_query with_line
ended_waits old r e none = no_line_pushed old.state.lines _ (sym (ap (λ o. lines_of o r.last) none) ∙ ap (λ (t : Receiver). t.state.lines) e)

-- The test for a query says that none is left.
pub past : (b : Bool) (q n : ℕ) → (q < n → IsTrue b) → b ≡ false → n ≤ q
past b q n h e = elim (cases_lt q n) as (λ _. n ≤ q) [ inl l ↦ absurd (both_ways b e (h l)) | inr ge ↦ ge ]

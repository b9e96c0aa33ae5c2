-- A receiver from state to state.
use Rattle.std.proofs.Common.{◌≡◌, ℕ, ◌<◌, Bool, true, false, not, ◌&&◌, nat_lt, IsTrue, List, [], ◌∷◌, ◌++◌, length, map, Option, Some, None, refl, sym, ◌∙◌, ap, subst, inl, inr}
use Rattle.std.specs.List.{slice_get}
use Rattle.std.specs.Option.{is_some}
use Rattle.std.proofs.lemmas.Bool.{cases_lt, cond-false, cond-true}
use Rattle.std.proofs.lemmas.List.{get_or_past}
use Rattle.air_base.specs.declared.verdicts.ReadOf.{ReadOf}
use Rattle.air_base.specs.declared.verdicts.Verdict.{Verdict}
use Rattle.air_base.specs.declared.verdicts.VerdictKind.{VerdictKind}
use Rattle.air_base.specs.declared.verdicts.VerdictKind.TheVariants.{Accept}
use Rattle.air_model.specs.Aired.{Air}
use Rattle.air_model.specs.Judges.{Judge, by_entries}
use Rattle.air_model.specs.Sessions.{Reader, State, accept_if_whole, copy_of, line_of, next_attempt, next_query, query_of, wanted, with_line}
use Rattle.air_model.specs.SessionLaws.{dozed_through}
use Rattle.air_model.proofs.DozeLemmas.{still_free}
use Rattle.air_model.proofs.MomentLemmas.{cond_keeps, none_from}
use Rattle.receiver_core.specs.Private.Attempts.{line_read}
use Rattle.receiver_core.specs.LastReads.{in_state, last_reads}
use Rattle.receiver_core.specs.LinesGiven.{lines_of}
use Rattle.receiver_core.specs.Receivers.{IsSettled, Receiver}
use Rattle.receiver_core.specs.ReceiverFields.{receiver_in}
use Rattle.receiver_core.specs.declared.receivers.Receiver.TheInside.{Inside}

abbrev J : Air → Judge
J air = by_entries air.scheme

-- With no line waiting the receiver is in its own state.
pub in_own_state : (r : Receiver) → r.state.lines ≡ [] → r ≡ in_state r r.state
unfolding last_reads
in_own_state r e = ap (λ L. let t : Receiver = record r { last = last_reads L r.last } in t) (sym e)

-- A word that adds no line, after one that may.
pub goes_on : (old given now : Receiver) (word : Reader → State → State) (s t : State) → given ≡ in_state old s → now ≡ record given { state = word given.reader given.state } →
    (word old.reader s).lines ≡ s.lines → word old.reader s ≡ t → now ≡ in_state old t
goes_on old given now word s t g n same is =
    n ∙ ap (λ (r : Receiver). let u : Receiver = record r { state = word r.reader r.state } in u) g
    ∙ ap (λ L. let u : Receiver = record old { state = word old.reader s; last = last_reads L old.last } in u) (sym same)
    ∙ ap (in_state old) is

pub next_query_lines : (s : State) → (next_query s).lines ≡ s.lines
unfolding next_query
next_query_lines s = refl

pub next_attempt_lines : (reader : Reader) (s : State) → (next_attempt reader s).lines ≡ s.lines
unfolding next_attempt next_query
next_attempt_lines reader s = cond_keeps (λ t. t.lines ≡ s.lines) (nat_lt s.attempt reader.plan.tries) _ _ (λ _. refl) (λ _. refl)

pub whole_is : (air : Air) (reader : Reader) (s : State) → is_some (wanted reader s) ≡ false → next_query (with_line (J air) Accept s) ≡ accept_if_whole (J air) air reader s
unfolding accept_if_whole
whole_is air reader s e = sym (cond-false (is_some (wanted reader s)) _ _ e)

pub not_whole_is : (air : Air) (reader : Reader) (s : State) → is_some (wanted reader s) ≡ true → s ≡ accept_if_whole (J air) air reader s
unfolding accept_if_whole
not_whole_is air reader s e = sym (cond-true (is_some (wanted reader s)) _ _ e)

-- Where an item is wanted, a query is left.
pub left : (reader : Reader) (s : State) (i : ℕ) → wanted reader s ≡ Some i → s.query < length reader.queries
unfolding wanted query_of
left reader s i w = elim (cases_lt s.query (length reader.queries)) as (λ _. s.query < length reader.queries) [
  | inl l ↦ l
  | inr ge ↦ absurd (let f : ◌≡◌ {A = Option ℕ} None (Some i) = sym (ap (λ q. slice_get q (length s.held)) (get_or_past reader.queries s.query [] ge)) ∙ w in cc)
]

-- Dozing leaves a receiver settled.
pub dozed_settled : (r : Receiver) (n m : ℕ) → IsSettled r → IsSettled (record r { state = dozed_through n m r.state })
unfolding wanted query_of
dozed_settled r n m s = record { given = s.given; free = still_free (wanted r.reader r.state) n m r.state s.free }

-- ---- at the fields

-- The verdict with the held reads.
pub give_is : (r : Inside) (last : List ReadOf) (kind : VerdictKind) → (receiver_in r).state.lines ≡ [] → last ≡ map line_read r.held.reads →
    receiver_in (record r { waiting = Some (record { query = r.query; attempt = r.attempt; kind = kind }); last = last }) ≡ in_state (receiver_in r) (with_line (J r.air) kind (receiver_in r).state)
unfolding with_line line_of by_entries last_reads
give_is r last kind free e =
    let v = receiver_in r in
    let l = line_of (J r.air) r.query r.attempt kind r.held.reads in
    ap (λ reads. receiver_in (record r { waiting = Some (record { query = r.query; attempt = r.attempt; kind = kind }); last = reads })) e
    ∙ ap (λ L. in_state v (record v.state { lines = L ++ l ∷ [] })) (sym free)

-- The query at hand is still at hand after its verdict.
pub still_left : (old given : Receiver) (kind : VerdictKind) → given ≡ in_state old (with_line (J old.air) kind old.state) → old.state.query < length old.reader.queries →
    given.state.query < length given.reader.queries
unfolding with_line
still_left old given kind e l = subst (λ (r : Receiver). r.state.query < length r.reader.queries) (sym e) l

none_waits : (o : Option Verdict) (last : List ReadOf) (b : Bool) → is_some o ≡ not b → (IsTrue b → lines_of o last ≡ []) × (lines_of o last ≡ [] → IsTrue b)
none_waits None last true e = (λ t. refl, λ f. refl)
none_waits None last false e = absurd (let f : false ≡ true = e in cc)
none_waits (Some v) last true e = absurd (let f : true ≡ false = e in cc)
none_waits (Some v) last false e = (λ t. absurd (let f : false ≡ true = t in cc), λ f. absurd (let g : lines_of (Some v) last ≡ [] = f in cc))

pub settled_is : (r : Inside) (b c : Bool) → is_some r.waiting ≡ not b → c ≡ is_some (copy_of (wanted (receiver_in r).reader (receiver_in r).state) (receiver_in r).state) →
    (IsTrue (b && not c) → IsSettled (receiver_in r)) × (IsSettled (receiver_in r) → IsTrue (b && not c))
settled_is r true true e f = (λ t. absurd (let g : false ≡ true = t in cc), λ s. absurd (let g : true ≡ false = f ∙ ap is_some s.free in cc))
settled_is r true false e f = (λ t. record { given = (none_waits r.waiting r.last true e).0 refl; free = none_from _ (sym f) }, λ s. refl)
settled_is r false c e f = (λ t. absurd (let g : false ≡ true = t in cc), λ s. absurd (let g : false ≡ true = (none_waits r.waiting r.last false e).1 s.given in cc))

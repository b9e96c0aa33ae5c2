-- One listener hears member by member: what it is after a list, after its pieces, and at its end.
-- The methods of `Listener` and the laws cite these.
use Rattle.std.proofs.Common.{◌≡◌, ℕ, ◌+◌, List, [], ◌∷◌, ◌++◌, Option, Result, Ok, Err, length, refl, sym, ◌∙◌, ap, arith}
use Rattle.std.specs.Result.{result_ok}
use Rattle.std.proofs.lemmas.Bool.{cond-false}
use Rattle.std.proofs.lemmas.List.{append-nil}
use Rattle.air_model.specs.declared.bucket.BucketFault.{BucketFault}
use Rattle.air_model.specs.Aired.{fits, scheme_in}
use Rattle.air_model.specs.Buckets.{Bucket}
use Rattle.air_model.specs.Decks.{Deck}
use Rattle.air_model.specs.Judges.{by_entries}
use Rattle.air_model.specs.ReceiverLaws.{session_of}
use Rattle.air_model.specs.Sessions.{SessionLine, end, hear, hear_all, session, settle}
use Rattle.air_model.specs.SessionLaws.{after}
use Rattle.air_model.proofs.LineLemmas.{lines}
use Rattle.receiver_core.specs.Receivers.{Receiver}
use Rattle.listeners.specs.Private.Endings.{lines_and_counts}
use Rattle.listeners.specs.Listeners.{ChangesNoAttempt, Listener, end_state, hears, hears_one, listener_of}
use Rattle.listeners.specs.Listeners as listener
use Rattle.listeners.proofs.CountLemmas.{heard_by, hear_counts, settle_counts}
use Rattle.listeners.proofs.EndLemmas.{end_like}
use Rattle.listeners.proofs.SettlingLemmas.{judge_of}

-- ---- a receiver and its lines

-- The listener of a receiver and its lines.
abbrev pub listening : ℕ → Receiver → List SessionLine → Listener
listening n r L = record { number = n; air = r.air; reader = r.reader; state = after L r.state }

-- The verdicts before the next member were taken.
pub record Took (r : Receiver) (M : List SessionLine) (mid : Receiver) (N : List SessionLine) : Type 0 where
  pub air : mid.air ≡ r.air
  pub reader : mid.reader ≡ r.reader
  pub state : after N mid.state ≡ settle (judge_of r) r.air r.reader (after M r.state)

pub took_counts : {r : Receiver} {M : List SessionLine} {mid : Receiver} {N : List SessionLine} → Took r M mid N → heard_by mid.state ≡ heard_by r.state
took_counts {r} {M} {mid} {N} took = ap heard_by took.state ∙ settle_counts (judge_of r) r.air r.reader (after M r.state)

-- A receiver whose verdicts were taken hears one more member.
pub listener_heard : (n : ℕ) {old mid : Receiver} {M N : List SessionLine} (now : Receiver) (o : Option Bucket) → Took old M mid N → now.air ≡ mid.air → now.reader ≡ mid.reader
    → now.state ≡ hear (judge_of mid) mid.air mid.reader o mid.state → listening n now N ≡ hears_one o (listening n old M)
unfolding hears_one
listener_heard n {old} {mid} {M} {N} now o took air reader heard =
    let J = judge_of old in
    let told : now.state ≡ hear J old.air old.reader o mid.state =
    heard ∙ ap (λ x. hear (by_entries x.scheme) x mid.reader o mid.state) took.air ∙ ap (λ x. hear J old.air x o mid.state) took.reader in
    let state : after N now.state ≡ hear J old.air old.reader o (settle J old.air old.reader (after M old.state)) =
    ap (after N) told ∙ sym ((lines J old.air old.reader N mid.state).hear o) ∙ ap (hear J old.air old.reader o) took.state in
    ap (λ a. let l : Listener = record { number = n; air = a; reader = now.reader; state = after N now.state } in l) (air ∙ took.air)
    ∙ ap (λ d. let l : Listener = record { number = n; air = old.air; reader = d; state = after N now.state } in l) (reader ∙ took.reader)
    ∙ ap (λ s. let l : Listener = record { number = n; air = old.air; reader = old.reader; state = s } in l) state

-- What is no bucket, or doesn't fit, changes no attempt.
pub refused_alone : (h : Result Bucket BucketFault) (before now : Listener) → now ≡ hears_one (result_ok h) before → ChangesNoAttempt h before now
unfolding hears_one hear
refused_alone (Err fault) before now heard = heard
refused_alone (Ok b) before now heard = λ foreign.
    heard ∙ ap (λ s. let l : Listener = record before { state = s } in l) (cond-false (fits before.air b) _ _ foreign)

-- A receiver whose last verdicts were taken and whose queries were ended has its session's lines and counts.
pub listener_ended : (n : ℕ) {old mid : Receiver} {L M : List SessionLine} (last : Receiver) (N : List SessionLine) → Took old L mid M
    → lines_and_counts (after N last.state) ≡ lines_and_counts (end (judge_of mid) mid.air mid.reader (after M mid.state)) → last.state.lines ≡ []
    → (N, last.state.counts) ≡ lines_and_counts (end_state (listening n old L))
unfolding end_state
listener_ended n {old} {mid} {L} {M} last N took over given =
    let mine : (N, last.state.counts) ≡ lines_and_counts (after N last.state) = ap (λ ls. (ls, last.state.counts)) (sym (ap (λ ls. N ++ ls) given ∙ append-nil N)) in
    mine ∙ over ∙ ap lines_and_counts (sym (end_like mid old (after M mid.state) took.air took.reader)) ∙ ap (λ s. lines_and_counts (end (judge_of old) old.air old.reader s)) took.state

-- ---- members one after another

pub pieces : (first second : List (Option Bucket)) (l : Listener) → hears (first ++ second) l ≡ hears second (hears first l)
unfolding hears
pieces [] second l = refl
pieces (o ∷ first) second l = pieces first second (hears_one o l)

pub counted_one : (o : Option Bucket) (l : Listener) → heard_by (hears_one o l).state ≡ heard_by l.state + 1
unfolding hears_one
counted_one o l =
    hear_counts (listener.judge_of l) l.air l.reader o (settle (listener.judge_of l) l.air l.reader l.state) ∙ ap (λ n. n + 1) (settle_counts (listener.judge_of l) l.air l.reader l.state)

pub counted_all : (members : List (Option Bucket)) (l : Listener) → heard_by (hears members l).state ≡ heard_by l.state + length members
unfolding hears
counted_all [] l = omega arith
counted_all (o ∷ members) l = let one = counted_one o l in let more = counted_all members (hears_one o l) in omega arith

-- A listener that ends here has heard all, and then settled.
ended_all : (members : List (Option Bucket)) (l : Listener) → end_state (hears members l) ≡ end (listener.judge_of l) l.air l.reader (hear_all (listener.judge_of l) l.air l.reader members l.state)
unfolding end_state hears hears_one hear_all
ended_all [] l = refl
ended_all (o ∷ members) l = ended_all members (hears_one o l)

pub session_is : (deck : Deck) (r : ℕ) (members : List (Option Bucket)) → end_state (hears members (listener_of deck r)) ≡ session_of (by_entries (scheme_in deck)) deck r members
unfolding session
session_is deck r members = ended_all members (listener_of deck r)

-- A receiver whose unfinished queries end one by one comes to the end of its session.
--
-- What a session tells does not change once no query is left, so it makes no difference how often more its end is taken.
use Rattle.std.proofs.Common.{◌≡◌, ℕ, zero, suc, ◌+◌, ◌-◌, ◌<◌, ◌≤◌, Bool, true, false, nat_lt, List, [], ◌++◌, length, refl, sym, ◌∙◌, ap, inl, inr, arith}
use Rattle.std.specs.Fn.{iterate}
use Rattle.std.proofs.lemmas.Bool.{cases_lt, lt-ltb, ltb-true}
use Rattle.std.proofs.lemmas.List.{append-nil}
use Rattle.air_model.specs.Aired.{Air}
use Rattle.air_model.specs.Judges.{Judge, by_entries}
use Rattle.air_model.specs.Sessions.{Reader, SessionLine, State, end, end_query, next_query, with_line}
use Rattle.air_model.specs.SessionLaws.{after}
use Rattle.air_model.proofs.LineLemmas.{lines}
use Rattle.receiver_core.specs.Receivers.{IsSettled, Receiver}
use Rattle.listeners.specs.Private.Endings.{lines_and_counts}
use Rattle.listeners.proofs.SettlingLemmas.{after_given, judge_of, with_lines}

-- The number of a reader's queries.
abbrev pub queries_in : Reader → ℕ
queries_in reader = length reader.queries

module _ (judge : Judge) (air : Air) (reader : Reader) where
  abbrev ends : State → State
  ends s = end_query judge air reader s

  -- what a test of the query's number tells
  record Cases (s : State) : Type 0 where
    done : queries_in reader ≤ s.query → lines_and_counts (ends s) ≡ lines_and_counts s
    still : queries_in reader ≤ s.query → (ends s).query ≡ s.query
    next : s.query < queries_in reader → (ends s).query ≡ s.query + 1

  end_cases : (s : State) → Cases s
  unfolding end_query next_query with_line
  end_cases s = by (nat_lt s.query (queries_in reader)) refl
    where
      by : (b : Bool) → nat_lt s.query (queries_in reader) ≡ b → Cases s
      by true below = record {
        done = λ past. absurd (let less = ltb-true s.query (queries_in reader) below in omega arith);
        still = λ past. absurd (let less = ltb-true s.query (queries_in reader) below in omega arith);
        next = λ less. rw below refl;
      }
      by false past = record {
        done = λ _. rw past refl;
        still = λ _. rw past refl;
        next = λ less. absurd (let e = sym past ∙ lt-ltb s.query (queries_in reader) less in cc);
      }

  -- so many ends leave no query
  reaches : (m : ℕ) (s : State) → queries_in reader ≤ s.query + m → queries_in reader ≤ (iterate (end_query judge air reader) m s).query
  reaches zero s enough = omega arith
  reaches (suc m) s enough = reaches m (ends s) (elim (cases_lt s.query (queries_in reader)) as (λ _. queries_in reader ≤ (ends s).query + m) [
    | inl less ↦ omega (arith, (end_cases s).next less)
    | inr past ↦ omega (arith, (end_cases s).still past)
  ])

  -- once no query is left an end tells nothing new
  past_end : (m : ℕ) (s : State) → queries_in reader ≤ s.query → lines_and_counts (iterate (end_query judge air reader) m s) ≡ lines_and_counts s
  past_end zero s past = refl
  past_end (suc m) s past = let same = (end_cases s).still past in past_end m (ends s) (omega arith) ∙ (end_cases s).done past

  end_last : (m : ℕ) (s : State) → iterate (end_query judge air reader) m (ends s) ≡ ends (iterate (end_query judge air reader) m s)
  end_last zero s = refl
  end_last (suc m) s = end_last m (ends s)

  -- an end before all others makes no difference
  end_first : (s : State) → lines_and_counts (end judge air reader (ends s)) ≡ lines_and_counts (end judge air reader s)
  unfolding end
  end_first s =
      let n = queries_in reader in
      let all = reaches n s (omega arith) in
      ap lines_and_counts (end_last n s) ∙ (end_cases (iterate (end_query judge air reader) n s)).done all

  end_none : (s : State) → queries_in reader ≤ s.query → lines_and_counts (end judge air reader s) ≡ lines_and_counts s
  unfolding end
  end_none s past = past_end (queries_in reader) s past

-- From one receiver with lines to another with more, the end tells the same.
pub record Ends (before : Receiver) (L : List SessionLine) (now : Receiver) (M : List SessionLine) : Type 0 where
  pub settled : IsSettled now
  pub air : now.air ≡ before.air
  pub reader : now.reader ≡ before.reader
  pub state : lines_and_counts (end (judge_of before) before.air before.reader (after M now.state)) ≡ lines_and_counts (end (judge_of before) before.air before.reader (after L before.state))

-- Ending a receiver like another.
pub end_like : (r before : Receiver) (s : State) → r.air ≡ before.air → r.reader ≡ before.reader → end (judge_of before) before.air before.reader s ≡ end (judge_of r) r.air r.reader s
end_like r before s air reader = ap (λ a. end (by_entries a.scheme) a before.reader s) (sym air) ∙ ap (λ d. end (judge_of r) r.air d s) (sym reader)

-- One end, whose line is handed out.
ended : (r : Receiver) (M given : List SessionLine) (s : State) → with_lines given s ≡ end_query (judge_of r) r.air r.reader r.state → s.lines ≡ []
    → after (M ++ given) s ≡ end_query (judge_of r) r.air r.reader (after M r.state)
ended r M given s told none = after_given M given s none ∙ ap (after M) told ∙ sym ((lines (judge_of r) r.air r.reader M r.state).end_query)

pub ends_more : {before : Receiver} {L : List SessionLine} {r : Receiver} {M : List SessionLine} (now : Receiver) (given all : List SessionLine) → Ends before L r M → IsSettled now → now.air ≡ r.air → now.reader ≡ r.reader
    → with_lines given now.state ≡ end_query (judge_of r) r.air r.reader r.state → now.state.lines ≡ [] → all ≡ M ++ given → Ends before L now all
ends_more {before} {L} {r} {M} now given all h settled air reader told none e = record {
  settled = settled;
  air = air ∙ h.air;
  reader = reader ∙ h.reader;
  state = ap (λ ls. lines_and_counts (end (judge_of before) before.air before.reader (after ls now.state))) e ∙ ap lines_and_counts (end_like r before (after (M ++ given) now.state) h.air h.reader)
      ∙ ap (λ s. lines_and_counts (end (judge_of r) r.air r.reader s)) (ended r M given now.state told none) ∙ end_first (judge_of r) r.air r.reader (after M r.state)
      ∙ ap lines_and_counts (sym (end_like r before (after M r.state) h.air h.reader)) ∙ h.state;
}

-- The last end, without a line.
pub ends_last : {before : Receiver} {L : List SessionLine} {r : Receiver} {M : List SessionLine} (now : Receiver) → Ends before L r M → queries_in r.reader ≤ r.state.query
    → with_lines [] now.state ≡ end_query (judge_of r) r.air r.reader r.state → now.state.lines ≡ []
    → lines_and_counts (after M now.state) ≡ lines_and_counts (end (judge_of before) before.air before.reader (after L before.state))
ends_last {before} {L} {r} {M} now h past told none =
    let one : after M now.state ≡ end_query (judge_of r) r.air r.reader (after M r.state) = ap (λ ls. after ls now.state) (sym (append-nil M)) ∙ ended r M [] now.state told none in
    ap lines_and_counts one ∙ (end_cases (judge_of r) r.air r.reader (after M r.state)).done past ∙ sym (end_none (judge_of r) r.air r.reader (after M r.state) past)
    ∙ ap lines_and_counts (sym (end_like r before (after M r.state) h.air h.reader)) ∙ h.state

-- A verdict leaves one query less.
pub ends_fewer : (r now : Receiver) (given : List SessionLine) → with_lines given now.state ≡ end_query (judge_of r) r.air r.reader r.state → now.reader ≡ r.reader → (queries_in r.reader ≤ r.state.query → ⊥)
    → queries_in now.reader - now.state.query < queries_in r.reader - r.state.query
ends_fewer r now given told reader more =
    let less : r.state.query < queries_in r.reader = elim (cases_lt r.state.query (queries_in r.reader)) as (λ _. r.state.query < queries_in r.reader) [
      | inl less ↦ less
      | inr past ↦ absurd (more past)
    ] in
    let next : now.state.query ≡ r.state.query + 1 = ap (λ (s : State). s.query) told ∙ (end_cases (judge_of r) r.air r.reader r.state).next less in
    let same : queries_in now.reader ≡ queries_in r.reader = ap queries_in reader in
    omega arith

-- How much a session counts at most: each heard member once, and a copy for each turn of settling. So the counts of all readers
-- of a deck fit in 64 bits where their tapes aren't long.
use Rattle.std.proofs.Common.{ℕ, zero, suc, ◌+◌, ◌*◌, ◌≤◌, max, Bool, true, false, cond, nat_lt, Option, Some, None, List, [], ◌∷◌, ◌++◌, length, get_or, All, ap, inl, inr, arith}
use Rattle.std.specs.Prelude.{sum_by}
use Rattle.std.specs.Option.{is_some}
use Rattle.std.specs.Fn.{iterate}
use Rattle.std.proofs.Math.Nat.{suc-mul}
use Rattle.std.proofs.lemmas.Bool.{cases_lt}
use Rattle.std.proofs.lemmas.List.{get_or_past}
use Rattle.std.proofs.lemmas.List.Sums.{get_or-le-sum_by, sum_by-le}
use Rattle.std.proofs.lemmas.Nat.{mul-le}
use Rattle.air_base.specs.declared.verdicts.Clash.{Clash}
use Rattle.air_base.specs.declared.verdicts.VerdictKind.TheVariants.{Abort, Accept, Aged, Unfinished}
use Rattle.air_model.specs.Aired.{Air, fits}
use Rattle.air_model.specs.Buckets.{Bucket}
use Rattle.air_model.specs.Judges.{Judge}
use Rattle.air_model.specs.Reads.{Read}
use Rattle.air_model.specs.Sessions.{Reader, State, abort, accept_if_whole, comes_aged, comes_late, copy_of, count_copied, count_dozed, count_foreign, count_late, count_opened, count_refused, decide, drop_copy, end, end_aged, end_query, hear, hear_all, hear_read, hold, is_unusable, is_wanted, judge_read, next_attempt, next_query, offer, open_bucket, read_in, session, settle, start, turn, turn_with, wanted, with_line}
use Rattle.receiver_core.specs.Receivers.{heard_count}

-- All that a state counts: heard members and used copies.
abbrev pub state_count : State → ℕ
state_count s = heard_count s.counts + s.counts.copied

either : (b : Bool) (s t : State) (n : ℕ) → state_count s ≤ n → state_count t ≤ n → state_count (cond b s t) ≤ n
either true s t n first second = first
either false s t n first second = second

-- One more turn or member, after which so many come.
pub more : (n m before here all : ℕ) → here ≤ before + m → all ≤ here + n * m → all ≤ before + suc n * m
more n m before here all one rest = omega (arith, suc-mul n m)

module _ (judge : Judge) (air : Air) (reader : Reader) where
  hold_counts : (x : Read) (s : State) → state_count (hold judge air reader x s) ≤ state_count s
  unfolding hold accept_if_whole next_query with_line
  hold_counts x s =
      let t : State = record s { held = s.held ++ x ∷ [] } in
      either (is_some (wanted reader t)) t (next_query (with_line judge Accept t)) (state_count s) (omega arith) (omega arith)

  abort_counts : (x : Read) (item : ℕ) (s : State) → state_count (abort judge air reader x item s) ≤ state_count s
  unfolding abort next_attempt next_query drop_copy with_line
  abort_counts x item s =
      let t = drop_copy item (with_line judge (Abort x.item x.cycle item) s) in
      either (nat_lt t.attempt reader.plan.tries) (record t { attempt = t.attempt + 1; held = [] }) (next_query t) (state_count s) (omega arith) (omega arith)

  aged_counts : (x : Read) (s : State) → state_count (end_aged judge air reader x s) ≤ state_count s
  unfolding end_aged next_attempt next_query with_line
  aged_counts x s =
      let t = with_line judge (Aged x.item x.cycle) s in
      either (nat_lt t.attempt reader.plan.tries) (record t { attempt = t.attempt + 1; held = [] }) (next_query t) (state_count s) (omega arith) (omega arith)

  turn_counts : (o : Option Read) (s : State) → state_count (turn_with judge air reader o s) ≤ state_count s + 1
  unfolding turn_with drop_copy count_copied
  turn_counts None s = omega arith
  turn_counts (Some x) s =
      let taken = hold_counts x (count_copied s) in
      either (is_unusable judge air reader x s) (drop_copy x.item s) (hold judge air reader x (count_copied s)) (state_count s + 1) (omega arith) (omega arith)

  turns_count : (n : ℕ) (s : State) → state_count (iterate (turn judge air reader) n s) ≤ state_count s + n
  unfolding turn
  turns_count zero s = omega arith
  turns_count (suc n) s = let one = turn_counts (copy_of (wanted reader s) s) s in let rest = turns_count n (turn judge air reader s) in omega arith

  settle_counts : (s : State) → state_count (settle judge air reader s) ≤ state_count s + sum_by length reader.queries
  unfolding settle
  settle_counts s = turns_count (sum_by length reader.queries) s

  decide_counts : (x : Read) (c : Option Clash) (s : State) → state_count (decide judge air reader x c s) ≤ state_count s
  unfolding decide
  decide_counts x None s = hold_counts x s
  decide_counts x (Some c) s = abort_counts x c.item s

  judge_counts : (x : Read) (s : State) → state_count (judge_read judge air reader x s) ≤ state_count s
  unfolding judge_read
  judge_counts x s =
      either (comes_aged air s x) (end_aged judge air reader x s) (decide judge air reader x (judge.clash s.held x) s) (state_count s) (aged_counts x s) (decide_counts x (judge.clash s.held x) s)

  open_counts : (x : Read) (s : State) → state_count (open_bucket judge air reader x s) ≤ state_count s + 1
  unfolding open_bucket offer count_opened
  open_counts x s = let one = judge_counts x (count_opened s) in omega arith

  read_counts : (o : Option Read) (s : State) → state_count (hear_read judge air reader o s) ≤ state_count s + 1
  unfolding hear_read count_dozed count_late
  read_counts None s = omega arith
  read_counts (Some x) s =
      either (is_wanted (wanted reader s) x.item) (cond (comes_late air s x) (count_late s) (open_bucket judge air reader x s)) (count_dozed s) (state_count s + 1)
      (either (comes_late air s x) (count_late s) (open_bucket judge air reader x s) (state_count s + 1) (omega arith) (open_counts x s)) (omega arith)

  hear_counts : (o : Option Bucket) (s : State) → state_count (hear judge air reader o s) ≤ state_count s + 1
  unfolding hear count_refused count_foreign
  hear_counts None s = omega arith
  hear_counts (Some b) s =
      let t : State = record s { now = max s.now b.cycle } in
      let one = read_counts (read_in b.cycle b.body) t in
      either (fits air b) (hear_read judge air reader (read_in b.cycle b.body) t) (count_foreign s) (state_count s + 1) (omega arith) (omega arith)

  all_counts : (heard : List (Option Bucket)) (s : State) → state_count (hear_all judge air reader heard s) ≤ state_count s + suc (length heard) * (sum_by length reader.queries + 1)
  unfolding hear_all
  all_counts [] s = let one = settle_counts s in omega arith
  all_counts (o ∷ heard) s =
      let settled = settle judge air reader s in
      let one = settle_counts s in
      let two = hear_counts o settled in
      more (suc (length heard)) (sum_by length reader.queries + 1) (state_count s) (state_count (hear judge air reader o settled)) (state_count (hear_all judge air reader heard (hear judge air reader o settled)))
      (omega arith) (all_counts heard (hear judge air reader o settled))

  ends_count : (n : ℕ) (s : State) → state_count (iterate (end_query judge air reader) n s) ≤ state_count s
  unfolding end_query next_query with_line
  ends_count zero s = omega arith
  ends_count (suc n) s =
      let one = either (nat_lt s.query (length reader.queries)) (next_query (with_line judge Unfinished s)) s (state_count s) (omega arith) (omega arith) in
      let rest = ends_count n (end_query judge air reader s) in
      omega arith

  -- A session counts no more than a settling's turns and one more for each heard member, and once more.
  pub session_counts : (heard : List (Option Bucket)) → state_count (session judge air reader heard) ≤ (length heard + 1) * (sum_by length reader.queries + 1)
  unfolding session end
  session_counts heard =
      let ended = ends_count (length reader.queries) (hear_all judge air reader heard start) in
      let all = all_counts heard start in
      omega arith

-- ---- a reader's queries

-- The items of a reader's queries, where all readers together have few.
pub asked_few : (lists : List (List (List ℕ))) (most each : ℕ) → sum_by length lists ≤ most → All (All (λ items. length items ≤ each)) lists → (r : ℕ) → sum_by length (get_or lists r []) ≤ most * each
asked_few lists most each few short r = elim (cases_lt r (length lists)) as (λ _. sum_by length (get_or lists r []) ≤ most * each) [
  | inl inside ↦ let own = get_or lists r [] in
      let count = get_or-le-sum_by length lists r [] inside in
      let size = sum_by-le length each own (short r [] inside) in
      let all = mul-le (length own) each most each (omega arith) (omega arith) in
      omega arith
  | inr past ↦ let none = ap (sum_by length) (get_or_past lists r [] past) in omega arith
]

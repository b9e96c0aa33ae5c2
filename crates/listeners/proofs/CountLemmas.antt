-- Each heard member is counted once, and settling counts none: so the counts of a receiver never pass what it heard.
-- The loop over a tape's records cites these.
use Rattle.std.proofs.Common.{◌≡◌, ℕ, zero, suc, ◌+◌, max, Bool, true, false, cond, nat_lt, Option, Some, None, ◌∷◌, [], ◌++◌, refl, ◌∙◌, arith}
use Rattle.std.specs.Prelude.{sum_by, length}
use Rattle.std.specs.Option.{is_some}
use Rattle.std.specs.Fn.{iterate}
use Rattle.air_base.specs.declared.verdicts.Clash.{Clash}
use Rattle.air_base.specs.declared.verdicts.VerdictKind.TheVariants.{Abort, Accept, Aged}
use Rattle.air_model.specs.Buckets.{Bucket}
use Rattle.air_model.specs.Reads.{Read}
use Rattle.air_model.specs.Aired.{Air, fits}
use Rattle.air_model.specs.Judges.{Judge}
use Rattle.air_model.specs.Sessions.{Reader, State, abort, accept_if_whole, comes_aged, comes_late, copy_of, count_copied, count_dozed, count_foreign, count_late, count_opened, count_refused, decide, drop_copy, end_aged, hear, hear_read, hold, is_unusable, is_wanted, judge_read, next_attempt, next_query, offer, open_bucket, read_in, settle, turn, turn_with, wanted, with_line}
use Rattle.receiver_core.specs.Receivers.{heard_count}

-- How many members a state counts.
abbrev pub heard_by : State → ℕ
heard_by s = heard_count s.counts

either : (b : Bool) (s t : State) (n : ℕ) → heard_by s ≡ n → heard_by t ≡ n → heard_by (cond b s t) ≡ n
either true s t n first second = first
either false s t n first second = second

module _ (judge : Judge) (air : Air) (reader : Reader) where
  hold_counts : (x : Read) (s : State) → heard_by (hold judge air reader x s) ≡ heard_by s
  unfolding hold accept_if_whole next_query with_line
  hold_counts x s =
      let t : State = record s { held = s.held ++ x ∷ [] } in
      either (is_some (wanted reader t)) t (next_query (with_line judge Accept t)) (heard_by s) refl refl

  abort_counts : (x : Read) (item : ℕ) (s : State) → heard_by (abort judge air reader x item s) ≡ heard_by s
  unfolding abort next_attempt next_query drop_copy with_line
  abort_counts x item s =
      let t = drop_copy item (with_line judge (Abort x.item x.cycle item) s) in
      either (nat_lt t.attempt reader.plan.tries) (record t { attempt = t.attempt + 1; held = [] }) (next_query t) (heard_by s) refl refl

  turn_with_counts : (o : Option Read) (s : State) → heard_by (turn_with judge air reader o s) ≡ heard_by s
  unfolding turn_with drop_copy count_copied
  turn_with_counts None s = refl
  turn_with_counts (Some x) s =
      either (is_unusable judge air reader x s) (drop_copy x.item s) (hold judge air reader x (count_copied s)) (heard_by s) refl (hold_counts x (count_copied s))

  turns_count : (n : ℕ) (s : State) → heard_by (iterate (turn judge air reader) n s) ≡ heard_by s
  unfolding turn
  turns_count zero s = refl
  turns_count (suc n) s = turns_count n (turn judge air reader s) ∙ turn_with_counts (copy_of (wanted reader s) s) s

  pub settle_counts : (s : State) → heard_by (settle judge air reader s) ≡ heard_by s
  unfolding settle
  settle_counts s = turns_count (sum_by length reader.queries) s

  decide_counts : (x : Read) (c : Option Clash) (s : State) → heard_by (decide judge air reader x c s) ≡ heard_by s
  unfolding decide
  decide_counts x None s = hold_counts x s
  decide_counts x (Some c) s = abort_counts x c.item s

  aged_counts : (x : Read) (s : State) → heard_by (end_aged judge air reader x s) ≡ heard_by s
  unfolding end_aged next_attempt next_query with_line
  aged_counts x s =
      let t = with_line judge (Aged x.item x.cycle) s in
      either (nat_lt t.attempt reader.plan.tries) (record t { attempt = t.attempt + 1; held = [] }) (next_query t) (heard_by s) refl refl

  judge_counts : (x : Read) (s : State) → heard_by (judge_read judge air reader x s) ≡ heard_by s
  unfolding judge_read
  judge_counts x s =
      either (comes_aged air s x) (end_aged judge air reader x s) (decide judge air reader x (judge.clash s.held x) s) (heard_by s) (aged_counts x s)
      (decide_counts x (judge.clash s.held x) s)

  open_counts : (x : Read) (s : State) → heard_by (open_bucket judge air reader x s) ≡ heard_by s + 1
  unfolding open_bucket offer count_opened
  open_counts x s = let one : heard_by (count_opened s) ≡ heard_by s + 1 = omega arith in judge_counts x (count_opened s) ∙ one

  hear_read_counts : (o : Option Read) (s : State) → heard_by (hear_read judge air reader o s) ≡ heard_by s + 1
  unfolding hear_read count_dozed count_late
  hear_read_counts None s = omega arith
  hear_read_counts (Some x) s =
      either (is_wanted (wanted reader s) x.item) (cond (comes_late air s x) (count_late s) (open_bucket judge air reader x s)) (count_dozed s) (heard_by s + 1)
      (either (comes_late air s x) (count_late s) (open_bucket judge air reader x s) (heard_by s + 1) (omega arith) (open_counts x s)) (omega arith)

  pub hear_counts : (o : Option Bucket) (s : State) → heard_by (hear judge air reader o s) ≡ heard_by s + 1
  unfolding hear count_refused count_foreign
  hear_counts None s = omega arith
  hear_counts (Some b) s =
      let t : State = record s { now = max s.now b.cycle } in
      either (fits air b) (hear_read judge air reader (read_in b.cycle b.body) t) (count_foreign s) (heard_by s + 1) (hear_read_counts (read_in b.cycle b.body) t) (omega arith)

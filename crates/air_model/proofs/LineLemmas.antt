-- Lines are only added at the end, by each rule, and no rule looks at them.
use Rattle.std.proofs.Common.{◌≡◌, ℕ, zero, suc, ◌+◌, max, Bool, true, false, cond, nat_lt, Option, Some, None, List, [], ◌∷◌, ◌++◌, length, refl, ◌∙◌, ap, append_assoc}
use Rattle.std.specs.Prelude.{sum_by}
use Rattle.std.specs.Option.{is_some}
use Rattle.std.specs.Fn.{iterate}
use Rattle.air_base.specs.declared.verdicts.Clash.{Clash}
use Rattle.air_base.specs.declared.verdicts.VerdictKind.{VerdictKind}
use Rattle.air_base.specs.declared.verdicts.VerdictKind.TheVariants.{Accept, Abort, Aged, Unfinished}
use Rattle.air_history.proofs.ClashLemmas.{cond_same}
use Rattle.air_model.specs.Buckets.{Bucket}
use Rattle.air_model.specs.Reads.{Read}
use Rattle.air_model.specs.Aired.{Air, fits}
use Rattle.air_model.specs.Judges.{Judge}
use Rattle.air_model.specs.Sessions
use Rattle.air_model.specs.Sessions.{Reader, SessionLine, State, read_in, is_wanted, wanted, comes_aged, comes_late, query_of, next_query, next_attempt, copy_of, drop_copy, offer, with_line, line_of, count_copied, count_opened, count_dozed, count_late, count_refused, count_foreign, accept_if_whole, hold, abort, is_unusable, turn_with, turn, settle, decide, end_aged, judge_read, open_bucket, hear_read, hear, end_query}
use Rattle.air_model.specs.SessionLaws.{after}

cond_after : (L : List SessionLine) (b : Bool) (x y : State) → cond b (after L x) (after L y) ≡ after L (cond b x y)
cond_after L true x y = refl
cond_after L false x y = refl

copy_after : (L : List SessionLine) (w : Option ℕ) (s : State) → copy_of w (after L s) ≡ copy_of w s
unfolding copy_of
copy_after L None s = refl
copy_after L (Some i) s = refl

module _ (judge : Judge) (air : Air) (reader : Reader) (L : List SessionLine) where
  line_after : (kind : VerdictKind) (s : State) → with_line judge kind (after L s) ≡ after L (with_line judge kind s)
  unfolding with_line
  line_after kind s = ap (λ ls. let t : State = record s { lines = ls } in t) (append_assoc L s.lines (line_of judge s.query s.attempt kind s.held ∷ []))

  hold_after : (x : Read) (s : State) → hold judge air reader x (after L s) ≡ after L (hold judge air reader x s)
  unfolding hold accept_if_whole wanted query_of next_query
  hold_after x s =
      let t : State = record s { held = s.held ++ x ∷ [] } in
      ap (λ u. cond (is_some (wanted reader t)) (after L t) (next_query u)) (line_after Accept t) ∙ cond_after L (is_some (wanted reader t)) t (next_query (with_line judge Accept t))

  abort_after : (x : Read) (i : ℕ) (s : State) → abort judge air reader x i (after L s) ≡ after L (abort judge air reader x i s)
  unfolding abort drop_copy next_attempt next_query
  abort_after x i s =
      let t = drop_copy i (with_line judge (Abort x.item x.cycle i) s) in
      ap (λ u. next_attempt reader (drop_copy i u)) (line_after (Abort x.item x.cycle i) s)
      ∙ cond_after L (nat_lt t.attempt reader.plan.tries) (record t { attempt = t.attempt + 1; held = [] }) (next_query t)

  aged_after : (x : Read) (s : State) → end_aged judge air reader x (after L s) ≡ after L (end_aged judge air reader x s)
  unfolding end_aged next_attempt next_query
  aged_after x s =
      let t = with_line judge (Aged x.item x.cycle) s in
      ap (next_attempt reader) (line_after (Aged x.item x.cycle) s) ∙ cond_after L (nat_lt t.attempt reader.plan.tries) (record t { attempt = t.attempt + 1; held = [] }) (next_query t)

  turn_with_after : (o : Option Read) (s : State) → turn_with judge air reader o (after L s) ≡ after L (turn_with judge air reader o s)
  unfolding turn_with is_unusable drop_copy count_copied
  turn_with_after None s = refl
  turn_with_after (Some x) s =
      ap (cond (is_unusable judge air reader x s) (after L (drop_copy x.item s))) (hold_after x (count_copied s))
      ∙ cond_after L (is_unusable judge air reader x s) (drop_copy x.item s) (hold judge air reader x (count_copied s))

  turn_after : (s : State) → turn judge air reader (after L s) ≡ after L (turn judge air reader s)
  unfolding turn wanted query_of
  turn_after s = ap (λ o. turn_with judge air reader o (after L s)) (copy_after L (wanted reader s) s) ∙ turn_with_after (copy_of (wanted reader s) s) s

  iterate_after : (n : ℕ) (s : State) → iterate (turn judge air reader) n (after L s) ≡ after L (iterate (turn judge air reader) n s)
  iterate_after zero s = refl
  iterate_after (suc n) s = ap (iterate (turn judge air reader) n) (turn_after s) ∙ iterate_after n (turn judge air reader s)

  settle_after : (s : State) → settle judge air reader (after L s) ≡ after L (settle judge air reader s)
  unfolding settle
  settle_after s = iterate_after (sum_by length reader.queries) s

  decide_after : (x : Read) (o : Option Clash) (s : State) → decide judge air reader x o (after L s) ≡ after L (decide judge air reader x o s)
  unfolding decide
  decide_after x None s = hold_after x s
  decide_after x (Some c) s = abort_after x c.item s

  judge_read_after : (x : Read) (s : State) → judge_read judge air reader x (after L s) ≡ after L (judge_read judge air reader x s)
  unfolding judge_read
  judge_read_after x s =
      cond_same (comes_aged air s x) _ _ _ _ (λ _. aged_after x s) (λ _. decide_after x (judge.clash s.held x) s)
      ∙ cond_after L (comes_aged air s x) (end_aged judge air reader x s) (decide judge air reader x (judge.clash s.held x) s)

  hear_read_after : (o : Option Read) (s : State) → hear_read judge air reader o (after L s) ≡ after L (hear_read judge air reader o s)
  unfolding hear_read count_dozed count_late open_bucket count_opened offer wanted query_of
  hear_read_after None s = refl
  hear_read_after (Some x) s =
      cond_same (is_wanted (wanted reader s) x.item) _ _ _ _
      (λ _. cond_same (comes_late air s x) _ _ _ _ (λ _. refl) (λ _. ap (offer air reader x) (judge_read_after x (count_opened s)))
      ∙ cond_after L (comes_late air s x) (count_late s) (open_bucket judge air reader x s))
      (λ _. refl)
      ∙ cond_after L (is_wanted (wanted reader s) x.item) (cond (comes_late air s x) (count_late s) (open_bucket judge air reader x s)) (count_dozed s)

  hear_after : (o : Option Bucket) (s : State) → hear judge air reader o (after L s) ≡ after L (hear judge air reader o s)
  unfolding hear count_refused count_foreign
  hear_after None s = refl
  hear_after (Some b) s =
      let t : State = record s { now = max s.now b.cycle } in
      cond_same (fits air b) _ _ _ _ (λ _. hear_read_after (read_in b.cycle b.body) t) (λ _. refl)
      ∙ cond_after L (fits air b) (hear_read judge air reader (read_in b.cycle b.body) t) (count_foreign s)

  end_after : (s : State) → end_query judge air reader (after L s) ≡ after L (end_query judge air reader s)
  unfolding end_query next_query
  end_after s =
      let b = nat_lt s.query (length reader.queries) in
      ap (λ t. let u : State = record t { copies = [] } in u)
      (ap (λ t. cond b (next_query t) (after L s)) (line_after Unfinished s) ∙ cond_after L b (next_query (with_line judge Unfinished s)) s)

-- Lines are only added at the end, and no rule looks at them, so each line may be handed out as it comes.
pub record AddsLines (judge : Judge) (air : Air) (reader : Reader) (L : List SessionLine) (s : State) : Type 0 where
  pub turn : Sessions.turn judge air reader (after L s) ≡ after L (Sessions.turn judge air reader s)
  pub settle : Sessions.settle judge air reader (after L s) ≡ after L (Sessions.settle judge air reader s)
  pub hear : (o : Option Bucket) → Sessions.hear judge air reader o (after L s) ≡ after L (Sessions.hear judge air reader o s)
  pub end_query : Sessions.end_query judge air reader (after L s) ≡ after L (Sessions.end_query judge air reader s)

pub lines : (judge : Judge) (air : Air) (reader : Reader) (L : List SessionLine) (s : State) → AddsLines judge air reader L s
lines judge air reader L s = record {
  turn = turn_after judge air reader L s;
  settle = settle_after judge air reader L s;
  hear = λ o. hear_after judge air reader L o s;
  end_query = end_after judge air reader L s;
}

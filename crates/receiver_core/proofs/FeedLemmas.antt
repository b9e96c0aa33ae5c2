-- What an answer of `feed` tells: which count rose, and that a refused or a foreign member changes nothing else. By every
-- judge, and with copies as without.
use Rattle.std.proofs.Common.{◌≡◌, ◌↔◌, ℕ, max, Bool, true, false, cond, nat_lt, [], ◌∷◌, ◌++◌, Option, Some, None, Result, Ok, Err, refl, sym}
use Rattle.std.specs.Option.{is_some}
use Rattle.std.specs.Result.{result_ok}
use Rattle.air_base.specs.declared.verdicts.Clash.{Clash}
use Rattle.air_model.specs.Aired.{fits}
use Rattle.air_model.specs.Buckets.{Bucket}
use Rattle.air_model.specs.declared.bucket.BucketFault.{BucketFault}
use Rattle.air_model.specs.Judges.{Judge}
use Rattle.air_model.specs.Reads.{Read}
use Rattle.air_model.specs.Sessions.{State, abort, accept_if_whole, comes_aged, comes_late, count_dozed, count_foreign, count_late, count_opened, count_refused, decide, drop_copy, hear, hear_read, hold, is_wanted, next_attempt, next_query, offer, open_bucket, query_of, read_in, wanted, with_line, judge_read, end_aged}
use Rattle.air_model.proofs.MomentLemmas.{cond_keeps}
use Rattle.receiver_core.specs.FeedAnswers.{ChangesItsCountAlone, count_fed, fed_of, fed_read}
use Rattle.receiver_core.specs.LastReads.{in_state}
use Rattle.receiver_core.specs.Receivers.{Receiver}
use Rattle.receiver_core.specs.declared.receivers.Fed.TheVariants as fed
use Rattle.receiver_core.proofs.HearLemmas.{at_cycle, quiet}

module _ (judge : Judge) (r : Receiver) where
  -- ---- the count that rises

  decide_counts : (x : Read) (o : Option Clash) (s : State) → (decide judge r.air r.reader x o s).counts ≡ s.counts
  unfolding decide hold accept_if_whole abort next_attempt next_query with_line drop_copy
  decide_counts x None s = cond_keeps (λ t. t.counts ≡ s.counts) (is_some (wanted r.reader (record s { held = s.held ++ x ∷ [] }))) _ _ (λ _. refl) (λ _. refl)
  decide_counts x (Some c) s = cond_keeps (λ t. t.counts ≡ s.counts) (nat_lt s.attempt r.reader.plan.tries) _ _ (λ _. refl) (λ _. refl)

  aged_counts : (x : Read) (s : State) → (end_aged judge r.air r.reader x s).counts ≡ s.counts
  unfolding end_aged next_attempt next_query with_line
  aged_counts x s = cond_keeps (λ t. t.counts ≡ s.counts) (nat_lt s.attempt r.reader.plan.tries) _ _ (λ _. refl) (λ _. refl)

  judge_counts : (x : Read) (s : State) → (judge_read judge r.air r.reader x s).counts ≡ s.counts
  unfolding judge_read
  judge_counts x s = cond_keeps (λ t. t.counts ≡ s.counts) (comes_aged r.air s x) _ _ (λ _. aged_counts x s) (λ _. decide_counts x (judge.clash s.held x) s)

  open_counts : (x : Read) (s : State) → (open_bucket judge r.air r.reader x s).counts ≡ count_fed fed.Opened s.counts
  unfolding open_bucket offer count_opened
  open_counts x s = judge_counts x (count_opened s)

  read_counts : (o : Option Read) (m : ℕ) → (hear_read judge r.air r.reader o (at_cycle m r.state)).counts ≡ count_fed (fed_read r o) r.state.counts
  unfolding hear_read fed_read count_dozed count_late wanted query_of
  read_counts None m = refl
  read_counts (Some x) m = by (is_wanted (wanted r.reader r.state) x.item) (comes_late r.air r.state x)
    where
      by : (w l : Bool) →
          (cond w (cond l (count_late (at_cycle m r.state)) (open_bucket judge r.air r.reader x (at_cycle m r.state))) (count_dozed (at_cycle m r.state))).counts
          ≡ count_fed (cond w (cond l fed.Late fed.Opened) fed.Dozed) r.state.counts
      by true true = refl
      by true false = open_counts x (at_cycle m r.state)
      by false l = refl

  pub hear_counts : (h : Result Bucket BucketFault) → (hear judge r.air r.reader (result_ok h) r.state).counts ≡ count_fed (fed_of r h) r.state.counts
  unfolding hear fed_of count_refused count_foreign
  hear_counts (Err fault) = refl
  hear_counts (Ok b) = by (fits r.air b) (read_counts (read_in b.cycle b.body))
    where
      by : (f : Bool) → ((m : ℕ) → (hear_read judge r.air r.reader (read_in b.cycle b.body) (at_cycle m r.state)).counts ≡ count_fed (fed_read r (read_in b.cycle b.body)) r.state.counts) →
          (cond f (hear_read judge r.air r.reader (read_in b.cycle b.body) (at_cycle (max r.state.now b.cycle) r.state)) (count_foreign r.state)).counts
          ≡ count_fed (cond f (fed_read r (read_in b.cycle b.body)) fed.Foreign) r.state.counts
      by true rest = rest (max r.state.now b.cycle)
      by false rest = refl

  -- ---- and nothing else

  read_alone : (o : Option Read) (now : Receiver) → ChangesItsCountAlone (fed_read r o) r now
  unfolding fed_read
  read_alone None now = tt
  read_alone (Some x) now = by (is_wanted (wanted r.reader r.state) x.item) (comes_late r.air r.state x)
    where
      by : (w l : Bool) → ChangesItsCountAlone (cond w (cond l fed.Late fed.Opened) fed.Dozed) r now
      by true true = tt
      by true false = tt
      by false l = tt

  pub alone : (h : Result Bucket BucketFault) → r.state.lines ≡ [] → ChangesItsCountAlone (fed_of r h) r (in_state r (hear judge r.air r.reader (result_ok h) r.state))
  unfolding hear fed_of count_refused count_foreign
  alone (Err fault) free = sym (quiet r (count_refused r.state) free)
  alone (Ok b) free = by (fits r.air b)
    where
      by : (f : Bool) → ChangesItsCountAlone (cond f (fed_read r (read_in b.cycle b.body)) fed.Foreign) r
          (in_state r (cond f (hear_read judge r.air r.reader (read_in b.cycle b.body) (at_cycle (max r.state.now b.cycle) r.state)) (count_foreign r.state)))
      by true = read_alone (read_in b.cycle b.body) _
      by false = sym (quiet r (count_foreign r.state) free)

-- ---- a bucket isn't refused

read_not_refused : (r : Receiver) (fault : BucketFault) (o : Option Read) → fed_read r o ≡ fed.Refused fault → ⊥
unfolding fed_read
read_not_refused r fault None e = cc
read_not_refused r fault (Some x) e = by (is_wanted (wanted r.reader r.state) x.item) (comes_late r.air r.state x) e
  where
    by : (w l : Bool) → cond w (cond l fed.Late fed.Opened) fed.Dozed ≡ fed.Refused fault → ⊥
    by true true e = cc
    by true false e = cc
    by false l e = cc

bucket_not_refused : (r : Receiver) (fault : BucketFault) (b : Bucket) → fed_of r (Ok b) ≡ fed.Refused fault → ⊥
unfolding fed_of
bucket_not_refused r fault b e = by (fits r.air b) e
  where
    by : (f : Bool) → cond f (fed_read r (read_in b.cycle b.body)) fed.Foreign ≡ fed.Refused fault → ⊥
    by true e = read_not_refused r fault (read_in b.cycle b.body) e
    by false e = cc

-- What is refused has that fault, and what has a fault is refused with it.
pub refused_is : (r : Receiver) (h : Result Bucket BucketFault) (fault : BucketFault) → (fed_of r h ≡ fed.Refused fault) ↔ (h ≡ Err fault)
unfolding fed_of
refused_is r (Err e) fault = (λ same. cc, λ same. cc)
refused_is r (Ok b) fault = (λ same. absurd (bucket_not_refused r fault b same), λ same. absurd cc)

-- Buckets that aren't wanted: they are counted, and the newest cycle is noted. A settled receiver stays settled after them.
use Rattle.std.proofs.Common.{◌≡◌, ◌≢◌, ℕ, ◌+◌, max, false, Option, Some, None, List, [], ◌∷◌, length, All, refl, sym, ◌∙◌, ap, subst, arith}
use Rattle.std.specs.Prelude.{IfSome}
use Rattle.std.proofs.lemmas.Bool.{cond-false, cond-true, false_from_ne_true}
use Rattle.std.proofs.lemmas.List.Elements.{All-head, All-tail}
use Rattle.air_model.specs.Buckets.{Bucket}
use Rattle.air_model.specs.Reads.{Read}
use Rattle.air_model.specs.Aired.{Air, fits}
use Rattle.air_model.specs.Judges.{Judge}
use Rattle.air_model.specs.Sessions.{Reader, State, copy_of, count_dozed, hear, hear_read, is_wanted, query_of, read_in, wanted}
use Rattle.air_model.specs.SessionLaws.{IsUnwanted, dozed_through, hear_each, newest_of}
use Rattle.air_model.proofs.MomentLemmas.{wanted_from}

-- An item that isn't the wanted one.
pub not_wanted : (o : Option ℕ) (i : ℕ) → o ≢ Some i → is_wanted o i ≡ false
not_wanted o i other = false_from_ne_true (is_wanted o i) (λ w. other (wanted_from o i w))

-- If the item had no copy, it still has none.
pub still_free : (o : Option ℕ) (n m : ℕ) (s : State) → copy_of o s ≡ None → copy_of o (dozed_through n m s) ≡ None
unfolding copy_of
still_free None n m s free = refl
still_free (Some i) n m s free = free

module _ (judge : Judge) (air : Air) (reader : Reader) where
  -- One bucket.
  pub dozes_one : (b : Bucket) (s : State) → IsUnwanted air reader s b → hear judge air reader (Some b) s ≡ dozed_through 1 (max s.now b.cycle) s
  unfolding hear hear_read count_dozed wanted query_of
  dozes_one b s u = cond-true (fits air b) _ _ u.fitting ∙ by (read_in b.cycle b.body) u.other
    where
      t : State
      t = record s { now = max s.now b.cycle }

      by : (o : Option Read) → IfSome o (λ x. wanted reader s ≢ Some x.item) → hear_read judge air reader o t ≡ count_dozed t
      by None other = refl
      by (Some x) other = cond-false (is_wanted (wanted reader s) x.item) _ _ (not_wanted (wanted reader s) x.item other)

  -- The wanted item is the same afterwards, so the same buckets are unwanted.
  still_unwanted : (n m : ℕ) (s : State) (B : List Bucket) → All (IsUnwanted air reader s) B → All (IsUnwanted air reader (dozed_through n m s)) B
  unfolding wanted query_of
  still_unwanted n m s B all k d l = record { fitting = (all k d l).fitting; other = (all k d l).other }

  pub dozes : (B : List Bucket) (s : State) → All (IsUnwanted air reader s) B → hear_each judge air reader B s ≡ dozed_through (length B) (newest_of s.now B) s
  dozes [] s all = ap (λ n. let t : State = record s { counts = record s.counts { dozed = n } } in t) (omega arith)
  dozes (b ∷ B) s all =
      let u = All-head (IsUnwanted air reader s) b B all in
      let m = max s.now b.cycle in
      let more : s.counts.dozed + 1 + length B ≡ s.counts.dozed + length (b ∷ B) = omega arith in
      ap (hear_each judge air reader B) (dozes_one b s u)
      ∙ dozes B (dozed_through 1 m s) (still_unwanted 1 m s B (All-tail (IsUnwanted air reader s) b B all))
      ∙ ap (λ n. let t : State = record s { now = newest_of m B; counts = record s.counts { dozed = n } } in t) more

  pub stays_settled : (B : List Bucket) (s : State) → copy_of (wanted reader s) s ≡ None → All (IsUnwanted air reader s) B →
      (let t = hear_each judge air reader B s in copy_of (wanted reader t) t ≡ None)
  unfolding wanted query_of
  stays_settled B s free all = subst (λ t. copy_of (wanted reader t) t ≡ None) (sym (dozes B s all)) (still_free (wanted reader s) (length B) (newest_of s.now B) s free)

-- A listener that hears what its ether gives of a cycle by its places: what it skips, and what it hears.
-- The calls of `places`, and `Listener::hear_places`, cite these.
use Rattle.std.proofs.Common.{◌≡◌, ℕ, zero, suc, ◌+◌, ◌-◌, ◌<◌, ◌≤◌, max, Option, None, Some, List, [], ◌∷◌, ◌++◌, length, map, get_or, slice_get, All, refl, sym, ◌∙◌, ap, subst, inl, inr, arith}
use Rattle.std.specs.Prelude.{IfNone}
use Rattle.std.specs.List.{range_with_len}
use Rattle.std.proofs.lemmas.Bool.{cases_lt}
use Rattle.std.proofs.lemmas.List.FromFn.{length-map-range_with_len}
use Rattle.std.proofs.lemmas.Option.{get_or_from_slice_get}
use Rattle.std.proofs.lemmas.Simd.{map-map}
use Rattle.air_base.specs.declared.verdicts.Form.{Form}
use Rattle.air_history.specs.Boards.{Board}
use Rattle.air_model.specs.Buckets.{Bucket}
use Rattle.air_model.specs.Sessions.{SessionLine, query_of, wanted}
use Rattle.air_model.specs.SessionLaws.{IsUnwanted, after, dozed_through}
use Rattle.air_sender.specs.BoardBuckets.{bucket_on}
use Rattle.receiver_core.specs.Receivers.{IsSettled, Receiver, heard_count}
use Rattle.listeners.specs.AiredCycles.{AreFitting}
use Rattle.listeners.specs.Listeners.{Listener, hears, hears_one}
use Rattle.listeners.specs.PlaceListeners.{given_at}
use Rattle.listeners.specs.Private.PlaceSteps.{AreMembers, AreSkipped, IsUnwantedPlace}
use Rattle.listeners.specs.Private.Sleeping.{listening}
use Rattle.listeners.proofs.HearLemmas.{counted_one, pieces}
use Rattle.listeners.proofs.SleepLemmas.{each_on, join, on_cycle, on_read, slept_through}

-- What one function makes of each number of a range another does, where they agree on it.
pub same_range : {X : Type 0} (f g : ℕ → X) (a n : ℕ) → ((s : ℕ) → a ≤ s → s < a + n → f s ≡ g s) → map f (range_with_len a n) ≡ map g (range_with_len a n)
same_range f g a zero same = refl
same_range f g a (suc n) same =
    ap (λ x. x ∷ map f (range_with_len (a + 1) n)) (same a (omega arith) (omega arith))
    ∙ ap (λ l. g a ∷ l) (same_range f g (a + 1) n (λ s from to. same s (omega arith) (omega arith)))

-- ---- what is skipped

-- One more unwanted place.
pub more_skipped : (slots : List (Option ℕ)) (first : ℕ) (w : Option ℕ) (places : List ℕ) (given skipped place : ℕ) → AreSkipped slots first w places given skipped
    → slice_get places (given + skipped) ≡ Some place → IsUnwantedPlace slots first w place → AreSkipped slots first w places given (skipped + 1)
more_skipped slots first w places given skipped place so_far at unwanted j l = elim (cases_lt j skipped) as (λ _. IsUnwantedPlace slots first w (get_or places (given + j) 0)) [
  | inl less ↦ so_far j less
  | inr past ↦
      let same : skipped ≡ j = omega arith in
      subst (λ k. IsUnwantedPlace slots first w (get_or places (given + k) 0)) same
      (subst (IsUnwantedPlace slots first w) (sym (get_or_from_slice_get places (given + skipped) place 0 at)) unwanted)
]

-- What was skipped is some.
pub none_grew : (o : Option ℕ) (given k : ℕ) → IfNone o (0 < k) → IfNone o (given < given + k)
none_grew None given k some = omega arith
none_grew (Some p) given k some = tt

-- Nothing was skipped.
pub slept_none : (on : ℕ → Option Bucket) (s k : ℕ) (l : Listener) → k ≡ 0 → l ≡ hears (map on (range_with_len s (s + k - s))) l
unfolding hears
slept_none on s k l none = ap (λ n. hears (map on (range_with_len s n)) l) (let same : 0 ≡ s + k - s = omega arith in same)

module _ (form : Form) (e : ℕ) (slots : List (Option ℕ)) (board : Board) (first : ℕ) (recent : List (List ℕ)) (member : ℕ → Option Bucket) (members : AreMembers form e slots board first recent member) where
  abbrev on : ℕ → Bucket
  on s = bucket_on form e slots board s

  -- The member of a place of the cycle.
  pub own_member : (p : ℕ) → first ≤ p → p < first + length slots → member p ≡ Some (on (p - first))
  own_member p from within =
      let back : first + (p - first) ≡ p = omega arith in
      subst (λ q. member q ≡ Some (on (p - first))) back (members.here (p - first) (omega arith))

  -- A settled receiver sleeps through the buckets of unwanted places.
  pub slept_places : (places : List ℕ) (given k n : ℕ) (L : List SessionLine) (old now : Receiver) → IsSettled old → AreFitting old.air form e slots board → 0 < k
      → AreSkipped slots first (wanted old.reader old.state) places given k → now.air ≡ old.air → now.reader ≡ old.reader
      → now.state ≡ dozed_through k (max old.state.now board.cycle) old.state → listening n now L ≡ hears (map (given_at member places) (range_with_len given (given + k - given))) (listening n old L)
  unfolding wanted query_of
  slept_places places given k n L old now settled fitting some skipped air reader state =
      let own : ℕ → Bucket = λ j. on (get_or places j 0 - first) in
      let B = map own (range_with_len given k) in
      let t = after L old.state in
      let long : k ≡ given + k - given = omega arith in
      let unwanted : All (IsUnwanted old.air old.reader t) B =
      each_on own (IsUnwanted old.air old.reader t) given k (λ j l.
      let u = skipped j l in
      let from = u.from in
      let to = u.within in
      let p = get_or places (given + j) 0 - first in
      record { fitting = fitting p (omega arith); other = on_read form e slots board (wanted old.reader old.state) p u.other }) in
      slept_through n L old now board.cycle k B settled some (length-map-range_with_len own given k)
      (each_on own (λ b. b.cycle ≡ board.cycle) given k (λ j l. on_cycle form e slots board (get_or places (given + j) 0 - first))) unwanted air reader state
      ∙ ap (λ os. hears os (listening n old L)) (map-map Some own (range_with_len given k) ∙ same_range (λ j. Some (own j)) (given_at member places) given k (λ s from to. sym (at s from to)))
      ∙ ap (λ m. hears (map (given_at member places) (range_with_len given m)) (listening n old L)) long
    where
      at : (s : ℕ) → given ≤ s → s < given + k → given_at member places s ≡ Some (on (get_or places s 0 - first))
      at s from to =
          let back : given + (s - given) ≡ s = omega arith in
          let u = subst (λ j. IsUnwantedPlace slots first (wanted old.reader old.state) (get_or places j 0)) back (skipped (s - given) (omega arith)) in
          own_member (get_or places s 0) u.from u.within

-- ---- what is heard

-- Two stretches one after the other, from any number on.
pub stretches_from : (on : ℕ → Option Bucket) (a s next : ℕ) (first mid now : Listener) → a ≤ s → s ≤ next → mid ≡ hears (map on (range_with_len a (s - a))) first
    → now ≡ hears (map on (range_with_len s (next - s))) mid → now ≡ hears (map on (range_with_len a (next - a))) first
stretches_from on a s next first mid now low within so_far heard =
    let long : s - a + (next - s) ≡ next - a = omega arith in
    let back : a + (s - a) ≡ s = omega arith in
    heard ∙ ap (hears (map on (range_with_len s (next - s)))) so_far ∙ sym (pieces (map on (range_with_len a (s - a))) (map on (range_with_len s (next - s))) first)
    ∙ ap (λ os. hears os first) (ap (λ b. map on (range_with_len a (s - a)) ++ map on (range_with_len b (next - s))) (sym back) ∙ sym (join on a (s - a) (next - s)) ∙ ap (λ n. map on (range_with_len a n)) long)

-- What was heard is counted once.
pub one_counted : (old now : Receiver) (o : Option Bucket) → listening 0 now [] ≡ hears_one o (listening 0 old []) → heard_count now.state.counts ≡ heard_count old.state.counts + 1
one_counted old now o heard = ap (λ (l : Listener). heard_count l.state.counts) heard ∙ counted_one o (listening 0 old [])

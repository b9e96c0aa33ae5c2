-- A listener that sleeps: what it is after the slots of a cycle that it doesn't want, and after the one that it does.
-- The calls of `cycles`, and `Listener::hear_stretch`, cite these.
use Rattle.std.proofs.Common.{◌≡◌, ◌≢◌, ℕ, zero, suc, ◌+◌, ◌-◌, ◌<◌, ◌≤◌, max, Option, Some, None, List, [], ◌∷◌, ◌++◌, length, map, get_or, All, refl, sym, ◌∙◌, ap, subst, inl, inr, arith}
use Rattle.std.specs.Prelude.{IfSome}
use Rattle.std.specs.List.{range_with_len}
use Rattle.std.proofs.lemmas.Bool.{cases_lt}
use Rattle.std.proofs.lemmas.List.Elements.{All-head, All-tail}
use Rattle.std.proofs.lemmas.List.FromFn.{get_or-map-range_with_len, length-map-range_with_len, map-range_with_len_more}
use Rattle.std.proofs.lemmas.Simd.{map-map}
use Rattle.air_base.specs.declared.verdicts.Form.{Form}
use Rattle.air_base.specs.declared.verdicts.Policy.{Policy}
use Rattle.air_base.specs.declared.verdicts.Policy.TheVariants.{FMatrix, Datacycle, RMatrix}
use Rattle.air_history.specs.Boards.{Board}
use Rattle.air_model.specs.Aired.{Air, aired_as}
use Rattle.air_model.specs.Buckets.{Bucket, capped_body}
use Rattle.air_model.specs.Judges.{by_entries}
use Rattle.air_model.specs.Sessions.{Reader, SessionLine, State, copy_of, hear, query_of, read_in, wanted}
use Rattle.air_model.specs.SessionLaws.{IsUnwanted, after, dozed_through, newest_of}
use Rattle.air_model.proofs.DozeLemmas.{dozes_one, still_free}
use Rattle.air_model.proofs.SettleLemmas.{settle_is}
use Rattle.air_sender.specs.BoardBuckets.{bucket_on, body_on}
use Rattle.receiver_core.specs.Receivers.{IsSettled, Receiver}
use Rattle.listeners.specs.AiredCycles.{AreFitting}
use Rattle.listeners.specs.Listeners.{Listener, hears, hears_one}
use Rattle.listeners.specs.Private.Sleeping.{listening}
use Rattle.listeners.proofs.HearLemmas.{Took, listener_heard, pieces}
use Rattle.listeners.proofs.SettlingLemmas.{judge_of}

-- ---- settled listeners

-- Lines that were handed out keep no copy.
free_after : (o : Option ℕ) (L : List SessionLine) (s : State) → copy_of o s ≡ None → copy_of o (after L s) ≡ None
unfolding copy_of
free_after None L s free = refl
free_after (Some i) L s free = free

-- The verdicts of a settled receiver were taken.
pub took_settled : (r : Receiver) (L : List SessionLine) → IsSettled r → Took r L r L
unfolding wanted query_of
took_settled r L settled = record {
  air = refl;
  reader = refl;
  state = sym ((settle_is (judge_of r) r.air r.reader (after L r.state)).stays (free_after (wanted r.reader r.state) L r.state settled.free));
}

-- So hearing goes on from the settled receiver as from the one before.
one_took : (n : ℕ) {old mid : Receiver} {M N : List SessionLine} (o : Option Bucket) → Took old M mid N → IsSettled mid → hears_one o (listening n mid N) ≡ hears_one o (listening n old M)
one_took n {old} {mid} {M} {N} o took settled =
    let now : Receiver = record mid { state = hear (judge_of mid) mid.air mid.reader o mid.state } in
    sym (listener_heard n {old = mid} {mid = mid} {M = N} {N = N} now o (took_settled mid N settled) refl refl refl)
    ∙ listener_heard n {old = old} {mid = mid} {M = M} {N = N} now o took refl refl refl

pub stretch_took : (n : ℕ) {old mid : Receiver} {M N : List SessionLine} (on : ℕ → Option Bucket) (s k : ℕ) → 0 < k → Took old M mid N → IsSettled mid
    → hears (map on (range_with_len s k)) (listening n mid N) ≡ hears (map on (range_with_len s k)) (listening n old M)
unfolding hears
stretch_took n on s zero some took settled = absurd (omega arith)
stretch_took n {old} {mid} {M} {N} on s (suc k) some took settled = ap (hears (map on (range_with_len (s + 1) k))) (one_took n (on s) took settled)

-- ---- sleep

-- A listener with these parts.
abbrev listener : ℕ → Air → Reader → State → Listener
listener n air reader s = record { number = n; air = air; reader = reader; state = s }

still_unwanted : (air : Air) (reader : Reader) (n m : ℕ) (s : State) (B : List Bucket) → All (IsUnwanted air reader s) B → All (IsUnwanted air reader (dozed_through n m s)) B
unfolding wanted query_of
still_unwanted air reader n m s B all k d l = record { fitting = (all k d l).fitting; other = (all k d l).other }

-- Buckets that it doesn't want a settled listener only counts.
sleeps : (n : ℕ) (air : Air) (reader : Reader) (B : List Bucket) (s : State) → copy_of (wanted reader s) s ≡ None → All (IsUnwanted air reader s) B
    → hears (map Some B) (listener n air reader s) ≡ listener n air reader (dozed_through (length B) (newest_of s.now B) s)
unfolding hears hears_one wanted query_of
sleeps n air reader [] s free all = ap (λ k. let t : State = record s { counts = record s.counts { dozed = k } } in listener n air reader t) (omega arith)
sleeps n air reader (b ∷ B) s free all =
    let J = by_entries air.scheme in
    let u = All-head (IsUnwanted air reader s) b B all in
    let m = max s.now b.cycle in
    let more : s.counts.dozed + 1 + length B ≡ s.counts.dozed + length (b ∷ B) = omega arith in
    ap (λ t. hears (map Some B) (listener n air reader (hear J air reader (Some b) t))) ((settle_is J air reader s).stays free)
    ∙ ap (λ t. hears (map Some B) (listener n air reader t)) (dozes_one J air reader b s u)
    ∙ sleeps n air reader B (dozed_through 1 m s) (still_free (wanted reader s) 1 m s free) (still_unwanted air reader 1 m s B (All-tail (IsUnwanted air reader s) b B all))
    ∙ ap (λ k. let t : State = record s { now = newest_of m B; counts = record s.counts { dozed = k } } in listener n air reader t) more

-- The newest of buckets of one cycle.
newest_stays : (c now : ℕ) (B : List Bucket) → All (λ b. b.cycle ≡ c) B → c ≤ now → newest_of now B ≡ now
newest_stays c now [] all past = refl
newest_stays c now (b ∷ B) all past =
    let own : b.cycle ≡ c = All-head (λ (b : Bucket). b.cycle ≡ c) b B all in
    let same : max now b.cycle ≡ now = omega arith in
    ap (λ m. newest_of m B) same ∙ newest_stays c now B (All-tail (λ (b : Bucket). b.cycle ≡ c) b B all) past

newest_same : (c now : ℕ) (B : List Bucket) → 0 < length B → All (λ b. b.cycle ≡ c) B → newest_of now B ≡ max now c
newest_same c now [] some all = absurd (omega arith)
newest_same c now (b ∷ B) some all =
    let own : b.cycle ≡ c = All-head (λ (b : Bucket). b.cycle ≡ c) b B all in
    ap (λ k. newest_of (max now k) B) own ∙ newest_stays c (max now c) B (All-tail (λ (b : Bucket). b.cycle ≡ c) b B all) (omega arith)

-- What holds of the value at each place of a stretch holds of those values.
pub each_on : {X : Type 0} (on : ℕ → X) (P : X → Type 0) (s k : ℕ) → ((j : ℕ) → j < k → P (on (s + j))) → All P (map on (range_with_len s k))
each_on on P s k all = λ j d l.
    let within : j < k = omega (arith, l, length-map-range_with_len on s k) in
    subst P (sym (get_or-map-range_with_len on s k j (s + j) d within (omega arith))) (all j within)

-- A settled receiver sleeps through buckets of one cycle that fit and that it doesn't want.
pub slept_through : (n : ℕ) (L : List SessionLine) (old now : Receiver) (c k : ℕ) (B : List Bucket) → IsSettled old → 0 < k → length B ≡ k → All (λ b. b.cycle ≡ c) B
    → All (IsUnwanted old.air old.reader (after L old.state)) B → now.air ≡ old.air → now.reader ≡ old.reader → now.state ≡ dozed_through k (max old.state.now c) old.state
    → listening n now L ≡ hears (map Some B) (listening n old L)
unfolding wanted query_of
slept_through n L old now c k B settled some long cycles unwanted air reader state =
    let t = after L old.state in
    let cycle : newest_of t.now B ≡ max t.now c = newest_same c t.now B (omega arith) cycles in
    ap (λ a. listener n a now.reader (after L now.state)) air ∙ ap (λ r. listener n old.air r (after L now.state)) reader
    ∙ ap (λ u. listener n old.air old.reader (after L u)) state
    ∙ ap (λ m. listener n old.air old.reader (dozed_through k m t)) (sym cycle)
    ∙ ap (λ k. listener n old.air old.reader (dozed_through k (newest_of t.now B) t)) (sym long)
    ∙ sym (sleeps n old.air old.reader B t (free_after (wanted old.reader old.state) L old.state settled.free) unwanted)

-- ---- the slots of a cycle

-- What a slot's bucket gives to read is of the slot's item.
item_read : (w : Option ℕ) (by : Policy) (v c i value : ℕ) (es : List ℕ) → w ≢ Some i → IfSome (read_in c (capped_body v c (aired_as by i value es))) (λ x. w ≢ Some x.item)
unfolding capped_body
item_read w FMatrix v c i value es other = other
item_read w Datacycle v c i value es other = other
item_read w RMatrix v c i value es other = other

body_read : (w : Option ℕ) (by : Policy) (v c : ℕ) (board : Board) (o : Option ℕ) → IfSome w (λ i. o ≢ Some i) → IfSome (read_in c (capped_body v c (body_on by board o))) (λ x. w ≢ Some x.item)
unfolding capped_body body_on
body_read w by v c board None other = tt
body_read None by v c board (Some i) other = item_read None by v c i _ _ (λ e. none e)
  where
    none : {i : ℕ} → ◌≡◌ {A = Option ℕ} None (Some i) → ⊥
    none e = cc
body_read (Some w) by v c board (Some i) other = item_read (Some w) by v c i _ _ (λ e. other (sym e))

module _ (form : Form) (e : ℕ) (slots : List (Option ℕ)) (board : Board) where
  abbrev pub on : ℕ → Bucket
  on s = bucket_on form e slots board s

  pub on_cycle : (s : ℕ) → (on s).cycle ≡ board.cycle
  unfolding bucket_on
  on_cycle s = refl

  pub on_read : (w : Option ℕ) (s : ℕ) → IfSome w (λ i. get_or slots s None ≢ Some i) → IfSome (read_in (on s).cycle (on s).body) (λ x. w ≢ Some x.item)
  unfolding bucket_on
  on_read w s other = body_read w form.policy form.version board.cycle board (get_or slots s None) other

  -- so a settled receiver that doesn't want them sleeps through
  pub slept : (n : ℕ) (L : List SessionLine) (old now : Receiver) (s k : ℕ) → IsSettled old → AreFitting old.air form e slots board → 0 < k → s + k ≤ length slots
      → ((j : ℕ) → j < k → IfSome (wanted old.reader old.state) (λ i. get_or slots (s + j) None ≢ Some i)) → now.air ≡ old.air → now.reader ≡ old.reader
      → now.state ≡ dozed_through k (max old.state.now board.cycle) old.state → listening n now L ≡ hears (map (λ s. Some (on s)) (range_with_len s k)) (listening n old L)
  unfolding wanted query_of
  slept n L old now s k settled fitting some within other air reader state =
      let B = map on (range_with_len s k) in
      let t = after L old.state in
      let unwanted : All (IsUnwanted old.air old.reader t) B =
      each_on on (IsUnwanted old.air old.reader t) s k (λ j l. record { fitting = fitting (s + j) (omega arith); other = on_read (wanted old.reader old.state) (s + j) (other j l) }) in
      slept_through n L old now board.cycle k B settled some (length-map-range_with_len on s k) (each_on on (λ b. b.cycle ≡ board.cycle) s k (λ j l. on_cycle (s + j))) unwanted air reader state
      ∙ ap (λ os. hears os (listening n old L)) (map-map Some on (range_with_len s k))

-- ---- stretches

-- What isn't the end is before it.
pub before_end : (n end : ℕ) → n ≤ end → n ≢ end → n < end
before_end n end within other = elim (cases_lt n end) as (λ _. n < end) [
  | inl less ↦ less
  | inr past ↦ absurd (other (omega arith))
]

-- No slot.
pub stretch_none : (on : ℕ → Option Bucket) (s : ℕ) (l : Listener) → l ≡ hears (map on (range_with_len s (s - s))) l
unfolding hears
stretch_none on s l = ap (λ k. hears (map on (range_with_len s k)) l) (let none : 0 ≡ s - s = omega arith in none)

-- One slot more.
pub one_more : (on : ℕ → Option Bucket) (s next : ℕ) (first mid now : Listener) → s ≤ next → mid ≡ hears (map on (range_with_len s (next - s))) first → now ≡ hears_one (on next) mid
    → now ≡ hears (map on (range_with_len s (next + 1 - s))) first
unfolding hears
one_more on s next first mid now within so_far heard =
    let k = next - s in
    let long : next + 1 - s ≡ k + 1 = omega arith in
    heard ∙ ap (hears_one (on next)) so_far ∙ sym (pieces (map on (range_with_len s k)) (on next ∷ []) first)
    ∙ ap (λ os. hears os first) (sym (map-range_with_len_more on s k next (omega arith)) ∙ ap (λ m. map on (range_with_len s m)) (sym long))

-- Two stretches one behind the other.
pub join : (on : ℕ → Option Bucket) (s k m : ℕ) → map on (range_with_len s (k + m)) ≡ map on (range_with_len s k) ++ map on (range_with_len (s + k) m)
join on s zero m =
    let none : 0 + m ≡ m = omega arith in
    let same : s ≡ s + 0 = omega arith in
    ap (λ n. map on (range_with_len s n)) none ∙ ap (λ k. map on (range_with_len k m)) same
join on s (suc k) m =
    let long : suc k + m ≡ suc (k + m) = omega arith in
    let from : s + 1 + k ≡ s + suc k = omega arith in
    ap (λ n. map on (range_with_len s n)) long ∙ ap (λ l. on s ∷ l) (join on (s + 1) k m)
    ∙ ap (λ a. on s ∷ (map on (range_with_len (s + 1) k) ++ map on (range_with_len a m))) from

pub stretches : (on : ℕ → Option Bucket) (s next : ℕ) (first mid now : Listener) → s ≤ next → mid ≡ hears (map on (range_with_len 0 s)) first → now ≡ hears (map on (range_with_len s (next - s))) mid
    → now ≡ hears (map on (range_with_len 0 next)) first
stretches on s next first mid now within so_far heard =
    let long : s + (next - s) ≡ next = omega arith in
    let none : 0 + s ≡ s = omega arith in
    heard ∙ ap (hears (map on (range_with_len s (next - s)))) so_far ∙ sym (pieces (map on (range_with_len 0 s)) (map on (range_with_len s (next - s))) first)
    ∙ ap (λ os. hears os first) (ap (λ a. map on (range_with_len 0 s) ++ map on (range_with_len a (next - s))) (sym none) ∙ sym (join on 0 s (next - s)) ∙ ap (λ n. map on (range_with_len 0 n)) long)

-- What is heard changes no air.
pub keeps_air : (members : List (Option Bucket)) (l : Listener) → (hears members l).air ≡ l.air
unfolding hears hears_one
keeps_air [] l = refl
keeps_air (o ∷ members) l = keeps_air members (hears_one o l)

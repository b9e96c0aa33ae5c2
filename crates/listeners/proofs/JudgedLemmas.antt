-- A piece that was judged once: what its notes say, and what a listener is after the members of a stretch that it doesn't want.
-- The calls of `judged`, and `Listener::hear_from`, cite these.
use Rattle.std.proofs.Common.{◌≡◌, ◌≢◌, ℕ, zero, suc, ◌+◌, ◌-◌, ◌<◌, ◌≤◌, max, Option, Some, None, Result, Ok, Err, List, [], ◌∷◌, ◌++◌, length, map, get_or, set, drop, refl, sym, ◌∙◌, ap, subst, inl, inr, arith}
use Rattle.std.specs.Prelude.{IfSome}
use Rattle.std.specs.List.{range_with_len, slice_range}
use Rattle.std.specs.Result.{result_ok}
use Rattle.std.proofs.lemmas.Bool.{cases_lt}
use Rattle.std.proofs.lemmas.List.{get_or-drop, get_or-map, get_or-take, get_or_append_left, get_or_push, get_or-set_other, get_or-set_same, get_or_default, length-map, length-set, length-take, same_lists}
use Rattle.std.proofs.lemmas.List.FromFn.{get_or-map-range_with_len, length-map-range_with_len}
use Rattle.std.proofs.lemmas.Simd.{map-map}
use Rattle.air_model.specs.declared.bucket.BucketFault.{BucketFault}
use Rattle.air_model.specs.declared.bucket.BucketFault.TheVariants.{Magic}
use Rattle.air_model.specs.Aired.{Air}
use Rattle.air_model.specs.Buckets.{Body, Bucket, Idle, Column, Vector, item_of}
use Rattle.air_model.specs.Reads.{Read}
use Rattle.air_model.specs.Sessions.{Reader, SessionLine, State, query_of, read_in, wanted}
use Rattle.air_model.specs.SessionLaws.{IsUnwanted, after, dozed_through}
use Rattle.receiver_core.specs.Receivers.{IsSettled, Receiver}
use Rattle.listeners.specs.declared.judged.JudgedPiece.{JudgedPiece}
use Rattle.listeners.specs.declared.judged.Stretch.{Stretch}
use Rattle.listeners.specs.Listeners.{hears}
use Rattle.listeners.specs.Private.JudgedPieces.{BeginsStretch, FitsInCycle, IsJudged, IsStretch, TellsItem, member_at}
use Rattle.listeners.specs.Private.Sleeping.{listening}
use Rattle.listeners.proofs.SleepLemmas.{each_on, slept_through}

-- ---- notes

-- The item of a bucket is that of the read that it gives.
pub own_item : (item : ℕ) (c : ℕ) (body : Body) → item ≡ item_of body → IfSome (read_in c body) (λ x. x.item ≡ item)
unfolding item_of
own_item item c (Idle count) is = tt
own_item item c (Column i value entries) is = sym is
own_item item c (Vector i value entries) is = sym is

pub noted_more : (heard : List (Result Bucket BucketFault)) (items : List ℕ) (i item : ℕ) (x : Result Bucket BucketFault) → length items ≡ i → i < length heard → x ≡ get_or heard i x → TellsItem item x
    → ((k n : ℕ) (d : Result Bucket BucketFault) → k < i → TellsItem (get_or items k n) (get_or heard k d))
    → (k n : ℕ) (d : Result Bucket BucketFault) → k < i + 1 → TellsItem (get_or (items ++ item ∷ []) k n) (get_or heard k d)
noted_more heard items i item x long inside here own so_far k n d below = elim (cases_lt k i) as (λ _. TellsItem (get_or (items ++ item ∷ []) k n) (get_or heard k d)) [
  | inl less ↦ subst (λ m. TellsItem m (get_or heard k d)) (sym (get_or_append_left items (item ∷ []) n k (omega (arith, less, long)))) (so_far k n d less)
  | inr past ↦
      let last : i ≡ k = omega arith in
      subst (λ m. TellsItem m (get_or heard k d)) (sym (get_or_push items item n k (long ∙ last)))
      (subst (λ j. TellsItem item (get_or heard j d)) last (subst (TellsItem item) (here ∙ get_or_default heard i x d inside) own))
]

-- ---- stretches

-- A stretch over no members.
pub no_run : (air : Air) (heard : List (Result Bucket BucketFault)) (i : ℕ) (stretch : Stretch) → i ≤ length heard → stretch.len ≡ 0 → IsStretch air heard i stretch
no_run air heard i stretch within none = record { within = omega arith; fitting = λ j d l. absurd (omega arith) }

-- The stretch that begins with the member before.
pub run_more : (air : Air) (heard : List (Result Bucket BucketFault)) (i : ℕ) (x : Result Bucket BucketFault) (next stretch : Stretch) → i < length heard → x ≡ get_or heard i x
    → IsStretch air heard (i + 1) next → BeginsStretch air x next stretch → IsStretch air heard i stretch
run_more air heard i x next stretch inside here after begins = record { within = (let most = after.within in let longer = begins.longer in omega arith); fitting = fitting }
  where
    fitting : (j : ℕ) (d : Result Bucket BucketFault) → j < stretch.len → FitsInCycle air stretch.cycle (get_or heard (i + j) d)
    fitting zero d l =
        let own : i + 0 ≡ i = omega arith in
        subst (λ k. FitsInCycle air stretch.cycle (get_or heard k d)) (sym own) (subst (FitsInCycle air stretch.cycle) (here ∙ get_or_default heard i x d inside) (begins.fitting l))
    fitting (suc j) d l =
        let place : i + 1 + j ≡ i + suc j = omega arith in
        let longer = begins.longer in
        subst (λ k. FitsInCycle air stretch.cycle (get_or heard k d)) place
        (subst (λ c. FitsInCycle air c (get_or heard (i + 1 + j) d)) (begins.same (omega arith)) (after.fitting j d (omega arith)))

-- From a place on each member has the stretch that begins with it.
pub record RunsFrom (air : Air) (heard : List (Result Bucket BucketFault)) (stretches : List Stretch) (i : ℕ) : Type 0 where
  pub long : length stretches ≡ length heard
  pub each : (k : ℕ) (d : Stretch) → i ≤ k → k < length heard → IsStretch air heard k (get_or stretches k d)

pub runs_more : (air : Air) (heard : List (Result Bucket BucketFault)) (stretches : List Stretch) (i : ℕ) (stretch : Stretch) → i < length heard → RunsFrom air heard stretches (i + 1) → IsStretch air heard i stretch
    → RunsFrom air heard (set stretches i stretch) i
runs_more air heard stretches i stretch inside from here = record { long = length-set stretches i stretch ∙ from.long; each = each }
  where
    each : (k : ℕ) (d : Stretch) → i ≤ k → k < length heard → IsStretch air heard k (get_or (set stretches i stretch) k d)
    each k d least below = elim (cases_lt i k) as (λ _. IsStretch air heard k (get_or (set stretches i stretch) k d)) [
      | inl less ↦ subst (IsStretch air heard k) (sym (get_or-set_other stretches i k stretch d (λ same. absurd (omega arith)))) (from.each k d (omega arith) below)
      | inr past ↦ let same : i ≡ k = omega arith in
          subst (λ m. IsStretch air heard m (get_or (set stretches i stretch) m d)) same (subst (IsStretch air heard i) (sym (get_or-set_same stretches i stretch d (omega (arith, from.long)))) here)
    ]

-- ---- members by their places

same_on : {X : Type 0} (f g : ℕ → X) (s k : ℕ) → ((j : ℕ) → j < k → f (s + j) ≡ g (s + j)) → map f (range_with_len s k) ≡ map g (range_with_len s k)
same_on f g s zero all = refl
same_on f g s (suc k) all =
    let own : s + 0 ≡ s = omega arith in
    ap (λ x. x ∷ map f (range_with_len (s + 1) k)) (subst (λ m. f m ≡ g m) own (all 0 (omega arith)))
    ∙ ap (λ xs. g s ∷ xs) (same_on f g (s + 1) k (λ j l. let place : s + suc j ≡ s + 1 + j = omega arith in subst (λ m. f m ≡ g m) place (all (suc j) (omega arith))))

by_places : {X : Type 0} (xs : List X) (d : X) → map (λ i. get_or xs i d) (range_with_len 0 (length xs)) ≡ xs
by_places xs d =
    let n = length xs in
    let long : length (map (λ i. get_or xs i d) (range_with_len 0 n)) ≡ n = length-map-range_with_len (λ i. get_or xs i d) 0 n in
    same_lists (map (λ i. get_or xs i d) (range_with_len 0 n)) xs long
    (λ k e below. get_or-map-range_with_len (λ i. get_or xs i d) 0 n k k e (omega (arith, below, long)) (omega arith) ∙ get_or_default xs k d e (omega (arith, below, long)))

-- All members are those of all places.
pub all_members : (heard : List (Result Bucket BucketFault)) → map (member_at heard) (range_with_len 0 (length heard)) ≡ map result_ok heard
all_members heard =
    ap (λ n. map (member_at heard) (range_with_len 0 n)) (sym (length-map heard result_ok)) ∙ by_places (map result_ok heard) None

pub member_is : (heard : List (Result Bucket BucketFault)) (i : ℕ) (d : Result Bucket BucketFault) → i < length heard → member_at heard i ≡ result_ok (get_or heard i d)
member_is heard i d below = get_or-map result_ok heard i d None below

-- ---- sleep

-- What a part of a list has at a place.
pub part_at : (xs : List ℕ) (a n j d : ℕ) → j < a + n - a → get_or (slice_range xs a (a + n)) j d ≡ get_or xs (a + j) d
part_at xs a n j d within = get_or-take (a + n - a) (drop a xs) j d within ∙ get_or-drop a xs j d

pub part_long : (xs : List ℕ) (a n : ℕ) → length (slice_range xs a (a + n)) ≤ n
part_long xs a n = let most = length-take (a + n - a) (drop a xs) in omega arith

abbrev no_bucket : Bucket
no_bucket = record { version = 0; edition = 0; cycle = 0; slot = 0; body = Idle 0 }

abbrev bucket_or : Result Bucket BucketFault → Bucket
bucket_or (Ok b) = b
bucket_or (Err fault) = no_bucket

is_bucket : (air : Air) (c : ℕ) (h : Result Bucket BucketFault) → FitsInCycle air c h → result_ok h ≡ Some (bucket_or h)
is_bucket air c (Ok b) fit = refl
is_bucket air c (Err fault) fit = absurd fit

in_cycle : (air : Air) (c : ℕ) (h : Result Bucket BucketFault) → FitsInCycle air c h → (bucket_or h).cycle ≡ c
in_cycle air c (Ok b) fit = fit.1
in_cycle air c (Err fault) fit = absurd fit

other_read : (w : Option ℕ) (item : ℕ) (o : Option Read) → IfSome w (λ i. item ≢ i) → IfSome o (λ x. x.item ≡ item) → IfSome o (λ x. w ≢ Some x.item)
other_read w item None other own = tt
other_read None item (Some x) other own = λ is. cc
other_read (Some i) item (Some x) other own = λ is. other (let same : i ≡ x.item = cc in sym own ∙ sym same)

unwanted_one : (air : Air) (reader : Reader) (s : State) (c item : ℕ) (h : Result Bucket BucketFault) → FitsInCycle air c h → TellsItem item h → IfSome (wanted reader s) (λ i. item ≢ i)
    → IsUnwanted air reader s (bucket_or h)
unwanted_one air reader s c item (Ok b) fit own other = record { fitting = fit.0; other = other_read (wanted reader s) item (read_in b.cycle b.body) other own }
unwanted_one air reader s c item (Err fault) fit own other = absurd fit

-- A settled receiver sleeps through the first members of a stretch, if it wants none of them.
pub run_slept : (n : ℕ) (L : List SessionLine) (old now : Receiver) (piece : JudgedPiece) (i k : ℕ) (stretch : Stretch) → IsSettled old → IsJudged old.air piece → i < length piece.heard.items
    → stretch ≡ get_or piece.stretches.items i stretch → 0 < k → k ≤ stretch.len → ((j : ℕ) → j < k → IfSome (wanted old.reader old.state) (λ w. get_or piece.items.items (i + j) 0 ≢ w))
    → now.air ≡ old.air → now.reader ≡ old.reader → now.state ≡ dozed_through k (max old.state.now stretch.cycle) old.state
    → listening n now L ≡ hears (map (member_at piece.heard.items) (range_with_len i k)) (listening n old L)
unfolding wanted query_of
run_slept n L old now piece i k stretch settled judged inside here some within other air reader state =
    let heard = piece.heard.items in
    let none : Result Bucket BucketFault = Err Magic in
    let on : ℕ → Bucket = λ q. bucket_or (get_or heard q none) in
    let B = map on (range_with_len i k) in
    let t = after L old.state in
    slept_through n L old now stretch.cycle k B settled some (length-map-range_with_len on i k)
    (each_on on (λ b. b.cycle ≡ stretch.cycle) i k (λ j l. in_cycle old.air stretch.cycle (get_or heard (i + j) none) (fitting j (omega arith))))
    (each_on on (IsUnwanted old.air old.reader t) i k (λ j l. unwanted_one old.air old.reader t stretch.cycle (get_or piece.items.items (i + j) 0) (get_or heard (i + j) none) (fitting j (omega arith))
    (judged.items.each (i + j) 0 none (let most = own.within in omega arith)) (other j l)))
    air reader state
    ∙ ap (λ os. hears os (listening n old L)) (map-map Some on (range_with_len i k)
    ∙ sym (same_on (member_at heard) (λ q. Some (on q)) i k
    (λ j l. member_is heard (i + j) none (let most = own.within in omega arith) ∙ is_bucket old.air stretch.cycle (get_or heard (i + j) none) (fitting j (omega arith)))))
  where
    own : IsStretch old.air piece.heard.items i stretch
    own = subst (IsStretch old.air piece.heard.items i) (sym here) (judged.stretches.each i stretch inside)

    fitting : (j : ℕ) → j < stretch.len → FitsInCycle old.air stretch.cycle (get_or piece.heard.items (i + j) (Err Magic))
    fitting j l = own.fitting j (Err Magic) l

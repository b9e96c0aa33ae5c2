-- The first failure of a mast or an ear: positive and negative examples of each relation, over types that have two masts or two ears.
use Rattle.std.proofs.Common.{◌≡◌, ℕ, Bool, true, false, List, [], ◌∷◌, Option, Some, None, length, refl, ap, inl, arith}
use Rattle.air_devices.specs.Ears.{EarState}
use Rattle.air_devices.specs.Masts.{MastState, SentBuckets, nothing_sent}
use Rattle.deck_runs.specs.Casts.{FailsFirst}
use Rattle.air_cli.specs.Hearings.{EarFailsFirst}
use Rattle.air_cli.specs.OnAir.{StopsAtFailure}
use Rattle.air_cli.specs.Words.{AsksCast, AsksListen}

-- ---- a mast

-- The first mast has sent nothing. The second has failed, and sent nothing either.
abbrev broken : Bool → MastState
broken false = record { told = Some nothing_sent; faults = 0; port = Some 7 }
broken true = record { told = Some nothing_sent; faults = 1; port = Some 7 }

-- The second has failed, and has sent a bucket.
abbrev sent_on : Bool → MastState
sent_on false = record { told = Some nothing_sent; faults = 0; port = Some 7 }
sent_on true = record { told = Some (record { buckets = (1 ∷ []) ∷ []; ended = None }); faults = 1; port = Some 7 }

fails_first : FailsFirst broken false true
fails_first = record { just_before = false; calm = refl; rose = inl (omega arith); kept = refl }

-- The number of buckets told.
abbrev count_sent : Option SentBuckets → ℕ
count_sent None = 0
count_sent (Some s) = length s.buckets

-- None of the two had sent the bucket before a failure.
none_sent : (mast : Bool) → (sent_on mast).faults ≡ 0 → (sent_on true).told ≡ (sent_on mast).told → ⊥
none_sent false calm kept = let n : 1 ≡ 0 = ap count_sent kept in omega (arith, n)
none_sent true calm kept = let n : 1 ≡ 0 = calm in omega (arith, n)

not_fails_first : FailsFirst sent_on false true → ⊥
not_fails_first h = none_sent h.just_before h.calm h.kept

-- ---- an ear

-- A datagram waits for the first ear. It waits for the second too, which has failed.
abbrev deaf : Bool → EarState
deaf false = record { told = Some ((1 ∷ []) ∷ []); faults = 0; port = Some 7 }
deaf true = record { told = Some ((1 ∷ []) ∷ []); faults = 1; port = Some 7 }

-- The second has failed, and has heard it.
abbrev heard_on : Bool → EarState
heard_on false = record { told = Some ((1 ∷ []) ∷ []); faults = 0; port = Some 7 }
heard_on true = record { told = Some []; faults = 1; port = Some 7 }

ear_fails_first : EarFailsFirst deaf false true
ear_fails_first = record { just_before = false; calm = refl; rose = inl (omega arith); kept = refl }

-- The number of datagrams that wait.
abbrev count_waiting : Option (List (List ℕ)) → ℕ
count_waiting None = 0
count_waiting (Some waiting) = length waiting

none_heard : (ear : Bool) → (heard_on ear).faults ≡ 0 → (heard_on true).told ≡ (heard_on ear).told → ⊥
none_heard false calm kept = let n : 0 ≡ 1 = ap count_waiting kept in omega (arith, n)
none_heard true calm kept = let n : 1 ≡ 0 = calm in omega (arith, n)

not_ear_fails_first : EarFailsFirst heard_on false true → ⊥
not_ear_fails_first h = none_heard h.just_before h.calm h.kept

-- ---- by the words

stops : StopsAtFailure broken heard_on (Some (AsksCast [] 7)) false true false true × StopsAtFailure sent_on deaf (Some (AsksListen [] 7)) false true false true
stops = (fails_first, ear_fails_first)

not_stops : (StopsAtFailure sent_on deaf (Some (AsksCast [] 7)) false true false true → ⊥) × (StopsAtFailure broken heard_on (Some (AsksListen [] 7)) false true false true → ⊥)
not_stops = (not_fails_first, not_ear_fails_first)

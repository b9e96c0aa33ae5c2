-- A tape read piece by piece: what the pieces that were heard, the next one and what is left come to.
-- The loops of `pieces` and `together` cite these.
use Rattle.std.proofs.Common.{◌≡◌, ℕ, ◌+◌, Option, Result, Ok, Err, List, [], ◌∷◌, ◌++◌, length, map, sym, ◌∙◌, ap, arith, append_assoc, length-append}
use Rattle.std.specs.Prelude.{IfOk, MatchResult}
use Rattle.std.specs.Result.{result_ok}
use Rattle.std.proofs.lemmas.List.{append-nil, length-map, map-append}
use Rattle.air_model.specs.declared.bucket.BucketFault.{BucketFault}
use Rattle.air_model.specs.Buckets.{Bucket, IsBucket, IsInRange, bucket_in}
use Rattle.bucket_codec.specs.DatagramKinds.{IsNoBucket}

-- One more record of a tape stands in the piece, decoded.
pub one_decoded : (all : List (Option Bucket)) (piece : List (Result Bucket BucketFault)) (x : Result Bucket BucketFault) (bytes : List ℕ) (old rest : List (List ℕ)) → result_ok x ≡ bucket_in bytes → old ≡ bytes ∷ rest
    → all ≡ map result_ok piece ++ map bucket_in old → all ≡ map result_ok (piece ++ x ∷ []) ++ map bucket_in rest
one_decoded all piece x bytes old rest is front so_far =
    so_far ∙ ap (λ l. map result_ok piece ++ map bucket_in l) front ∙ ap (λ o. map result_ok piece ++ (o ∷ map bucket_in rest)) (sym is)
    ∙ sym (append_assoc (map result_ok piece) (result_ok x ∷ []) (map bucket_in rest)) ∙ ap (λ l. l ++ map bucket_in rest) (sym (map-append result_ok piece (x ∷ [])))

-- What decoding gives is in range.
pub in_range : (r : Result Bucket BucketFault) (bytes : List ℕ) → MatchResult r (λ b. IsBucket bytes b) (λ _. IsNoBucket bytes) → IfOk r IsInRange
in_range (Ok b) bytes h = h.0
in_range (Err fault) bytes h = tt

-- The pieces that were heard, the next one, and what is left.
pub next_is : (all so_far : List (Option Bucket)) (piece next : List (Result Bucket BucketFault)) (old rest : List (List ℕ)) → all ≡ so_far ++ (map result_ok piece ++ map bucket_in old) → map bucket_in old ≡ map result_ok next ++ map bucket_in rest
    → all ≡ (so_far ++ map result_ok piece) ++ (map result_ok next ++ map bucket_in rest)
next_is all so_far piece next old rest is more = is ∙ ap (λ l. so_far ++ (map result_ok piece ++ l)) more ∙ sym (append_assoc so_far (map result_ok piece) (map result_ok next ++ map bucket_in rest))

-- A piece takes its members off what is left.
pub fewer_left : (next : List (Result Bucket BucketFault)) (old rest : List (List ℕ)) → map bucket_in old ≡ map result_ok next ++ map bucket_in rest → length next + length rest ≡ length old
fewer_left next old rest more =
    let long = ap length more in
    let parts = length-append (map result_ok next) (map bucket_in rest) in
    let sized = length-map next result_ok in
    let before = length-map old bucket_in in
    let after = length-map rest bucket_in in
    omega (arith, long, parts, sized, before, after)

-- Where the piece is empty, and nothing is left, all were heard.
pub all_read : (all so_far : List (Option Bucket)) (piece : List (Result Bucket BucketFault)) (rest : List (List ℕ)) → all ≡ so_far ++ (map result_ok piece ++ map bucket_in rest) → length piece ≡ 0 → length rest ≡ 0 → so_far ≡ all
all_read all so_far [] [] is empty end = sym (is ∙ append-nil so_far)
all_read all so_far [] (bytes ∷ rest) is empty end = absurd (omega arith)
all_read all so_far (x ∷ piece) rest is empty end = absurd (omega arith)
